use Rattle.std.proofs.Common.{rules}
use Rattle.edge_io.proofs.Pieces.{Takes-write, piece_more}
use Rattle.edge_io.proofs.whole.write_all.Goals as goal

pub loop-rest-preserved : goal.loop-rest-preserved
loop-rest-preserved g c =
    let was = c.loop-rest.invariant.taken in
    let some = c.in-Ok.ensures in
    let write = Takes-write _ _ c.loop-rest.rest.now c.in-Ok.count some.bound.0 some.bytes some.counted in
    record {
      taken = piece_more _ _ _ _ was.0 _ c.in-Ok.count was.1 was.2 write;
      later = search rules;
    }
