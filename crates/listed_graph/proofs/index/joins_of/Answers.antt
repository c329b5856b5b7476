use Rattle.std.proofs.Common.{[], take, get_or}
use Rattle.std.proofs.lemmas.List.{take_more, flat_map_more}
use Rattle.part_lists.specs.declared.parts.Part.TheVariants.{Qubit}
use Rattle.listed_graph.specs.Rows.{joins_of_part}
use Rattle.listed_graph.proofs.index.joins_of.Goals as goal

pub loop-k-preserved : goal.loop-k-preserved
loop-k-preserved c =
    let parts = c.args.parts.now in
    let k = c.loop-k.k in
    let more = flat_map_more joins_of_part [] (take k parts) (get_or parts k (Qubit 0)) in
    cc (c.in_ok-push_joins.ensures, c.loop-k.invariant, more, take_more parts k (Qubit 0) c.loop-k-test.true)
