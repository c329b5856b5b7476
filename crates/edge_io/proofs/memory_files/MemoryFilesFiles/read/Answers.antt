use Rattle.edge_io.proofs.Common.{arith, common_steps}
use Rattle.edge_io.proofs.Rest.{reads_on}
use Rattle.edge_io.proofs.memory_files.MemoryFilesFiles.read.Goals as goal

pub returns-clause-rest : goal.returns-clause-rest
returns-clause-rest c =
    let f = c.self.inside in
    rw (← c.self.view_is) (reads_on f.files f.index c.in-Some.index f.begun
    c.bytes_at.result.now c.args.into.now c.copy_from_slice.new.self f.at c.min-count.result
    c.in-Some.is c.self.invariant.0 c.bytes_at.ensures c.min-count.ensures c.copy_from_slice.ensures.after)

pub returns-clause-fits : goal.returns-clause-fits
returns-clause-fits c = grind (arith, common_steps)
