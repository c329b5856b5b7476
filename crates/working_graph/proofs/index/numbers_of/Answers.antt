use Rattle.std.proofs.Common.{[], take, get_or}
use Rattle.std.proofs.lemmas.List.{take_more, flat_map_more}
use Rattle.part_lists.specs.declared.parts.Part.TheVariants.{Qubit}
use Rattle.working_graph.proofs.Common.{coupler_number}
use Rattle.working_graph.proofs.index.numbers_of.Goals as goal

pub loop-k-preserved : goal.loop-k-preserved
loop-k-preserved c =
    let parts = c.args.parts.now in
    let k = c.loop-k.k in
    let more = flat_map_more coupler_number [] (take k parts) (get_or parts k (Qubit 0)) in
    cc (c.in_ok-push_number.ensures, c.loop-k.invariant, more, take_more parts k (Qubit 0) c.loop-k-test.true)
