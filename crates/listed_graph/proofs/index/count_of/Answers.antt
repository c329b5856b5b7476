use Rattle.listed_graph.proofs.Common.{nat_tests, ◌≡◌, arith, ap, ◌∙◌, sym, max, rules, get_or}
use Rattle.listed_graph.specs.Parts.{beyond}
use Rattle.part_lists.specs.declared.parts.Part.TheVariants.{Qubit}
use Rattle.listed_graph.proofs.Counts.{count_more, beyond_few}
use Rattle.listed_graph.proofs.index.count_of.Goals as goal

pub loop-k-preserved : goal.loop-k-preserved
loop-k-preserved c =
    let parts = c.args.parts.now in
    let k = c.loop-k.k in
    let low = c.loop-k-test.true in
    let more = count_more parts k (Qubit 0) low in
    let few = beyond_few _ (c.requires k (Qubit 0) low) in
    let was = c.loop-k.invariant.0 in
    let small = c.loop-k.invariant.1 in
    grind (arith, nat_tests)
