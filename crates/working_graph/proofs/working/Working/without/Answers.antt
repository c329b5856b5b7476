use Rattle.working_graph.proofs.Common.{◌≡◌, List, ap, ◌∙◌, rules, list_any, Part, is_qubit, numbers_of}
use Rattle.working_graph.proofs.IndexedParts.{any_moved}
use Rattle.working_graph.proofs.working.Working.without.Goals as goal

pub invariant_of-result : goal.invariant_of-result
invariant_of-result c =
    let numbers : c.in_ok-numbers.numbers.items ≡ numbers_of c.args.parts.items = search rules in
    record {
      dead = λ q. c.in_ok-dead.ensures q
          ∙ ap (λ (parts : List Part). list_any (is_qubit q) parts) c.deref.ensures.value;
      cut = any_moved c.args.graph c.args.parts.items c.in_ok-numbers.numbers.items
          c.in_ok-cut.cut.items c.requires numbers c.in_ok-cut.ensures.same;
      rising = λ i j le low. c.in_ok-cut.ensures.ordered i j 0 le low;
    }
