use Rattle.listed_graph.proofs.Common.{◌≡◌, ℕ, List, ap, ◌∙◌, rules, joins_of, Part, exists_in, qubits_of}
use Rattle.listed_graph.proofs.Joined.{any_moved, ends_moved}
use Rattle.listed_graph.specs.laws.ListedJoins.{joined_in-self}
use Rattle.listed_graph.proofs.listed.Listed.of.Goals as goal

pub invariant_of-result : goal.invariant_of-result
invariant_of-result c =
    let parts = c.args.parts.items in
    let numbers : c.in_ok-numbers.numbers.items ≡ joins_of parts = search rules in
    record {
      indexed = record {
        apart = λ a. joined_in-self parts c.requires a;
        sized = c.in_ok-named.ensures.sized ∙ ap qubits_of c.deref.ensures.value;
        few = c.in_ok-named.ensures.few;
        named = λ q. c.in_ok-named.ensures.named q ∙ ap (λ (ps : List Part). exists_in ps q) c.deref.ensures.value;
        joined = any_moved parts c.in_ok-numbers.numbers.items c.in_ok-joins.joins.items c.requires
            numbers c.in_ok-joins.ensures.same;
        rising = λ i j le low. c.in_ok-joins.ensures.ordered i j 0 le low;
        low = ends_moved parts c.in_ok-numbers.numbers.items c.in_ok-joins.joins.items c.requires numbers
            c.in_ok-joins.ensures.same;
      };
    }
