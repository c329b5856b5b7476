use Rattle.listed_graph.proofs.Common.{◌≡◌, List, ℕ, ◌==◌, ap, ◌∙◌, arith, rules, list_any, pair_number}
use Rattle.listed_graph.proofs.joins.ListedHardware.joined.Goals as goal

pub returns : goal.returns
returns c =
    let a = c.args.a in
    let b = c.args.b in
    let few = c.args.self.now.indexed.few in
    let sized = c.args.self.now.indexed.sized in
    let number : c.pair_number.result ≡ pair_number a b = search rules in
    c.has_number.ensures ∙ ap (λ k. list_any (λ n. n == k) c.deref.result.now) number
    ∙ ap (λ (ns : List ℕ). list_any (λ n. n == pair_number a b) ns) c.deref.ensures.value
    ∙ c.args.self.now.indexed.joined a b (omega (arith, c.requires.first, few, sized)) (omega (arith, c.requires.second, few, sized))
