use Rattle.working_graph.proofs.Common.{◌≡◌, List, ℕ, ◌==◌, min, max, ap, ◌∙◌, arith, rules, list_any, WorkingGraph, pair_number, is_cut}
use Rattle.working_graph.proofs.working.Working.is_cut.Goals as goal

pub has_number-requires : goal.has_number-requires
has_number-requires c = rw c.deref.ensures.value c.self.invariant.rising

pub returns : goal.returns
returns c =
    let a = c.args.a in
    let b = c.args.b in
    let number : c.pair_number.result ≡ pair_number (min a b) (max a b) = search rules in
    c.has_number.ensures ∙ ap (λ k. list_any (λ n. n == k) c.deref.result.now) number
    ∙ ap (λ (ns : List ℕ). list_any (λ n. n == pair_number (min a b) (max a b)) ns)
    c.deref.ensures.value ∙ c.self.invariant.cut a b (omega arith) (omega arith)
    ∙ ap (λ (w : WorkingGraph). is_cut w a b) c.self.view_is
