use Rattle.posiform_check.proofs.Common.{rules, ◌≡◌, true, map, pos, subst, list_all, int_eq, pair_term, HasNone}
use Rattle.posiform_check.proofs.Sums.{sums_cancel}
use Rattle.posiform_check.proofs.set_sums.SetSums.cancel.Goals as goal

pub returns : goal.returns
returns c = λ t.
    let parts = c.self.inside in
    let nothing : parts.constant ≡ pos 0 = search rules in
    let tested : list_all (λ w. int_eq w (pos 0)) parts.nodes.items ≡ true = search rules in
    let none : HasNone (map pair_term c.in_ok-pairs.pairs.items) =
    subst (λ xs. HasNone (map pair_term xs)) c.deref-2.ensures.value (c.pairs_cancel.ensures t) in
    sums_cancel _ _ _ _ _ nothing tested c.in_ok-pairs.ensures none c.self.view_is
