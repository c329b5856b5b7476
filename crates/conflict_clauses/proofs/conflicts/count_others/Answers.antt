use Rattle.conflict_clauses.proofs.Common.{◌+◌, ◌∙◌, ap, cond, List, ℤ, ℕ, unsigned_abs, count_by, nat_lt, not, fold-map, Product}
use Rattle.conflict_clauses.proofs.conflicts.count_others.Goals as goal

pub returns : goal.returns
returns c =
    let room = c.args.room in
    c.count_within.ensures
    ∙ ap (λ (zs : List ℤ). count_by (λ z. not (nat_lt room (unsigned_abs z))) zs) c.coefficients.ensures
    ∙ fold-map (λ (n : ℕ) (z : ℤ). n + cond (not (nat_lt room (unsigned_abs z))) 1 0)
    (λ (t : Product). t.coefficient) 0 c.args.products
