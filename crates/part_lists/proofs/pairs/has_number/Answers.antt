use Rattle.part_lists.proofs.Common.{◌≡◌, ℕ, ◌==◌, Bool, false, inl, inr, Err, get_or, sym, arith, cases_lt, list_any_none, All-from_get_or, searched, ne_eqb}
use Rattle.part_lists.proofs.pairs.has_number.Goals as goal

pub returns-in-Err : goal.returns-in-Err
returns-in-Err c =
    let here = searched _ _ (Err c.in-Err.field-0) c.in-Err.ensures.position c.requires in
    let test : ℕ → Bool = λ n. n == c.args.number in
    sym (list_any_none test _
    (All-from_get_or (λ n. test n ≡ false) _ 0 (λ i below. ne_eqb (get_or _ i 0) _ (λ same.
    elim (cases_lt i c.in-Err.field-0) [
      | inl before ↦ omega (arith, same, here.1 i before)
      | inr after ↦ omega (arith, same, here.2 i after below)
    ]))))
