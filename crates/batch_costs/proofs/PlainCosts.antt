-- What an assignment costs where there are only products, and lists that are filled place by place.
use Rattle.batch_costs.proofs.Common.{◌≡◌, ℕ, ◌+◌, ◌<◌, ◌==◌, Bool, true, false, List, get_or, set, length, ℤ, ◌+ℤ◌, arith, refl, sym, ap, ◌∙◌, list_any, nat_tests, get_or-set_at, ints, get_or-set_other, total_by, ProblemContent, fails, fails_hard, own_cost, soft_cost, sum_of, own_cost-whole, IsPlain}
use Rattle.base.specs.declared.costs.Cost.TheVariants.{Whole}

pub plain_cost : (p : ProblemContent) (x : List Bool) (value : ℤ) → IsPlain p
    → value ≡ p.constant +ℤ sum_of x p.objective → Whole value ≡ own_cost p x
plain_cost p x value plain is =
    let soft = ap (total_by (soft_cost x)) plain.clauses in
    own_cost-whole p x value (ap (list_any (fails_hard x)) plain.clauses)
    (ap (list_any (fails x)) plain.constraints) (omega (arith, ints, is, soft))

-- one place more is filled
pub filled_more : {A : Type 0} (f : ℕ → A) (xs : List A) (d v : A) (i : ℕ) → i < length xs → v ≡ f i
    → ((j : ℕ) → j < i → get_or xs j d ≡ f j) → (j : ℕ) → j < i + 1 → get_or (set xs i v) j d ≡ f j
filled_more f xs d v i within is before j below =
    go (j == i) refl
  where
    go : (b : Bool) → (j == i) ≡ b → get_or (set xs i v) j d ≡ f j
    go true same =
        let at : j ≡ i = grind (arith, nat_tests, same) in
        get_or-set_at xs i j v d at within ∙ is ∙ sym (ap f at)
    go false apart =
        get_or-set_other xs i j v d (grind (arith, nat_tests, apart))
        ∙ before j (grind (arith, nat_tests, apart, below))
