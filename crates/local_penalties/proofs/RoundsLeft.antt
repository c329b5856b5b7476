-- The rounds that are left, and what the first prices are.
use Rattle.local_penalties.proofs.Common.{◌≡◌, ℕ, zero, suc, ◌+◌, ◌-◌, ◌*◌, ◌/◌, ◌<◌, ◌≤◌, refl, ap, ◌∙◌, arith, List, get_or, Literal, ProblemContent, PartPenalties, next_penalties, number_of}
use Rattle.local_penalties.specs.Rounds.{after_rounds}
use Rattle.problem_form.proofs.Common.{replicate}
use Rattle.literal_lists.specs.Codes.{code_of}

pub after-one : (i : ℕ) (p : ProblemContent) (found : PartPenalties) → i < 8
    → after_rounds (8 - i) p found ≡ after_rounds (8 - (i + 1)) p (next_penalties p found)
unfolding after_rounds
after-one i p found more =
    let count : 8 - i ≡ suc (8 - (i + 1)) = omega arith in
    ap (λ n. after_rounds n p found) count

pub after-none : (i : ℕ) (p : ProblemContent) (found : PartPenalties) → 8 ≤ i
    → after_rounds (8 - i) p found ≡ found
unfolding after_rounds
after-none i p found past =
    let count : 8 - i ≡ zero = omega arith in
    ap (λ n. after_rounds n p found) count

pub after-fixed : (n : ℕ) (p : ProblemContent) (found : PartPenalties) → next_penalties p found ≡ found
    → after_rounds n p found ≡ found
unfolding after_rounds
after-fixed zero p found same = refl
after-fixed (suc n) p found same = ap (after_rounds n p) same ∙ after-fixed n p found same

pub half : (n v : ℕ) → n ≡ 2 * v → n / 2 ≡ v
half n v e = omega arith

get_or-replicate : {A : Type 0} (n i : ℕ) (a : A) → get_or (replicate n a) i a ≡ a
get_or-replicate zero i a = refl
get_or-replicate (suc n) zero a = refl
get_or-replicate (suc n) (suc i) a = get_or-replicate n i a

pub number-zero : (ns : List ℕ) (n : ℕ) (l : Literal) → ns ≡ replicate n 0 → number_of ns l ≡ 0
number-zero ns n l e = ap (λ ms. get_or ms (code_of l) 0) e ∙ get_or-replicate n (code_of l) 0
