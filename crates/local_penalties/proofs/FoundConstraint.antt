-- A literal that repairs a broken constraint, with what it gains over all constraints.
use Rattle.local_penalties.proofs.Common.{◌≡◌, ℕ, ◌+◌, ◌*◌, ◌<◌, ◌≤◌, ◌^◌, refl, arith, nat_tests, ints, List, [], ◌∷◌, length, Bool, true, false, ◌&&◌, ◌||◌, eqb, list_any, pos, ◌+ℤ◌, ◌≤ℤ◌, All, All-head, All-tail, Literal, Constraint, most_missing, hurts_constraint, constraint_charges, far, own, rest, false≢true, IsNormalProduct}
use Rattle.problem_form.proofs.Common.{holds, fails}
use Rattle.problem_form.specs.PartPenalties.{made_true, missing, constraint_prices, some_whole}
use Rattle.local_penalties.proofs.Mending.{constraint-breaks, whole-constraints, not-whole, kept-step, constraint-adds, constraints-rise, own-le}
use Rattle.local_penalties.proofs.Bounds.{square_is, square-mono}
use Rattle.std.proofs.Math.Nat.{mul-add, add-mul, mul-le-mul_left}
use Rattle.local_penalties.proofs.Found.{own-less}
use Rattle.local_penalties.proofs.Repairs.{Repair}
use Rattle.local_penalties.proofs.Reasons.{ConstraintsMended, share}

-- the square falls by 1 at least where the number does
square-less : (m a b : ℕ) → a + 1 ≤ b → m * a ^ 2 + m ≤ m * b ^ 2
square-less m a b less =
    let square = square-mono (a + 1) b less in
    let wide : a ^ 2 + 1 ≤ (a + 1) ^ 2 =
    omega (arith, square_is a, square_is (a + 1), mul-add (a + 1) a 1, add-mul a 1 a) in
    let more : a ^ 2 + 1 ≤ b ^ 2 = omega (arith, square, wide) in
    let all = mul-le-mul_left m more in
    omega (arith, all, mul-add m (a ^ 2) 1)

-- ---- the literal that is found

-- a literal that is false, breaks no constraint that has the penalty of the whole, and takes what
-- constraints add down by more than its price elsewhere
pub record FoundConstraint (x : List Bool) (others : Literal → ℕ) (n : ℕ) (ns : List ℕ) (ks : List Constraint) : Type 0 where
  pub literal : Literal
  pub within : literal.variable < length x
  pub untrue : holds x literal ≡ false
  pub finite : others literal < far
  pub kept : some_whole (fails (made_true x literal)) n ns ks ≡ false
  pub gain : (constraint_prices (made_true x literal) n ns ks +ℤ pos (others literal + 1))
      ≤ℤ constraint_prices x n ns ks

kept-first : (now entire others : Bool) → entire ≡ false → others ≡ false → ((now && entire) || others) ≡ false
kept-first now entire others e h = grind (arith, nat_tests)

not-entire : (m n : ℕ) → m < n → eqb m n ≡ false
not-entire m n less = grind (arith, nat_tests)

none-later : (a b : Bool) → (a || b) ≡ false → b ≡ false
none-later a b e = grind (arith, nat_tests)

repaired-first : (x : List Bool) (others : Literal → ℕ) (n : ℕ) (ns : List ℕ) (k : Constraint) (ks : List Constraint)
    → n ≤ far → All (λ j. n * most_missing j ^ 2 ≤ far) ks → own n ns < n
    → some_whole (fails x) n (rest ns) ks ≡ false
    → Repair x (λ l. others l + constraint_charges n (rest ns) ks l) k (own n ns)
    → FoundConstraint x others n ns (k ∷ ks)
repaired-first x others n ns k ks small squares less none repair =
    let l = repair.literal in
    let here = square-less (own n ns) (missing (made_true x l) k) (missing x k) repair.nearer in
    let later = constraints-rise x l n (rest ns) ks repair.within squares in
    let kept = whole-constraints x l n (rest ns) ks repair.within none (omega (arith, repair.below, less, small)) in
    record {
      literal = l;
      within = repair.within;
      untrue = repair.untrue;
      finite = omega (arith, repair.below, less, small);
      kept = kept-first (fails (made_true x l) k) (eqb (own n ns) n) _ (not-entire (own n ns) n less) kept;
      gain = omega (arith, ints, here, later, repair.below);
    }

-- some constraint is broken, but none that has the penalty of the whole: a literal repairs one
pub find-constraint : (x : List Bool) (others : Literal → ℕ) (n : ℕ) (ns : List ℕ) (ks : List Constraint) → n ≤ far
    → All (λ k. n * most_missing k ^ 2 ≤ far) ks → All (λ k. All (IsNormalProduct (length x)) k.products) ks
    → list_any (fails x) ks ≡ true → some_whole (fails x) n ns ks ≡ false → ConstraintsMended others n ns ks
    → FoundConstraint x others n ns ks
find-constraint x others n ns [] small squares normal broken none mended = absurd (false≢true broken)
find-constraint x others n ns (k ∷ ks) small squares normal broken none mended =
    decide (λ later_broken later_none. find-constraint x (λ l. others l + share n (own n ns) k l) n (rest ns) ks small
    (All-tail Small k ks squares) (All-tail Normal k ks normal) later_broken later_none mended.1) (fails x k) refl
  where
    Small : Constraint → Type 0
    Small j = n * most_missing j ^ 2 ≤ far

    Normal : Constraint → Type 0
    Normal j = All (IsNormalProduct (length x)) j.products

    decide : (list_any (fails x) ks ≡ true → some_whole (fails x) n (rest ns) ks ≡ false
        → FoundConstraint x (λ l. others l + share n (own n ns) k l) n (rest ns) ks)
        → (b : Bool) → fails x k ≡ b → FoundConstraint x others n ns (k ∷ ks)
    decide again true e =
        let less = own-less (fails x k) (eqb (own n ns) n) _ n (own n ns) refl e none (own-le n ns) in
        repaired-first x others n ns k ks small (All-tail Small k ks squares) less
        (none-later (fails x k && eqb (own n ns) n) _ none) (mended.0 less x (All-head Normal k ks normal) e)
    decide again false e =
        let later_broken : list_any (fails x) ks ≡ true = grind (arith, nat_tests) in
        let found = again later_broken (none-later (fails x k && eqb (own n ns) n) _ none) in
        let l = found.literal in
        let here = constraint-adds x l n (own n ns) k found.within (own-le n ns) (All-head Small k ks squares) in
        record {
          literal = l;
          within = found.within;
          untrue = found.untrue;
          finite = omega (arith, found.finite);
          kept = kept-step (fails x k) (fails (made_true x l) k) (hurts_constraint k l) (eqb (own n ns) n) _ _
              (constraint-breaks x l k found.within)
              (not-whole (hurts_constraint k l) n (own n ns) (most_missing k) (others l) (omega (arith, found.finite)))
              none (λ _. found.kept);
          gain = omega (arith, ints, here, found.gain);
        }
