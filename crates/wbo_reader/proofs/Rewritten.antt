-- The rewritten problem stands for its source. Where a constraint that stands for a soft one holds,
-- the bit is 1 or the soft constraint holds: so the bits that are 1 cost no less than what fails.
use Rattle.wbo_reader.proofs.Common.{◌≡◌, ℕ, suc, ◌+◌, ◌≤◌, Bool, false, cond, not, ◌&&◌, ◌||◌, List, [], ◌∷◌, ◌++◌, map, take, length, Option, ℤ, pos, ◌+ℤ◌, ◌≤ℤ◌, refl, subst, ◌∙◌, arith, if◌then◌else◌, ⊤, list_any, AllByRecursion, ints, nat_tests, append_assoc, take-append-le, take_all, length-append, length-map, list_any-append, sum_by-cons, recursion_from_All, Cost, sum_of, fails, problem_cost, Soft, WboContent, wbo_cost, paid, paid_for, reaches_top, IsNormalConstraint, IsNormalSource, all_of, rewritten, extended, eased_rows, hard_rows, weighed_bits, RewritesItsSource, CarriesAssignments, or_parts, rows_of}
use Rattle.base.specs.declared.costs.Cost.TheVariants.{Whole, Infinite}
use Rattle.wbo_reader.proofs.Agreeing.{fails-first, all_fail-first}
use Rattle.wbo_reader.proofs.Easing.{bit_of, eased_row-fails}
use Rattle.wbo_reader.proofs.Spending.{spent, weighed_bits-sum, top_rows-fail, top_rows}
use Rattle.wbo_reader.proofs.Merging.{any_in-merged, concat-hard_rows}

-- ---- soft constraints

-- some of the soft constraints fail under x while their bit in x', from v on, is 0
abbrev unpaid : (x x' : List Bool) → ℕ → List Soft → Bool
unpaid x x' v [] = false
unpaid x x' v (s ∷ soft) = (not (bit_of x' v) && fails x s.constraint) || unpaid x x' (suc v) soft

eased_rows-fail : (n : ℕ) (x' : List Bool) (v : ℕ) (soft : List Soft)
    → AllByRecursion (λ (s : Soft). IsNormalConstraint n s.constraint) soft
    → list_any (fails x') (all_of (eased_rows v soft)) ≡ unpaid (take n x') x' v soft
eased_rows-fail n x' v [] h = refl
eased_rows-fail n x' v (s ∷ soft) h =
    let rest = eased_rows-fail n x' (suc v) soft h.1 in
    let first = fails-first n x' s.constraint h.0 in
    grind (arith, nat_tests, list_any-append, eased_row-fails)

-- one constraint: where it fails its bit is 1, so what is paid for it is spent
paid_once : (fail bit : Bool) (w : ℕ) → (not bit && fail) ≡ false → cond fail w 0 ≤ cond bit w 0
paid_once fail bit w e = grind (arith, nat_tests)

paid-le : (x x' : List Bool) (v : ℕ) (soft : List Soft) → unpaid x x' v soft ≡ false
    → paid x soft ≤ spent x' v soft
paid-le x x' v [] e = omega arith
paid-le x x' v (s ∷ soft) e =
    let parts = or_parts (not (bit_of x' v) && fails x s.constraint) (unpaid x x' (suc v) soft) e in
    let once = paid_once (fails x s.constraint) (bit_of x' v) s.weight parts.0 in
    omega (arith, sum_by-cons (paid_for x) s soft, paid-le x x' (suc v) soft parts.1)

-- ---- the whole

-- the cost of a problem whose constraints are told in three parts
abbrev told_cost : (hard soft : Bool) → Option ℕ → ℕ → Cost
told_cost hard soft top sum =
    if (hard || soft) || reaches_top top sum then Infinite else Whole (pos sum)

module _ (s : WboContent) (is : IsNormalSource s) (x' : List Bool) where
  abbrev pub firsts : List Bool
  firsts = take s.variables x'

  hard_failing : list_any (fails x') (all_of (hard_rows s.hard)) ≡ list_any (fails firsts) s.hard
  hard_failing = grind (arith, nat_tests, concat-hard_rows, all_fail-first, recursion_from_All)

  soft_failing : list_any (fails x') (all_of (eased_rows s.variables s.soft))
      ≡ unpaid firsts x' s.variables s.soft
  soft_failing = grind (arith, nat_tests, eased_rows-fail, recursion_from_All)

  rows_failing : list_any (fails x') (rows_of s)
      ≡ (list_any (fails firsts) s.hard || unpaid firsts x' s.variables s.soft)
  rows_failing = grind (arith, nat_tests, any_in-merged, hard_failing, soft_failing)

  all_failing : list_any (fails x') (rows_of s ++ top_rows s.variables s.top s.soft)
      ≡ ((list_any (fails firsts) s.hard || unpaid firsts x' s.variables s.soft)
      || reaches_top s.top (spent x' s.variables s.soft))
  all_failing =
      list_any-append (fails x') (rows_of s) (top_rows s.variables s.top s.soft)
      ∙ (λ i. rows_failing i || top_rows-fail x' s.variables s.top s.soft i)

  objective : pos 0 +ℤ sum_of x' (weighed_bits s.variables s.soft) +ℤ pos 0
      ≡ pos (spent x' s.variables s.soft)
  objective = omega (arith, ints, weighed_bits-sum x' s.variables s.soft)

  -- what a list of the problem costs
  pub rewritten_cost : problem_cost (rewritten s) x'
      ≡ told_cost (list_any (fails firsts) s.hard) (unpaid firsts x' s.variables s.soft) s.top
      (spent x' s.variables s.soft)
  rewritten_cost = λ i. if all_failing i then Infinite else Whole (objective i)

-- ---- no list costs less than its first bits

-- the order of costs: infinite is above every whole number
abbrev IsAtMost : Cost → Cost → Type 0
IsAtMost (Whole v) (Whole w) = v ≤ℤ w
IsAtMost (Whole v) Infinite = ⊤
IsAtMost Infinite (Whole w) = ⊥
IsAtMost Infinite Infinite = ⊤

at_most_whole : (c d : Cost) (v : ℤ) → IsAtMost c d → d ≡ Whole v
    → (w : ℤ) × (c ≡ Whole w) × (w ≤ℤ v)
at_most_whole c d v le e = grind (arith, nat_tests, ints)

told_at_most : (hard soft : Bool) (top : Option ℕ) (a b : ℕ) → (soft ≡ false → a ≤ b)
    → IsAtMost (if hard || reaches_top top a then Infinite else Whole (pos a))
    (told_cost hard soft top b)
told_at_most hard soft top a b le = grind (arith, nat_tests)

bounded : (s : WboContent) → IsNormalSource s → (x' : List Bool)
    → IsAtMost (wbo_cost s (take s.variables x')) (problem_cost (rewritten s) x')
bounded s is x' = grind (arith, nat_tests, rewritten_cost, told_at_most, spent, paid-le)

-- ---- the extension

-- each bit from v on says whether its soft constraint fails
abbrev AreFailing : (x x' : List Bool) → ℕ → List Soft → Type 0
AreFailing x x' v [] = ⊤
AreFailing x x' v (s ∷ soft) = (bit_of x' v ≡ fails x s.constraint) × AreFailing x x' (suc v) soft

first_after : (front rest : List Bool) (b : Bool) → bit_of (front ++ b ∷ rest) (length front) ≡ b
first_after [] rest b = refl
first_after (a ∷ front) rest b = first_after front rest b

are_failing : (x front : List Bool) (soft : List Soft)
    → AreFailing x (front ++ map (λ (k : Soft). fails x k.constraint) soft) (length front) soft
are_failing x front [] = tt
are_failing x front (s ∷ soft) =
    let b = fails x s.constraint in
    let rest = map (λ (k : Soft). fails x k.constraint) soft in
    grind (arith, nat_tests, are_failing x (front ++ b ∷ []) soft, first_after, append_assoc, length-append)

spent_is_paid : (x x' : List Bool) (v : ℕ) (soft : List Soft) → AreFailing x x' v soft
    → spent x' v soft ≡ paid x soft
spent_is_paid x x' v [] h = refl
spent_is_paid x x' v (s ∷ soft) h =
    let rest = spent_is_paid x x' (suc v) soft h.1 in simp sum_by-cons (grind (arith, nat_tests))

all_paid : (x x' : List Bool) (v : ℕ) (soft : List Soft) → AreFailing x x' v soft
    → unpaid x x' v soft ≡ false
all_paid x x' v [] h = refl
all_paid x x' v (s ∷ soft) h = grind (arith, nat_tests, all_paid x x' (suc v) soft h.1)

-- what is told of a problem whose soft constraints are all paid is the cost of the source
all_paid_cost : (hard : Bool) (top : Option ℕ) (sum : ℕ) → told_cost hard false top sum
    ≡ (if hard || reaches_top top sum then Infinite else Whole (pos sum))
all_paid_cost hard top sum = grind (arith, nat_tests)

module _ (s : WboContent) (is : IsNormalSource s) (x : List Bool) (w : length x ≡ s.variables) where
  abbrev bits : List Bool
  bits = map (λ (k : Soft). fails x k.constraint) s.soft

  front : take s.variables (extended s x) ≡ x
  front = grind (arith, nat_tests, take-append-le, take_all)

  failing : AreFailing x (extended s x) s.variables s.soft
  failing = subst (λ (n : ℕ). AreFailing x (extended s x) n s.soft) w (are_failing x x s.soft)

  long : length (extended s x) ≡ s.variables + length s.soft
  long = grind (arith, nat_tests, length-append, length-map)

  cost : problem_cost (rewritten s) (extended s x) ≡ wbo_cost s x
  cost =
      grind (arith, nat_tests, rewritten_cost, front, spent, all_paid, failing, spent_is_paid, all_paid_cost)

pub carries_assignments : CarriesAssignments
carries_assignments s is x w = record {
  width = long s is x w;
  begins = front s is x w;
  costs = cost s is x w;
}

pub rewrites_its_source : RewritesItsSource
rewrites_its_source s is = record {
  more = omega arith;
  bound = λ x' w v whole.
      at_most_whole (wbo_cost s (take s.variables x')) (problem_cost (rewritten s) x') v
      (bounded s is x') whole;
  reached = λ x w v whole. (extended s x, long s is x w, front s is x w, cost s is x w ∙ whole);
}
