-- The top as a bound: the weights of the bits that are 1 sum to what the problem costs, so at most one
-- less than the top is a bound of the costs.
use Rattle.wbo_reader.proofs.Common.{◌≡◌, ℕ, ◌≤◌, Bool, true, false, ◌||◌, List, ◌++◌, ◌∙◌, Option, Some, None, ℤ, pos, ◌+ℤ◌, ◌-ℤ◌, refl, sym, ap, arith, cond, if◌then◌else◌, list_any, list_any-append, ints, nat_tests, nat_le, Cost, sum_of, fails, problem_cost, cut_off, WboContent, reaches_top, rewritten, rewritten_within, rows_of, untopped, weighed_bits, top_bound, top_most, most_within, lesser_most, with_most, TopIsABound}
use Rattle.base.specs.declared.costs.Cost.TheVariants.{Whole, Infinite}
use Rattle.wbo_reader.proofs.Spending.{spent, spent-le, top_rows-fail, upper_is_soft_weights, weighed_bits-sum, weights, top_rows}

-- ---- a cost that is cut off

-- infinite under a test, and else a number
abbrev told : Bool → ℕ → Cost
told b n = if b then Infinite else Whole (pos n)

-- a bound of one less than the top makes infinite what reaches the top
cut_by_top : (most : Option ℤ) (f : Bool) (top n : ℕ)
    → cut_off (lesser_most most (Some (pos top -ℤ pos 1))) (told f n)
    ≡ cut_off most (told (f || nat_le top n) n)
cut_by_top None f top n = grind (arith, nat_tests, ints)
cut_by_top (Some a) f top n = grind (arith, nat_tests, ints)

lesser_none : (most : Option ℤ) → lesser_most most None ≡ most
lesser_none None = refl
lesser_none (Some a) = refl

not_reached : (top n sum : ℕ) → n ≤ sum → nat_le top sum ≡ false → nat_le top n ≡ false
not_reached top n sum le e = grind (arith, nat_tests)

or_none : (b : Bool) → b ≡ (b || false)
or_none b = grind (arith, nat_tests)

cut_alike : (most : Option ℤ) (f : Bool) (top : Option ℕ) (n sum : ℕ) → n ≤ sum
    → cut_off (lesser_most most (top_bound top sum)) (told f n)
    ≡ cut_off most (told (f || reaches_top top n) n)
cut_alike most f None n sum le = λ i. cut_off (lesser_none most i) (told (or_none f i) n)
cut_alike most f (Some top) n sum le = go (nat_le top sum) refl
  where
    go : (b : Bool) → nat_le top sum ≡ b
        → cut_off (lesser_most most (cond b (Some (pos top -ℤ pos 1)) None)) (told f n)
        ≡ cut_off most (told (f || nat_le top n) n)
    go true e = cut_by_top most f top n
    go false e =
        (λ i. cut_off (lesser_none most i) (told (or_none f i) n))
        ∙ ap (λ b. cut_off most (told (f || b) n)) (sym (not_reached top n sum le e))

-- ---- the problem

module _ (s : WboContent) (x : List Bool) where
  objective : pos 0 +ℤ sum_of x (weighed_bits s.variables s.soft) +ℤ pos 0
      ≡ pos (spent x s.variables s.soft)
  objective = omega (arith, ints, weighed_bits-sum x s.variables s.soft)

  failing : list_any (fails x) (rows_of s ++ top_rows s.variables s.top s.soft)
      ≡ (list_any (fails x) (rows_of s) || reaches_top s.top (spent x s.variables s.soft))
  failing =
      list_any-append (fails x) (rows_of s) (top_rows s.variables s.top s.soft)
      ∙ ap (λ b. list_any (fails x) (rows_of s) || b) (top_rows-fail x s.variables s.top s.soft)

  costs-alike : (most : Option ℤ)
      → problem_cost (with_most (rewritten_within s) (lesser_most most (top_most s))) x
      ≡ problem_cost (with_most (rewritten s) most) x
  costs-alike most =
      (λ i. cut_off (lesser_most most (top_most s))
      (if list_any (fails x) (rows_of s) then Infinite else Whole (objective i)))
      ∙ cut_alike most (list_any (fails x) (rows_of s)) s.top (spent x s.variables s.soft)
      (weights s.soft) (spent-le x s.variables s.soft)
      ∙ (λ i. cut_off most (if sym failing i then Infinite else Whole (sym objective i)))

pub top_is_a_bound : TopIsABound
top_is_a_bound s = record {
  variables = refl;
  size = refl;
  own_upper = refl;
  costs = λ most x. costs-alike s x most;
}

-- ---- the problem as it is filled

pub most_is : (s : WboContent) (top : Option ℕ)
    → most_within (untopped s) top ≡ top_bound top (weights s.soft)
most_is s None = refl
most_is s (Some top) = grind (arith, nat_tests, upper_is_soft_weights s)

pub most_there : (s : WboContent) → most_within (untopped s) s.top ≡ top_most s
most_there s = most_is s s.top
