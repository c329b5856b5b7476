-- The nodes of a positive term, in whole numbers. Nothing here has to be believed.
--
-- The term has d literals, of which s are true, and n nodes. Node k can save
-- max(0, f * (s - 2 * k - 2) + 1), and saves it exactly where it is 1 if and only if at least
-- 2 * k + 2 literals are true. All nodes together can save as much as the pairs of true literals
-- cost, and 1 less where all literals are true: with factors of 2 throughout, the first n nodes
-- save n * (2 * s + 1) - 2 * n * (n + 1) as long as 2 * n is at most s. For an even d that falls
-- short of the pairs by 1 where s is d. For an odd d the last node has the factor 1, and the same
-- holds.
use Rattle.std.specs.Prelude.{◌≡◌, ◌+◌, ◌-◌, ◌*◌, ◌<◌, ◌≤◌, ◌⊎◌}
use Rattle.monomial_layer.specs.laws.Common.{ℕ, zero, suc, inl, inr, Bool, true, false, cond, arith, sym, ap, subst, refl, eqb, leb, cases_lt, nat_tests, factor, is_taken}

-- how many pairs there are among n
abbrev pub pairs : ℕ → ℕ
pairs zero = 0
pairs (suc n) = n + pairs n

-- twice the pairs, and n, are the square of n
pub pairs_is : (n : ℕ) → 2 * pairs n + n ≡ n * n
pairs_is zero = omega arith
pairs_is (suc n) = omega (arith, pairs_is n)

-- What the first n nodes add, which are 1 where w says so. These are parts of c, which is left out
-- until the end.
abbrev pub above : ℕ → (ℕ → Bool) → ℕ → ℕ
above d w zero = 0
above d w (suc k) = above d w k + cond (w k) (factor d k * (2 * k + 2) - 1) 0

-- What they take away. With s true literals a node of factor f takes f * s away.
abbrev pub below : ℕ → ℕ → (ℕ → Bool) → ℕ → ℕ
below d s w zero = 0
below d s w (suc k) = below d s w k + cond (w k) (factor d k * s) 0

-- What they can save, if every factor is 2. Each can save 2 * (s - 2 * k - 2) + 1 where at least 2
-- * k + 2 literals are true, and else nothing.
abbrev plain : ℕ → ℕ → ℕ
plain s zero = 0
plain s (suc k) = plain s k + cond (leb (2 * k + 2) s) (2 * s + 1 - 2 * (2 * k + 2)) 0

-- what they can save, with their own factors
abbrev gain : ℕ → ℕ → ℕ → ℕ
gain d s zero = 0
gain d s (suc k) =
    gain d s k + cond (leb (2 * k + 2) s) (factor d k * s + 1 - factor d k * (2 * k + 2)) 0

-- a factor is 1 or 2
pub factor_cases : (d k : ℕ) → (factor d k ≡ 1) ⊎ (factor d k ≡ 2)
factor_cases d k = grind (arith, nat_tests)

-- ---- one node, of factor f

-- no choice of a node saves more than it can
one_saves : (f s k : ℕ) (w : Bool) → (f ≡ 1) ⊎ (f ≡ 2)
    → cond w (f * s) 0
    ≤ cond w (f * (2 * k + 2) - 1) 0 + cond (leb (2 * k + 2) s) (f * s + 1 - f * (2 * k + 2)) 0
one_saves f s k true (inl e) = rw e (grind (arith, nat_tests))
one_saves f s k true (inr e) = rw e (grind (arith, nat_tests))
one_saves f s k false h = omega arith

-- and it saves just that where it is taken as `is_taken` says
one_reaches : (f s k : ℕ) → (f ≡ 1) ⊎ (f ≡ 2)
    → cond (leb (2 * k + 2) s) (f * s) 0
    ≡ cond (leb (2 * k + 2) s) (f * (2 * k + 2) - 1) 0
    + cond (leb (2 * k + 2) s) (f * s + 1 - f * (2 * k + 2)) 0
one_reaches f s k (inl e) = rw e (grind (arith, nat_tests))
one_reaches f s k (inr e) = rw e (grind (arith, nat_tests))

-- the same for the first n nodes
saves : (d s : ℕ) (w : ℕ → Bool) (n : ℕ) → below d s w n ≤ above d w n + gain d s n
saves d s w zero = omega arith
saves d s w (suc k) =
    omega (arith, saves d s w k, one_saves (factor d k) s k (w k) (factor_cases d k))

-- and for all of them taken so
reaches : (d s n : ℕ) → below d s (is_taken s) n ≡ above d (is_taken s) n + gain d s n
reaches d s zero = omega arith
reaches d s (suc k) = omega (arith, reaches d s k, one_reaches (factor d k) s k (factor_cases d k))

-- ---- what all can save

-- while 2 * n is at most s, all of the first n nodes can save something
plain_early : (s n : ℕ) → 2 * n ≤ s → plain s n + 2 * (n * n) + n ≡ 2 * (n * s)
plain_early s zero h = omega arith
plain_early s (suc k) h =
    let before = plain_early s k (omega arith) in grind (arith, nat_tests)

-- with the last node that can, they save as much as the pairs cost
plain_last : (s k : ℕ) → 2 * k + 2 ≤ s → s < 2 * suc k + 2
    → plain s k + 2 * (k * k) + k ≡ 2 * (k * s) → plain s (suc k) ≡ pairs s
plain_last s k low high before =
    let e : leb (2 * k + 2) s ≡ true = grind (arith, nat_tests) in
    rw e (elim (cases_lt s (2 * k + 3)) [
      | inl q ↦
          let same : s ≡ 2 * k + 2 = omega arith in
          omega (arith, pairs_is s, ap (λ x. x * s) same, ap (λ x. k * x) same)
      | inr q ↦
          let same : s ≡ 2 * k + 3 = omega arith in
          omega (arith, pairs_is s, ap (λ x. x * s) same, ap (λ x. k * x) same)
    ])

-- so with nodes enough they save just that
plain_late : (s n : ℕ) → s < 2 * n + 2 → plain s n ≡ pairs s
plain_late s zero h = small s (omega arith)
  where
    small : (s : ℕ) → s < 2 → 0 ≡ pairs s
    small zero h = refl
    small (suc zero) h = refl
    small (suc (suc n)) h = absurd (omega arith)
plain_late s (suc k) h =
    elim (cases_lt s (2 * k + 2)) [
      | inl lt ↦
          let before = plain_late s k lt in
          grind (arith, nat_tests)
      | inr le ↦ plain_last s k le h (plain_early s k (omega arith))
    ]

-- all factors but the last of an odd degree are 2
plain_is : (d s n : ℕ) → 2 * n + 1 < d → gain d s n ≡ plain s n
plain_is d s zero h = refl
plain_is d s (suc k) h =
    let e : factor d k ≡ 2 = grind (arith, nat_tests) in
    rw (e, plain_is d s k (omega arith))

-- D is at least 2, and 2 * n + 1 or 2 * n + 2. For n nodes the degree is one of these two: the
-- nodes that a positive term of it has.
abbrev pub IsSized : ℕ → ℕ → Type 0
IsSized d n = (2 ≤ d) × ((d ≡ 2 * n + 1) ⊎ (d ≡ 2 * n + 2))

-- for an even degree the nodes save what the pairs cost, and 1 less where all literals are true
even : (s n : ℕ) → s ≤ 2 * n + 2
    → gain (2 * n + 2) s n + cond (eqb s (2 * n + 2)) 1 0 ≡ pairs s
even s n h =
    rw (plain_is (2 * n + 2) s n (omega arith)) (elim (cases_lt s (2 * n + 2)) [
      | inl lt ↦ let late = plain_late s n lt in grind (arith, nat_tests)
      | inr le ↦
          let same : s ≡ 2 * n + 2 = omega arith in
          let early = plain_early (2 * n + 2) n (omega arith) in
          let twice = pairs_is (2 * n + 2) in
          rw same (grind (arith, nat_tests))
    ])

-- for an odd degree the last node of factor 1 comes to the same
odd_end : (s n : ℕ) → 2 * n + 2 ≤ s → s ≤ 2 * n + 3
    → plain s n + (1 * s + 1 - 1 * (2 * n + 2)) + cond (eqb s (2 * n + 3)) 1 0 ≡ pairs s
odd_end s n low high = elim (cases_lt s (2 * n + 3)) [
  | inl lt ↦
      let same : s ≡ 2 * n + 2 = omega arith in
      let early = plain_early (2 * n + 2) n (omega arith) in
      let twice = pairs_is (2 * n + 2) in
      rw same (grind (arith, nat_tests))
  | inr le ↦
      let same : s ≡ 2 * n + 3 = omega arith in
      let early = plain_early (2 * n + 3) n (omega arith) in
      let twice = pairs_is (2 * n + 3) in
      rw same (grind (arith, nat_tests))
]

-- n nodes, and one more of factor 1
odd : (s n : ℕ) → s ≤ 2 * n + 3
    → gain (2 * n + 3) s (suc n) + cond (eqb s (2 * n + 3)) 1 0 ≡ pairs s
odd s n h =
    let last : factor (2 * n + 3) n ≡ 1 = grind (arith, nat_tests) in
    let before = plain_is (2 * n + 3) s n (omega arith) in
    rw (last, before) (elim (cases_lt s (2 * n + 2)) [
      | inl lt ↦ let late = plain_late s n lt in grind (arith, nat_tests)
      | inr le ↦
          let f : leb (2 * n + 2) s ≡ true = grind (arith, nat_tests) in rw f (odd_end s n le h)
    ])

-- so for every degree of 3 or more
gain_is : (d s n : ℕ) → IsSized d n → s ≤ d → gain d s n + cond (eqb s d) 1 0 ≡ pairs s
gain_is d s zero (two, inl e) h = absurd (omega arith)
gain_is d s (suc n) (two, inl e) h =
    let same : d ≡ 2 * n + 3 = omega arith in
    subst (λ d. gain d s (suc n) + cond (eqb s d) 1 0 ≡ pairs s) (sym same) (odd s n (omega arith))
gain_is d s n (two, inr e) h = rw e (even s n (omega arith))

-- ---- the law

-- Whatever the nodes are, the pairs and nodes cost at least 1 where all literals are true, and else
-- 0. Both sides times c are the cost of the term and of what stands for it.
pub positive_bound : (d s n : ℕ) (w : ℕ → Bool) → IsSized d n → s ≤ d
    → cond (eqb s d) 1 0 + below d s w n ≤ pairs s + above d w n
positive_bound d s n w sized within = omega (arith, saves d s w n, gain_is d s n sized within)

-- .. and no more, where each node is taken as is_taken says
pub positive_reached : (d s n : ℕ) → IsSized d n → s ≤ d
    → cond (eqb s d) 1 0 + below d s (is_taken s) n ≡ pairs s + above d (is_taken s) n
positive_reached d s n sized within = omega (arith, reaches d s n, gain_is d s n sized within)
