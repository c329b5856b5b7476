-- The laws of + and * on whole numbers that std lacks, and two sets of them for tactics.
--
-- A law of variables is proved by reading each number as the difference of two naturals, and each
-- product as those of their parts: the equation of an inner product, times a part of the outer one.
use Rattle.std.proofs.Common.{
  ◌≡◌,
  ℕ,
  ◌*◌,
  ◌+◌,
  ◌≤◌,
  arith,
  ℤ,
  pos,
  negsuc,
  ◌+ℤ◌,
  ◌*ℤ◌,
  neg_ℤ,
  ◌≤ℤ◌,
  ◌<ℤ◌,
  sym,
  ap,
  ◌∙◌,
}
use Rattle.std.proofs.Math.Nat.{mul-le-mul_left}
use Rattle.std.proofs.lemmas.Int.{ints}
use Rattle.std.proofs.Math.IntN.{*ℤ_comm}
use borrow.Author.Differences.{up, down, product_is, sum_is_lem, neg_is, same_in, le_out}

-- an equation of numbers, times a number
by : (k : ℕ) {m n : ℕ} → m ≡ n → m * k ≡ n * k
by k e = ap (λ x. x * k) e

pub times_assoc : (a b c : ℤ) → (a *ℤ b) *ℤ c ≡ a *ℤ (b *ℤ c)
times_assoc a b c =
    let ab = product_is a b in
    let bc = product_is b c in
    let left = product_is (a *ℤ b) c in
    let right = product_is a (b *ℤ c) in
    same_in _ _ (omega (
      arith,
      by (up c) ab.0,
      by (down c) ab.1,
      by (up c) ab.1,
      by (down c) ab.0,
      by (up a) bc.0,
      by (down a) bc.1,
      by (up a) bc.1,
      by (down a) bc.0,
    ))

pub times-plus : (a b c : ℤ) → a *ℤ (b +ℤ c) ≡ (a *ℤ b) +ℤ (a *ℤ c)
times-plus a b c = let s = sum_is_lem b c in omega (arith, ints, by (up a) s, by (down a) s)

pub plus-times : (a b c : ℤ) → (b +ℤ c) *ℤ a ≡ (b *ℤ a) +ℤ (c *ℤ a)
plus-times a b c = let s = sum_is_lem b c in omega (arith, ints, by (up a) s, by (down a) s)

pub times-neg : (a b : ℤ) → a *ℤ neg_ℤ b ≡ neg_ℤ (a *ℤ b)
times-neg a b =
    let n = neg_is b in
    omega (arith, ints, by (up a) n.0, by (down a) n.0, by (up a) n.1, by (down a) n.1)

pub neg-times : (a b : ℤ) → neg_ℤ a *ℤ b ≡ neg_ℤ (a *ℤ b)
neg-times a b =
    let n = neg_is a in
    omega (arith, ints, by (up b) n.0, by (down b) n.0, by (up b) n.1, by (down b) n.1)

pub times_left_comm : (a b c : ℤ) → a *ℤ (b *ℤ c) ≡ b *ℤ (a *ℤ c)
times_left_comm a b c = sym (times_assoc a b c) ∙ ap (λ x. x *ℤ c) (*ℤ_comm a b) ∙ times_assoc b a c

-- multiplies a term out, for `simp`
pub ruleset multiply_out =
    (times-plus, plus-times, times-neg, neg-times, times_assoc, *ℤ_comm, times_left_comm)

-- a numeral at the end of a product of three that was multiplied out, for `omega`
pub number_at_2 : (a b : ℤ) (n : ℕ)
    → (up (a *ℤ (b *ℤ pos n)) ≡ n * up (a *ℤ b)) × (down (a *ℤ (b *ℤ pos n)) ≡ n * down (a *ℤ b))
number_at_2 a b n =
    let e : a *ℤ (b *ℤ pos n) ≡ (a *ℤ b) *ℤ pos n = sym (times_assoc a b (pos n)) in
    let p = product_is (a *ℤ b) (pos n) in
    rw e (omega arith)

-- what `omega` is to know of integers after `simp multiply_out`
pub ruleset integers = (ints, number_at_2)

-- ---- products and the order

pub times-le : (a b c : ℤ) → pos 0 ≤ℤ a → b ≤ℤ c → (a *ℤ b) ≤ℤ (a *ℤ c)
times-le (pos a) b c p q =
    let h : up b + down c ≤ up c + down b = le_out b c q in omega (arith, ints, mul-le-mul_left a h)
times-le (negsuc a) b c p q = absurd (omega (arith, ints))

pub times-lt : (a b c : ℤ) → pos 1 ≤ℤ a → b <ℤ c → (a *ℤ b) <ℤ (a *ℤ c)
times-lt a b c p q =
    omega (
      arith,
      ints,
      times-le a (b +ℤ pos 1) c (omega (arith, ints)) (omega (arith, ints)),
      times-plus a b (pos 1),
    )

pub one_le_times : (a b : ℤ) → pos 1 ≤ℤ a → pos 1 ≤ℤ b → pos 1 ≤ℤ (a *ℤ b)
one_le_times a b p q = omega (arith, ints, times-le a (pos 1) b (omega (arith, ints)) q)

-- a factor that is not positive turns the order
pub times-le_negative : (a b c : ℤ) → a ≤ℤ pos 0 → b ≤ℤ c → (a *ℤ c) ≤ℤ (a *ℤ b)
times-le_negative a b c p q =
    let turned = times-le (neg_ℤ a) b c (omega (arith, ints)) q in
    omega (arith, ints, turned, neg-times a b, neg-times a c)

-- a number scaled and moved, twice
pub scaled_twice : (a2 a1 v b1 b2 : ℤ)
    → a2 *ℤ (a1 *ℤ v +ℤ b1) +ℤ b2 ≡ (a1 *ℤ a2) *ℤ v +ℤ (a2 *ℤ b1 +ℤ b2)
scaled_twice a2 a1 v b1 b2 =
    omega (
      arith,
      ints,
      times-plus a2 (a1 *ℤ v) b1,
      times_assoc a2 a1 v,
      ap (λ c. c *ℤ v) (*ℤ_comm a1 a2),
    )
