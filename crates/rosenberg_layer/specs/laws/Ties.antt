-- A tie of a node to the product of two literals: it costs nothing where the node is the product,
-- and at least the tie's weight elsewhere. Nothing here has to be believed.
use Rattle.std.specs.Prelude.{◌+ℤ◌, ◌*◌, ◌&&◌, ◌≤ℤ◌, ◌≡◌, ◌≢◌, ◌⊎◌}
use Rattle.rosenberg_layer.specs.laws.Common.{ℤ, ℕ, pos, neg_ℤ, Bool, true, false, unsigned_abs, arith, refl, inl, inr, nat_tests, ints, if_so}

-- m * (p q - 2 p w - 2 q w + 3 w)
abbrev pub tie : ℕ → Bool → Bool → Bool → ℤ
tie m p q w =
    if_so (p && q) (pos m) +ℤ if_so (p && w) (neg_ℤ (pos (2 * m)))
    +ℤ if_so (q && w) (neg_ℤ (pos (2 * m)))
    +ℤ if_so w (pos (3 * m))

-- a tie costs nothing where the node is the product of the two
pub tie-zero : (m : ℕ) (p q : Bool) → tie m p q (p && q) ≡ pos 0
tie-zero m p q = grind (arith, nat_tests, ints)

-- a tie costs at least its weight where the node is not the product of the two
pub tie-apart : (m : ℕ) (p q w : Bool) → w ≢ (p && q) → pos m ≤ℤ tie m p q w
tie-apart m p q w n = grind (arith, nat_tests, ints)

-- two bits are equal, or they differ
pub same_or_not : (a b : Bool) → (a ≡ b) ⊎ (a ≢ b)
same_or_not true true = inl refl
same_or_not true false = inr (λ e. cc)
same_or_not false true = inr (λ e. cc)
same_or_not false false = inl refl

-- a term that is read with another factor changes at most by its size
pub other_factor : (u w r : Bool) (c : ℤ)
    → if_so (u && r) c ≤ℤ (if_so (w && r) c +ℤ pos (unsigned_abs c))
other_factor u w r c = grind (arith, nat_tests, ints)
