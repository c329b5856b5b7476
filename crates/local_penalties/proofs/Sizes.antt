-- Products of a size, and those that are of no less than what a constraint needs.
use Rattle.local_penalties.proofs.Common.{ℕ, Bool, ◌&&◌, eqb, nat_le, Product, is_single, size}

-- a product of this size
abbrev pub has_size : ℕ → Product → Bool
has_size n t = eqb (size t) n

-- a product of one literal that gives as much by itself
abbrev pub suffices : ℕ → Product → Bool
suffices below t = is_single t && nat_le below (size t)
