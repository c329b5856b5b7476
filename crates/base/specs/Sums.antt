-- Sums of whole numbers over lists.
use Rattle.std.specs.Prelude.{Bool, cond, ℕ, List, [], ◌∷◌, ℤ, pos, ◌+ℤ◌}

-- the sum of a whole number for each element of a list
abbrev pub total_by : {X : Type 0} → (X → ℤ) → List X → ℤ
total_by f [] = pos 0
total_by f (x ∷ xs) = f x +ℤ total_by f xs

-- a number that counts only under a test
abbrev pub if_so : Bool → ℤ → ℤ
if_so b c = cond b c (pos 0)

-- the positive part of a whole number
abbrev pub positive_part : ℤ → ℕ
positive_part (pos n) = n
positive_part _ = 0
