-- Numbers that are changed in place, one after another.
use Rattle.std.proofs.Common.{◌≡◌, ℕ, zero, suc, ◌+◌, ◌<◌, ℤ, pos, List, [], ◌∷◌, ◌++◌, length, take, drop, get_or, map, refl, ap, arith}
use Rattle.std.specs.Prelude.{slice_set}

-- the first i numbers are changed
abbrev pub changed_to : (ℤ → ℤ) → ℕ → List ℤ → List ℤ
changed_to f i xs = map f (take i xs) ++ drop i xs

-- the next one is still as it was
pub next_unchanged : (f : ℤ → ℤ) (i : ℕ) (xs : List ℤ) → i < length xs
    → get_or (changed_to f i xs) i (pos 0) ≡ get_or xs i (pos 0)
next_unchanged f i [] h = absurd (omega arith)
next_unchanged f zero (x ∷ xs) h = refl
next_unchanged f (suc i) (x ∷ xs) h = next_unchanged f i xs (omega arith)

-- .. and is changed then
pub one_changed : (f : ℤ → ℤ) (i : ℕ) (xs : List ℤ) → i < length xs
    → slice_set (changed_to f i xs) i (f (get_or xs i (pos 0))) ≡ changed_to f (i + 1) xs
one_changed f i [] h = absurd (omega arith)
one_changed f zero (x ∷ xs) h = refl
one_changed f (suc i) (x ∷ xs) h =
    let more : suc i + 1 ≡ suc (i + 1) = omega arith in
    rw more (ap (λ ys. f x ∷ ys) (one_changed f i xs (omega arith)))
