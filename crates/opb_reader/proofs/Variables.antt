-- As many variables as literals need.
use Rattle.opb_reader.proofs.Common.{nat_tests, ◌≡◌, ℕ, ◌+◌, ◌<◌, ◌≤◌, max, List, [], ◌∷◌, ◌++◌, All, arith, AllByRecursion, le-max_left, le-max_right, map-append, fold-append, All-from_recursion, Literal, Product, literals_in, widened}

-- variables for more literals
pub widened-append : (v : ℕ) (ls ks : List Literal)
    → widened v (ls ++ ks) ≡ widened (widened v ls) ks
widened-append v ls ks = grind (arith, nat_tests, map-append, fold-append)

-- no fewer than before
pub widened-le : (v : ℕ) (ls : List Literal) → v ≤ widened v ls
widened-le v [] = omega arith
widened-le v (l ∷ ls) =
    omega (arith, le-max_left v (l.variable + 1), widened-le (max v (l.variable + 1)) ls)

-- all literals are of so many variables
abbrev pub AreBelow : ℕ → List Literal → Type 0
AreBelow v ls = AllByRecursion (λ (l : Literal). l.variable < v) ls

below-more : (v w : ℕ) (ls : List Literal) → v ≤ w → AreBelow v ls → AreBelow w ls
below-more v w [] le h = tt
below-more v w (l ∷ ls) le h = (omega (arith, le, h.0), below-more v w ls le h.1)

widened_below : (v : ℕ) (ls : List Literal) → AreBelow (widened v ls) ls
widened_below v [] = tt
widened_below v (l ∷ ls) =
    let m = max v (l.variable + 1) in
    (omega (arith, le-max_right v (l.variable + 1), widened-le m ls), widened_below m ls)

pub widened_within : (v : ℕ) (ls : List Literal) → All (λ l. l.variable < widened v ls) ls
widened_within v ls = All-from_recursion (λ l. l.variable < widened v ls) ls (widened_below v ls)

-- the same for the literals of terms
terms_below : (v w : ℕ) (ts : List Product) → widened v (literals_in ts) ≤ w
    → AllByRecursion (λ (t : Product). AreBelow w t.literals) ts
terms_below v w [] le = tt
terms_below v w (t ∷ ts) le =
    let u = widened v t.literals in
    let same = widened-append v t.literals (literals_in ts) in (
      below-more u w t.literals (omega (arith, le, same, widened-le u (literals_in ts))) (widened_below v t.literals),
      terms_below u w ts (omega (arith, le, same)),
    )

abbrev pub AreWithin : ℕ → List Product → Type 0
AreWithin v ts = All (λ (t : Product). All (λ l. l.variable < v) t.literals) ts

within_each : (v : ℕ) (ts : List Product)
    → AllByRecursion (λ (t : Product). AreBelow v t.literals) ts
    → AllByRecursion (λ (t : Product). All (λ l. l.variable < v) t.literals) ts
within_each v [] h = tt
within_each v (t ∷ ts) h =
    (All-from_recursion (λ l. l.variable < v) t.literals h.0, within_each v ts h.1)

pub terms_within : (v : ℕ) (ts : List Product) → AreWithin (widened v (literals_in ts)) ts
terms_within v ts =
    let w = widened v (literals_in ts) in
    All-from_recursion (λ (t : Product). All (λ l. l.variable < w) t.literals) ts
    (within_each w ts (terms_below v w ts (omega arith)))
