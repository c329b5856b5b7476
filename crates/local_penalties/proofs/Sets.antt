-- Literals of a set: each is listed once, and has a place.
use Rattle.local_penalties.proofs.Common.{◌≡◌, ℕ, refl, arith, nat_tests, List, [], ◌∷◌, true, false, list_any, Literal, Product, Clause, same, each_once, IsNormalProduct, IsNormalClause, literal_cmp, Less}
use Rattle.std.specs.List.{AllByRecursion}
use Rattle.std.specs.List.Sorted.{IsStrictlySortedBy}

differs : (l m : Literal) → literal_cmp l m ≡ Less → same l m ≡ false
differs l m less = grind (arith, nat_tests)

none_again : (l : Literal) (ls : List Literal) → AllByRecursion (λ m. literal_cmp l m ≡ Less) ls
    → list_any (same l) ls ≡ false
none_again l [] below = refl
none_again l (m ∷ ls) below =
    let here = differs l m below.0 in
    let others = none_again l ls below.1 in
    grind (arith, nat_tests)

pub once-set : (ls : List Literal) → IsStrictlySortedBy literal_cmp ls → each_once ls ≡ true
unfolding IsStrictlySortedBy
once-set [] up = refl
once-set (l ∷ ls) up =
    let none = none_again l ls up.0 in
    let others = once-set ls up.1 in
    grind (arith, nat_tests)

pub product-once : (variables : ℕ) (t : Product) → IsNormalProduct variables t → each_once t.literals ≡ true
product-once variables t normal = once-set t.literals normal.set.ordered

pub clause-once : (variables : ℕ) (c : Clause) → IsNormalClause variables c → each_once c.literals ≡ true
clause-once variables c normal = once-set c.literals normal.set.ordered
