-- Sizes of which each two sum to more than a limit, seen in one walk with the least size so far.
use Rattle.conflict_clauses.proofs.Common.{room, and-true, ◌≡◌, ℕ, ◌+◌, ◌<◌, Bool, true, ◌&&◌, ltb, min, refl, arith, List, [], ◌∷◌, list_all, nat_tests, Product, are_apart, each_two, size}

-- products that are apart from one another, and from one of this size
abbrev pub apart_beside : ℕ → ℕ → List Product → Bool
apart_beside room least ts =
    each_two (are_apart room) ts && list_all (λ t. ltb room (least + size t)) ts

all-beside : (room least : ℕ) (ts : List Product) → room < least
    → list_all (λ t. ltb room (least + size t)) ts ≡ true
all-beside room least [] over = refl
all-beside room least (t ∷ ts) over = grind (arith, nat_tests, all-beside room least ts)

-- a size above the room lets all pass
pub beside-none : (room : ℕ) (ts : List Product)
    → each_two (are_apart room) ts ≡ apart_beside room (room + 1) ts
beside-none room ts = grind (arith, nat_tests, and-true, all-beside)

lesser : (room a b c : ℕ) → (ltb room (a + c) && ltb room (b + c)) ≡ ltb room (min a b + c)
lesser room a b c = grind (arith, nat_tests)

all-lesser : (room a b : ℕ) (ts : List Product)
    → (list_all (λ t. ltb room (a + size t)) ts && list_all (λ t. ltb room (b + size t)) ts)
    ≡ list_all (λ t. ltb room (min b a + size t)) ts
all-lesser room a b [] = refl
all-lesser room a b (t ∷ ts) = grind (arith, nat_tests, all-lesser room a b ts, lesser room b a)

-- a product that is apart from the least size before it: the lesser of both is the least size
pub beside-step : (room least : ℕ) (t : Product) (ts : List Product) → room < least + size t
    → apart_beside room least (t ∷ ts) ≡ apart_beside room (min least (size t)) ts
beside-step room least t ts over =
    let both = all-lesser room (size t) least ts in
    grind (arith, nat_tests)
