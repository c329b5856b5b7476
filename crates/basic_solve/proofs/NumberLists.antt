-- Tables of numbers that are seen as their values.
use Rattle.basic_solve.proofs.Common.{nat_tests, ints, elements, ◌≡◌, ℕ, ◌+◌, ◌-◌, ◌*◌, ◌<◌, ◌≤◌, ◌^◌, ℤ, pos, ◌+ℤ◌, List, [], ◌∷◌, ◌++◌, length, map, take, get_or, set, length-set, refl, sym, arith, ap, ◌∙◌, length-map, get_or-map, map-set, take_more, take_all, sum_by, doubled, sum_by_push}
use Rattle.basic_solve.proofs.TableSizes.{written_more}

-- a number that was read
pub value-at : {X : Type 0} (f : X → ℤ) (xs : List X) (x : ℕ) (r : X) → x < length xs
    → r ≡ get_or xs x r → f r ≡ get_or (map f xs) x (pos 0)
value-at f xs x r h is = ap f is ∙ sym (get_or-map f xs x r (pos 0) h)

-- a number that is written
pub value_more : {X : Type 0} (f : X → ℤ) (vs us : List X) (to : ℕ → ℤ) (at : ℕ) (v : X)
    → length us ≡ length vs → at < length vs → f v ≡ to at
    → ((x : ℕ) → x < at → get_or (map f us) x (pos 0) ≡ to x)
    × ((x : ℕ) → at ≤ x → get_or (map f us) x (pos 0) ≡ get_or (map f vs) x (pos 0))
    → ((x : ℕ) → x < at + 1 → get_or (map f (set us at v)) x (pos 0) ≡ to x)
    × ((x : ℕ) → at + 1 ≤ x → get_or (map f (set us at v)) x (pos 0) ≡ get_or (map f vs) x (pos 0))
value_more f vs us to at v long h is so_far =
    grind (arith, nat_tests, ints, elements, written_more, length-map, map-set)

-- a number that is written leaves the next one
pub set-next : {X : Type 0} (f : X → ℤ) (us : List X) (at : ℕ) (v : X)
    → get_or (map f (set us at v)) (at + 1) (pos 0) ≡ get_or (map f us) (at + 1) (pos 0)
set-next f us at v = grind (arith, nat_tests, ints, elements, map-set)

-- two numbers that are written, side by side
pub pair_more : {X : Type 0} (f : X → ℤ) (vs us : List X) (to : ℕ → ℤ) (at : ℕ) (v w : X)
    → length us ≡ length vs → 2 * at + 1 < length vs → f v ≡ to (2 * at) → f w ≡ to (2 * at + 1)
    → ((x : ℕ) → x < 2 * at → get_or (map f us) x (pos 0) ≡ to x)
    × ((x : ℕ) → 2 * at ≤ x → get_or (map f us) x (pos 0) ≡ get_or (map f vs) x (pos 0))
    → ((x : ℕ) → x < 2 * (at + 1)
    → get_or (map f (set (set us (2 * at) v) (2 * at + 1) w)) x (pos 0) ≡ to x)
    × ((x : ℕ) → 2 * (at + 1) ≤ x
    → get_or (map f (set (set us (2 * at) v) (2 * at + 1) w)) x (pos 0)
    ≡ get_or (map f vs) x (pos 0))
pair_more f vs us to at v w long lt one two so_far =
    let first = value_more f vs us to (2 * at) v long (omega arith) one so_far in
    let both = value_more f vs (set us (2 * at) v) to (2 * at + 1) w
    (length-set us (2 * at) v ∙ long) lt two first in
    (λ x l. both.0 x (omega (arith, l)), λ x l. both.1 x (omega (arith, l)))

-- the last step doubles what the others made
pub doubled-last : {A : Type 0} (plus : A → A → A) (vs steps : List A) (s : A)
    → doubled plus vs (steps ++ s ∷ [])
    ≡ doubled plus vs steps ++ map (λ v. plus v s) (doubled plus vs steps)
doubled-last plus vs [] s = refl
doubled-last plus vs (step ∷ steps) s = doubled-last plus (vs ++ map (λ v. plus v step) vs) steps s

-- a table of one number
pub begun : {X : Type 0} (f : X → ℤ) (vs : List X) (v : X) (first : ℤ) (steps : List ℤ)
    → length steps < 1 → length vs ≡ 2 ^ length steps → f v ≡ first
    → map f (set vs 0 v) ≡ doubled ◌+ℤ◌ (first ∷ []) steps
begun f [] v first [] h l is = absurd (omega (arith, l))
begun f (u ∷ []) v first [] h l is = ap (λ w. w ∷ []) is
begun f (u ∷ w ∷ vs) v first [] h l is = absurd (omega (arith, l))
begun f vs v first (s ∷ steps) h l is = absurd (omega arith)

pub begun_places : (vs steps : List ℕ) → length steps < 1 → length vs ≡ 2 ^ length steps
    → set vs 0 0 ≡ doubled ◌+◌ (0 ∷ []) steps
begun_places [] [] h l = absurd (omega (arith, l))
begun_places (u ∷ []) [] h l = refl
begun_places (u ∷ w ∷ vs) [] h l = absurd (omega (arith, l))
begun_places vs (s ∷ steps) h l = absurd (omega arith)

-- ---- the last step

pub last_of : {A : Type 0} (xs : List A) (d : A) → 1 ≤ length xs
    → take (length xs - 1) xs ++ get_or xs (length xs - 1) d ∷ [] ≡ xs
last_of xs d h = grind (arith, nat_tests, take_more, take_all)

-- a table, and once more with the last step added
pub doubled_joined : {A : Type 0} (plus : A → A → A) (vs steps low high : List A) (d : A)
    → 1 ≤ length steps → low ≡ doubled plus vs (take (length steps - 1) steps)
    → high ≡ map (λ v. plus v (get_or steps (length steps - 1) d)) low
    → low ++ high ≡ doubled plus vs steps
doubled_joined plus vs steps low high d h l m =
    cc (doubled-last plus vs (take (length steps - 1) steps) (get_or steps (length steps - 1) d), last_of steps d h)

pub sum-last : {A : Type 0} (f : A → ℕ) (xs : List A) (d : A) → 1 ≤ length xs
    → sum_by f xs ≡ sum_by f (take (length xs - 1) xs) + f (get_or xs (length xs - 1) d)
sum-last f xs d h =
    grind (arith, nat_tests, last_of xs d h, sum_by_push f (take (length xs - 1) xs) (get_or xs (length xs - 1) d))
