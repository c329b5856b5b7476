-- The number of variables, as literals come.
use Rattle.wcnf_reader.proofs.Common.{◌≡◌, ℕ, ◌+◌, ◌-◌, ◌<◌, ◌≤◌, max, List, [], ◌∷◌, length, map, fold, take, get_or, All, refl, ap, ◌∙◌, arith, ℤ, nat_abs, take_more, map_push, fold_push, Literal, literal_of, widened, All-push}

-- how many variables a literal needs
abbrev needed : Literal → ℕ
needed l = l.variable + 1

pub widened_more : (v : ℕ) (ls : List Literal) (i : ℕ) (d : Literal) → i < length ls
    → widened v (take (i + 1) ls) ≡ max (widened v (take i ls)) ((get_or ls i d).variable + 1)
widened_more v ls i d lt =
    ap (widened v) (take_more ls i d lt)
    ∙ ap (fold max v) (map_push needed (take i ls) (get_or ls i d))
    ∙ fold_push max v (map needed (take i ls)) (needed (get_or ls i d))

pub all_within : (v w : ℕ) (ls : List Literal) (i : ℕ) (d : Literal) → i < length ls → v ≤ w
    → (get_or ls i d).variable < w → All (λ l. l.variable < v) (take i ls)
    → All (λ l. l.variable < w) (take (i + 1) ls)
all_within v w ls i d lt le last before =
    rw (take_more ls i d lt) (All-push (λ l. l.variable < w) (take i ls) (get_or ls i d)
    (λ k e h. omega (arith, le, before k e h)) last)

-- ---- numbers that are not 0, as literals

-- each of the numbers is a literal, not 0
abbrev pub AreLiterals : List ℤ → Type 0
AreLiterals [] = Unit {0}
AreLiterals (z ∷ zs) = (1 ≤ nat_abs z) × AreLiterals zs

-- the variables that the literals need are their sizes
pub sizes_needed : (zs : List ℤ) → AreLiterals zs
    → map (λ (l : Literal). l.variable + 1) (map literal_of zs) ≡ map nat_abs zs
sizes_needed [] h = refl
sizes_needed (z ∷ zs) h =
    let one : nat_abs z - 1 + 1 ≡ nat_abs z = omega (arith, h.0) in
    λ i. one i ∷ sizes_needed zs h.1 i
