-- Each name stands at its number, and at no other place.
use Rattle.poly_reader.proofs.Common.{nat_tests, arith, ◌≡◌, ◌⊎◌, inl, inr, ℕ, zero, suc, true, false, List, [], ◌∷◌, ◌++◌, length, Some, slice_get, refl, sym, ◌∙◌, bytes_eq, or-true, bytes_eq-Decides, All-contains, All-from_recursion, Named, with_name, names_after, number_of, all_literals, names_of, NamesAreNumbered}
use Rattle.poly_reader.proofs.NameNumbers.{has, number_of-next, number_of-append, number_of-last, names_after-all}

-- a name that is there stands at its number
stands : (names : List (List ℕ)) (name : List ℕ) → has names name ≡ true
    → slice_get names (number_of names name) ≡ Some name
stands [] name h = absurd cc
stands (n ∷ ns) name h =
    grind (arith, nat_tests, stands ns name, has, bytes_eq-Decides, number_of-next)

-- what stands at a place has this number
abbrev pub IsPlaced : List (List ℕ) → Type 0
IsPlaced names = (i : ℕ) (name : List ℕ) → slice_get names i ≡ Some name → number_of names name ≡ i

inside : (names : List (List ℕ)) (i : ℕ) (name : List ℕ) → slice_get names i ≡ Some name
    → has names name ≡ true
inside [] i name h = absurd cc
inside (n ∷ ns) zero name h = grind (arith, nat_tests, bytes_eq-Decides)
inside (n ∷ ns) (suc i) name h = rw (inside ns i name h) (or-true (bytes_eq name n))

-- one more name: what stands at a place was there, or it is the name at the end
last_or_before : (names : List (List ℕ)) (last : List ℕ) (i : ℕ) (name : List ℕ)
    → slice_get (names ++ last ∷ []) i ≡ Some name
    → (slice_get names i ≡ Some name) ⊎ ((i ≡ length names) × (last ≡ name))
last_or_before [] last zero name h = let same : last ≡ name = cc in inr (refl, same)
last_or_before [] last (suc i) name h = absurd cc
last_or_before (n ∷ ns) last zero name h = inl h
last_or_before (n ∷ ns) last (suc i) name h =
    grind (arith, nat_tests, last_or_before ns last i name h)

placed-last : (names : List (List ℕ)) (last : List ℕ) → has names last ≡ false → IsPlaced names
    → IsPlaced (names ++ last ∷ [])
placed-last names last new placed i name h =
    grind (arith, nat_tests, last_or_before, number_of-append, inside, number_of-last)

placed-with_name : (names : List (List ℕ)) (name : List ℕ) → IsPlaced names
    → IsPlaced (with_name names name)
placed-with_name names name placed = grind (arith, nat_tests, has, placed-last)

placed-after : (names : List (List ℕ)) (ls : List Named) → IsPlaced names
    → IsPlaced (names_after names ls)
placed-after names [] placed = placed
placed-after names (l ∷ ls) placed =
    placed-after (with_name names l.name) ls (placed-with_name names l.name placed)

none_placed : IsPlaced []
none_placed i name h = absurd cc

pub names_are_numbered : NamesAreNumbered
names_are_numbered = record {
  each = λ ts l h.
      let names = names_of ts in
      let all = All-from_recursion (λ (k : Named). has names k.name ≡ true) (all_literals ts) (names_after-all [] (all_literals ts)) in
      stands names l.name (All-contains (λ (k : Named). has names k.name ≡ true) (all_literals ts) l all h);
  once = λ ts i j name h k.
      let placed = placed-after [] (all_literals ts) none_placed in
      sym (placed i name h) ∙ placed j name k;
}
