-- The parts of a list of codes, as literals: the part at a place, and one more part.
use Rattle.literal_lists.proofs.Common.{nat_tests, ◌≡◌, ℕ, ◌<◌, List, [], ◌∷◌, ◌++◌, length, map, get_or, refl, Some, arith, slice_get, slice_range, slice_get-map, map-append, AreEnds, start_of, parts-at, pushed, Literal, literal_parts, literal_of, code_of}

pub literal_parts-at : (codes ends : List ℕ) (i : ℕ) → i < length ends
    → slice_get (literal_parts codes ends) i
    ≡ Some (map literal_of (slice_range codes (start_of ends i) (get_or ends i 0)))
literal_parts-at codes ends i within = grind (arith, nat_tests, slice_get-map, parts-at)

literal_of-code_of : (l : Literal) → literal_of (code_of l) ≡ l
literal_of-code_of l = grind (arith, nat_tests)

map-literal_of : (ls : List Literal) → map literal_of (map code_of ls) ≡ ls
map-literal_of [] = refl
map-literal_of (l ∷ ls) = λ i. literal_of-code_of l i ∷ map-literal_of ls i

-- one more list, by the codes that are appended
pub narrow_pushed : (codes : List ℕ) (more : List Literal) (ends codes' ends' : List ℕ)
    → AreEnds 0 ends (length codes) → codes' ≡ codes ++ map code_of more
    → ends' ≡ ends ++ length codes' ∷ [] → AreEnds 0 ends' (length codes')
    × (literal_parts codes' ends' ≡ literal_parts codes ends ++ more ∷ [])
narrow_pushed codes more ends codes' ends' is at_codes at_ends =
    let one_more = pushed codes (map code_of more) ends codes' ends' is at_codes at_ends in
    grind (arith, nat_tests, map-append, map-literal_of)
