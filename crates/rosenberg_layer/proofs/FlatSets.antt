-- Lists that lie flat: an item of one of them is replaced.
use Rattle.rosenberg_layer.proofs.Common.{nat_tests, elements, ◌≡◌, ℕ, zero, suc, ◌+◌, ◌-◌, ◌<◌, ◌≤◌, List, [], ◌∷◌, length, get_or, set, take, refl, arith, slice_range, length-take-le, length-drop, drop-set-lt, drop-set-add, get_or_from_slice_get, eqb-suc-zero, parts, AreEnds, start_of, parts-at, part_lies}

-- where the part at a place starts, where the first starts anywhere
abbrev begin_of : ℕ → List ℕ → ℕ → ℕ
begin_of start ends zero = start
begin_of start [] (suc i) = start
begin_of start (end ∷ ends) (suc i) = begin_of end ends i

begin_of-suc : (start end : ℕ) (ends : List ℕ) (i : ℕ) → i < length (end ∷ ends)
    → begin_of start (end ∷ ends) (suc i) ≡ get_or (end ∷ ends) i 0
begin_of-suc start end ends zero within = refl
begin_of-suc start end [] (suc i) within = absurd (omega (arith, within))
begin_of-suc start end (other ∷ ends) (suc i) within =
    begin_of-suc end other ends i (omega (arith, within))

begin_of-is : (ends : List ℕ) (i : ℕ) → i < length ends → begin_of 0 ends i ≡ start_of ends i
begin_of-is ends zero within = refl
begin_of-is [] (suc i) within = absurd (omega (arith, within))
begin_of-is (end ∷ ends) (suc i) within =
    grind (arith, nat_tests, eqb-suc-zero i, begin_of-suc 0 end ends i (omega (arith, within)))

begin_of-le : (start : ℕ) (ends : List ℕ) (len i : ℕ) → AreEnds start ends len → i < length ends
    → start ≤ begin_of start ends i
begin_of-le start ends len zero is within = omega arith
begin_of-le start [] len (suc i) is within = absurd (omega (arith, within))
begin_of-le start (end ∷ ends) len (suc i) is within =
    omega (arith, is.0, begin_of-le end ends len i is.1 (omega (arith, within)))

-- ---- an item of a list, one part of which is taken

take-set-lt : (n : ℕ) (xs : List ℕ) (i a : ℕ) → i < n → take n (set xs i a) ≡ set (take n xs) i a
take-set-lt zero xs i a below = absurd (omega (arith, below))
take-set-lt (suc n) [] i a below = refl
take-set-lt (suc n) (x ∷ xs) zero a below = refl
take-set-lt (suc n) (x ∷ xs) (suc i) a below = let rest = take-set-lt n xs i a (omega (arith, below)) in cc

range-set : (xs : List ℕ) (start end i a : ℕ) → start + i < end
    → slice_range (set xs (start + i) a) start end ≡ set (slice_range xs start end) i a
range-set xs start end i a inside = grind (arith, nat_tests, drop-set-add, take-set-lt)

range-set-below : (xs : List ℕ) (start end k a : ℕ) → k < start
    → slice_range (set xs k a) start end ≡ slice_range xs start end
range-set-below xs start end k a below = grind (arith, nat_tests, drop-set-lt)

range-set-above : (xs : List ℕ) (start end k a : ℕ) → start ≤ end → end ≤ k
    → slice_range (set xs k a) start end ≡ slice_range xs start end
range-set-above xs start end k a ordered above = grind (arith, nat_tests, elements)

-- ---- the parts

parts-set-below : (codes : List ℕ) (start : ℕ) (ends : List ℕ) (k a len : ℕ) → AreEnds start ends len
    → k < start → parts (set codes k a) start ends ≡ parts codes start ends
parts-set-below codes start [] k a len is below = refl
parts-set-below codes start (end ∷ ends) k a len is below =
    let rest = parts-set-below codes end ends k a len is.1 (omega (arith, below, is.0)) in
    λ j. range-set-below codes start end k a below j ∷ rest j

parts-set : (codes : List ℕ) (start : ℕ) (ends : List ℕ) (i place a len : ℕ) → AreEnds start ends len
    → i < length ends → begin_of start ends i + place < get_or ends i 0
    → parts (set codes (begin_of start ends i + place) a) start ends
    ≡ set (parts codes start ends) i (set (get_or (parts codes start ends) i []) place a)
parts-set codes start [] i place a len is within inside = absurd (omega (arith, within))
parts-set codes start (end ∷ ends) zero place a len is within inside =
    let rest = parts-set-below codes end ends (start + place) a len is.1 inside in
    λ j. range-set codes start end place a inside j ∷ rest j
parts-set codes start (end ∷ ends) (suc i) place a len is within inside =
    let later : i < length ends = omega (arith, within) in
    let k = begin_of end ends i + place in
    let above : end ≤ k = omega (arith, begin_of-le end ends len i is.1 later) in
    let first = range-set-above codes start end k a is.0 above in
    let rest = parts-set codes end ends i place a len is.1 later inside in
    λ j. first j ∷ rest j

-- ---- the part at a place

pub part-at : (codes ends : List ℕ) (i : ℕ) → i < length ends
    → get_or (parts codes 0 ends) i [] ≡ slice_range codes (start_of ends i) (get_or ends i 0)
part-at codes ends i within =
    get_or_from_slice_get (parts codes 0 ends) i _ [] (parts-at codes ends i within)

length-part : (codes ends : List ℕ) (i : ℕ) → AreEnds 0 ends (length codes) → i < length ends
    → length (get_or (parts codes 0 ends) i []) ≡ get_or ends i 0 - start_of ends i
length-part codes ends i is within =
    grind (arith, nat_tests, part_lies, part-at, length-take-le, length-drop)

-- the item lies in the list
pub put_within : (codes ends : List ℕ) (i place start : ℕ) → AreEnds 0 ends (length codes)
    → i < length ends → start ≡ start_of ends i → place < length (get_or (parts codes 0 ends) i [])
    → start + place < length codes
put_within codes ends i place start is within at inside =
    let lies = part_lies ends (length codes) i is within in
    omega (arith, lies.0, lies.1, at, inside, length-part codes ends i is within)

-- .. and replaces that of one part alone
pub put_parts : (codes ends codes' : List ℕ) (i place a start : ℕ) → AreEnds 0 ends (length codes)
    → i < length ends → start ≡ start_of ends i → place < length (get_or (parts codes 0 ends) i [])
    → codes' ≡ set codes (start + place) a → parts codes' 0 ends
    ≡ set (parts codes 0 ends) i (set (get_or (parts codes 0 ends) i []) place a)
put_parts codes ends codes' i place a start is within at inside new =
    let from = begin_of-is ends i within in
    let lies = part_lies ends (length codes) i is within in
    let part = length-part codes ends i is within in
    grind (arith, nat_tests, elements, parts-set)
