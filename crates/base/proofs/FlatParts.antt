-- The parts of a list between ends: the part at a place, where it lies, and one more part.
use Rattle.std.proofs.Common.{◌≡◌, ℕ, zero, suc, ◌-◌, ◌≤◌, ◌<◌, List, [], ◌∷◌, ◌++◌, length, map, get_or, take, drop, refl, sym, ap, ◌∙◌, subst, arith, length-append, Some, ◌==◌, false}
use Rattle.std.specs.List.{slice_get, slice_range}
use Rattle.std.proofs.lemmas.List.{take-append-le, drop-append-le, take-map, drop-map, length-drop, take_all}
use Rattle.std.proofs.Math.Dec.{eqb-suc-zero}
use Rattle.std.proofs.Math.Seq.{drop-append_seam}
use Rattle.base.specs.FlatLists.{parts, AreEnds, start_of}

-- there is a part for each end
pub length-parts : {A : Type 0} → (items : List A) (start : ℕ) (ends : List ℕ)
    → length (parts items start ends) ≡ length ends
length-parts items start [] = refl
length-parts items start (end ∷ ends) = ap suc (length-parts items end ends)

-- ---- the part at a place

-- where the part at a place starts, where the first starts anywhere
abbrev start_from : ℕ → List ℕ → ℕ → ℕ
start_from start ends zero = start
start_from start [] (suc i) = start
start_from start (end ∷ ends) (suc i) = start_from end ends i

start_from-suc : (start end : ℕ) (ends : List ℕ) (i : ℕ) → i < length (end ∷ ends)
    → start_from start (end ∷ ends) (suc i) ≡ get_or (end ∷ ends) i 0
start_from-suc start end ends zero within = refl
start_from-suc start end [] (suc i) within = absurd (omega (arith, within))
start_from-suc start end (other ∷ ends) (suc i) within =
    start_from-suc end other ends i (omega (arith, within))

start_from-is : (ends : List ℕ) (i : ℕ) → i < length ends → start_from 0 ends i ≡ start_of ends i
start_from-is ends zero within = refl
start_from-is [] (suc i) within = absurd (omega (arith, within))
start_from-is (end ∷ ends) (suc i) within =
    let before : suc i - 1 ≡ i = omega arith in
    let later : (suc i == 0) ≡ false = eqb-suc-zero i in
    rw later
    (start_from-suc 0 end ends i (omega (arith, within))
    ∙ ap (λ n. get_or (end ∷ ends) n 0) (sym before))

parts-from : {A : Type 0} → (items : List A) (start : ℕ) (ends : List ℕ) (i : ℕ) → i < length ends
    → slice_get (parts items start ends) i
    ≡ Some (slice_range items (start_from start ends i) (get_or ends i 0))
parts-from items start [] i within = absurd (omega (arith, within))
parts-from items start (end ∷ ends) zero within = refl
parts-from items start (end ∷ ends) (suc i) within =
    parts-from items end ends i (omega (arith, within))

pub parts-at : {A : Type 0} → (items : List A) (ends : List ℕ) (i : ℕ) → i < length ends
    → slice_get (parts items 0 ends) i
    ≡ Some (slice_range items (start_of ends i) (get_or ends i 0))
parts-at items ends i within =
    parts-from items 0 ends i within
    ∙ ap (λ s. Some (slice_range items s (get_or ends i 0))) (start_from-is ends i within)

-- ---- where a part lies

-- ends do not pass the length
pub ends-le : (start : ℕ) (ends : List ℕ) (len : ℕ) → AreEnds start ends len → start ≤ len
ends-le start [] len is = omega (arith, is)
ends-le start (end ∷ ends) len is = omega (arith, is.0, ends-le end ends len is.1)

part-within : (start : ℕ) (ends : List ℕ) (len i : ℕ) → AreEnds start ends len → i < length ends
    → (start_from start ends i ≤ get_or ends i 0) × (get_or ends i 0 ≤ len)
part-within start [] len i is within = absurd (omega (arith, within))
part-within start (end ∷ ends) len zero is within = (is.0, ends-le end ends len is.1)
part-within start (end ∷ ends) len (suc i) is within =
    part-within end ends len i is.1 (omega (arith, within))

-- a part starts before it ends, and ends within the list
pub part_lies : (ends : List ℕ) (len i : ℕ) → AreEnds 0 ends len → i < length ends
    → (start_of ends i ≤ get_or ends i 0) × (get_or ends i 0 ≤ len)
part_lies ends len i is within =
    let lies = part-within 0 ends len i is within in
    (subst (λ (s : ℕ). s ≤ get_or ends i 0) (start_from-is ends i within) lies.0, lies.1)

-- ---- one more part

pub slice_range-append : {A : Type 0} → (items more : List A) (start end : ℕ) → start ≤ end
    → end ≤ length items → slice_range (items ++ more) start end ≡ slice_range items start end
slice_range-append items more start end ordered within =
    ap (take (end - start)) (drop-append-le start items more (omega (arith, ordered, within)))
    ∙ take-append-le (end - start) (drop start items) more
    (omega (arith, length-drop start items, ordered, within))

pub slice_range-last : {A : Type 0} → (items more : List A)
    → slice_range (items ++ more) (length items) (length (items ++ more)) ≡ more
slice_range-last items more =
    ap (take (length (items ++ more) - length items)) (drop-append_seam items more)
    ∙ take_all (length (items ++ more) - length items) more
    (omega (arith, length-append items more))

pub parts-push : {A : Type 0} → (items more : List A) (start : ℕ) (ends : List ℕ)
    → AreEnds start ends (length items)
    → parts (items ++ more) start (ends ++ length (items ++ more) ∷ [])
    ≡ parts items start ends ++ more ∷ []
parts-push items more start [] is =
    ap (λ s. slice_range (items ++ more) s (length (items ++ more)) ∷ []) is
    ∙ ap (λ part. part ∷ []) (slice_range-last items more)
parts-push items more start (end ∷ ends) is =
    let low = ends-le end ends (length items) is.1 in
    let kept = slice_range-append items more start end is.0 low in
    let all = ends ++ length (items ++ more) ∷ [] in
    ap (λ part. part ∷ parts (items ++ more) end all) kept
    ∙ ap (λ others. slice_range items start end ∷ others) (parts-push items more end ends is.1)

pub ends-push : (start : ℕ) (ends : List ℕ) (len more : ℕ) → AreEnds start ends len → len ≤ more
    → AreEnds start (ends ++ more ∷ []) more
ends-push start [] len more is longer = (omega (arith, is, longer), refl)
ends-push start (end ∷ ends) len more is longer = (is.0, ends-push end ends len more is.1 longer)

-- one more list, by what the code appends
pub pushed : {A : Type 0} → (items more : List A) (ends : List ℕ) (items' : List A) (ends' : List ℕ)
    → AreEnds 0 ends (length items) → items' ≡ items ++ more → ends' ≡ ends ++ length items' ∷ []
    → AreEnds 0 ends' (length items') × (parts items' 0 ends' ≡ parts items 0 ends ++ more ∷ [])
pushed {A} items more ends items' ends' is at_items at_ends =
    let all = items ++ more in
    let at_ends' : ends' ≡ ends ++ length all ∷ [] =
    at_ends ∙ ap (λ (ls : List A). ends ++ length ls ∷ []) at_items in
    let longer : length items ≤ length all = omega (arith, length-append items more) in
    let set : AreEnds 0 (ends ++ length all ∷ []) (length all) =
    ends-push 0 ends (length items) (length all) is longer in (
      let P : List ℕ → Type 0 = λ es. AreEnds 0 es (length items') in
          let Q : List A → Type 0 = λ ls. AreEnds 0 (ends ++ length all ∷ []) (length ls) in
          subst P (sym at_ends') (subst Q (sym at_items) set),
      (λ i. parts (at_items i) 0 (at_ends' i)) ∙ parts-push items more 0 ends is,
    )

-- ---- the parts of other items

slice_range-map : {A B : Type 0} → (f : A → B) (items : List A) (start end : ℕ)
    → slice_range (map f items) start end ≡ map f (slice_range items start end)
slice_range-map f items start end =
    ap (take (end - start)) (drop-map f start items) ∙ take-map f (end - start) (drop start items)

-- the parts of what items become are what the parts become
pub parts-map : {A B : Type 0} → (f : A → B) (items : List A) (start : ℕ) (ends : List ℕ)
    → parts (map f items) start ends ≡ map (map f) (parts items start ends)
parts-map f items start [] = refl
parts-map f items start (end ∷ ends) =
    λ i. slice_range-map f items start end i ∷ parts-map f items end ends i
