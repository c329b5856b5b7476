-- Rows of couplings, one after another: their places, and the first coupling without joined qubits.
use Rattle.embedding_check.proofs.Common.{nat_tests, ◌≡◌, ℕ, zero, suc, ◌+◌, ◌-◌, ◌<◌, inl, inr, List, [], ◌∷◌, ◌++◌, length, get_or, take, drop, All, sym, ap, subst, append_assoc, ◌∙◌, arith, AllZip, flat_map, cases_lt, length-append, get_or_append_left, get_or-append-add, take-append-drop, take_more, drop_more, flat_map-append, Entry, in_rows, rows_of, joined_rows, rows_before, Joins, IsCoupled, IsUncoupled, pos}

-- what a place past the end reads as
abbrev pub no_entry : Entry
no_entry = record { first = 0; second = 0; weight = pos 0 }

-- ---- no row is empty

some_in_rows : (e : Entry) (rows : List (List Entry))
    → ((i : ℕ) → i < length rows → 0 < length (get_or rows i []))
    → (i : ℕ) → i < length (in_rows e rows) → 0 < length (get_or (in_rows e rows) i [])
some_in_rows e [] all i h = grind (arith, nat_tests)
some_in_rows e ([] ∷ rows) all zero h = omega arith
some_in_rows e ([] ∷ rows) all (suc i) h = all (suc i) h
some_in_rows e ((f ∷ row) ∷ rows) all zero h = grind (arith, nat_tests)
some_in_rows e ((f ∷ row) ∷ rows) all (suc i) h = let here = all i in let there = all (suc i) in grind (arith, nat_tests)

pub some_in_row : (es : List Entry) (i : ℕ) → i < length (rows_of es)
    → 0 < length (get_or (rows_of es) i [])
some_in_row [] i h = absurd (omega (arith, h))
some_in_row (e ∷ es) i h = some_in_rows e (rows_of es) (some_in_row es) i h

-- ---- a row stands between those before and after it

abbrev rows_after : List Entry → ℕ → List Entry
rows_after es k = flat_map (λ row. row) (drop (k + 1) (rows_of es))

abbrev row_at : List Entry → ℕ → List Entry
row_at es k = get_or (rows_of es) k []

row_between : (es : List Entry) (k : ℕ) → k < length (rows_of es)
    → es ≡ rows_before es k ++ (row_at es k ++ rows_after es k)
row_between es k h =
    sym (joined_rows es)
    ∙ ap (flat_map (λ (row : List Entry). row)) (sym (take-append-drop k (rows_of es)))
    ∙ flat_map-append (λ (row : List Entry). row) (take k (rows_of es)) (drop k (rows_of es))
    ∙ ap (λ rows. rows_before es k ++ flat_map (λ (row : List Entry). row) rows) (drop_more (rows_of es) k [] h)

at_between : (xs ys zs : List Entry) (i : ℕ) (d : Entry) → i < length ys
    → get_or (xs ++ (ys ++ zs)) (length xs + i) d ≡ get_or ys i d
at_between xs ys zs i d h = get_or-append-add xs (ys ++ zs) i d ∙ get_or_append_left ys zs d i h

pub all_in_row : (P : Entry → Type 0) (es : List Entry) (k : ℕ) → k < length (rows_of es) → All P es
    → All P (get_or (rows_of es) k [])
all_in_row P es k h all = λ i d low.
    let xs = rows_before es k in
    let ys = row_at es k in
    let zs = rows_after es k in
    let whole : All P (xs ++ (ys ++ zs)) = subst (λ (ds : List Entry). All P ds) (row_between es k h) all in
    subst P (at_between xs ys zs i d low)
    (whole (length xs + i) d (omega (arith, low, length-append xs (ys ++ zs), length-append ys zs)))

-- ---- places

zip_push : {A B : Type 0} (R : A → B → Type 0) (xs : List A) (ys : List B) (x : A) (y : B) → AllZip R xs ys
    → R x y → AllZip R (xs ++ x ∷ []) (ys ++ y ∷ [])
zip_push R [] [] x y all r = (r, tt)
zip_push R [] (z ∷ ys) x y all r = absurd all
zip_push R (w ∷ xs) [] x y all r = absurd all
zip_push R (w ∷ xs) (z ∷ ys) x y all r = (all.0, zip_push R xs ys x y all.1 r)

-- one coupling of a row more, and its place
pub placed_next : {A B : Type 0} (R : A → B → Type 0) (before row : List A) (k : ℕ) (d : A) (old new : List B) (y : B)
    → k < length row → new ≡ old ++ y ∷ [] → R (get_or row k d) y → AllZip R (before ++ take k row) old
    → AllZip R (before ++ take (k + 1) row) new
placed_next {A = A} R before row k d old new y below is here all =
    rw (is, take_more row k d below, ← append_assoc before (take k row) (get_or row k d ∷ []))
    (zip_push R (before ++ take k row) old (get_or row k d) y all here)

-- ---- faults

uncoupled_between : (joined : Joins) (map : List (List ℕ)) (xs ys zs : List Entry) (u v k : ℕ)
    → All (IsCoupled joined map) xs → IsUncoupled joined ys map u v k
    → IsUncoupled joined (xs ++ (ys ++ zs)) map u v (length xs + k)
uncoupled_between joined map xs ys zs u v k all first =
    let at = λ (j : ℕ) (d : Entry). at_between xs ys zs j d in
    record {
      below = omega (arith, first.below, length-append xs (ys ++ zs), length-append ys zs);
      bad = λ d coupled. first.bad d (rw (at k d first.below) at coupled);
      before = λ i d low. elim (cases_lt i (length xs)) [
        | inl inside ↦ rw (get_or_append_left xs (ys ++ zs) d i inside) (all i d inside)
        | inr past ↦
            let j = i - length xs in
            let is : i ≡ length xs + j = omega (arith, past) in
            let less : j < k = omega (arith, past, low) in
            rw is (rw (at j d (omega (arith, less, first.below))) (first.before j d less))
      ];
      first = λ d. rw (at k d first.below) (first.first d);
      second = λ d. rw (at k d first.below) (first.second d);
    }

-- the first coupling of a row without joined qubits is that of all, where those before have some
pub uncoupled_in_row : (joined : Joins) (map : List (List ℕ)) (es : List Entry) (r u v k : ℕ)
    → r < length (rows_of es) → All (IsCoupled joined map) (rows_before es r)
    → IsUncoupled joined (get_or (rows_of es) r []) map u v k
    → IsUncoupled joined es map u v (length (rows_before es r) + k)
uncoupled_in_row joined map es r u v k h all first =
    subst (λ ds. IsUncoupled joined ds map u v (length (rows_before es r) + k)) (sym (row_between es r h))
    (uncoupled_between joined map (rows_before es r) (row_at es r) (rows_after es r) u v k all first)
