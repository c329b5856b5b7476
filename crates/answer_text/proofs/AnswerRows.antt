-- A text grows by the rows of an answer.
use Rattle.answer_text.proofs.Common.{nat_tests, ◌≡◌, ℕ, ℤ, codes, Option, ◌+◌, ◌<◌, ◌≤◌, Bool, List, [], ◌∷◌, ◌++◌, length, drop, get_or, Some, ap, ◌∙◌, arith, append-nil, append_assoc, slice_get, min, zip, get_or-map, drop_all, drop_more, length-map, get_or_from_slice_get, slice_get_within, get_or-zip, length-zip, Row, row_text, rows_text, signed_decimal, flat_map-append, assignment_row, name_row, name_rows, named_rows, optimum_rows}
use Rattle.base.specs.declared.costs.Cost.TheVariants.{Whole}

-- the row of a name and its bit
abbrev pair_row : List ℕ × Bool → Row
pair_row pair = name_row pair.0 pair.1

length-named_rows : (names : List (List ℕ)) (bits : List Bool)
    → length (named_rows names bits) ≡ min (length names) (length bits)
length-named_rows names bits = length-map (zip names bits) pair_row ∙ length-zip names bits

-- the rows from a place on begin with the row of that place
rows_left : (names : List (List ℕ)) (bits : List Bool) (i : ℕ) (name : List ℕ) (d : Bool)
    → slice_get names i ≡ Some name → i < length bits → drop i (named_rows names bits)
    ≡ name_row name (get_or bits i d) ∷ drop (i + 1) (named_rows names bits)
rows_left names bits i name d named within =
    let rows = named_rows names bits in
    let known : i < length names = slice_get_within names i name named in
    let below : i < length rows = rw (length-named_rows names bits) (grind arith) in
    let row : get_or rows i (name_row name d) ≡ name_row name (get_or bits i d) =
    get_or-map pair_row (zip names bits) i (name, d)
    ∙ ap pair_row (get_or-zip names bits i (name, d) known within)
    ∙ ap (λ (first : List ℕ). name_row first (get_or bits i d))
    (get_or_from_slice_get names i name name named) in
    drop_more rows i (name_row name d) below ∙ ap (λ (first : Row). first ∷ drop (i + 1) rows) row

pub name_added : (old text more : List ℕ) (names : List (List ℕ)) (bits : List Bool) (i : ℕ)
    (name : List ℕ) (d : Bool) → slice_get names i ≡ Some name → i < length bits
    → text ++ rows_text (drop i (named_rows names bits)) ≡ old ++ rows_text (named_rows names bits)
    → more ≡ text ++ row_text (name_row name (get_or bits i d))
    → more ++ rows_text (drop (i + 1) (named_rows names bits))
    ≡ old ++ rows_text (named_rows names bits)
name_added old text more names bits i name d named within so_far added =
    grind (arith, nat_tests, append_assoc, rows_left)

pub names_done : (old text : List ℕ) (names : List (List ℕ)) (bits : List Bool) (i : ℕ)
    → min (length names) (length bits) ≤ i
    → text ++ rows_text (drop i (named_rows names bits)) ≡ old ++ rows_text (named_rows names bits)
    → text ≡ old ++ rows_text (named_rows names bits)
names_done old text names bits i beyond whole =
    grind (arith, nat_tests, drop_all, length-named_rows, append-nil)

-- an assignment, its names and the row of its cost are the rows of an optimum
pub optimum_added : (old first second third : List ℕ) (x : List Bool)
    (names : Option (List (List ℕ))) (value : ℤ) → first ≡ old ++ row_text (assignment_row x)
    → second ≡ first ++ rows_text (name_rows names x)
    → third ≡ second ++ row_text (codes "optimum" ∷ signed_decimal value ∷ [])
    → third ≡ old ++ rows_text (optimum_rows x names (Whole value))
optimum_added old first second third x names value one two three =
    let head = row_text (assignment_row x) in
    let named = rows_text (name_rows names x) in
    let cost : Row = codes "optimum" ∷ signed_decimal value ∷ [] in
    let all : rows_text (name_rows names x ++ (cost ∷ [])) ≡ named ++ row_text cost =
    flat_map-append row_text (name_rows names x) (cost ∷ [])
    ∙ ap (λ (l : List ℕ). named ++ l) (append-nil (row_text cost)) in
    rw (three, two, one, all)
    (append_assoc (old ++ head) named (row_text cost) ∙ append_assoc old head (named ++ row_text cost))
