-- A text grows by the rows of a summary.
use Rattle.model_text.proofs.Common.{nat_tests, ints, arith, ◌≡◌, ℕ, ℤ, List, [], ◌∷◌, ◌++◌, append-nil, append_assoc, flat_map-append, Row, row_text, rows_text, summary_row}

row_added : (old text more : List ℕ) (rows : List Row) (row : Row)
    → text ≡ old ++ rows_text rows → more ≡ text ++ row_text row
    → more ≡ old ++ rows_text (rows ++ row ∷ [])
row_added old text more rows row so_far added =
    grind (arith, nat_tests, append-nil, flat_map-append, append_assoc)

pub number_added : (old text more name : List ℕ) (rows : List Row) (z value : ℤ)
    → text ≡ old ++ rows_text rows → more ≡ text ++ row_text (summary_row name z) → z ≡ value
    → more ≡ old ++ rows_text (rows ++ summary_row name value ∷ [])
number_added old text more name rows z value so_far added same =
    grind (arith, nat_tests, ints, row_added)
