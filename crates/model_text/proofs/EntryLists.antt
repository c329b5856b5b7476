-- Entries that are gone through by index: those of a row, and rows one after another.
use Rattle.model_text.proofs.Common.{nat_tests, arith, ◌≡◌, ℕ, ◌+◌, ◌<◌, ℤ, List, [], ◌++◌, length, get_or, drop, map, ap, flat_map, drop_more, map-append, flat_map-append, Entry, rows_of, joined_rows, row_text, rows_text, entry_row}

-- the text of entries
abbrev pub entries_text : List Entry → List ℕ
entries_text es = rows_text (map entry_row es)

pub entries_text-append : (es ds : List Entry) → entries_text (es ++ ds) ≡ entries_text es ++ entries_text ds
entries_text-append es ds = grind (arith, nat_tests, map-append, flat_map-append)

-- ---- a row

-- an entry by its fields
pub entry_is : (e : Entry) (f s : ℕ) (w : ℤ) → e.first ≡ f → e.second ≡ s → e.weight ≡ w
    → e ≡ record { first = f; second = s; weight = w }
entry_is e f s w a b c = grind (arith, nat_tests)

-- the text of what is left, of which one entry is put
pub entry_left : (row : List Entry) (k : ℕ) (e : Entry) → k < length row → get_or row k e ≡ e
    → entries_text (drop k row) ≡ row_text (entry_row e) ++ entries_text (drop (k + 1) row)
entry_left row k e below is = grind (arith, nat_tests, drop_more)

-- ---- rows one after another

-- the entries of the rows from this one on
abbrev pub rows_from : List Entry → ℕ → List Entry
rows_from es k = flat_map (λ row. row) (drop k (rows_of es))

pub row_left : (es : List Entry) (k : ℕ) → k < length (rows_of es)
    → rows_from es k ≡ get_or (rows_of es) k [] ++ rows_from es (k + 1)
row_left es k below = grind (arith, nat_tests, drop_more)

pub row_text_left : (es row : List Entry) (k : ℕ) → k < length (rows_of es) → row ≡ get_or (rows_of es) k []
    → entries_text (rows_from es k) ≡ entries_text row ++ entries_text (rows_from es (k + 1))
row_text_left es row k below is = grind (arith, nat_tests, row_left, entries_text-append)

pub row_text_first : (es : List Entry) → entries_text (rows_from es 0) ≡ entries_text es
row_text_first es = ap entries_text (joined_rows es)

-- ---- the two parts of a list

pub both_texts : (ns cs es : List Entry) → ns ++ cs ≡ es → entries_text es ≡ entries_text ns ++ entries_text cs
both_texts ns cs es is = grind (arith, nat_tests, entries_text-append)
