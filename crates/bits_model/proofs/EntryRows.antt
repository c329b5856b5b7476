-- The rows of couplers are the longest stretches of entries with one first node.
use Rattle.bits_model.proofs.Common.{nat_tests, ints, elements, ◌≡◌, ◌≢◌, ℕ, zero, suc, ◌+◌, ◌-◌, ◌<◌, ◌≤◌, ℤ, List, [], ◌∷◌, ◌++◌, length, take, drop, get_or, replicate, append-nil, refl, ap, ◌∙◌, arith, flat_map, length-drop, drop-drop, take_more, take_all, flat_map-append, Entry, RowStart, in_rows, rows_of, end_before, firsts_of, coupled, IsOther, AreRows, IsPacked, packed_entries, row_entries, IsWithin, RowsMakeUp}
use Rattle.bits_model.proofs.Packed.{end_low}

-- ---- rows one after another

joined-in_rows : (e : Entry) (rows : List (List Entry))
    → flat_map (λ row. row) (in_rows e rows) ≡ e ∷ flat_map (λ row. row) rows
joined-in_rows e rows = grind (arith, nat_tests)

pub joined_rows : RowsMakeUp
joined_rows [] = refl
joined_rows (e ∷ es) = joined-in_rows e (rows_of es) ∙ ap (λ ds. e ∷ ds) (joined_rows es)

abbrev pub rows_before : List Entry → ℕ → List Entry
rows_before es k = flat_map (λ row. row) (take k (rows_of es))

pub rows_more : (es : List Entry) (k : ℕ) → k < length (rows_of es)
    → rows_before es (k + 1) ≡ rows_before es k ++ get_or (rows_of es) k []
rows_more es k h =
    grind (arith, nat_tests, take_more (rows_of es) k, flat_map-append, append-nil (get_or (rows_of es) k []))

pub rows_all : (es : List Entry) (k : ℕ) → length (rows_of es) ≡ k → rows_before es k ≡ es
rows_all es k e =
    ap (flat_map (λ (row : List Entry). row)) (take_all k (rows_of es) (omega (arith, e))) ∙ joined_rows es

-- ---- one row before others

-- what follows is a row of another node
abbrev pub BeginsOther : ℕ → List Entry → Type 0
BeginsOther f [] = Unit {0}
BeginsOther f (e ∷ es) = f ≢ e.first

alone : (e : Entry) (es : List Entry) → BeginsOther e.first es
    → in_rows e (rows_of es) ≡ (e ∷ []) ∷ rows_of es
alone e es b = grind (arith, nat_tests)

pub row_first : (f k : ℕ) (ss : List ℕ) (ws : List ℤ) (es : List Entry) → suc k ≤ length ss
    → suc k ≤ length ws → BeginsOther f es → rows_of (coupled (replicate (suc k) f) ss ws ++ es)
    ≡ coupled (replicate (suc k) f) ss ws ∷ rows_of es
row_first f k [] ws es h g b = absurd (omega arith)
row_first f k (s ∷ ss) [] es h g b = absurd (omega arith)
row_first f zero (s ∷ ss) (w ∷ ws) es h g b = alone (record { first = f; second = s; weight = w }) es b
row_first f (suc k) (s ∷ []) (w ∷ ws) es h g b = absurd (omega arith)
row_first f (suc k) (s ∷ t ∷ ss) (w ∷ []) es h g b = absurd (omega arith)
row_first f (suc k) (s ∷ t ∷ ss) (w ∷ v ∷ ws) es h g b =
    grind (arith, nat_tests, ints, elements, row_first f k (t ∷ ss) (v ∷ ws) es (omega arith) (omega arith) b)

-- a row, and the entries after it
row_then : (f k : ℕ) (fs ss : List ℕ) (ws : List ℤ) → k ≤ length ss → k ≤ length ws
    → coupled (replicate k f ++ fs) ss ws
    ≡ coupled (replicate k f) ss ws ++ coupled fs (drop k ss) (drop k ws)
row_then f zero fs ss ws h g = refl
row_then f (suc k) fs [] ws h g = absurd (omega arith)
row_then f (suc k) fs (s ∷ ss) [] h g = absurd (omega arith)
row_then f (suc k) fs (s ∷ ss) (w ∷ ws) h g =
    ap (λ es. record { first = f; second = s; weight = w } ∷ es) (row_then f k fs ss ws (omega arith) (omega arith))

-- ---- the rows that are held

abbrev row_lists : ℕ → List RowStart → List ℕ → List ℤ → List (List Entry)
row_lists n [] ss ws = []
row_lists n (r ∷ rs) ss ws = row_entries r.first r.start (end_before n rs) ss ws ∷ row_lists n rs ss ws

begins_other : (n f : ℕ) (rs : List RowStart) (ss : List ℕ) (ws : List ℤ) → AreRows n rs → IsOther f rs
    → BeginsOther f (coupled (firsts_of n rs) ss ws)
begins_other n f [] ss ws a o = tt
begins_other n f (r ∷ rs) ss ws a o =
    let some : end_before n rs - r.start ≡ suc (end_before n rs - r.start - 1) = omega (arith, a.0) in
    grind (arith, nat_tests, ints)

skipped : {X : Type 0} (a b : ℕ) (xs : List X) → a ≤ b → drop (b - a) (drop a xs) ≡ drop b xs
skipped a b xs h = grind (arith, nat_tests, drop-drop)

some_first : (f m : ℕ) (ss : List ℕ) (ws : List ℤ) (es : List Entry) → 1 ≤ m → m ≤ length ss
    → m ≤ length ws → BeginsOther f es
    → rows_of (coupled (replicate m f) ss ws ++ es) ≡ coupled (replicate m f) ss ws ∷ rows_of es
some_first f zero ss ws es o h g b = absurd (omega arith)
some_first f (suc k) ss ws es o h g b = row_first f k ss ws es h g b

held_rows : (rs : List RowStart) (ss : List ℕ) (ws : List ℤ) → AreRows (length ss) rs
    → length ws ≡ length ss
    → rows_of (coupled (firsts_of (length ss) rs) (drop (end_before (length ss) rs) ss) (drop (end_before (length ss) rs) ws))
    ≡ row_lists (length ss) rs ss ws
held_rows [] ss ws a w = refl
held_rows (r ∷ rs) ss ws a w =
    let n = length ss in
    let e = end_before n rs in
    let m = e - r.start in
    let low = end_low n rs a.2 in
    let held = drop r.start ss in
    let weights = drop r.start ws in
    let fits : m ≤ length held = omega (arith, length-drop r.start ss, low, a.0) in
    let weighed : m ≤ length weights = omega (arith, length-drop r.start ws, low, a.0, w) in
    let row = coupled (replicate m r.first) held weights in
    let rest = coupled (firsts_of n rs) (drop e ss) (drop e ws) in
    let split : coupled (replicate m r.first ++ firsts_of n rs) held weights ≡ row ++ rest =
    row_then r.first m (firsts_of n rs) held weights fits weighed
    ∙ (λ i. row ++ coupled (firsts_of n rs) (skipped r.start e ss (omega (arith, a.0)) i) (skipped r.start e ws (omega (arith, a.0)) i)) in
    ap rows_of split
    ∙ some_first r.first m held weights rest (omega (arith, a.0)) fits weighed (begins_other n r.first rs (drop e ss) (drop e ws) a.2 a.1)
    ∙ ap (λ rows. row ∷ rows) (held_rows rs ss ws a.2 w)

length-row_lists : (n : ℕ) (rs : List RowStart) (ss : List ℕ) (ws : List ℤ)
    → length (row_lists n rs ss ws) ≡ length rs
length-row_lists n [] ss ws = refl
length-row_lists n (r ∷ rs) ss ws = ap suc (length-row_lists n rs ss ws)

get_or-row_lists : (n i : ℕ) (rs : List RowStart) (ss : List ℕ) (ws : List ℤ) (d : RowStart)
    → i < length rs → get_or (row_lists n rs ss ws) i []
    ≡ row_entries (get_or rs i d).first (get_or rs i d).start (end_before n (drop (i + 1) rs)) ss ws
get_or-row_lists n i [] ss ws d h = absurd (omega arith)
get_or-row_lists n zero (r ∷ rs) ss ws d h = refl
get_or-row_lists n (suc i) (r ∷ rs) ss ws d h =
    let more : suc i + 1 ≡ suc (i + 1) = omega arith in
    rw more (get_or-row_lists n i rs ss ws d (omega arith))

packed_rows : (rs : List RowStart) (ss : List ℕ) (ws : List ℤ) → IsPacked rs ss ws
    → rows_of (packed_entries rs ss ws) ≡ row_lists (length ss) rs ss ws
packed_rows rs ss ws p = grind (arith, nat_tests, ints, held_rows)

-- there are as many rows as starts
pub row_count_is : (rs : List RowStart) (ss : List ℕ) (ws : List ℤ) (es : List Entry) → IsPacked rs ss ws
    → packed_entries rs ss ws ≡ es → length (rows_of es) ≡ length rs
row_count_is rs ss ws es p e = grind (arith, nat_tests, ints, packed_rows, length-row_lists)

-- one of them
pub row_is : (rs : List RowStart) (ss : List ℕ) (ws : List ℤ) (es : List Entry) (i : ℕ) (d : RowStart)
    → IsPacked rs ss ws → packed_entries rs ss ws ≡ es → i < length rs
    → row_entries (get_or rs i d).first (get_or rs i d).start (end_before (length ss) (drop (i + 1) rs)) ss ws
    ≡ get_or (rows_of es) i []
row_is rs ss ws es i d p e h = grind (arith, nat_tests, ints, get_or-row_lists, packed_rows)

row_below : (n i : ℕ) (rs : List RowStart) (d : RowStart) → AreRows n rs → i < length rs
    → ((get_or rs i d).start ≤ end_before n (drop (i + 1) rs)) × (end_before n (drop (i + 1) rs) ≤ n)
row_below n i [] d a h = absurd (omega arith)
row_below n zero (r ∷ rs) d a h = (omega (arith, a.0), end_low n rs a.2)
row_below n (suc i) (r ∷ rs) d a h =
    let more : suc i + 1 ≡ suc (i + 1) = omega arith in
    rw more (row_below n i rs d a.2 (omega arith))

pub row_within : (rs : List RowStart) (ss : List ℕ) (ws : List ℤ) (i : ℕ) (d : RowStart)
    → IsPacked rs ss ws → i < length rs
    → IsWithin (get_or rs i d).start (end_before (length ss) (drop (i + 1) rs)) ss ws
row_within rs ss ws i d p h =
    let below = row_below (length ss) i rs d p.rows h in
    record { ordered = below.0; within = below.1; weighed = p.weighed }
