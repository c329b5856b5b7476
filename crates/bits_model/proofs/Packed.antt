-- Couplers that are held row by row: one more of them, and those that are left.
use Rattle.bits_model.proofs.Common.{nat_tests, ints, ◌≡◌, ℕ, zero, suc, ◌+◌, ◌-◌, ◌<◌, ◌≤◌, true, false, eqb, ℤ, pos, List, [], ◌∷◌, ◌++◌, length, take, drop, get_or, map, int_div, replicate, refl, ap, ◌∙◌, append_assoc, append-nil, length-append, arith, eqb-true, eqb-false, replicate_more, length-replicate, drop_more, length-drop, get_or-drop, take_all, Some, slice_get, Entry, RowStart, end_before, firsts_of, coupled, AreRows, IsPacked, packed_entries, last_is, IsInFirst, entries_left, row_entries, IsWithin, divided}

-- ---- lists of first nodes, second nodes and weights

pub length-coupled : (fs ss : List ℕ) (ws : List ℤ) → length fs ≡ length ss → length ws ≡ length ss
    → length (coupled fs ss ws) ≡ length ss
length-coupled [] [] ws p q = refl
length-coupled [] (s ∷ ss) ws p q = absurd (omega arith)
length-coupled (f ∷ fs) [] ws p q = absurd (omega arith)
length-coupled (f ∷ fs) (s ∷ ss) [] p q = absurd (omega arith)
length-coupled (f ∷ fs) (s ∷ ss) (w ∷ ws) p q =
    ap suc (length-coupled fs ss ws (omega arith) (omega arith))

-- one more of each
coupled_push : (fs ss : List ℕ) (ws : List ℤ) (f s : ℕ) (w : ℤ)
    → length fs ≡ length ss → length ws ≡ length ss
    → coupled (fs ++ f ∷ []) (ss ++ s ∷ []) (ws ++ w ∷ [])
    ≡ coupled fs ss ws ++ record { first = f; second = s; weight = w } ∷ []
coupled_push [] [] [] f s w p q = refl
coupled_push [] [] (v ∷ ws) f s w p q = absurd (omega arith)
coupled_push [] (t ∷ ss) ws f s w p q = absurd (omega arith)
coupled_push (g ∷ fs) [] ws f s w p q = absurd (omega arith)
coupled_push (g ∷ fs) (t ∷ ss) [] f s w p q = absurd (omega arith)
coupled_push (g ∷ fs) (t ∷ ss) (v ∷ ws) f s w p q =
    grind (arith, nat_tests, ints, coupled_push fs ss ws f s w (omega arith) (omega arith))

-- ---- rows

pub end_low : (n : ℕ) (rs : List RowStart) → AreRows n rs → end_before n rs ≤ n
end_low n [] a = omega arith
end_low n (r ∷ rs) a = omega (arith, a.0, end_low n rs a.2)

pub length-firsts : (n : ℕ) (rs : List RowStart) → AreRows n rs
    → length (firsts_of n rs) + end_before n rs ≡ n
length-firsts n [] a = omega arith
length-firsts n (r ∷ rs) a =
    grind (arith, nat_tests, length-firsts n rs a.2, length-append, length-replicate)

-- each entry has its first node
pub firsts_whole : (n : ℕ) (rs : List RowStart) → AreRows n rs → end_before n rs ≡ 0
    → length (firsts_of n rs) ≡ n
firsts_whole n rs a w = omega (arith, length-firsts n rs a)

-- ---- one more entry

-- the last row is longer by one
pub firsts_longer : (n f : ℕ) (rs : List RowStart) → AreRows n rs → last_is f rs ≡ true
    → firsts_of (n + 1) rs ≡ firsts_of n rs ++ f ∷ []
firsts_longer n f [] a l = absurd cc
firsts_longer n f (r ∷ []) a l = grind (arith, nat_tests, eqb-true, append-nil, replicate_more)
firsts_longer n f (r ∷ s ∷ rs) a l =
    grind (arith, nat_tests, firsts_longer n f (s ∷ rs) a.2 l, append_assoc)

-- there is one more row
pub firsts_begun : (n f : ℕ) (rs : List RowStart)
    → firsts_of (n + 1) (rs ++ record { first = f; start = n } ∷ []) ≡ firsts_of n rs ++ f ∷ []
firsts_begun n f [] = grind (arith, nat_tests)
firsts_begun n f (r ∷ []) = grind (arith, nat_tests, firsts_begun n f [], append-nil)
firsts_begun n f (r ∷ s ∷ rs) = grind (arith, nat_tests, firsts_begun n f (s ∷ rs), append_assoc)

pub rows_longer : (n : ℕ) (rs : List RowStart) → AreRows n rs → AreRows (n + 1) rs
rows_longer n [] a = tt
rows_longer n (r ∷ []) a = (omega (arith, a.0), tt, tt)
rows_longer n (r ∷ s ∷ rs) a = (a.0, a.1, rows_longer n (s ∷ rs) a.2)

pub rows_begun : (n f : ℕ) (rs : List RowStart) → AreRows n rs → last_is f rs ≡ false
    → AreRows (n + 1) (rs ++ record { first = f; start = n } ∷ [])
rows_begun n f [] a l = (omega arith, tt, tt)
rows_begun n f (r ∷ []) a l = (a.0, (λ e. eqb-false r.first f l e), (omega arith, tt, tt))
rows_begun n f (r ∷ s ∷ rs) a l = (a.0, a.1, rows_begun n f (s ∷ rs) a.2 l)

-- the last row, by its index
pub last_is_at : (f : ℕ) (rs : List RowStart) (r : RowStart)
    → Some r ≡ slice_get rs (length rs - 1) → eqb r.first f ≡ last_is f rs
last_is_at f [] r e = absurd cc
last_is_at f (s ∷ []) r e = grind (arith, nat_tests)
last_is_at f (s ∷ t ∷ rs) r e =
    let later : length (s ∷ t ∷ rs) - 1 ≡ suc (length (t ∷ rs) - 1) = omega arith in
    last_is_at f (t ∷ rs) r (e ∙ ap (slice_get (s ∷ t ∷ rs)) later)

-- where there are rows, they begin where they began
same_end : (n m f : ℕ) (rs : List RowStart) → last_is f rs ≡ true → end_before m rs ≡ end_before n rs
same_end n m f [] l = absurd cc
same_end n m f (r ∷ rs) l = refl

begun_end : (n f : ℕ) (rs : List RowStart) → end_before n rs ≡ 0
    → end_before (n + 1) (rs ++ record { first = f; start = n } ∷ []) ≡ 0
begun_end n f [] e = e
begun_end n f (r ∷ rs) e = e

one_more : {X : Type 0} (xs : List X) (x : X) → length (xs ++ x ∷ []) ≡ length xs + 1
one_more xs x = length-append xs (x ∷ [])

-- an entry of the last row
pub packed_longer : (rs : List RowStart) (ss : List ℕ) (ws : List ℤ) (f s : ℕ) (w : ℤ)
    → IsPacked rs ss ws → last_is f rs ≡ true → packed_entries rs (ss ++ s ∷ []) (ws ++ w ∷ [])
    ≡ packed_entries rs ss ws ++ record { first = f; second = s; weight = w } ∷ []
packed_longer rs ss ws f s w p l =
    rw (one_more ss s, firsts_longer (length ss) f rs p.rows l)
    (coupled_push (firsts_of (length ss) rs) ss ws f s w (firsts_whole (length ss) rs p.rows p.whole) p.weighed)

pub longer_is_packed : (rs : List RowStart) (ss : List ℕ) (ws : List ℤ) (f s : ℕ) (w : ℤ)
    → IsPacked rs ss ws → last_is f rs ≡ true → IsPacked rs (ss ++ s ∷ []) (ws ++ w ∷ [])
longer_is_packed rs ss ws f s w p l = record {
  rows = rw (one_more ss s) (rows_longer (length ss) rs p.rows);
  whole = same_end (length ss) (length (ss ++ s ∷ [])) f rs l ∙ p.whole;
  weighed = omega (arith, one_more ss s, one_more ws w, p.weighed);
}

-- an entry of a new row
pub packed_begun : (rs : List RowStart) (ss : List ℕ) (ws : List ℤ) (f s : ℕ) (w : ℤ)
    → IsPacked rs ss ws
    → packed_entries (rs ++ record { first = f; start = length ss } ∷ []) (ss ++ s ∷ []) (ws ++ w ∷ [])
    ≡ packed_entries rs ss ws ++ record { first = f; second = s; weight = w } ∷ []
packed_begun rs ss ws f s w p =
    grind (arith, nat_tests, ints, one_more, firsts_begun, coupled_push, firsts_whole)

pub begun_is_packed : (rs : List RowStart) (ss : List ℕ) (ws : List ℤ) (f s : ℕ) (w : ℤ)
    → IsPacked rs ss ws → last_is f rs ≡ false
    → IsPacked (rs ++ record { first = f; start = length ss } ∷ []) (ss ++ s ∷ []) (ws ++ w ∷ [])
begun_is_packed rs ss ws f s w p l = record {
  rows = rw (one_more ss s) (rows_begun (length ss) f rs p.rows l);
  whole = rw (one_more ss s) (begun_end (length ss) f rs p.whole);
  weighed = omega (arith, one_more ss s, one_more ws w, p.weighed);
}

pub length-packed : (rs : List RowStart) (ss : List ℕ) (ws : List ℤ) → IsPacked rs ss ws
    → length (packed_entries rs ss ws) ≡ length ss
length-packed rs ss ws p = grind (arith, nat_tests, ints, length-coupled, firsts_whole)

-- ---- what is left

-- the first entry that is left
pub next_left : (r : RowStart) (rs : List RowStart) (at : ℕ) (ss : List ℕ) (ws : List ℤ)
    → at < end_before (length ss) rs → end_before (length ss) rs ≤ length ss → length ws ≡ length ss
    → entries_left (r ∷ rs) at ss ws
    ≡ record { first = r.first; second = get_or ss at 0; weight = get_or ws at (pos 0) }
    ∷ entries_left (r ∷ rs) (at + 1) ss ws
next_left r rs at ss ws h l w = grind (arith, nat_tests, ints, drop_more)

-- past a row, its successors are left
pub row_done : (r : RowStart) (rs : List RowStart) (at : ℕ) (ss : List ℕ) (ws : List ℤ)
    → at + 1 ≡ end_before (length ss) rs
    → entries_left (r ∷ rs) (at + 1) ss ws ≡ entries_left rs (at + 1) ss ws
row_done r rs is ss ws e = grind (arith, nat_tests, ints)

-- the same where rows are a list that is not empty
pub next_of_left : (rows : List RowStart) (d : RowStart) (at : ℕ) (ss : List ℕ) (ws : List ℤ)
    → 1 ≤ length rows → IsInFirst (length ss) at rows → length ws ≡ length ss
    → entries_left rows at ss ws
    ≡ record { first = (get_or rows 0 d).first; second = get_or ss at 0; weight = get_or ws at (pos 0) }
    ∷ entries_left rows (at + 1) ss ws
next_of_left [] d at ss ws h i w = absurd (omega arith)
next_of_left (r ∷ rs) d at ss ws h i w = next_left r rs at ss ws i.0 (end_low (length ss) rs i.1) w

pub past_first : (rows : List RowStart) (at : ℕ) (ss : List ℕ) (ws : List ℤ)
    → 1 ≤ length rows → at + 1 ≡ end_before (length ss) (drop 1 rows)
    → entries_left rows (at + 1) ss ws ≡ entries_left (drop 1 rows) (at + 1) ss ws
past_first [] at ss ws h e = absurd (omega arith)
past_first (r ∷ rs) at ss ws h e = row_done r rs at ss ws e

-- what is left of a slice after its first row
pub later_rows : (rows : List RowStart) → take (length rows - 1) (drop 1 rows) ≡ drop 1 rows
later_rows rows = take_all (length rows - 1) (drop 1 rows) (omega (arith, length-drop 1 rows))

pub left_below : (n at : ℕ) (rows : List RowStart) → 1 ≤ length rows → IsInFirst n at rows → at < n
left_below n at [] h i = absurd (omega arith)
left_below n at (r ∷ rs) h i = omega (arith, i.0, end_low n rs i.1)

-- before the first entry, all are left
pub all_left : (rs : List RowStart) (ss : List ℕ) (ws : List ℤ) → IsPacked rs ss ws
    → entries_left rs 0 ss ws ≡ packed_entries rs ss ws
all_left [] ss ws p = refl
all_left (r ∷ rs) ss ws p = rw (p.whole) refl

-- ---- one row

pub length-row : (f n : ℕ) (ss : List ℕ) (ws : List ℤ) → n ≤ length ss → n ≤ length ws
    → length (coupled (replicate n f) ss ws) ≡ n
length-row f zero ss ws h k = refl
length-row f (suc n) [] ws h k = absurd (omega arith)
length-row f (suc n) (s ∷ ss) [] h k = absurd (omega arith)
length-row f (suc n) (s ∷ ss) (w ∷ ws) h k = ap suc (length-row f n ss ws (omega arith) (omega arith))

pub row_at : (f n i : ℕ) (ss : List ℕ) (ws : List ℤ) (d : Entry) → i < n → n ≤ length ss
    → n ≤ length ws → get_or (coupled (replicate n f) ss ws) i d
    ≡ record { first = f; second = get_or ss i 0; weight = get_or ws i (pos 0) }
row_at f zero i ss ws d l h k = absurd (omega arith)
row_at f (suc n) i [] ws d l h k = absurd (omega arith)
row_at f (suc n) i (s ∷ ss) [] d l h k = absurd (omega arith)
row_at f (suc n) zero (s ∷ ss) (w ∷ ws) d l h k = refl
row_at f (suc n) (suc i) (s ∷ ss) (w ∷ ws) d l h k =
    row_at f n i ss ws d (omega arith) (omega arith) (omega arith)

pub length-row_entries : (f a b : ℕ) (ss : List ℕ) (ws : List ℤ) → IsWithin a b ss ws
    → length (row_entries f a b ss ws) ≡ b - a
length-row_entries f a b ss ws w = grind (arith, nat_tests, ints, length-row, length-drop)

pub row_index_below : (f a b i : ℕ) (ss : List ℕ) (ws : List ℤ) (es : List Entry)
    → IsWithin a b ss ws → row_entries f a b ss ws ≡ es → i < length es → a + i < length ss
row_index_below f a b i ss ws es w e h =
    omega (arith, length-row_entries f a b ss ws w, ap length e, h, w.ordered, w.within)

pub row_entries_at : (f a b i : ℕ) (ss : List ℕ) (ws : List ℤ) (d : Entry) → IsWithin a b ss ws
    → i < length (row_entries f a b ss ws) → get_or (row_entries f a b ss ws) i d
    ≡ record { first = f; second = get_or ss (a + i) 0; weight = get_or ws (a + i) (pos 0) }
row_entries_at f a b i ss ws d w h =
    grind (arith, nat_tests, ints, row_at, length-row_entries, length-drop, get_or-drop)

-- ---- divided weights

pub coupled_divided : (unit : ℤ) (fs ss : List ℕ) (ws : List ℤ)
    → coupled fs ss (map (λ w. int_div w unit) ws) ≡ map (divided unit) (coupled fs ss ws)
coupled_divided unit [] ss ws = refl
coupled_divided unit (f ∷ fs) [] ws = refl
coupled_divided unit (f ∷ fs) (s ∷ ss) [] = refl
coupled_divided unit (f ∷ fs) (s ∷ ss) (w ∷ ws) =
    grind (arith, nat_tests, ints, coupled_divided unit fs ss ws)
