-- Entries that are written are read again, and the header counts them.
use Rattle.entry_reader.proofs.Common.{cases_Bool, ◌≡◌, ℕ, ◌+◌, ◌<◌, ◌≤◌, ◌^◌, Bool, true, false, cond, eqb, List, [], ◌∷◌, map, All, Ok, refl, arith, unsigned_abs, count_by, decimal, signed_decimal, nat_tests, All-tail, sum_by-cons, Entry, IsPlaced, is_node, is_coupler, word, AreInk, tokens_after, words_then, no_lines, decimal_ink, signed_ink, number_first, integer_again, natural_again, entry_row, Counts, node_at, one_fewer, counted, none_to_come, entries_at, listed_of}
use Rattle.entry_reader.proofs.Words.{three, three_words}

-- what the header of these entries counts
abbrev pub counts_of : ℕ → List Entry → Counts
counts_of nodes es = record {
  nodes = nodes;
  entries = count_by is_node es;
  couplers = count_by is_coupler es;
}

-- the number of a node is read again
node_again : (nodes line i : ℕ) → i < nodes → nodes < 2 ^ 64
    → node_at nodes (word line (decimal i)) ≡ Ok i
unfolding node_at
node_again nodes line i within small = grind (arith, nat_tests, natural_again)

-- ---- an entry is counted

count-cons : (p : Entry → Bool) (e : Entry) (es : List Entry)
    → count_by p (e ∷ es) ≡ cond (p e) 1 0 + count_by p es
count-cons p e es = sum_by-cons (λ (x : Entry). cond (p x) 1 0) e es

one_fewer-suc : (line k : ℕ) → one_fewer line (1 + k) ≡ Ok k
unfolding one_fewer
one_fewer-suc line k = grind (arith, nat_tests)

node_counted : (line nodes n k i j : ℕ) → eqb i j ≡ true
    → counted line (record { nodes = nodes; entries = 1 + n; couplers = k }) i j
    ≡ Ok (record { nodes = nodes; entries = n; couplers = k })
unfolding counted
node_counted line nodes n k i j same = rw (same, one_fewer-suc line n) refl

coupler_counted : (line nodes n k i j : ℕ) → eqb i j ≡ false
    → counted line (record { nodes = nodes; entries = n; couplers = 1 + k }) i j
    ≡ Ok (record { nodes = nodes; entries = n; couplers = k })
unfolding counted
coupler_counted line nodes n k i j other = rw (other, one_fewer-suc line k) refl

counted_again : (line nodes : ℕ) (e : Entry) (es : List Entry) → e.first ≤ e.second
    → counted line (counts_of nodes (e ∷ es)) e.first e.second ≡ Ok (counts_of nodes es)
counted_again line nodes e es upward =
    let nodes_are = count-cons is_node e es in
    let couplers_are = count-cons is_coupler e es in
    grind (arith, nat_tests, node_counted, coupler_counted, cases_Bool (eqb e.first e.second))

-- ---- an entry is read

three_again : (line nodes : ℕ) (e : Entry) (es : List Entry) → nodes < 2 ^ 32 → IsPlaced nodes e
    → unsigned_abs e.weight < 2 ^ 64
    → three (counts_of nodes (e ∷ es)) (word line (decimal e.first)) (word line (decimal e.second))
    (word line (signed_decimal e.weight)) ≡ Ok (listed_of e, counts_of nodes es)
three_again line nodes e es few placed small =
    grind (arith, nat_tests, node_again, counted_again, integer_again)

row_is_ink : (nodes : ℕ) (e : Entry) → nodes < 2 ^ 32 → IsPlaced nodes e
    → unsigned_abs e.weight < 2 ^ 64 → AreInk (entry_row e)
row_is_ink nodes e few placed small =
    let first = decimal_ink e.first (omega (arith, placed.upward, placed.within)) in
    (first, (decimal_ink e.second (omega (arith, placed.within)), (signed_ink e.weight small, tt)))

abbrev pub AreSmall : List Entry → Type 0
AreSmall es = All (λ e. unsigned_abs e.weight < 2 ^ 64) es

pub entries_again : (end line nodes : ℕ) (es : List Entry) → nodes < 2 ^ 32
    → All (IsPlaced nodes) es → AreSmall es
    → entries_at end (counts_of nodes es) (tokens_after line (map entry_row es))
    ≡ Ok (map listed_of es)
unfolding entries_at none_to_come
entries_again end line nodes [] few placed small = rw (no_lines line) refl
entries_again end line nodes (e ∷ es) few placed small =
    let place : IsPlaced nodes e = placed 0 e (omega arith) in
    let size : unsigned_abs e.weight < 2 ^ 64 = small 0 e (omega arith) in
    let cut = words_then line (decimal e.first) (decimal e.second ∷ signed_decimal e.weight ∷ [])
    (map entry_row es) (row_is_ink nodes e few place size)
    (number_first e.first (decimal e.second ∷ signed_decimal e.weight ∷ [])
    (omega (arith, place.upward, place.within))) in
    let more = entries_again end (line + 1) nodes es few (All-tail (IsPlaced nodes) e es placed)
    (All-tail (λ (x : Entry). unsigned_abs x.weight < 2 ^ 64) e es small) in
    grind (arith, nat_tests, three_words, three_again)
