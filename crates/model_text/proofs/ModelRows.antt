-- The rows of a model, and what they tell: its figures, its kind with the numbers of the graph, its
-- chains and its entries. The kinds are told apart by their headers, and a model on a graph by the
-- comment before its header.
use Rattle.model_text.proofs.Common.{all_append, nat_tests, ◌≡◌, ℕ, suc, ◌≤◌, ◌<◌, ◌^◌, ℤ, List, [], ◌∷◌, ◌++◌, map, All, refl, arith, rules, codes, count_by, unsigned_abs, AllByRecursion, decimal, recursion_from_All, sum_by-cons, Figures, Entry, Kind, Written, IsPlaced, FitsKind, IsWellFormed, is_node, is_coupler, weight_total, Row, figure_rows, chain_rows, graph_rows, kind_words, entry_row, model_rows, model_text, FitsFigures, FitsGraph, FitsFields, TextsTellModels}
use Rattle.model_text.proofs.RowTexts.{IsWord, IsRow, AreRows, rows_same}
use Rattle.model_text.proofs.Numerals.{decimal_word, signed_word, decimal_same, signed_same}

-- ---- no word of its rows has a space or a line feed

pub figures_are_rows : (figures : Figures) (unit : ℤ) (variables : ℕ)
    → AreRows (figure_rows figures unit variables)
figures_are_rows figures unit variables = search (rules, signed_word)

decimal_words : (ns : List ℕ) → AllByRecursion IsWord (map decimal ns)
decimal_words [] = tt
decimal_words (n ∷ ns) = (decimal_word n, decimal_words ns)

chains_are_rows : (node : ℕ) (chains : List (List ℕ)) → AreRows (chain_rows node chains)
chains_are_rows node [] = tt
chains_are_rows node (chain ∷ chains) =
    search (rules, decimal_word, decimal_words chain, chains_are_rows (suc node) chains)

pub graph_are_rows : (kind : Kind) (chains : List (List ℕ)) → AreRows (graph_rows kind chains)
graph_are_rows kind chains = grind (arith, nat_tests, decimal_word, chains_are_rows)

header_is_row : (kind : Kind) (counts : List ℕ) → IsRow (kind_words kind ++ map decimal counts)
header_is_row kind counts = grind (arith, nat_tests, decimal_words)

entries_are_rows : (entries : List Entry) → AreRows (map entry_row entries)
entries_are_rows [] = tt
entries_are_rows (e ∷ es) = search (rules, decimal_word, signed_word, entries_are_rows es)

-- what the header counts
abbrev counts_of : Written → List ℕ
counts_of m = m.nodes ∷ count_by is_node m.entries ∷ count_by is_coupler m.entries ∷ []

-- the rows after those of the figures, for a kind
abbrev later_rows : Kind → Written → List Row
later_rows kind m =
    graph_rows kind m.chains
    ++ (kind_words kind ++ map decimal (counts_of m)) ∷ map entry_row m.entries

model_are_rows : (m : Written) → AreRows (model_rows m)
model_are_rows m =
    all_append IsRow (figure_rows m.figures m.unit m.variables) _ (figures_are_rows m.figures m.unit m.variables)
    (all_append IsRow (graph_rows m.kind m.chains) _ (graph_are_rows m.kind m.chains)
    (header_is_row m.kind (counts_of m), entries_are_rows m.entries))

text_tells_rows : (m n : Written) → model_text m ≡ model_text n → model_rows m ≡ model_rows n
unfolding model_text
text_tells_rows m n e = grind (arith, nat_tests, rows_same, model_are_rows)

-- ---- its rows tell the figures, the unit and the number of variables

within : {s : ℕ} → s ≤ 2 ^ 127 → s < 10 ^ 64
within h = omega arith

figures_same : (m n : Written) → FitsFigures m.figures → FitsFigures n.figures
    → model_rows m ≡ model_rows n → m.figures ≡ n.figures
figures_same m n h k e =
    let f = m.figures in
    let g = n.figures in
    let scale : f.scale ≡ g.scale = signed_same _ _ (within h.scale) (within k.scale) cc in
    let offset : f.offset ≡ g.offset = signed_same _ _ (within h.offset) (within k.offset) cc in
    let threshold : f.threshold ≡ g.threshold =
    signed_same _ _ (within h.threshold) (within k.threshold) cc in
    λ i. record { scale = scale i; offset = offset i; threshold = threshold i }

unit_same : (m n : Written) → FitsFields m → FitsFields n → model_rows m ≡ model_rows n
    → m.unit ≡ n.unit
unit_same m n h k e = grind (arith, nat_tests, signed_same, within)

-- two numbers below 2 ^ 32 with one text are one number
narrow_same : (m n : ℕ) → m < 2 ^ 32 → n < 2 ^ 32 → decimal m ≡ decimal n → m ≡ n
narrow_same m n h k e = decimal_same m n (omega arith) (omega arith) e

-- ---- the entries

-- the numbers of an entry have few enough digits
record IsSmall (e : Entry) : Type 0 where
  first : e.first < 10 ^ 64
  second : e.second < 10 ^ 64
  weight : unsigned_abs e.weight < 10 ^ 64

entry_same : (e f : Entry) → IsSmall e → IsSmall f → entry_row e ≡ entry_row f → e ≡ f
entry_same e f h k same =
    let a : e.first ≡ f.first = decimal_same _ _ h.first k.first cc in
    let b : e.second ≡ f.second = decimal_same _ _ h.second k.second cc in
    let c : e.weight ≡ f.weight = signed_same _ _ h.weight k.weight cc in
    λ i. record { first = a i; second = b i; weight = c i }

entries_same : (es fs : List Entry) → AllByRecursion IsSmall es → AllByRecursion IsSmall fs
    → map entry_row es ≡ map entry_row fs → es ≡ fs
entries_same [] [] h k same = refl
entries_same [] (f ∷ fs) h k same = absurd cc
entries_same (e ∷ es) [] h k same = absurd cc
entries_same (e ∷ es) (f ∷ fs) h k same =
    let first = entry_same e f h.0 k.0 cc in
    let rest = entries_same es fs h.1 k.1 cc in
    cc

all_small : (n : ℕ) (es : List Entry) → n < 2 ^ 32 → AllByRecursion (IsPlaced n) es
    → weight_total es ≤ 2 ^ 124 → AllByRecursion IsSmall es
all_small n [] narrow placed light = tt
all_small n (e ∷ es) narrow placed light =
    let total = sum_by-cons (λ (e : Entry). unsigned_abs e.weight) e es in
    grind (arith, nat_tests, all_small n es narrow placed.1)

model_all_small : (m : Written) → IsWellFormed m → FitsFields m → AllByRecursion IsSmall m.entries
model_all_small m formed h =
    all_small m.nodes m.entries h.nodes (recursion_from_All (IsPlaced m.nodes) m.entries formed.placed) h.weights

-- two models whose weights have the same rows have the same entries
model_entries_same : (m n : Written) → IsWellFormed m → IsWellFormed n → FitsFields m
    → FitsFields n → map entry_row m.entries ≡ map entry_row n.entries → m.entries ≡ n.entries
model_entries_same m n formed other_formed h k same =
    grind (arith, nat_tests, model_all_small, entries_same)

-- ---- the chains

-- each number of the list fits its field
abbrev AreNarrow : List ℕ → Type 0
AreNarrow ns = All (λ n. n < 2 ^ 32) ns

chain_same : (c d : List ℕ) → AllByRecursion (λ n. n < 2 ^ 32) c
    → AllByRecursion (λ n. n < 2 ^ 32) d → map decimal c ≡ map decimal d → c ≡ d
chain_same [] [] h k e = refl
chain_same [] (y ∷ d) h k e = absurd cc
chain_same (x ∷ c) [] h k e = absurd cc
chain_same (x ∷ c) (y ∷ d) h k e = grind (arith, nat_tests, narrow_same x y, chain_same c d h.1 k.1)

-- what two lists of chains tell, each with a header and further rows below
record AreSame (cs ds : List (List ℕ)) (h k : Row) (ws vs : List Row) : Type 0 where
  chains : cs ≡ ds
  header : h ≡ k
  rows : ws ≡ vs

-- chains end where a row begins with another word
chains_told : (node : ℕ) (cs ds : List (List ℕ)) (header other : Row) (rows others : List Row)
    → AllByRecursion AreNarrow cs → AllByRecursion AreNarrow ds
    → chain_rows node cs ++ (codes "p" ∷ header) ∷ rows
    ≡ chain_rows node ds ++ (codes "p" ∷ other) ∷ others → AreSame cs ds header other rows others
chains_told node [] [] header other rows others h k e =
    record { chains = refl; header = cc; rows = cc }
chains_told node [] (d ∷ ds) header other rows others h k e = grind (arith, nat_tests)
chains_told node (c ∷ cs) [] header other rows others h k e = grind (arith, nat_tests)
chains_told node (c ∷ cs) (d ∷ ds) header other rows others h k e =
    let mine = recursion_from_All (λ n. n < 2 ^ 32) c h.0 in
    let first = chain_same c d mine (recursion_from_All (λ n. n < 2 ^ 32) d k.0) cc in
    let rest = chains_told (suc node) cs ds header other rows others h.1 k.1 cc in
    record { chains = cc; header = rest.header; rows = rest.rows }

-- ---- the kind, and what stands below the figures

-- what the rows below the figures tell
record IsTold (a b : Kind) (m n : Written) : Type 0 where
  kind : a ≡ b
  chains : m.chains ≡ n.chains
  nodes : decimal m.nodes ≡ decimal n.nodes
  entries : map entry_row m.entries ≡ map entry_row n.entries

later_told : (a b : Kind) (m n : Written) → FitsKind a m → FitsKind b n → FitsGraph a → FitsGraph b
    → AllByRecursion AreNarrow m.chains → AllByRecursion AreNarrow n.chains
    → later_rows a m ≡ later_rows b n → IsTold a b m n
later_told a b m n plain others_plain g k small others_small e =
    grind (arith, nat_tests, chains_told, narrow_same)

pub texts_tell_models : TextsTellModels
texts_tell_models m n formed other_formed h k e =
    let rows = text_tells_rows m n e in
    let later : later_rows m.kind m ≡ later_rows n.kind n = cc in
    let small = recursion_from_All AreNarrow m.chains h.qubits in
    let others_small = recursion_from_All AreNarrow n.chains k.qubits in
    grind (arith, nat_tests, later_told, figures_same, unit_same, narrow_same, model_entries_same)
