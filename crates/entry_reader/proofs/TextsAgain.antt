-- The text of a model is read again: its comments are skipped, and its header and entries are read.
use Rattle.entry_reader.proofs.Common.{rules, nat_tests, ◌≡◌, ℕ, suc, ◌+◌, ◌<◌, ◌≤◌, ◌^◌, ℤ, List, [], ◌∷◌, ◌++◌, length, map, Ok, refl, ap, ◌∙◌, arith, length-append, codes, count_by, AllByRecursion, decimal, length-map, count_by-le-length, Figures, Entry, Kind, Written, is_node, is_coupler, Word, word, tokens_of, end_line, IsInk, AreInk, tokens_after, words_then, decimal_ink, natural_again, Row, rows_text, figure_rows, chain_rows, graph_rows, header_row, entry_row, model_rows, model_text, IsRow, all_append, figures_are_rows, graph_are_rows, Layout, Counts, Listed, wanted_at, topology_of, count_at, header_at, entries_at, listing_of, reading, layout_of, listed_of, TextsAreReadAgain}
use Rattle.bits_model.specs.declared.output.Kind.TheVariants.{Qubo}
use Rattle.entry_reader.proofs.RowsAgain.{IsComment, comments_skipped}
use Rattle.entry_reader.proofs.EntriesAgain.{counts_of, entries_again}

-- ---- comments

figures_are_comments : (figures : Figures) (unit : ℤ) (variables : ℕ)
    → AllByRecursion IsComment (figure_rows figures unit variables)
figures_are_comments figures unit variables = search rules

chains_are_comments : (node : ℕ) (chains : List (List ℕ))
    → AllByRecursion IsComment (chain_rows node chains)
chains_are_comments node [] = tt
chains_are_comments node (chain ∷ chains) = (refl, chains_are_comments (suc node) chains)

-- ---- the header

p_ink : IsInk (codes "p")
p_ink = record { filled = omega arith; blank = (refl, tt); feed = (refl, tt) }

zero_ink : IsInk (codes "0")
zero_ink = record { filled = omega arith; blank = (refl, tt); feed = (refl, tt) }

qubo_ink : IsInk (codes "qubo")
qubo_ink = search rules

ising_ink : IsInk (codes "ising")
ising_ink = search rules

abbrev AreFew : ℕ → List Entry → Type 0
AreFew nodes es = (nodes < 2 ^ 32) × (length es ≤ 2 ^ 24)

abbrev header_numbers : ℕ → List Entry → Row
header_numbers nodes es =
    decimal nodes ∷ decimal (count_by is_node es) ∷ decimal (count_by is_coupler es) ∷ []

few_ink : (nodes : ℕ) (es : List Entry) → AreFew nodes es → AreInk (header_numbers nodes es)
few_ink nodes es few =
    let nodes_few = count_by-le-length is_node es in
    let couplers_few = count_by-le-length is_coupler es in
    (decimal_ink _ (omega (arith, few.0)), (decimal_ink _ (omega (arith, few.1)), (decimal_ink _ (omega (arith, few.1)), tt)))

header_then : (line : ℕ) (kind : Kind) (nodes : ℕ) (es : List Entry) (rows : List Row)
    → AreFew nodes es → tokens_after line (header_row kind nodes es ∷ rows)
    ≡ map (word line) (header_row kind nodes es) ++ tokens_after (line + 1) rows
header_then line Qubo nodes es rows few =
    words_then line (codes "p") (codes "qubo" ∷ codes "0" ∷ header_numbers nodes es) rows
    (p_ink, (qubo_ink, (zero_ink, few_ink nodes es few))) refl
header_then line kind nodes es rows few =
    words_then line (codes "p") (codes "ising" ∷ header_numbers nodes es) rows
    (p_ink, (ising_ink, few_ink nodes es few)) refl

header_again : (end line : ℕ) (kind : Kind) (nodes : ℕ) (es : List Entry) (rest : List Word)
    → AreFew nodes es
    → header_at (layout_of kind) end (map (word line) (header_row kind nodes es) ++ rest)
    ≡ Ok (counts_of nodes es, rest)
unfolding header_at wanted_at topology_of count_at
header_again end line kind nodes es rest few =
    grind (arith, nat_tests, natural_again, count_by-le-length, counts_of)

-- ---- the whole text

rows_long : (rows : List Row) → length rows ≤ length (rows_text rows)
rows_long [] = omega arith
rows_long (row ∷ rows) = grind (arith, nat_tests, rows_long rows, length-append)

entries_few : (m : Written) → length (model_text m) ≤ 2 ^ 24 → length m.entries ≤ 2 ^ 24
unfolding model_text
entries_few m short = grind (arith, nat_tests, rows_long (model_rows m), length-append, length-map)

listing_again : (layout : Layout) (ws rest : List Word) (c : Counts) (es : List Listed)
    → header_at layout (end_line ws) ws ≡ Ok (c, rest) → entries_at (end_line ws) c rest ≡ Ok es
    → listing_of layout ws ≡ Ok (record { nodes = c.nodes; entries = es })
unfolding listing_of
listing_again layout ws rest c es header entries = grind (arith, nat_tests)

pub texts_are_read_again : TextsAreReadAgain
unfolding reading tokens_of model_text
texts_are_read_again m h =
    let layout = layout_of m.kind in
    let figures = figure_rows m.figures m.unit m.variables in
    let graph = graph_rows m.kind m.chains in
    let header = header_row m.kind m.nodes m.entries in
    let weights = map entry_row m.entries in
    let few : AreFew m.nodes m.entries = (h.fits.nodes, entries_few m h.short) in
    let skipped = comments_skipped 1 (figures ++ graph) (header ∷ weights)
    (all_append IsComment figures graph (figures_are_comments m.figures m.unit m.variables)
    (grind (arith, nat_tests, chains_are_comments)))
    (all_append IsRow figures graph (figures_are_rows m.figures m.unit m.variables)
    (graph_are_rows m.kind m.chains)) in
    let line = skipped.0 in
    let rest = tokens_after (line + 1) weights in
    let ws = map (word line) header ++ rest in
    ap (listing_of layout) (skipped.1 ∙ header_then line m.kind m.nodes m.entries weights few)
    ∙ listing_again layout ws rest (counts_of m.nodes m.entries) (map listed_of m.entries)
    (header_again (end_line ws) line m.kind m.nodes m.entries rest few)
    (entries_again (end_line ws) (line + 1) m.nodes m.entries h.fits.nodes h.formed.placed h.weights)
