-- The pieces of each row are its text.
use Rattle.model_text.proofs.Common.{nat_tests, ints, ◌≡◌, ℕ, ◌+◌, ◌<◌, List, [], ◌∷◌, ◌++◌, length, map, drop, get_or, ℤ, pos, sym, ap, ◌∙◌, arith, append-nil, append_assoc, codes, join_with_byte, decimal, signed_decimal, drop_more, flat_map-append, Figures, Kind, Written, row_text, rows_text, figure_rows, chain_row, chain_rows, graph_rows, kind_words, header_row, entry_row, model_text, spaced_numbers}

-- ---- rows of three numbers

pub three_pieces : (a b c x y z : List ℕ) → a ≡ x → b ≡ y → c ≡ z
    → a ++ 32 ∷ (b ++ 32 ∷ (c ++ 10 ∷ [])) ≡ (x ++ 32 ∷ (y ++ 32 ∷ z)) ++ 10 ∷ []
three_pieces a b c x y z e f g = grind (arith, nat_tests, append_assoc)

pub header_pieces : (kind : Kind) (w a b c x y z : List ℕ) → w ≡ join_with_byte 32 (kind_words kind)
    → a ≡ x → b ≡ y → c ≡ z
    → w ++ 32 ∷ (a ++ 32 ∷ (b ++ 32 ∷ (c ++ 10 ∷ []))) ≡ row_text (kind_words kind ++ x ∷ y ∷ z ∷ [])
header_pieces kind w a b c x y z named e f g = grind (arith, nat_tests, three_pieces)

-- ---- the figures

line_on : (a rest more : List ℕ) → rest ≡ more → a ++ 10 ∷ rest ≡ (a ++ 10 ∷ []) ++ more
line_on a rest more e = grind (arith, nat_tests, append_assoc)

-- the figures' names and numbers, without the line feeds between
abbrev pub figures_text : List ℕ → List ℕ → List ℕ → List ℕ → List ℕ → List ℕ
figures_text s o t u v =
    codes "c scale " ++ (s ++ 10 ∷ (codes "c offset " ++ (o ++ 10 ∷ (codes "c threshold " ++ (t ++ 10 ∷ (codes "c unit " ++ (u ++ 10 ∷ (codes "c variables " ++ (v ++ 10 ∷ [])))))))))

pub figures_pieces : (figures : Figures) (unit : ℤ) (variables : ℕ) (s o t u v : List ℕ) → s ≡ signed_decimal figures.scale
    → o ≡ signed_decimal figures.offset → t ≡ signed_decimal figures.threshold → u ≡ signed_decimal unit → v ≡ signed_decimal (pos variables)
    → figures_text s o t u v ≡ rows_text (figure_rows figures unit variables)
figures_pieces figures unit variables s o t u v a b c d e =
    rw (a, b, c, d, e) (grind (arith, nat_tests, ints, append-nil, line_on))

-- ---- the chains

spaced_words : (w : List ℕ) (qs : List ℕ) → w ++ spaced_numbers qs ≡ join_with_byte 32 (w ∷ map decimal qs)
spaced_words w [] = append-nil w
spaced_words w (q ∷ qs) = grind (arith, nat_tests, spaced_words (decimal q) qs)

pub chain_pieces : (node : ℕ) (qs number : List ℕ) → number ≡ decimal node
    → row_text (chain_row node qs) ≡ codes "c chain " ++ ((number ++ []) ++ (spaced_numbers qs ++ 10 ∷ []))
chain_pieces node qs number same =
    rw (append-nil number, same, ← spaced_words (decimal node) qs) (simp append_assoc)

pub qubits_left : (qs : List ℕ) (i : ℕ) (number : List ℕ) → i < length qs → number ≡ decimal (get_or qs i 0)
    → spaced_numbers (drop i qs) ≡ 32 ∷ ((number ++ []) ++ spaced_numbers (drop (i + 1) qs))
qubits_left qs i number within same = grind (arith, nat_tests, drop_more, append-nil)

pub chains_left : (chains : List (List ℕ)) (i : ℕ) (qs : List ℕ) → i < length chains → qs ≡ get_or chains i []
    → rows_text (chain_rows i (drop i chains)) ≡ row_text (chain_row i qs) ++ rows_text (chain_rows (i + 1) (drop (i + 1) chains))
chains_left chains i qs within item = grind (arith, nat_tests, drop_more)

-- ---- the parts of a model's text

pub text_parts : (m : Written) (chains : List (List ℕ)) → chains ≡ m.chains → model_text m
    ≡ rows_text (figure_rows m.figures m.unit m.variables) ++ (rows_text (graph_rows m.kind chains)
    ++ (row_text (header_row m.kind m.nodes m.entries) ++ rows_text (map entry_row m.entries)))
unfolding model_text
text_parts m chains same =
    let figures = figure_rows m.figures m.unit m.variables in
    let graph = graph_rows m.kind m.chains in
    let later = header_row m.kind m.nodes m.entries ∷ map entry_row m.entries in
    flat_map-append row_text figures (graph ++ later) ∙ ap (λ (l : List ℕ). rows_text figures ++ l)
    (flat_map-append row_text graph later ∙ ap (λ (cs : List (List ℕ)). rows_text (graph_rows m.kind cs) ++ rows_text later) (sym same))
