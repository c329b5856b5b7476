-- The text of a written model: rows of words.
use Rattle.std.specs.Prelude.{ℕ, suc, ◌<◌, ◌≤◌, ◌^◌, ℤ, pos, unsigned_abs, List, [], ◌∷◌, ◌++◌, map, codes, count_by, All}
use Rattle.std.specs.List.{flat_map, join_with_byte}
use Rattle.std.specs.Fmt.{decimal, signed_decimal}
use Rattle.base.specs.declared.costs.Figures.{Figures}
use Rattle.bits_model.specs.declared.output.Entry.{Entry}
use Rattle.bits_model.specs.declared.output.Graph.{Graph}
use Rattle.bits_model.specs.declared.output.Graph.TheVariants.{Chimera, Listed}
use Rattle.bits_model.specs.declared.output.Kind.{Kind}
use Rattle.bits_model.specs.declared.output.Kind.TheVariants.{Qubo, Qubits}
use Rattle.bits_model.specs.Output.{Written, is_node, is_coupler, weight_total}

-- ---- rows and their text

-- a row of words
abbrev pub Row : Type 0
Row = List (List ℕ)

-- a row's words, separated by one space (32) and ended by a line feed (10)
abbrev pub row_text : Row → List ℕ
row_text row = join_with_byte 32 row ++ 10 ∷ []

-- the texts of the rows, one after another
abbrev pub rows_text : List Row → List ℕ
rows_text rows = flat_map row_text rows

-- ---- the rows of a model

-- a comment: the name of a figure, and its number
abbrev pub figure_row : List ℕ → ℤ → Row
figure_row name value = codes "c" ∷ name ∷ signed_decimal value ∷ []

-- the scale, the offset, the threshold, the unit and the number of variables
abbrev pub figure_rows : Figures → ℤ → ℕ → List Row
figure_rows figures unit variables =
    figure_row (codes "scale") figures.scale
    ∷ figure_row (codes "offset") figures.offset
    ∷ figure_row (codes "threshold") figures.threshold
    ∷ figure_row (codes "unit") unit
    ∷ figure_row (codes "variables") (pos variables)
    ∷ []

-- a comment: the numbers of rows and columns of a Chimera graph, and of qubits on a shore; of a graph
-- given as a list, the number of qubits
abbrev pub graph_row : Graph → Row
graph_row (Chimera rows cols shore) =
    codes "c" ∷ codes "chimera" ∷ decimal rows ∷ decimal cols ∷ decimal shore ∷ []
graph_row (Listed qubits) = codes "c" ∷ codes "graph" ∷ decimal qubits ∷ []

-- a comment: the number of a node, and the qubits of its chain in the chain's order
abbrev pub chain_row : ℕ → List ℕ → Row
chain_row node chain = codes "c" ∷ codes "chain" ∷ decimal node ∷ map decimal chain

-- the chains, of which the first has this number and each other one more than the one before
abbrev pub chain_rows : ℕ → List (List ℕ) → List Row
chain_rows node [] = []
chain_rows node (chain ∷ chains) = chain_row node chain ∷ chain_rows (suc node) chains

-- the graph and the chains, where there are any
abbrev pub graph_rows : Kind → List (List ℕ) → List Row
graph_rows (Qubits graph) chains = graph_row graph ∷ chain_rows 0 chains
graph_rows kind chains = []

-- the words that name the kind
abbrev pub kind_words : Kind → Row
kind_words Qubo = codes "p" ∷ codes "qubo" ∷ codes "0" ∷ []
kind_words kind = codes "p" ∷ codes "ising" ∷ []

-- the kind, and the numbers of nodes, of node entries and of couplers
abbrev pub header_row : Kind → ℕ → List Entry → Row
header_row kind nodes entries =
    kind_words kind
    ++ decimal nodes
    ∷ decimal (count_by is_node entries)
    ∷ decimal (count_by is_coupler entries)
    ∷ []

-- the numbers of an entry's nodes, and its weight
abbrev pub entry_row : Entry → Row
entry_row e = decimal e.first ∷ decimal e.second ∷ signed_decimal e.weight ∷ []

-- the rows of a model, in their order
abbrev pub model_rows : Written → List Row
model_rows m =
    figure_rows m.figures m.unit m.variables
    ++ graph_rows m.kind m.chains
    ++ header_row m.kind m.nodes m.entries ∷ map entry_row m.entries

-- the text of a model
unfoldable pub model_text : Written → List ℕ
model_text m = rows_text (model_rows m)

-- ---- what the fields of a model can hold

-- the figures fit their fields
pub record FitsFigures (figures : Figures) : Type 0 where
  pub scale : unsigned_abs figures.scale ≤ 2 ^ 127
  pub offset : unsigned_abs figures.offset ≤ 2 ^ 127
  pub threshold : unsigned_abs figures.threshold ≤ 2 ^ 127

-- the numbers of a graph fit their fields
abbrev pub HasNumbers : Graph → Type 0
HasNumbers (Chimera rows cols shore) = (rows < 2 ^ 32) × (cols < 2 ^ 32) × (shore < 2 ^ 32)
HasNumbers (Listed qubits) = qubits < 2 ^ 32

-- the numbers of its graph fit their fields, where it has one
abbrev pub FitsGraph : Kind → Type 0
FitsGraph (Qubits graph) = HasNumbers graph
FitsGraph kind = Unit {0}

-- the numbers of a model fit the fields that hold them, and the sizes of its weights sum to at most
-- 2 ^ 124
pub record FitsFields (m : Written) : Type 0 where
  pub graph : FitsGraph m.kind
  pub variables : m.variables < 2 ^ 32
  pub figures : FitsFigures m.figures
  pub unit : unsigned_abs m.unit ≤ 2 ^ 127
  pub nodes : m.nodes < 2 ^ 32
  pub weights : weight_total m.entries ≤ 2 ^ 124
  pub qubits : All (λ chain. All (λ q. q < 2 ^ 32) chain) m.chains
