-- The texts of entries: a header, and entries up to the end.
--
-- A reading goes through the words in order. The first word that cannot stand in its place makes
-- the text bad, with a kind and the word's line. Lines have no other part in it: the header and an
-- entry may span them.
use Rattle.std.specs.Prelude.{◌≡◌, ◌<◌, ◌^◌, ℕ, Bool, ◌-◌, unsigned_abs, codes, ◌&&◌, ◌||◌, List, [], ◌∷◌, Result, Ok, Err, ◌==◌, nat_lt, bytes_eq, if◌then◌else◌}
use Rattle.whole_text.specs.declared.faults.TextKind.TheVariants as kinds
use Rattle.whole_text.specs.declared.faults.TextFault.{TextFault}
use Rattle.whole_text.specs.declared.token.Style.TheVariants.{Plain}
use Rattle.whole_text.specs.Tokens.{Word, tokens_of}
use Rattle.whole_text.specs.Steps.{◌>>=◌, fault, end_line, next_of, integer_at, natural_at}
use Rattle.entry_reader.specs.declared.layout.Layout.{Layout}
use Rattle.entry_reader.specs.declared.layout.Layout.TheVariants.{Qubo, Ising}
use Rattle.entry_reader.specs.declared.layout.Counts.{Counts}
use Rattle.entry_reader.specs.declared.layout.Listed.{Listed}

-- ---- what a text says, as it says it

-- a whole text: how many nodes there are, and its entries
pub record Listing : Type 0 where
  pub nodes : ℕ
  pub entries : List Listed

-- ---- the header: `p`, the words of the layout, and three numbers

-- what is left after a word that has to pass a test
unfoldable pub wanted_at : ℕ → (List ℕ → Bool) → List Word → Result (List Word) TextFault
wanted_at end passes ws =
    next_of end ws >>= λ w. if passes w.0.bytes then Ok w.1 else Err (fault kinds.Word w.0.line)

-- the word that names a layout
abbrev pub name_of : Layout → List ℕ
name_of Qubo = codes "qubo"
name_of Ising = codes "ising"

-- `0` or `unconstrained`
abbrev pub is_topology : List ℕ → Bool
is_topology bytes = bytes_eq bytes (codes "0") || bytes_eq bytes (codes "unconstrained")

-- a topology follows the name of a QUBO alone
unfoldable pub topology_of : Layout → ℕ → List Word → Result (List Word) TextFault
topology_of Qubo end ws = wanted_at end is_topology ws
topology_of Ising end ws = Ok ws

-- a number of at least 0, and what is left
unfoldable pub count_at : ℕ → List Word → Result (ℕ × List Word) TextFault
count_at end ws = do
  w ← next_of end ws
  n ← natural_at 0 w.0
  Ok (n, w.1)

-- the numbers of nodes, of node entries and of couplers, and what is left
unfoldable pub header_at : Layout → ℕ → List Word → Result (Counts × List Word) TextFault
header_at layout end ws = do
  name ← wanted_at end (bytes_eq (codes "p")) ws
  topology ← wanted_at end (bytes_eq (name_of layout)) name
  numbers ← topology_of layout end topology
  nodes ← count_at end numbers
  entries ← count_at end nodes.1
  couplers ← count_at end entries.1
  Ok (record { nodes = nodes.0; entries = entries.0; couplers = couplers.0 }, couplers.1)

-- ---- the entries: the numbers of two nodes, and a weight

-- one of the nodes
unfoldable pub node_at : ℕ → Word → Result ℕ TextFault
node_at nodes w =
    natural_at 0 w >>= λ n. if nat_lt n nodes then Ok n else Err (fault kinds.Range w.line)

-- one fewer may come; the fault `Extra` stands on this line
unfoldable pub one_fewer : ℕ → ℕ → Result ℕ TextFault
one_fewer line count = if count == 0 then Err (fault kinds.Extra line) else Ok (count - 1)

-- what may come after an entry: one fewer of its sort
unfoldable pub counted : ℕ → Counts → ℕ → ℕ → Result Counts TextFault
counted line c i j =
    if i == j
    then one_fewer line c.entries >>= (λ n. Ok (record c { entries = n }))
    else one_fewer line c.couplers >>= (λ n. Ok (record c { couplers = n }))

-- an entry, what may come after it, and what is left
unfoldable pub entry_at : ℕ → Counts → List Word → Result (Listed × Counts × List Word) TextFault
entry_at end c ws = do
  first ← next_of end ws
  i ← node_at c.nodes first.0
  second ← next_of end first.1
  j ← node_at c.nodes second.0
  fewer ← counted second.0.line c i j
  third ← next_of end second.1
  weight ← integer_at third.0
  Ok (record { first = i; second = j; weight = weight }, fewer, third.1)

-- an entry between so many nodes, of a weight below 2 ^ 64, and what may come after it
pub record IsListed (nodes : ℕ) (entry : Listed) (fewer : Counts) : Type 0 where
  pub first : entry.first < nodes
  pub second : entry.second < nodes
  pub small : unsigned_abs entry.weight < 2 ^ 64
  pub same : fewer.nodes ≡ nodes

-- as many entries came as the header counts
unfoldable pub none_to_come : ℕ → Counts → Result (List Listed) TextFault
none_to_come end c =
    if (c.entries == 0) && (c.couplers == 0) then Ok [] else Err (fault kinds.End end)

-- entries up to the end of the words; one or two words are the start of an entry, and its fault
unfoldable pub entries_at : ℕ → Counts → List Word → Result (List Listed) TextFault
entries_at end c [] = none_to_come end c
entries_at end c (i ∷ j ∷ w ∷ ws) = do
  first ← entry_at end c (i ∷ j ∷ w ∷ [])
  others ← entries_at end first.1 ws
  Ok (first.0 ∷ others)
entries_at end c ws = entry_at end c ws >>= λ entry. Ok (entry.0 ∷ [])

-- ---- a whole text

-- the header, and entries up to the end
unfoldable pub listing_of : Layout → List Word → Result Listing TextFault
listing_of layout ws = do
  header ← header_at layout (end_line ws) ws
  entries ← entries_at (end_line ws) header.0 header.1
  Ok (record { nodes = header.0.nodes; entries = entries })

-- the reading of a text
unfoldable pub reading : Layout → List ℕ → Result Listing TextFault
reading layout text = listing_of layout (tokens_of Plain text)
