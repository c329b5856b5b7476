-- The text of a map: each line with tokens is a chain, its node first and then its qubits.
use Rattle.std.specs.Prelude.{ℕ, ◌+◌, ◌==◌, List, [], ◌∷◌, ◌++◌, length, Result, Ok, Err, if◌then◌else◌}
use Rattle.std.specs.List.{slice_split}
use Rattle.whole_text.specs.declared.faults.TextKind.TheVariants as kinds
use Rattle.whole_text.specs.declared.faults.TextFault.{TextFault}
use Rattle.whole_text.specs.declared.token.Style.TheVariants.{Plain}
use Rattle.whole_text.specs.Tokens.{Word, is_feed, tokens_of_line}
use Rattle.whole_text.specs.Steps.{◌>>=◌, fault, natural_at}
use Rattle.whole_text.specs.Rows.{each}

-- the tokens of each line; the lines are numbered from n on
unfoldable pub rows_from : ℕ → List (List ℕ) → List (List Word)
rows_from n [] = []
rows_from n (line ∷ lines) = tokens_of_line Plain n line ∷ rows_from (n + 1) lines

-- the number of this node
unfoldable pub node_at : ℕ → Word → Result ℕ TextFault
node_at node w = natural_at 0 w >>= λ n. if n == node then Ok n else Err (fault kinds.Range w.line)

-- a list in front of what is read
abbrev pub after_front : {X : Type 0} → List X → Result (List X) TextFault → Result (List X) TextFault
after_front front (Ok xs) = Ok (front ++ xs)
after_front front (Err f) = Err f

-- the chain that a line says, where it has tokens: the number of the next node, and its qubits
unfoldable pub chain_at : ℕ → List Word → Result (List (List ℕ)) TextFault
chain_at node [] = Ok []
chain_at node (w ∷ ws) = do
  n ← node_at node w
  qubits ← each (natural_at 0) ws
  Ok (qubits ∷ [])

-- the chains of this node and the next ones, line by line
unfoldable pub chains_at : ℕ → List (List Word) → Result (List (List ℕ)) TextFault
chains_at node [] = Ok []
chains_at node (row ∷ rows) = do
  chain ← chain_at node row
  others ← chains_at (node + length chain) rows
  Ok (chain ++ others)

-- the reading of a text
unfoldable pub reading : List ℕ → Result (List (List ℕ)) TextFault
reading text = chains_at 0 (rows_from 1 (slice_split is_feed text))
