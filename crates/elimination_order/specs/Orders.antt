-- Orders of the nodes of a model: texts that name each node once.
use Rattle.std.specs.Prelude.{◌≡◌, ℕ, ◌<◌, Bool, false, not, ◌&&◌, ◌==◌, nat_lt, eqb, All, if◌then◌else◌, List, [], ◌∷◌, ◌++◌, length, Result, Ok, Err}
use Rattle.std.specs.List.{slice_index_or, IsDistinct}
use Rattle.bits_model.specs.Walks.{is_in}
use Rattle.whole_text.specs.declared.faults.TextKind.TheVariants as kinds
use Rattle.whole_text.specs.declared.faults.TextFault.{TextFault}
use Rattle.whole_text.specs.Tokens.{Word}
use Rattle.whole_text.specs.Steps.{◌>>=◌, end_line, fault, natural_at}

-- a node of so many that was not named before
abbrev pub new_node : ℕ → List ℕ → Word → Result ℕ TextFault
new_node nodes named w = natural_at 0 w >>= λ n.
    if nat_lt n nodes && not (is_in named n) then Ok n else Err (fault kinds.Range w.line)

-- the nodes that words name after others, none of them twice
unfoldable pub nodes_at : ℕ → List ℕ → List Word → Result (List ℕ) TextFault
nodes_at nodes named [] = Ok []
nodes_at nodes named (w ∷ ws) = do
  n ← new_node nodes named w
  others ← nodes_at nodes (named ++ n ∷ []) ws
  Ok (n ∷ others)

-- all nodes, or the fault that the text ended on this line
abbrev pub all_named : ℕ → ℕ → List ℕ → Result (List ℕ) TextFault
all_named nodes end order = if length order == nodes then Ok order else Err (fault kinds.End end)

-- the order that the words of a text say for so many nodes: each node once
abbrev pub order_of : ℕ → List Word → Result (List ℕ) TextFault
order_of nodes ws = nodes_at nodes [] ws >>= λ order. all_named nodes (end_line ws) order

-- each of n nodes once
pub record AreNodes (n : ℕ) (order : List ℕ) : Type 0 where
  pub count : length order ≡ n
  pub below : All (λ v. v < n) order
  pub apart : IsDistinct eqb order

-- ---- marks of the nodes that were named

-- each node is marked where it was named
pub record AreMarks (nodes : ℕ) (marks : List Bool) (named : List ℕ) : Type 0 where
  pub long : length marks ≡ nodes
  pub at : (n : ℕ) → n < nodes → slice_index_or marks n false ≡ is_in named n

-- a list in front of what is read
abbrev pub after_front : List ℕ → Result (List ℕ) TextFault → Result (List ℕ) TextFault
after_front front (Ok xs) = Ok (front ++ xs)
after_front front (Err f) = Err f
