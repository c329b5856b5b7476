-- The graph of a list: its qubits are those that some part of the list names, and two of them are
-- joined where some part is their coupler.
use Rattle.std.specs.Prelude.{ℕ, ◌+◌, ◌==◌, Bool, ◌||◌, List, [], ◌∷◌, max}
use Rattle.std.specs.List.{list_any}
use Rattle.hardware.specs.declared.span.Span.{Span}
use Rattle.part_lists.specs.declared.parts.Part.{Part}
use Rattle.part_lists.specs.declared.parts.Part.TheVariants.{Qubit, Coupler}
use Rattle.part_lists.specs.Pairs.{is_coupler}

-- the part names this qubit
abbrev pub is_named : ℕ → Part → Bool
is_named q (Qubit a) = a == q
is_named q (Coupler a b) = (a == q) || (b == q)

-- one more than the greatest qubit of a part
abbrev pub beyond : Part → ℕ
beyond (Qubit a) = a + 1
beyond (Coupler a b) = max a b + 1

-- how many numbers of qubits there are: one more than the greatest that is named, 0 where none is
abbrev pub qubits_of : List Part → ℕ
qubits_of [] = 0
qubits_of (part ∷ parts) = max (beyond part) (qubits_of parts)

-- a qubit of the graph
abbrev pub exists_in : List Part → ℕ → Bool
exists_in parts q = list_any (is_named q) parts

-- two qubits are joined
abbrev pub joined_in : List Part → ℕ → ℕ → Bool
joined_in parts a b = list_any (is_coupler a b) parts

-- no number at all
abbrev pub no_span : Span
no_span = record { start = 0; end = 0 }
