-- The complete graph on 2^20 qubits, of which a listed graph has parts.
use Rattle.std.specs.Prelude.{ℕ, ◌^◌, ◌==◌, Bool, not, List, Result, nat_lt}
use Rattle.whole_text.specs.declared.faults.TextFault.{TextFault}
use Rattle.hardware.specs.declared.span.Span.{Span}
use Rattle.hardware.specs.declared.hardware.Others.{Others}
use Rattle.part_lists.specs.declared.parts.Part.{Part}
use Rattle.part_lists.specs.Lists as lists

-- the number of its qubits
abbrev pub most : ℕ
most = 2 ^ 20

-- each number below that is a qubit
abbrev pub is_below : ℕ → Bool
is_below q = nat_lt q most

-- each two qubits are joined
abbrev pub are_apart : ℕ → ℕ → Bool
are_apart a b = not (a == b)

-- no span of numbers
abbrev pub no_span : Span
no_span = record { start = 0; end = 0 }

-- and all numbers as others
abbrev pub all_others : Others
all_others = record { start = 0; end = most }

-- the parts of it that a text names, or the text's first fault
abbrev pub listed_parts : List ℕ → Result (List Part) TextFault
listed_parts text = lists.listed_parts is_below are_apart text

-- its qubits may stand, and a coupler has two
abbrev pub IsPart : Part → Type 0
IsPart part = lists.IsPartOf is_below are_apart part
