-- Terms of degree 3 or more as they are kept: the codes of their literals, in rings.
--
-- Each replacing drops the first two literals of a term and appends a node. So the term moves round in
-- the room of the literals that it had at first.
use Rattle.std.specs.Prelude.{ℕ, ◌+◌, ◌*◌, ◌≤◌, ◌<◌, ◌^◌, ℤ, pos, List, [], ◌∷◌, ◌++◌, length, map, take, drop}
use Rattle.std.specs.List.{slice_index, slice_index_or}
use Rattle.literal_lists.specs.declared.literal.Literal.{Literal}
use Rattle.literal_lists.specs.Codes.{code_of, literal_of}
use Rattle.term_table.specs.Terms.{Term}

-- the codes of a term after so many replacings: each of them dropped two at the front, and put its
-- node where the first literals were
abbrev pub codes_left : List ℕ → ℕ → List ℕ
codes_left ring turns = drop (2 * turns) (ring ++ take turns ring)

-- .. as literals
abbrev pub literals_left : List ℕ → ℕ → List Literal
literals_left ring turns = map literal_of (codes_left ring turns)

-- the terms of rings, after so many replacings each
abbrev pub terms_in : List (List ℕ) → List ℕ → List ℤ → List Term
terms_in (ring ∷ rings) (turns ∷ more) (c ∷ cs) =
    (literals_left ring turns, c) ∷ terms_in rings more cs
terms_in _ _ _ = []

-- two literals are left at least, and a ring has less than 2^16 places
abbrev pub HasTwo : List ℕ → ℕ → Type 0
HasTwo ring turns = (turns + 2 ≤ length ring) × (length ring < 2 ^ 16)

-- the term at a place
abbrev pub term_at : List Term → ℕ → Term
term_at ts t = slice_index_or ts t ([], pos 0)

-- the code of the literal at a place of a term
abbrev pub code_at : Term → ℕ → ℕ
code_at t place = slice_index (map code_of t.0) place
