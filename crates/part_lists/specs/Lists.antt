-- The text of a list of parts: each line with words names a qubit of a host, or two that it joins.
use Rattle.std.specs.Prelude.{◌≡◌, ℕ, Bool, true, List, [], ◌∷◌, Result, Ok, Err, if◌then◌else◌}
use Rattle.whole_text.specs.declared.faults.TextKind.TheVariants as kinds
use Rattle.whole_text.specs.declared.faults.TextFault.{TextFault}
use Rattle.whole_text.specs.declared.token.Style.TheVariants.{Plain}
use Rattle.whole_text.specs.Tokens.{Word, tokens_of, tokens_of_line}
use Rattle.whole_text.specs.Steps.{◌>>=◌, fault, natural_at}
use Rattle.whole_text.specs.Rows.{Row, by_line, each}
use Rattle.part_lists.specs.declared.parts.Part.{Part}
use Rattle.part_lists.specs.declared.parts.Part.TheVariants.{Qubit, Coupler}

-- the number of a qubit that exists
unfoldable pub qubit_at : (ℕ → Bool) → Word → Result ℕ TextFault
qubit_at exists w =
    natural_at 0 w >>= λ q. if exists q then Ok q else Err (fault kinds.Range w.line)

-- the number of one that is joined to another one
unfoldable pub joined_at : (ℕ → Bool) → (ℕ → ℕ → Bool) → ℕ → Word → Result ℕ TextFault
joined_at exists joined a w = do
  b ← qubit_at exists w
  if joined a b then Ok b else Err (fault kinds.Range w.line)

-- what follows the number of a qubit on its line: nothing, and the qubit is the part, or the number of
-- a joined one, and their coupler is; a third word is too much
unfoldable pub rest_at : (ℕ → Bool) → (ℕ → ℕ → Bool) → ℕ → List Word → Result Part TextFault
rest_at exists joined a [] = Ok (Qubit a)
rest_at exists joined a (w ∷ []) = joined_at exists joined a w >>= λ b. Ok (Coupler a b)
rest_at exists joined a (w ∷ v ∷ ws) =
    joined_at exists joined a w >>= λ b. Err (fault kinds.Extra v.line)

-- the part that a line names
unfoldable pub part_at : (ℕ → Bool) → (ℕ → ℕ → Bool) → Row → Result Part TextFault
part_at exists joined r = qubit_at exists r.first >>= λ a. rest_at exists joined a r.others

-- the parts that words name, line by line
unfoldable pub parts_of_words : (ℕ → Bool) → (ℕ → ℕ → Bool) → List Word → Result (List Part) TextFault
parts_of_words exists joined ws = each (part_at exists joined) (by_line ws)

-- the parts that a line of a text names, where these qubits exist and these are joined
abbrev pub parts_of_line : (ℕ → Bool) → (ℕ → ℕ → Bool) → ℕ → List ℕ → Result (List Part) TextFault
parts_of_line exists joined n line = parts_of_words exists joined (tokens_of_line Plain n line)

-- the parts that a text names, where these qubits exist and these are joined, or its first fault
unfoldable pub listed_parts : (ℕ → Bool) → (ℕ → ℕ → Bool) → List ℕ → Result (List Part) TextFault
listed_parts exists joined text = parts_of_words exists joined (tokens_of Plain text)

-- its qubits exist, and those of a coupler are joined
abbrev pub IsPartOf : (ℕ → Bool) → (ℕ → ℕ → Bool) → Part → Type 0
IsPartOf exists joined (Qubit a) = exists a ≡ true
IsPartOf exists joined (Coupler a b) =
    (exists a ≡ true) × (exists b ≡ true) × (joined a b ≡ true)
