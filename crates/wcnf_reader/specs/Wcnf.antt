-- What a weighted CNF text says, in two layouts, told apart by the first word.
--
-- The older layout begins with `p`: a header, as many clauses as it says, and nothing more. The
-- layout of 2022 has clauses alone, up to the end. A reading goes through the words in order. The
-- first word that cannot stand in its place makes the text bad, with a kind and the word's line.
use Rattle.std.specs.Prelude.{◌≡◌, ℕ, zero, suc, ◌≤◌, ℤ, nat_abs, max, codes, ◌&&◌, List, [], ◌∷◌, length, map, fold, flat_map, Option, Some, None, Result, Ok, Err, ◌==◌, nat_le, bytes_eq, if◌then◌else◌}
use Rattle.std.specs.Option.{ok_or}
use Rattle.whole_text.specs.declared.faults.TextKind.TheVariants as kinds
use Rattle.whole_text.specs.declared.faults.TextFault.{TextFault}
use Rattle.whole_text.specs.declared.token.Style.TheVariants.{Plain}
use Rattle.whole_text.specs.Numbers.{number_of}
use Rattle.whole_text.specs.Tokens.{Word, tokens_of}
use Rattle.whole_text.specs.Steps.{◌>>=◌, fault, end_line, next_of, integer_at, from_least, natural_at}
use Rattle.wcnf_reader.specs.declared.layout.ClauseLayout.{ClauseLayout}
use Rattle.wcnf_reader.specs.declared.layout.ClauseLayout.TheVariants.{Older, WithoutHeader}

-- ---- what a text says, as it says it

-- a clause: its weight, or none where it begins with `h`, and its literals as signed numbers,
-- without the closing 0
pub record Listed : Type 0 where
  pub weight : Option ℕ
  pub literals : List ℤ

-- the numbers of the header; without a TOP every clause is soft
pub record Header : Type 0 where
  pub variables : ℕ
  pub clauses : ℕ
  pub top : Option ℕ

-- a whole text: its layout with TOP or none, how many variables there are, and the clauses
pub record Wcnf : Type 0 where
  pub layout : ClauseLayout
  pub variables : ℕ
  pub clauses : List Listed

-- ---- the clauses: a weight or `h`, literals, and a number of value 0

-- `h` or a weight; what is neither `h` nor a number is another word than is needed
unfoldable pub mark_of : Word → Result (Option ℕ) TextFault
mark_of w =
    if bytes_eq w.bytes (codes "h")
    then Ok None
    else (ok_or (number_of w.bytes) (fault kinds.Word w.line)
    >>= λ z. from_least 0 w.line z >>= λ n. Ok (Some n))

-- the first word of a clause: a weight, or a mark
abbrev pub first_of : ClauseLayout → Word → Result (Option ℕ) TextFault
first_of (Older top) w = natural_at 0 w >>= λ n. Ok (Some n)
first_of WithoutHeader w = mark_of w

-- a literal of one of so many variables, or 0; without a count, any number
unfoldable pub literal_at : Option ℕ → Word → Result ℤ TextFault
literal_at None w = integer_at w
literal_at (Some variables) w =
    integer_at w
    >>= λ z. if nat_le (nat_abs z) variables then Ok z else Err (fault kinds.Range w.line)

-- literals up to a 0
unfoldable pub literals_at : Option ℕ → ℕ → List Word → Result (List ℤ × List Word) TextFault
literals_at variables end [] = Err (fault kinds.End end)
literals_at variables end (w ∷ ws) =
    literal_at variables w >>= λ z.
    if nat_abs z == 0
    then Ok ([], ws)
    else literals_at variables end ws >>= λ more. Ok (z ∷ more.0, more.1)

-- a clause with this first word, and what is left
unfoldable pub clause_at : ClauseLayout → Option ℕ → ℕ → Word → List Word
    → Result (Listed × List Word) TextFault
clause_at layout variables end w ws = do
  weight ← first_of layout w
  literals ← literals_at variables end ws
  Ok (record { weight = weight; literals = literals.0 }, literals.1)

-- ---- the older layout: `p wcnf VARIABLES CLAUSES TOP` on one line, TOP left out or not, and clauses

-- these bytes, on this line
unfoldable pub wanted_word : ℕ → List ℕ → Word → Result ℕ TextFault
wanted_word line bytes w =
    if (w.line == line) && bytes_eq w.bytes bytes then Ok line else Err (fault kinds.Word w.line)

-- a number on this line
unfoldable pub header_number : ℕ → Word → Result ℕ TextFault
header_number line w = if w.line == line then natural_at 0 w else Err (fault kinds.Word w.line)

-- nothing more on this line
unfoldable pub at_line_end : {A : Type 0} → ℕ → A → List Word → Result (A × List Word) TextFault
at_line_end line x [] = Ok (x, [])
at_line_end line x (w ∷ ws) =
    if w.line == line then Err (fault kinds.Extra line) else Ok (x, w ∷ ws)

-- a number of at least 1, if anything more stands on this line
unfoldable pub top_at : ℕ → List Word → Result (Option ℕ × List Word) TextFault
top_at line [] = Ok (None, [])
top_at line (w ∷ ws) =
    if w.line == line
    then natural_at 1 w >>= (λ n. at_line_end line (Some n) ws)
    else Ok (None, w ∷ ws)

-- the header whose `p` stands on this line, and what is left
unfoldable pub header_at : ℕ → ℕ → List Word → Result (Header × List Word) TextFault
header_at line end ws = do
  format ← next_of end ws
  same ← wanted_word line (codes "wcnf") format.0
  variables ← next_of end format.1
  v ← header_number line variables.0
  clauses ← next_of end variables.1
  c ← header_number line clauses.0
  top ← top_at line clauses.1
  Ok (record { variables = v; clauses = c; top = top.0 }, top.1)

-- so many clauses, and what is left
unfoldable pub clauses_at : ℕ → Header → ℕ → List Word → Result (List Listed × List Word) TextFault
clauses_at zero h end ws = Ok ([], ws)
clauses_at (suc n) h end ws = do
  w ← next_of end ws
  first ← clause_at (Older h.top) (Some h.variables) end w.0 w.1
  others ← clauses_at n h end first.1
  Ok (first.0 ∷ others.0, others.1)

-- nothing is left
abbrev pub at_end : {A : Type 0} → A → List Word → Result A TextFault
at_end x [] = Ok x
at_end x (w ∷ ws) = Err (fault kinds.Extra w.line)

-- the header, its clauses, and nothing more, where `p` stands on this line
unfoldable pub older_of : ℕ → ℕ → List Word → Result Wcnf TextFault
older_of line end ws = do
  h ← header_at line end ws
  cs ← clauses_at h.0.clauses h.0 end h.1
  at_end (record { layout = Older h.0.top; variables = h.0.variables; clauses = cs.0 }) cs.1

-- ---- the layout of 2022: clauses alone

-- clauses up to the end of the words, at most so many
unfoldable pub clauses_within : ℕ → ℕ → List Word → Result (List Listed) TextFault
clauses_within count end [] = Ok []
clauses_within zero end (w ∷ ws) = Err (fault kinds.End end)
clauses_within (suc count) end (w ∷ ws) = do
  first ← clause_at WithoutHeader None end w ws
  others ← clauses_within count end first.1
  Ok (first.0 ∷ others)

-- as many clauses as there are words always reach the end
abbrev pub clauses_to_end : ℕ → List Word → Result (List Listed) TextFault
clauses_to_end end ws = clauses_within (length ws) end ws

-- no greater count reads anything else
abbrev pub WordsAreEnough : Type 0
WordsAreEnough = (count end : ℕ) (ws : List Word) → length ws ≤ count
    → clauses_within count end ws ≡ clauses_to_end end ws

-- the largest size of a literal, or 0 where there is none
abbrev pub largest : List Listed → ℕ
largest cs = fold max 0 (flat_map (λ c. map nat_abs c.literals) cs)

-- the clauses, and as many variables as their largest literal says
unfoldable pub headerless_of : ℕ → List Word → Result Wcnf TextFault
headerless_of end ws =
    clauses_to_end end ws
    >>= λ cs. Ok (record { layout = WithoutHeader; variables = largest cs; clauses = cs })

-- ---- a whole text

-- what the words say: in the older layout where the first one is `p`, and else in that of 2022
unfoldable pub reading_of_words : List Word → Result Wcnf TextFault
reading_of_words [] = Err (fault kinds.End 1)
reading_of_words (w ∷ ws) =
    if bytes_eq w.bytes (codes "p")
    then older_of w.line (end_line (w ∷ ws)) ws
    else headerless_of (end_line (w ∷ ws)) (w ∷ ws)

-- the reading of a text
unfoldable pub reading : List ℕ → Result Wcnf TextFault
reading text = reading_of_words (tokens_of Plain text)
