-- What a certificate's text says: on each line that has words a number, and then literals of nodes.
--
-- A reading goes through the words in order. The first word that cannot stand in its place makes
-- the text bad, with a kind and the word's line.
use Rattle.std.specs.Prelude.{◌≡◌, ℕ, ℤ, pos, Bool, true, false, ◌||◌, ◌==◌, nat_lt, List, [], ◌∷◌, drop, slice_index, Option, Some, None, Result, Ok, Err, if◌then◌else◌}
use Rattle.std.specs.List.{flat_map}
use Rattle.base.specs.Sums.{if_so, total_by}
use Rattle.whole_text.specs.declared.faults.TextKind.TheVariants as kinds
use Rattle.whole_text.specs.declared.faults.TextFault.{TextFault}
use Rattle.whole_text.specs.declared.token.Style.TheVariants.{Plain}
use Rattle.whole_text.specs.Numbers.{are_digits, digits_number}
use Rattle.whole_text.specs.Tokens.{Word, tokens_of}
use Rattle.whole_text.specs.Steps.{◌>>=◌, fault, integer_at}
use Rattle.whole_text.specs.Rows.{Row, by_line, each}
use Rattle.literal_lists.specs.declared.literal.Literal.{Literal}
use Rattle.literal_lists.specs.Literals.{all_hold, has_clash, literal_set}
use Rattle.problem_form.specs.NormalForm.{is_empty}
use Rattle.posiform_check.specs.declared.lines.Line.{Line}
use Rattle.term_table.specs.Terms.{terms_cost}
use Rattle.posiform_check.specs.BitForms.{CertificateContent, certificate_terms}

-- ---- literals: `~` or not, and the digits of a node

-- a node below the model's nodes
abbrev pub node_below : ℕ → ℕ → Option ℕ → Result ℕ TextFault
node_below nodes line None = Err (fault kinds.Range line)
node_below nodes line (Some n) = if nat_lt n nodes then Ok n else Err (fault kinds.Range line)

-- the node of digits
unfoldable pub node_at : ℕ → ℕ → List ℕ → Result ℕ TextFault
node_at nodes line bytes =
    if are_digits bytes
    then node_below nodes line (digits_number bytes)
    else Err (fault kinds.Word line)

-- the literal of a node
abbrev pub literal_of : Bool → ℕ → Result Literal TextFault
literal_of negated n = Ok (record { variable = n; negated = negated })

-- a literal
unfoldable pub literal_at : ℕ → Word → Result Literal TextFault
literal_at nodes w =
    if slice_index w.bytes 0 == 126
    then node_at nodes w.line (drop 1 w.bytes) >>= literal_of true
    else node_at nodes w.line w.bytes >>= literal_of false

-- ---- lines

-- the line of these literals with this number
abbrev pub written : List Literal → ℤ → ℕ → Line
written ls c n = record { literals = ls; coefficient = c; line = n }

-- a line as it is written: a number, and then literals
unfoldable pub line_at : ℕ → Row → Result Line TextFault
line_at nodes l = integer_at l.first
    >>= λ c. each (literal_at nodes) l.others
    >>= λ ls. Ok (written ls c l.first.line)

-- ---- a whole text

-- what a line adds to the bound: its number, where it has no literals
abbrev pub bound_of : Line → ℤ
bound_of l = if is_empty l.literals then l.coefficient else pos 0

-- the line with each literal once, in order; none where it has no literals, or a literal and its
-- complement
abbrev pub kept_line : Line → List Line
kept_line l =
    if is_empty l.literals || has_clash l.literals
    then []
    else record l { literals = literal_set l.literals } ∷ []

-- the certificate of lines as they are written
abbrev pub content_of : List Line → CertificateContent
content_of ls = record { bound = total_by bound_of ls; lines = flat_map kept_line ls }

-- what the words say
unfoldable pub reading_of_words : ℕ → List Word → Result CertificateContent TextFault
reading_of_words nodes ws = each (line_at nodes) (by_line ws) >>= λ ls. Ok (content_of ls)

-- the reading of a text
unfoldable pub reading : ℕ → List ℕ → Result CertificateContent TextFault
reading nodes text = reading_of_words nodes (tokens_of Plain text)

-- ---- its value

-- a line as it is written counts its coefficient where all its literals are true
abbrev pub line_value : List Bool → Line → ℤ
line_value y l = if_so (all_hold y l.literals) l.coefficient

-- the value of what is read is the sum of the lines as they are written, for every list of bits
abbrev pub ReadingKeepsValues : Type 0
ReadingKeepsValues = (ls : List Line) (y : List Bool)
    → terms_cost y (certificate_terms (content_of ls)) ≡ total_by (line_value y) ls
