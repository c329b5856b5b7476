-- What an OPB text says: an objective or none, and constraints up to the end.
--
-- A reading goes through the words in order. The first word that cannot stand in its place makes
-- the text bad, with a kind and the word's line.
use Rattle.std.specs.Prelude.{◌≡◌, ℕ, zero, suc, ◌+◌, ◌-◌, ◌^◌, ◌≤◌, nat_lt, nat_le, ℤ, codes, Bool, true, false, ◌&&◌, ◌||◌, List, [], ◌∷◌, ◌++◌, length, drop, slice_index, max, map, fold, flat_map, Option, Some, None, is_some, Result, Ok, Err, IfOk, ◌==◌, bytes_eq, if◌then◌else◌}
use Rattle.std.specs.Option.{ok_or}
use Rattle.whole_text.specs.declared.faults.TextKind.TheVariants as kinds
use Rattle.whole_text.specs.declared.faults.TextFault.{TextFault}
use Rattle.whole_text.specs.declared.token.Style.TheVariants as styles
use Rattle.whole_text.specs.Numbers.{are_digits, digits_number, number_of}
use Rattle.whole_text.specs.Tokens.{Word, tokens_of}
use Rattle.whole_text.specs.Steps.{◌>>=◌, fault, end_line, next_of, integer_at}
use Rattle.literal_lists.specs.declared.literal.Literal.{Literal}
use Rattle.problem_form.specs.declared.terms.Product.{Product}
use Rattle.opb_reader.specs.declared.operator.Operator.{Operator}
use Rattle.opb_reader.specs.declared.operator.Operator.TheVariants.{AtLeast, AtMost, Equal}

-- ---- what a text says, as it says it

-- a constraint: the terms of its sum, and the number that the sum is compared with
pub record Listed : Type 0 where
  pub terms : List Product
  pub operator : Operator
  pub bound : ℤ

-- a whole text: the terms of its objective, which are none where it has no objective, and its
-- constraints
pub record Opb : Type 0 where
  pub objective : List Product
  pub constraints : List Listed

-- the literals of terms
abbrev pub literals_in : List Product → List Literal
literals_in terms = flat_map (λ t. t.literals) terms

-- the literals of a whole text
abbrev pub all_literals : Opb → List Literal
all_literals s = literals_in s.objective ++ flat_map (λ k. literals_in k.terms) s.constraints

-- the least number of variables, at least so many, that has all these literals
abbrev pub widened : ℕ → List Literal → ℕ
widened variables literals = fold max variables (map (λ l. l.variable + 1) literals)

-- as many variables as the largest index says, also one of a term that is dropped
abbrev pub variables_of : Opb → ℕ
variables_of s = widened 0 (all_literals s)

-- ---- words

-- the operator of these bytes
abbrev pub operator_of : List ℕ → Option Operator
operator_of bytes =
    if bytes_eq bytes (codes ">=") then Some AtLeast
    else (if bytes_eq bytes (codes "<=") then Some AtMost
    else (if bytes_eq bytes (codes "=") then Some Equal else None))

-- `>=`, `<=` or `=`
abbrev pub is_operator : List ℕ → Bool
is_operator bytes = is_some (operator_of bytes)

-- `;`, which ends the objective and each constraint
abbrev pub is_semicolon : List ℕ → Bool
is_semicolon bytes = bytes_eq bytes (codes ";")

-- the first byte is `x` or `~`
abbrev pub begins_literal : List ℕ → Bool
begins_literal bytes = (slice_index bytes 0 == 120) || (slice_index bytes 0 == 126)

-- the last byte is `:`
abbrev pub ends_in_colon : List ℕ → Bool
ends_in_colon bytes = slice_index bytes (length bytes - 1) == 58

-- a word that can stand elsewhere, but not where a number is needed
abbrev pub stands_elsewhere : List ℕ → Bool
stands_elsewhere bytes =
    begins_literal bytes || (ends_in_colon bytes || (is_semicolon bytes || is_operator bytes))

-- ---- literals: `~` or not, `x`, and digits
--
-- Indices are at most a limit, which is the first argument of what reads them.

-- the greatest index of an OPB text
abbrev pub greatest_index : ℕ
greatest_index = 2 ^ 64 - 1

-- the variable of an index; variables count from 0, and indices from 1
abbrev pub variable_at : ℕ → ℕ → Option ℕ → Result ℕ TextFault
variable_at limit line None = Err (fault kinds.Range line)
variable_at limit line (Some n) =
    if nat_lt 0 n && nat_le n limit then Ok (n - 1) else Err (fault kinds.Range line)

-- an index of digits
unfoldable pub index_at : ℕ → ℕ → List ℕ → Result ℕ TextFault
index_at limit line digits =
    if are_digits digits
    then variable_at limit line (digits_number digits)
    else Err (fault kinds.Word line)

-- `x` and an index
unfoldable pub name_at : ℕ → ℕ → List ℕ → Result ℕ TextFault
name_at limit line bytes =
    if slice_index bytes 0 == 120
    then index_at limit line (drop 1 bytes)
    else Err (fault kinds.Word line)

-- the literal of a variable
abbrev pub literal_of : Bool → ℕ → Result Literal TextFault
literal_of negated n = Ok (record { variable = n; negated = negated })

-- a literal
unfoldable pub literal_at : ℕ → Word → Result Literal TextFault
literal_at limit w =
    if slice_index w.bytes 0 == 126
    then name_at limit w.line (drop 1 w.bytes) >>= literal_of true
    else name_at limit w.line w.bytes >>= literal_of false

-- ---- one after another

-- what is read again and again, up to a word that ends it or the end of the words, at most so often
unfoldable pub many : {A : Type 0} → (List ℕ → Bool)
    → (Word → List Word → Result (A × List Word) TextFault) → ℕ → List Word
    → Result (List A × List Word) TextFault
many ends read count [] = Ok ([], [])
many ends read zero (w ∷ ws) = Ok ([], w ∷ ws)
many ends read (suc count) (w ∷ ws) =
    if ends w.bytes then Ok ([], w ∷ ws)
    else (read w ws >>= λ x. many ends read count x.1 >>= λ more. Ok (x.0 ∷ more.0, more.1))

-- the literals that follow one: words that begin with `x` or `~`
unfoldable pub literals_at : ℕ → List Word → Result (List Literal × List Word) TextFault
literals_at limit [] = Ok ([], [])
literals_at limit (w ∷ ws) =
    if begins_literal w.bytes
    then (literal_at limit w >>= λ l. literals_at limit ws >>= λ more. Ok (l ∷ more.0, more.1))
    else Ok ([], w ∷ ws)

-- ---- sums

-- one or more literals
unfoldable pub product_at : ℕ → ℕ → List Word → Result (List Literal × List Word) TextFault
product_at limit end ws = do
  w ← next_of end ws
  l ← literal_at limit w.0
  more ← literals_at limit w.1
  Ok (l ∷ more.0, more.1)

-- a number, where a term may begin
unfoldable pub coefficient_at : Word → Result ℤ TextFault
coefficient_at w =
    ok_or (number_of w.bytes)
    (fault (if stands_elsewhere w.bytes then kinds.Word else kinds.Number) w.line)

-- a term with this first word: a number, and one or more literals
unfoldable pub term_at : ℕ → ℕ → Word → List Word → Result (Product × List Word) TextFault
term_at limit end w ws = do
  c ← coefficient_at w
  ls ← product_at limit end ws
  Ok (record { literals = ls.0; coefficient = c }, ls.1)

-- terms up to a word that ends the sum; there are fewer of them than words
unfoldable pub sum_at : ℕ → (List ℕ → Bool) → ℕ → List Word
    → Result (List Product × List Word) TextFault
sum_at limit ends end ws = many ends (term_at limit end) (length ws) ws

-- ---- constraints and the objective

-- one of the three operators
unfoldable pub operator_at : Word → Result Operator TextFault
operator_at w = ok_or (operator_of w.bytes) (fault kinds.Word w.line)

-- a `;`
unfoldable pub closed_at : ℕ → List Word → Result (List Word) TextFault
closed_at end ws =
    next_of end ws
    >>= λ w. if is_semicolon w.0.bytes then Ok w.1 else Err (fault kinds.Word w.0.line)

-- an operator, a number and a `;`
unfoldable pub comparison_at : ℕ → List Word → Result (Operator × ℤ × List Word) TextFault
comparison_at end ws = do
  w ← next_of end ws
  operator ← operator_at w.0
  number ← next_of end w.1
  bound ← integer_at number.0
  rest ← closed_at end number.1
  Ok (operator, bound, rest)

-- a constraint with this first word: a sum and its comparison
unfoldable pub constraint_at : ℕ → ℕ → Word → List Word → Result (Listed × List Word) TextFault
constraint_at limit end w ws = do
  sum ← sum_at limit is_operator end (w ∷ ws)
  compared ← comparison_at end sum.1
  Ok (record { terms = sum.0; operator = compared.0; bound = compared.1 }, compared.2)

-- no word ends the constraints
abbrev pub never : List ℕ → Bool
never bytes = false

-- constraints up to the end; there are fewer of them than words
unfoldable pub constraints_at : ℕ → List Word → Result (List Listed × List Word) TextFault
constraints_at end ws = many never (constraint_at greatest_index end) (length ws) ws

-- a sum and its `;`
unfoldable pub objective_at : ℕ → List Word → Result (List Product × List Word) TextFault
objective_at end ws = do
  sum ← sum_at greatest_index is_semicolon end ws
  rest ← closed_at end sum.1
  Ok (sum.0, rest)

-- the objective, where the first word is `min:`
unfoldable pub head_at : ℕ → List Word → Result (List Product × List Word) TextFault
head_at end [] = Ok ([], [])
head_at end (w ∷ ws) =
    if bytes_eq w.bytes (codes "min:") then objective_at end ws else Ok ([], w ∷ ws)

-- ---- a whole text

-- what the words say
unfoldable pub reading_of_words : List Word → Result Opb TextFault
reading_of_words ws = do
  head ← head_at (end_line ws) ws
  others ← constraints_at (end_line ws) head.1
  Ok (record { objective = head.0; constraints = others.0 })

-- the reading of a text
unfoldable pub reading : List ℕ → Result Opb TextFault
reading text = reading_of_words (tokens_of styles.Opb text)

-- no greater count reads anything else, and no word is left behind the constraints
pub record WordsAreEnough : Type 0 where
  pub terms : (limit : ℕ) (ends : List ℕ → Bool) (count end : ℕ) (ws : List Word)
      → length ws ≤ count
      → many ends (term_at limit end) count ws ≡ sum_at limit ends end ws
  pub constraints : (count end : ℕ) (ws : List Word) → length ws ≤ count
      → many never (constraint_at greatest_index end) count ws ≡ constraints_at end ws
  pub all : (end : ℕ) (ws : List Word) → IfOk (constraints_at end ws) (λ x. x.1 ≡ [])
