-- What a polynomial text says: each line that has words is a product, a number and then literals.
--
-- A reading goes through the words in order. The first word that cannot stand in its place makes
-- the text bad, with a kind and the word's line.
use Rattle.std.specs.Prelude.{ℕ, ℤ, Bool, true, false, ◌&&◌, ◌||◌, List, [], ◌∷◌, drop, slice_index, Result, Ok, Err, ◌==◌, if◌then◌else◌}
use Rattle.std.specs.Char.{is_ascii_alphabetic, is_ascii_alphanumeric}
use Rattle.std.specs.List.{list_all}
use Rattle.whole_text.specs.declared.faults.TextKind.TheVariants as kinds
use Rattle.whole_text.specs.declared.faults.TextFault.{TextFault}
use Rattle.whole_text.specs.declared.token.Style.TheVariants.{Plain}
use Rattle.whole_text.specs.Tokens.{Word, tokens_of}
use Rattle.whole_text.specs.Steps.{◌>>=◌, fault, integer_at}
use Rattle.whole_text.specs.Rows.{Row, by_line, each}

-- ---- what a text says, as it says it

-- a literal: the name of a variable, and whether it stands for the complement
pub record Named : Type 0 where
  pub name : List ℕ
  pub negated : Bool

-- a product: its coefficient and its literals; a whole text is a list of products
pub record Listed : Type 0 where
  pub coefficient : ℤ
  pub literals : List Named

-- ---- literals: `~` or not, and a name

-- an ASCII letter or `_`
abbrev pub begins_name : ℕ → Bool
begins_name c = is_ascii_alphabetic c || (c == 95)

-- an ASCII letter, a digit or `_`
abbrev pub is_name_byte : ℕ → Bool
is_name_byte c = is_ascii_alphanumeric c || (c == 95)

-- a letter or `_`, and then letters, digits and `_`
abbrev pub is_name : List ℕ → Bool
is_name [] = false
is_name (c ∷ cs) = begins_name c && list_all is_name_byte cs

-- the literal of a name
unfoldable pub named_at : ℕ → Bool → List ℕ → Result Named TextFault
named_at line negated name =
    if is_name name
    then Ok (record { name = name; negated = negated })
    else Err (fault kinds.Word line)

-- a literal
unfoldable pub literal_at : Word → Result Named TextFault
literal_at w =
    if slice_index w.bytes 0 == 126
    then named_at w.line true (drop 1 w.bytes)
    else named_at w.line false w.bytes

-- ---- a whole text

-- the product of a line: a number, and then literals
unfoldable pub product_at : Row → Result Listed TextFault
product_at r =
    integer_at r.first
    >>= λ c. each literal_at r.others >>= λ ls. Ok (record { coefficient = c; literals = ls })

-- what the words say
unfoldable pub reading_of_words : List Word → Result (List Listed) TextFault
reading_of_words ws = each product_at (by_line ws)

-- the reading of a text
unfoldable pub reading : List ℕ → Result (List Listed) TextFault
reading text = reading_of_words (tokens_of Plain text)
