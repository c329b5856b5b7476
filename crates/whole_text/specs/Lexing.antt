-- A lexer: the words so far of a text that comes in pieces, and where it stands in a line.
use Rattle.std.specs.Prelude.{◌≡◌, ℕ, ◌+◌, ◌<◌, ◌≤◌, ⊤, false, List, [], ◌∷◌, ◌++◌, length, map}
use Rattle.std.specs.List.{slice_split, AllByRecursion}
use Rattle.whole_text.specs.declared.token.Style.{Style}
use Rattle.whole_text.specs.Tokens.{Word, word, feeds, is_feed, is_blank, pieces, pieces_of_line, tokens_from, tokens_of}

-- in a line with only blanks so far, between two words, inside a token of these bytes, or in a
-- comment; a spent lexer stands nowhere
pub data Place : Type 0 where
  Fresh : Place
  Between : Place
  Inside : (bytes : List ℕ) → Place
  Comment : Place
  Spent : Place

-- what a lexer holds: the words that have ended, the place, the number of its line, and how many
-- bytes there are in all its words
pub record LexerState : Type 0 where
  pub style : Style
  pub words : List Word
  pub place : Place
  pub line : ℕ
  pub size : ℕ

-- a token that has begun: it has no blank, and is one piece
pub record IsBegun (style : Style) (w : List ℕ) : Type 0 where
  pub some : 0 < length w
  pub ink : AllByRecursion (λ b. is_blank b ≡ false) w
  pub run : pieces style w ≡ w ∷ []

-- the lexer isn't spent, and the token that it stands in has begun
abbrev pub IsPlace : Style → Place → Type 0
IsPlace style Fresh = ⊤
IsPlace style Between = ⊤
IsPlace style (Inside w) = IsBegun style w
IsPlace style Comment = ⊤
IsPlace style Spent = ⊥

-- the words that the lines of the rest give from a place on, of which the first line is the rest of
-- line n
unfoldable pub to_come : Style → Place → ℕ → List (List ℕ) → List Word
to_come style Fresh n lines = tokens_from style n lines
to_come style place n [] = []
to_come style Between n (line ∷ lines) =
    map (word n) (pieces_of_line style line) ++ tokens_from style (n + 1) lines
to_come style (Inside w) n (line ∷ lines) =
    map (word n) (pieces_of_line style (w ++ line)) ++ tokens_from style (n + 1) lines
to_come style Comment n (line ∷ lines) = tokens_from style (n + 1) lines
to_come style Spent n (line ∷ lines) = []

-- the lexer stands for the text: whatever rest comes, the words of it all are those that it holds
-- and those still to come
pub record StandsFor (lexer : LexerState) (text : List ℕ) : Type 0 where
  pub place : IsPlace lexer.style lexer.place
  pub words : (rest : List ℕ) → tokens_of lexer.style (text ++ rest)
      ≡ lexer.words ++ to_come lexer.style lexer.place lexer.line (slice_split is_feed rest)
  pub line : lexer.line ≡ 1 + feeds text
  pub size : lexer.size ≤ length text

-- it stands for a text that has at most so many bytes together with a piece
abbrev pub HasRoom : LexerState → List ℕ → ℕ → Type 0
HasRoom lexer piece most =
    (text : List ℕ) × StandsFor lexer text × (length text + length piece ≤ most)
