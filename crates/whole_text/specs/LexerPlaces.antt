-- How a lexer's place is held, and how it goes on.
use Rattle.std.specs.Prelude.{◌≡◌, ℕ, ◌<◌, ◌≤◌, ⊤, Bool, not, nat_lt, List, [], ◌∷◌}
use Rattle.whole_text.specs.declared.token.Token.{Token}
use Rattle.whole_text.specs.declared.lexing.At.{At}
use Rattle.whole_text.specs.declared.lexing.At.TheVariants as at
use Rattle.whole_text.specs.Tokens.{Word, word, AreJoined, last_line}
use Rattle.whole_text.specs.Lexing.{Place, Fresh, Between, Inside, Comment, Spent}

-- the place, from the bytes behind the last word that has ended
abbrev pub place_at : At → List ℕ → Place
place_at at.Fresh w = Fresh
place_at at.Between w = Between
place_at at.Inside w = Inside w
place_at at.Comment w = Comment
place_at at.Spent w = Spent

-- bytes stand behind the last word that has ended only inside a word
abbrev pub IsWordStart : At → ℕ → ℕ → Type 0
IsWordStart at.Inside start size = start < size
IsWordStart at.Spent start size = start ≤ size
IsWordStart at.Fresh start size = start ≡ size
IsWordStart at.Between start size = start ≡ size
IsWordStart at.Comment start size = start ≡ size

-- the tokens of the words that have ended stand before the word that hasn't
pub record IsLexer (at : At) (tokens : List Token) (start size line : ℕ) : Type 0 where
  pub joined : AreJoined 0 tokens start
  pub from : IsWordStart at start size
  pub below : last_line tokens ≤ line

-- the word that ends at a blank, a line feed or the end
abbrev pub ended : ℕ → Place → List Word
ended line (Inside w) = word line w ∷ []
ended line Fresh = []
ended line Between = []
ended line Comment = []
ended line Spent = []

-- the bytes of the word that hasn't ended
abbrev pub begun : Place → List ℕ
begun (Inside w) = w
begun Fresh = []
begun Between = []
begun Comment = []
begun Spent = []

-- the place behind a blank
abbrev pub after_blank : Place → Place
after_blank Fresh = Fresh
after_blank Between = Between
after_blank (Inside w) = Between
after_blank Comment = Comment
after_blank Spent = Spent

-- not spent
abbrev pub IsLive : Place → Type 0
IsLive Fresh = ⊤
IsLive Between = ⊤
IsLive (Inside w) = ⊤
IsLive Comment = ⊤
IsLive Spent = ⊥

-- a byte above the blank: neither a blank nor a line feed
abbrev pub is_above_blank : ℕ → Bool
is_above_blank b = not (nat_lt b 33)
