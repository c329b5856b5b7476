-- The tokens of a text: it is cut into lines at line feeds, a line that is no comment into words at
-- blanks, and a word between neighbours that do not join.
use Rattle.std.specs.Prelude.{◌≡◌, ℕ, ◌+◌, ◌-◌, ◌<◌, ◌≤◌, Bool, true, false, not, ◌&&◌, ◌||◌, List, [], ◌∷◌, ◌++◌, length, map, filter, take, slice_get, ◌==◌, if◌then◌else◌}
use Rattle.std.specs.Option.{option_map_or}
use Rattle.std.specs.List.{slice_split, slice_range, onto_first, flat_map}
use Rattle.whole_text.specs.declared.token.Style.{Style}
use Rattle.whole_text.specs.declared.token.Style.TheVariants.{Plain, Opb, Wbo}
use Rattle.whole_text.specs.declared.token.Token.{Token}

-- what a token says: its bytes, and the number of its line
pub record Word : Type 0 where
  pub line : ℕ
  pub bytes : List ℕ

-- the token of these bytes on this line
abbrev pub word : ℕ → List ℕ → Word
word line bytes = record { line = line; bytes = bytes }

-- a line feed ends a line
abbrev pub is_feed : ℕ → Bool
is_feed c = c == 10

-- a space, a tab or a carriage return
abbrev pub is_blank : ℕ → Bool
is_blank c = (c == 32) || ((c == 9) || (c == 13))

-- a list that is not empty
abbrev pub is_filled : List ℕ → Bool
is_filled [] = false
is_filled (c ∷ cs) = true

-- the words of a line: what stands between blanks
unfoldable pub words : List ℕ → List (List ℕ)
words line = filter is_filled (slice_split is_blank line)

-- `<`, `=` or `>`
abbrev pub is_operator : ℕ → Bool
is_operator c = (c == 60) || ((c == 61) || (c == 62))

-- `[` or `]`
abbrev pub is_bracket : ℕ → Bool
is_bracket c = (c == 91) || (c == 93)

-- neighbours of one token of a sum or of what stands around it: not beside a `;` (59) nor behind a
-- `:` (58), and else where both or neither is of an operator
abbrev pub terms_join : ℕ → ℕ → Bool
terms_join c d =
    not ((c == 59) || ((d == 59) || (c == 58)))
    && (if is_operator c then is_operator d else not (is_operator d))

-- whether two neighbours in a word stand in one token: in the style of WBO not beside a bracket
abbrev pub joins : Style → ℕ → ℕ → Bool
joins Plain c d = true
joins Opb c d = terms_join c d
joins Wbo c d = not (is_bracket c || is_bracket d) && terms_join c d

-- a word, cut between neighbours that do not join
unfoldable pub pieces : Style → List ℕ → List (List ℕ)
pieces style [] = []
pieces style (c ∷ []) = (c ∷ []) ∷ []
pieces style (c ∷ d ∷ cs) =
    if joins style c d
    then onto_first c (pieces style (d ∷ cs))
    else (c ∷ []) ∷ pieces style (d ∷ cs)

-- the pieces of the words of a line
abbrev pub pieces_of_line : Style → List ℕ → List (List ℕ)
pieces_of_line style line = flat_map (pieces style) (words line)

-- the byte that begins a comment: `c`, in the styles of OPB and WBO `*`
abbrev pub comment_byte : Style → ℕ
comment_byte Plain = 99
comment_byte style = 42

-- the first word begins with this byte
abbrev pub begins_with : ℕ → List (List ℕ) → Bool
begins_with c [] = false
begins_with c ([] ∷ ws) = false
begins_with c ((d ∷ ds) ∷ ws) = d == c

-- the first byte that is no blank begins a comment
unfoldable pub is_comment : Style → List ℕ → Bool
is_comment style line = begins_with (comment_byte style) (words line)

-- the tokens of the line with this number: its pieces, or none where it is a comment
unfoldable pub tokens_of_line : Style → ℕ → List ℕ → List Word
tokens_of_line style n line =
    if is_comment style line then [] else map (word n) (pieces_of_line style line)

-- the tokens of lines that are numbered from n on
unfoldable pub tokens_from : Style → ℕ → List (List ℕ) → List Word
tokens_from style n [] = []
tokens_from style n (line ∷ lines) = tokens_of_line style n line ++ tokens_from style (n + 1) lines

-- the tokens of a text, whose lines are numbered from 1
unfoldable pub tokens_of : Style → List ℕ → List Word
tokens_of style text = tokens_from style 1 (slice_split is_feed text)

-- what a token at its place in a text says
abbrev pub word_at : List ℕ → Token → Word
word_at text t = word t.line (slice_range text t.start t.end)

-- what the tokens of a text say
abbrev pub words_at : List ℕ → List Token → List Word
words_at text ts = map (word_at text) ts

-- a token stands inside a text, and is not empty
abbrev pub IsWithin : List ℕ → Token → Type 0
IsWithin text t = (t.start < t.end) × (t.end ≤ length text)

-- how many line feeds
abbrev pub feeds : List ℕ → ℕ
feeds [] = 0
feeds (b ∷ bs) = (if is_feed b then 1 else 0) + feeds bs

-- a token names the line that it stands on: one more than there are line feeds before it
abbrev pub IsOnItsLine : List ℕ → Token → Type 0
IsOnItsLine text t = t.line ≡ 1 + feeds (take t.start text)

-- the bytes between two places stand on the line with this number
pub record IsOnLine (text : List ℕ) (start end line : ℕ) : Type 0 where
  pub number : line ≡ 1 + feeds (take start text)
  pub one : feeds (slice_range text start end) ≡ 0

-- the tokens stand one after another between two places of a text
abbrev pub AreInOrder : ℕ → List Token → ℕ → Type 0
AreInOrder low [] high = low ≤ high
AreInOrder low (t ∷ ts) high = (low ≤ t.start) × (t.start < t.end) × AreInOrder t.end ts high

-- the tokens, none of them empty, stand one right after another from one place to another
abbrev pub AreJoined : ℕ → List Token → ℕ → Type 0
AreJoined low [] high = low ≡ high
AreJoined low (t ∷ ts) high = (low ≡ t.start) × (t.start < t.end) × AreJoined t.end ts high

-- the tokens take all of the bytes, one right after another
abbrev pub TakeAll : List Token → List ℕ → Type 0
TakeAll tokens bytes = AreJoined 0 tokens (length bytes)

-- the line of the last token, or 1 where there is none
abbrev pub last_line : List Token → ℕ
last_line ts = option_map_or (λ t. t.line) (slice_get ts (length ts - 1)) 1
