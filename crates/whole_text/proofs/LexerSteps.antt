-- A lexer that stands for a text stands for one byte more after each of its steps.
use Rattle.whole_text.proofs.Common.{nat_tests, ◌≡◌, ℕ, ◌+◌, ◌≤◌, true, false, eqb, List, [], ◌∷◌, ◌++◌, length, refl, arith, append_assoc, if◌then◌else◌, slice_split, cases_Bool, append-nil, length-append, slice_split-cons_yes, slice_split-cons_no, Style, Word, word, joins, is_blank, is_feed, words, comment_byte, is_comment, tokens_of_line, tokens_from, tokens_of, Place, Fresh, Between, Inside, Comment, Spent, LexerState, IsPlace, to_come, feeds, StandsFor, ended, after_blank}
use Rattle.whole_text.proofs.LineWords.{words_none, words_blank, comment_line, other_line}
use Rattle.whole_text.proofs.Pieces.{last_of, one_begun, begun_more, blank_ends, line_ends, apart_ends}

-- ---- the tokens of a line

-- an empty line has no tokens
no_tokens : (style : Style) (n : ℕ) → tokens_of_line style n [] ≡ []
unfolding tokens_of_line is_comment
no_tokens style n = rw words_none refl

-- a blank in front changes nothing
blank_line : (style : Style) (n b : ℕ) (l : List ℕ) → is_blank b ≡ true → tokens_of_line style n (b ∷ l) ≡ tokens_of_line style n l
unfolding tokens_of_line is_comment
blank_line style n b l e = rw (words_blank b l e) refl

-- a byte in front that is no blank decides whether the line is a comment
first_decides : (style : Style) (b : ℕ) (l : List ℕ) → is_blank b ≡ false → is_comment style (b ∷ l) ≡ eqb b (comment_byte style)
unfolding words is_comment
first_decides style b l e = rw e (grind (arith, nat_tests))

-- ---- what is still to come

feed_step : (style : Style) (place : Place) (n : ℕ) (lines : List (List ℕ)) → IsPlace style place → to_come style place n ([] ∷ lines) ≡ ended n place ++ tokens_from style (n + 1) lines
unfolding to_come tokens_from
feed_step style place n lines h =
    grind (arith, nat_tests, no_tokens, words_none, append-nil, line_ends)

blank_step : (style : Style) (place : Place) (n b : ℕ) (l : List ℕ) (lines : List (List ℕ)) → IsPlace style place → is_blank b ≡ true → to_come style place n ((b ∷ l) ∷ lines) ≡ ended n place ++ to_come style (after_blank place) n (l ∷ lines)
unfolding to_come tokens_from
blank_step style place n b l lines h e =
    grind (arith, nat_tests, blank_line, words_blank, blank_ends)

-- the place behind a byte that is neither a blank nor a line feed
abbrev pub after_ink : Style → Place → ℕ → Place
after_ink style Fresh b = if eqb b (comment_byte style) then Comment else Inside (b ∷ [])
after_ink style Between b = Inside (b ∷ [])
after_ink style (Inside w) b =
    if joins style (last_of w) b then Inside (w ++ b ∷ []) else Inside (b ∷ [])
after_ink style Comment b = Comment
after_ink style Spent b = Spent

-- the token that ends before such a byte
abbrev pub cut_off : Style → ℕ → Place → ℕ → List Word
cut_off style n (Inside w) b = if joins style (last_of w) b then [] else word n w ∷ []
cut_off style n Fresh b = []
cut_off style n Between b = []
cut_off style n Comment b = []
cut_off style n Spent b = []

ink_step : (style : Style) (place : Place) (n b : ℕ) (l : List ℕ) (lines : List (List ℕ))
    → IsPlace style place → is_blank b ≡ false → to_come style place n ((b ∷ l) ∷ lines)
    ≡ cut_off style n place b ++ to_come style (after_ink style place b) n (l ∷ lines)
unfolding to_come tokens_from
ink_step style place n b l lines h e =
    grind (arith, nat_tests, cases_Bool, comment_line, first_decides, other_line, last_of, append_assoc, apart_ends)

-- ---- places go on

feeds-push : (text : List ℕ) (b : ℕ) → feeds (text ++ b ∷ []) ≡ feeds text + (if is_feed b then 1 else 0)
feeds-push [] b = omega arith
feeds-push (c ∷ text) b = omega (arith, feeds-push text b)

pub feeds-few : (text : List ℕ) → feeds text ≤ length text
feeds-few [] = omega arith
feeds-few (b ∷ text) = grind (arith, nat_tests, feeds-few text)

-- ---- the lexer goes on by one byte

-- the lines of a rest, of which there is always one
some_line : (bs : List ℕ) → (l : List ℕ) × (ls : List (List ℕ)) × (slice_split is_feed bs ≡ l ∷ ls)
some_line [] = ([], [], refl)
some_line (b ∷ bs) =
    grind (arith, nat_tests, some_line bs, cases_Bool, slice_split-cons_yes is_feed b bs, slice_split-cons_no is_feed b bs)

-- the state behind a line feed
abbrev pub feed_state : LexerState → LexerState
feed_state s = record s { words = s.words ++ ended s.line s.place; place = Fresh; line = s.line + 1 }

-- the state behind a blank
abbrev pub blank_state : LexerState → LexerState
blank_state s = record s { words = s.words ++ ended s.line s.place; place = after_blank s.place }

longer : (text : List ℕ) (b size : ℕ) → size ≤ length text → size + 1 ≤ length (text ++ b ∷ [])
longer text b size le = omega (arith, length-append text (b ∷ []))

pub stands_feed : (s : LexerState) (text : List ℕ) (b : ℕ) → is_feed b ≡ true → StandsFor s text → StandsFor (feed_state s) (text ++ b ∷ [])
unfolding to_come
stands_feed s text b feed h = record {
  place = tt;
  words = λ rest.
      grind (arith, nat_tests, append_assoc, h.words (b ∷ rest), slice_split-cons_yes is_feed b rest feed, feed_step);
  line = rw (feeds-push text b, feed) (omega (arith, h.line));
  size = omega (arith, longer text b s.size h.size);
}

-- a byte that is no line feed, which ends some words and leads to another place
stands_behind : (s : LexerState) (text : List ℕ) (b size : ℕ) (off : List Word) (after : Place) → is_feed b ≡ false
    → IsPlace s.style after → size ≤ s.size + 1
    → ((l : List ℕ) (lines : List (List ℕ)) → to_come s.style s.place s.line ((b ∷ l) ∷ lines) ≡ off ++ to_come s.style after s.line (l ∷ lines))
    → StandsFor s text → StandsFor (record s { words = s.words ++ off; place = after; size = size }) (text ++ b ∷ [])
stands_behind s text b size off after feed place le step h = record {
  place = place;
  words = λ rest.
      let more = some_line rest in
      rw (append_assoc text (b ∷ []) rest, h.words (b ∷ rest), slice_split-cons_no is_feed b rest feed, more.2, step more.0 more.1, append_assoc) refl;
  line = rw (feeds-push text b, feed) (omega (arith, h.line));
  size = omega (arith, length-append text (b ∷ []), h.size);
}

pub stands_blank : (s : LexerState) (text : List ℕ) (b : ℕ) → is_feed b ≡ false → is_blank b ≡ true → StandsFor s text → StandsFor (blank_state s) (text ++ b ∷ [])
stands_blank s text b feed blank h =
    stands_behind s text b s.size _ _ feed (grind (arith, nat_tests)) (omega arith) (λ l lines. blank_step s.style s.place s.line b l lines h.place blank) h

-- the state behind another byte, which counts where it is held
abbrev pub ink_state : LexerState → ℕ → ℕ → LexerState
ink_state s b size = record s {
  words = s.words ++ cut_off s.style s.line s.place b;
  place = after_ink s.style s.place b;
  size = size;
}

pub stands_ink : (s : LexerState) (text : List ℕ) (b size : ℕ) → is_feed b ≡ false → is_blank b ≡ false → size ≤ s.size + 1 → StandsFor s text → StandsFor (ink_state s b size) (text ++ b ∷ [])
stands_ink s text b size feed ink le h =
    stands_behind s text b size _ _ feed (grind (arith, nat_tests, one_begun, cases_Bool, last_of, begun_more)) le (λ l lines. ink_step s.style s.place s.line b l lines h.place ink) h

-- where no token ends before it
pub stands_kept : (s : LexerState) (text : List ℕ) (b size : ℕ) → cut_off s.style s.line s.place b ≡ []
    → is_feed b ≡ false → is_blank b ≡ false → size ≤ s.size + 1 → StandsFor s text
    → StandsFor (record s { place = after_ink s.style s.place b; size = size }) (text ++ b ∷ [])
stands_kept s text b size kept feed ink le h =
    grind (arith, nat_tests, append-nil s.words, stands_ink s text b size feed ink le h)

-- at the end the words are those of the text
pub stands_end : (s : LexerState) (text : List ℕ) → StandsFor s text → tokens_of s.style text ≡ s.words ++ ended s.line s.place
unfolding tokens_from
stands_end s text h =
    grind (arith, nat_tests, append-nil text, feed_step s.style s.place s.line, append-nil (ended s.line s.place))

-- without a text
pub stands_empty : (style : Style) → StandsFor (record { style = style; words = []; place = Fresh; line = 1; size = 0 }) []
unfolding to_come tokens_of
stands_empty style = grind (arith, nat_tests)
