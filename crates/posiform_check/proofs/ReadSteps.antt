-- Literals and lines, one after another: one more is read, it fails, or there are no more.
use Rattle.posiform_check.proofs.Common.{nat_tests, ◌≡◌, ℕ, ℤ, ◌+ℤ◌, true, false, List, [], ◌∷◌, ◌++◌, fold, Result, Ok, Err, refl, ap, append-nil, append_assoc, ◌==◌, arith, Option, MatchOption, flat_map, ints, total_by, TextFault, TextAnswer, WordRef, word_of, Word, ◌>>=◌, Fails, Literal, by_line, each, left, on_line, past_line, Line, CertificateContent, written, literal_at, line_at, bound_of, kept_line, content_of, reading_of_words, literals_read, line_read, with_line, blank, lines_put, row_of, by_line-first}

-- ---- literals

abbrev put_behind : List Literal → List Word → Result (List Literal) TextFault
    → Result (List Literal × List Word) TextFault
put_behind front rest read = read >>= λ ls. Ok (front ++ ls, rest)

put_literal : (l : Literal) (front : List Literal) (rest : List Word)
    (read : Result (List Literal) TextFault) → put_behind (front ++ l ∷ []) rest read
    ≡ put_behind front rest (read >>= λ ls. Ok (l ∷ ls))
put_literal l front rest read = grind (arith, nat_tests, append_assoc)

pub literal_goes_on : (nodes line : ℕ) (front : List Literal) (w : Word) (ws : List Word)
    (l : Literal) → (w.line == line) ≡ true → literal_at nodes w ≡ Ok l
    → literals_read nodes line (front ++ l ∷ []) ws ≡ literals_read nodes line front (w ∷ ws)
unfolding each
literal_goes_on nodes line front w ws l here read =
    grind (arith, nat_tests, put_literal l front (past_line line ws) (each (literal_at nodes) (on_line line ws)))

pub literal_fails : (nodes line : ℕ) (front : List Literal) (w : Word) (ws : List Word)
    (f : TextFault) → (w.line == line) ≡ true → literal_at nodes w ≡ Err f
    → literals_read nodes line front (w ∷ ws) ≡ Err f
unfolding each
literal_fails nodes line front w ws f here read = rw (here, read) refl

pub literals_stop : (nodes line : ℕ) (front : List Literal) (w : Word) (ws : List Word)
    → (w.line == line) ≡ false → literals_read nodes line front (w ∷ ws) ≡ Ok (front, w ∷ ws)
unfolding each
literals_stop nodes line front w ws past = grind (arith, nat_tests, append-nil)

pub literals_end : (nodes line : ℕ) (front : List Literal) (ws : List Word) → ws ≡ []
    → literals_read nodes line front ws ≡ Ok (front, [])
unfolding each
literals_end nodes line front ws none = grind (arith, nat_tests, append-nil)

-- ---- lines

abbrev written_on : ℕ → ℤ → List Literal → Result Line TextFault
written_on n c ls = Ok (written ls c n)

abbrev put_line : ℕ → ℤ → List Literal × List Word → Result (Line × List Word) TextFault
put_line n c x = Ok (written x.0 c n, x.1)

abbrev before : Result (List Line) TextFault → Line → Result (List Line) TextFault
before others l = others >>= λ ls. Ok (l ∷ ls)

abbrev put_all : CertificateContent → Result (List Line) TextFault
    → Result CertificateContent TextFault
put_all s read = read >>= λ ls. Ok (fold with_line s ls)

one_goes_on : (s : CertificateContent) (n : ℕ) (rest rest' : List Word) (l : Line)
    (number : Result ℤ TextFault) (read : Result (List Literal) TextFault)
    (others : List Word → Result (List Line) TextFault)
    → (number >>= λ c. (read >>= λ ls. Ok (ls, rest)) >>= put_line n c) ≡ Ok (l, rest')
    → put_all s ((number >>= λ c. read >>= written_on n c) >>= before (others rest))
    ≡ put_all (with_line s l) (others rest')
one_goes_on s n rest rest' l number read others h = grind (arith, nat_tests, ints)

one_fails : (e : TextAnswer) (s : CertificateContent) (n : ℕ) (rest : List Word)
    (number : Result ℤ TextFault) (read : Result (List Literal) TextFault)
    (others : Result (List Line) TextFault)
    → Fails e (number >>= λ c. (read >>= λ ls. Ok (ls, rest)) >>= put_line n c)
    → Fails e (put_all s ((number >>= λ c. read >>= written_on n c) >>= before others))
one_fails e s n rest number read others h = grind (arith, nat_tests, ints)

abbrev lines_by : ℕ → List Word → Result (List Line) TextFault
lines_by nodes ws = each (line_at nodes) (by_line ws)

first_line : (nodes : ℕ) (w : Word) (ws : List Word) → lines_by nodes (w ∷ ws)
    ≡ line_at nodes (row_of w (on_line w.line ws)) >>= before (lines_by nodes (past_line w.line ws))
unfolding each
first_line nodes w ws = ap (each (line_at nodes)) (by_line-first w ws)

pub line_goes_on : (nodes : ℕ) (s : CertificateContent) (w : Word) (ws rest : List Word) (l : Line)
    → line_read nodes w ws ≡ Ok (l, rest)
    → lines_put nodes s (w ∷ ws) ≡ lines_put nodes (with_line s l) rest
unfolding line_at
line_goes_on nodes s w ws rest l h = grind (arith, nat_tests, first_line, one_goes_on)

pub line_fails : (nodes : ℕ) (e : TextAnswer) (s : CertificateContent) (w : Word) (ws : List Word)
    → Fails e (line_read nodes w ws) → Fails e (lines_put nodes s (w ∷ ws))
unfolding line_at
line_fails nodes e s w ws h = grind (arith, nat_tests, first_line, one_fails)

pub lines_end : (nodes : ℕ) (s : CertificateContent) (ws : List Word) → ws ≡ []
    → lines_put nodes s ws ≡ Ok s
unfolding each by_line
lines_end nodes s ws none = rw none refl

-- ---- all lines

all_lines : (s : CertificateContent) (ls : List Line) → fold with_line s ls
    ≡ record { bound = s.bound +ℤ total_by bound_of ls; lines = s.lines ++ flat_map kept_line ls }
all_lines s [] = grind (arith, nat_tests, ints, append-nil)
all_lines s (l ∷ ls) = grind (arith, nat_tests, ints, all_lines (with_line s l) ls, append_assoc)

all_read : (read : Result (List Line) TextFault)
    → put_all blank read ≡ (read >>= λ ls. Ok (content_of ls))
all_read read = grind (arith, nat_tests, ints, all_lines)

pub lines_all : (nodes : ℕ) (ws : List Word) → lines_put nodes blank ws ≡ reading_of_words nodes ws
unfolding reading_of_words
lines_all nodes ws = all_read (lines_by nodes ws)

-- ---- the next word, which is taken

pub next_left : (next : Option WordRef) (old new : List Word)
    → MatchOption next ((old ≡ []) × (new ≡ [])) (λ w. old ≡ word_of w ∷ new) → left next new ≡ old
next_left next old new h = grind (arith, nat_tests)
