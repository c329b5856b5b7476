-- Literals, one after another: one more is read, it fails, or the line or the text ends.
use Rattle.poly_reader.proofs.Common.{nat_tests, arith, ◌≡◌, ℕ, true, false, List, [], ◌∷◌, ◌++◌, Result, Ok, Err, refl, ap, append-nil, append_assoc, ◌==◌, TextFault, Word, ◌>>=◌, each, on_line, past_line, Literal, literal_set, Named, literal_at, with_name, names_after, literal_of, numbered, literals_read}
use Rattle.poly_reader.proofs.NameNumbers.{names_after-longer, has-with_name, literal_of-longer}
use Rattle.poly_reader.proofs.ProductSets.{literal_set-before}

abbrev LiteralsRead : Type 0
LiteralsRead = Result (List Literal × List (List ℕ) × List Word) TextFault

-- the literals with one before them
abbrev with_first : Named → Result (List Named) TextFault → Result (List Named) TextFault
with_first l read = read >>= λ ls. Ok (l ∷ ls)

-- literals by their numbers, behind others
abbrev put_behind : List (List ℕ) → List Literal → List Word → Result (List Named) TextFault → LiteralsRead
put_behind names front rest read =
    read >>= λ ls. Ok (literal_set (front ++ numbered names ls), names_after names ls, rest)

put_one : (l : Named) (names : List (List ℕ)) (front : List Literal) (rest : List Word)
    (read : Result (List Named) TextFault)
    → put_behind (with_name names l.name) (front ++ literal_of (with_name names l.name) l ∷ []) rest read
    ≡ put_behind names front rest (with_first l read)
put_one l names front rest read =
    grind (arith, nat_tests, literal_of-longer, names_after-longer, has-with_name, append_assoc)

pub literal_goes_on : (line : ℕ) (names : List (List ℕ)) (front : List Literal) (w : Word)
    (ws : List Word) (l : Named) → (w.line == line) ≡ true → literal_at w ≡ Ok l
    → literals_read line (with_name names l.name) (front ++ literal_of (with_name names l.name) l ∷ []) ws
    ≡ literals_read line names front (w ∷ ws)
unfolding each
literal_goes_on line names front w ws l here read =
    rw (here, read) (put_one l names front (past_line line ws) (each literal_at (on_line line ws)))

pub literal_fails : (line : ℕ) (names : List (List ℕ)) (front : List Literal) (w : Word)
    (ws : List Word) (f : TextFault) → (w.line == line) ≡ true → literal_at w ≡ Err f
    → literals_read line names front (w ∷ ws) ≡ Err f
unfolding each
literal_fails line names front w ws f here read = rw (here, read) refl

pub literals_stop : (line : ℕ) (names : List (List ℕ)) (front : List Literal) (w : Word)
    (ws : List Word) → (w.line == line) ≡ false
    → literals_read line names front (w ∷ ws) ≡ Ok (literal_set front, names, w ∷ ws)
unfolding each
literals_stop line names front w ws past =
    rw past (ap (λ (ks : List Literal). Ok (literal_set ks, names, w ∷ ws)) (append-nil front))

pub literals_end : (line : ℕ) (names : List (List ℕ)) (front : List Literal) (ws : List Word)
    → ws ≡ [] → literals_read line names front ws ≡ Ok (literal_set front, names, [])
unfolding each
literals_end line names front ws none =
    rw none (ap (λ (ks : List Literal). Ok (literal_set ks, names, [])) (append-nil front))

-- ---- other literals in front with the same set

behind_alike : (names : List (List ℕ)) (front front' : List Literal) (rest : List Word)
    (read : Result (List Named) TextFault) → literal_set front' ≡ literal_set front
    → put_behind names front' rest read ≡ put_behind names front rest read
behind_alike names front front' rest read same = grind (arith, nat_tests, literal_set-before)

pub literals_settled : (line : ℕ) (names : List (List ℕ)) (front front' : List Literal)
    (ws : List Word) → literal_set front' ≡ literal_set front
    → literals_read line names front' ws ≡ literals_read line names front ws
literals_settled line names front front' ws same =
    behind_alike names front front' (past_line line ws) (each literal_at (on_line line ws)) same
