-- Literals that follow one another, and the variables that they need.
use Rattle.opb_reader.proofs.Common.{◌≡◌, ℕ, true, false, List, [], ◌∷◌, ◌++◌, Result, Ok, Err, refl, sym, ap, append_assoc, append-nil, TextFault, Word, ◌>>=◌, next_of, Literal, begins_literal, literal_at, literals_at, product_at, literals_read}

-- literals, and what is left
abbrev Literals : Type 0
Literals = Result (List Literal × List Word) TextFault

abbrev behind : List Literal → List Literal × List Word → Literals
behind front x = Ok (front ++ x.0, x.1)

abbrev with_first : Literal → List Literal × List Word → Literals
with_first l x = Ok (l ∷ x.0, x.1)

regroup : (front : List Literal) (l : Literal) (rest : Literals)
    → (rest >>= with_first l) >>= behind front ≡ rest >>= behind (front ++ l ∷ [])
regroup front l (Ok x) = ap (λ ls. Ok (ls, x.1)) (sym (append_assoc front (l ∷ []) x.0))
regroup front l (Err e) = refl

pub literal_goes_on : (limit : ℕ) (front : List Literal) (w : Word) (ws : List Word) (l : Literal)
    → begins_literal w.bytes ≡ true → literal_at limit w ≡ Ok l
    → literals_read limit front (w ∷ ws) ≡ literals_read limit (front ++ l ∷ []) ws
unfolding literals_at
literal_goes_on limit front w ws l begins read = rw (begins, read)
    (regroup front l (literals_at limit ws))

pub literal_fails : (limit : ℕ) (front : List Literal) (w : Word) (ws : List Word) (f : TextFault)
    → begins_literal w.bytes ≡ true → literal_at limit w ≡ Err f
    → literals_read limit front (w ∷ ws) ≡ Err f
unfolding literals_at
literal_fails limit front w ws f begins read = rw (begins, read) refl

pub literals_stop : (limit : ℕ) (front : List Literal) (w : Word) (ws : List Word)
    → begins_literal w.bytes ≡ false → literals_read limit front (w ∷ ws) ≡ Ok (front, w ∷ ws)
unfolding literals_at
literals_stop limit front w ws begins =
    rw begins (ap (λ (ls : List Literal). Ok (ls, w ∷ ws)) (append-nil front))

pub literals_end : (limit : ℕ) (front : List Literal) (ws : List Word) → ws ≡ []
    → literals_read limit front ws ≡ Ok (front, [])
unfolding literals_at
literals_end limit front ws none =
    rw none (ap (λ (ls : List Literal). Ok (ls, [])) (append-nil front))

-- the first literal, and those that follow
pub product_first : (limit end : ℕ) (ws rest : List Word) (w : Word) (l : Literal)
    → next_of end ws ≡ Ok (w, rest) → literal_at limit w ≡ Ok l
    → product_at limit end ws ≡ literals_read limit (l ∷ []) rest
unfolding product_at
product_first limit end ws rest w l next read = rw (next, read) refl
