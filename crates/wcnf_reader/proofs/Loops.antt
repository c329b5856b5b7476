-- Reading one thing after the other, as a loop does.
use Rattle.wcnf_reader.proofs.Common.{nat_tests, ints, arith, ◌≡◌, ℕ, cond, eqb, ℤ, List, [], ◌∷◌, ◌++◌, map, Option, Some, None, Result, Ok, Err, sym, ◌∙◌, append_assoc, append-nil, nat_abs, TextFault, Word, ◌>>=◌, fault, Literal, literal_at, literals_at, literal_of, some_literal, literal_read, literals_read}
use Rattle.whole_text.specs.declared.faults.TextKind.TheVariants as kinds

-- ---- the literals of a clause

-- numbers, or literals, and what is left
abbrev pub Numbers : Type 0
Numbers = Result (List ℤ × List Word) TextFault

abbrev pub Literals : Type 0
Literals = Result (List Literal × List Word) TextFault

-- literals that were read before, and those that are still read
abbrev pub after : List Literal → List Literal × List Word → Literals
after front x = Ok (front ++ x.0, x.1)

abbrev pub with_front : List Literal → Literals → Literals
with_front front read = read >>= after front

-- numbers with one more in front
abbrev with_first : ℤ → List ℤ × List Word → Numbers
with_first z x = Ok (z ∷ x.0, x.1)

-- numbers as literals
abbrev as_literals : List ℤ × List Word → Literals
as_literals x = Ok (map literal_of x.0, x.1)

-- what a number gives: the end, or one more before the others
abbrev next_number : List Word → Numbers → ℤ → Numbers
next_number ws others z = cond (eqb (nat_abs z) 0) (Ok ([], ws)) (others >>= with_first z)

abbrev maybe_literal : ℤ → Result (Option Literal) TextFault
maybe_literal z = Ok (some_literal z)

literal_then : (front : List Literal) (l : Literal) (ws : List Word) (others : Numbers)
    (first : Result ℤ TextFault) → first >>= maybe_literal ≡ Ok (Some l)
    → with_front front ((first >>= next_number ws others) >>= as_literals)
    ≡ with_front (front ++ l ∷ []) (others >>= as_literals)
literal_then front l ws others first h = grind (arith, nat_tests, ints, append_assoc)

zero_then : (front : List Literal) (ws : List Word) (others : Numbers)
    (first : Result ℤ TextFault) → first >>= maybe_literal ≡ Ok None
    → with_front front ((first >>= next_number ws others) >>= as_literals) ≡ Ok (front, ws)
zero_then front ws others first h = grind (arith, nat_tests, ints, append-nil)

fault_then : (front : List Literal) (f : TextFault) (ws : List Word) (others : Numbers)
    (first : Result ℤ TextFault) → first >>= maybe_literal ≡ Err f
    → with_front front ((first >>= next_number ws others) >>= as_literals) ≡ Err f
fault_then front f ws others first h = grind (arith, nat_tests, ints)

pub literal_goes_on : (variables : Option ℕ) (end : ℕ) (front : List Literal) (w : Word) (ws : List Word)
    (l : Literal) (total : Literals) → literal_read variables w ≡ Ok (Some l)
    → with_front front (literals_read variables end (w ∷ ws)) ≡ total
    → with_front (front ++ l ∷ []) (literals_read variables end ws) ≡ total
unfolding literals_at
literal_goes_on variables end front w ws l total h so_far =
    sym (literal_then front l ws (literals_at variables end ws) (literal_at variables w) h) ∙ so_far

pub literals_stop : (variables : Option ℕ) (end : ℕ) (front : List Literal) (w : Word) (ws : List Word)
    (total : Literals) → literal_read variables w ≡ Ok None
    → with_front front (literals_read variables end (w ∷ ws)) ≡ total → total ≡ Ok (front, ws)
unfolding literals_at
literals_stop variables end front w ws total h so_far =
    sym so_far ∙ zero_then front ws (literals_at variables end ws) (literal_at variables w) h

pub literals_fail : (variables : Option ℕ) (end : ℕ) (front : List Literal) (w : Word) (ws : List Word)
    (f : TextFault) (total : Literals) → literal_read variables w ≡ Err f
    → with_front front (literals_read variables end (w ∷ ws)) ≡ total → total ≡ Err f
unfolding literals_at
literals_fail variables end front w ws f total h so_far =
    sym so_far ∙ fault_then front f ws (literals_at variables end ws) (literal_at variables w) h

pub literals_end : (variables : Option ℕ) (end : ℕ) (front : List Literal) (ws : List Word)
    (total : Literals) → ws ≡ [] → with_front front (literals_read variables end ws) ≡ total
    → total ≡ Err (fault kinds.End end)
unfolding literals_at
literals_end variables end front ws total none so_far = grind (arith, nat_tests)
