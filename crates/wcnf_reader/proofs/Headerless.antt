-- Clauses up to the end of the words, put into a problem that is widened as they come.
use Rattle.wcnf_reader.proofs.Common.{ap, nat_tests, ◌≡◌, ℕ, zero, suc, ◌≤◌, max, cond, eqb, List, [], ◌∷◌, length, map, fold, Option, None, Result, Ok, refl, sym, ◌∙◌, arith, ℤ, nat_abs, flat_map, IfOk, fold-append, TextFault, TextAnswer, Word, ◌>>=◌, Fails, Clause, ProblemContent, blank, with_variables, with_clause, normal_form, clauses_add_up, ClauseLayout, Listed, Wcnf, first_of, literals_at, clause_at, clauses_within, clauses_to_end, WordsAreEnough, largest, headerless_of, clause_of, problem_of, clause_read, widened, headerless_read}
use Rattle.wcnf_reader.specs.declared.layout.ClauseLayout.TheVariants.{WithoutHeader}
use Rattle.wcnf_reader.proofs.Clauses.{as_clause}
use Rattle.wcnf_reader.proofs.Widening.{AreLiterals, sizes_needed}

-- ---- what the literals of a clause are, and what they leave

abbrev Numbers : Type 0
Numbers = Result (List ℤ × List Word) TextFault

abbrev with_first : ℤ → List ℤ × List Word → Numbers
with_first z x = Ok (z ∷ x.0, x.1)

-- what a number gives: the end, or one more before the others
abbrev next_number : List Word → Numbers → ℤ → Numbers
next_number ws others z = cond (eqb (nat_abs z) 0) (Ok ([], ws)) (others >>= with_first z)

-- numbers that are not 0, and no more words than this
abbrev AreReadFrom : ℕ → List ℤ × List Word → Type 0
AreReadFrom most x = AreLiterals x.0 × (length x.1 ≤ most)

literals_are : (variables : Option ℕ) (end : ℕ) (ws : List Word)
    → IfOk (literals_at variables end ws) (AreReadFrom (length ws))
unfolding literals_at
literals_are variables end [] = tt
literals_are variables end (w ∷ ws) = grind (arith, nat_tests, literals_are variables end ws)

-- a clause of literals, and no more words than this
abbrev IsReadFrom : ℕ → Listed × List Word → Type 0
IsReadFrom most x = AreLiterals x.0.literals × (length x.1 ≤ most)

abbrev listed : Option ℕ → List ℤ × List Word → Result (Listed × List Word) TextFault
listed weight x = Ok (record { weight = weight; literals = x.0 }, x.1)

mark_then : (most : ℕ) (numbers : Numbers) (mark : Result (Option ℕ) TextFault)
    → IfOk numbers (AreReadFrom most)
    → IfOk (mark >>= λ weight. numbers >>= listed weight) (IsReadFrom most)
mark_then most numbers mark h = grind (arith, nat_tests)

clause_is : (layout : ClauseLayout) (variables : Option ℕ) (end : ℕ) (w : Word) (ws : List Word)
    → IfOk (clause_at layout variables end w ws) (IsReadFrom (length ws))
unfolding clause_at
clause_is layout variables end w ws =
    mark_then (length ws) (literals_at variables end ws) (first_of layout w)
    (literals_are variables end ws)

-- ---- as many clauses as words are enough

abbrev Listing : Type 0
Listing = Result (List Listed) TextFault

abbrev before_others : Listed → List Listed → Listing
before_others c cs = Ok (c ∷ cs)

-- what a clause gives: it, before the others
abbrev next_clause : (List Word → Listing) → Listed × List Word → Listing
next_clause others x = others x.1 >>= before_others x.0

same_others : (most : ℕ) (f g : List Word → Listing) (first : Result (Listed × List Word) TextFault)
    → IfOk first (IsReadFrom most) → ((ws : List Word) → length ws ≤ most → f ws ≡ g ws)
    → first >>= next_clause f ≡ first >>= next_clause g
same_others most f g first h same = grind (arith, nat_tests)

counts_agree : (n m end : ℕ) (ws : List Word) → length ws ≤ n → length ws ≤ m
    → clauses_within n end ws ≡ clauses_within m end ws
unfolding clauses_within
counts_agree n m end [] hn hm = refl
counts_agree zero m end (w ∷ ws) hn hm = absurd (omega (arith, hn))
counts_agree (suc n) zero end (w ∷ ws) hn hm = absurd (omega (arith, hm))
counts_agree (suc n) (suc m) end (w ∷ ws) hn hm =
    same_others (length ws) (clauses_within n end) (clauses_within m end)
    (clause_at WithoutHeader None end w ws) (clause_is WithoutHeader None end w ws)
    (λ rest le. counts_agree n m end rest (omega (arith, hn, le)) (omega (arith, hm, le)))

pub words_are_enough : WordsAreEnough
words_are_enough count end ws h = counts_agree count (length ws) end ws h (omega arith)

-- ---- put into a problem

-- a problem with one more clause, widened for its literals
abbrev pub widened_with : ProblemContent → Clause → ProblemContent
widened_with p c = with_clause (with_variables p (widened p.variables c.literals)) c

abbrev pub Putting : Type 0
Putting = Result ProblemContent TextFault

abbrev pub put : ProblemContent → List Listed → Putting
put p cs = Ok (fold widened_with p (map (clause_of WithoutHeader) cs))

-- what was put into the problem before, and what is still read
abbrev pub read_into : ProblemContent → Listing → Putting
read_into p read = read >>= put p

clause_then : (p : ProblemContent) (c : Clause) (ws : List Word) (others : List Word → Listing)
    (first : Result (Listed × List Word) TextFault) → first >>= as_clause WithoutHeader ≡ Ok (c, ws)
    → read_into p (first >>= next_clause others) ≡ read_into (widened_with p c) (others ws)
clause_then p c ws others first h = grind (arith, nat_tests)

pub clause_goes_on : (end : ℕ) (p : ProblemContent) (after rest : List Word) (w : Word) (c : Clause)
    (total : Putting) → clause_read WithoutHeader None end w after ≡ Ok (c, rest)
    → length rest ≤ length after → read_into p (clauses_to_end end (w ∷ after)) ≡ total
    → read_into (widened_with p c) (clauses_to_end end rest) ≡ total
unfolding clauses_within
clause_goes_on end p after rest w c total read le so_far =
    let others = clauses_within (length after) end in
    ap (read_into (widened_with p c)) (sym (words_are_enough (length after) end rest le))
    ∙ sym (clause_then p c rest others (clause_at WithoutHeader None end w after) read) ∙ so_far

pub clause_fails : (e : TextAnswer) (end : ℕ) (p : ProblemContent) (after : List Word) (w : Word)
    (total : Putting) → Fails e (clause_read WithoutHeader None end w after)
    → read_into p (clauses_to_end end (w ∷ after)) ≡ total → Fails e total
unfolding clauses_within
clause_fails e end p after w total fails so_far = grind (arith, nat_tests)

pub clauses_end : (end : ℕ) (p : ProblemContent) (ws : List Word) (total : Putting) → ws ≡ []
    → read_into p (clauses_to_end end ws) ≡ total → total ≡ Ok p
unfolding clauses_within
clauses_end end p ws total none so_far =
    let one : read_into p (clauses_to_end end ws) ≡ Ok p = rw none refl in sym so_far ∙ one

-- ---- the whole text

-- how many variables clauses need, from so many on
abbrev wide : ℕ → List Clause → ℕ
wide v cs = fold (λ n c. widened n c.literals) v cs

-- clauses that are added to a problem do not ask how many variables it has
added_apart : (p : ProblemContent) (v : ℕ) (cs : List Clause)
    → fold with_clause (with_variables p v) cs ≡ with_variables (fold with_clause p cs) v
added_apart p v [] = refl
added_apart p v (c ∷ cs) = added_apart (with_clause p c) v cs

widened_apart : (p : ProblemContent) (cs : List Clause)
    → fold widened_with p cs ≡ with_variables (fold with_clause p cs) (wide p.variables cs)
widened_apart p [] = refl
widened_apart p (c ∷ cs) =
    let rest = widened_apart (widened_with p c) cs in
    let apart = added_apart (with_clause p c) (widened p.variables c.literals) cs in
    grind (arith, nat_tests)

-- each clause has literals
abbrev AreClauses : List Listed → Type 0
AreClauses [] = Unit {0}
AreClauses (c ∷ cs) = AreLiterals c.literals × AreClauses cs

-- the sizes of all literals
abbrev sizes : List Listed → List ℕ
sizes cs = flat_map (λ (c : Listed). map nat_abs c.literals) cs

wide_sizes : (v : ℕ) (cs : List Listed) → AreClauses cs
    → wide v (map (clause_of WithoutHeader) cs) ≡ fold max v (sizes cs)
wide_sizes v [] h = refl
wide_sizes v (c ∷ cs) h =
    grind (arith, nat_tests, wide_sizes (fold max v (map nat_abs c.literals)) cs h.1, sizes_needed, fold-append)

put_blank : (cs : List Listed) → AreClauses cs → put blank cs ≡ Ok (normal_form (problem_of
    (record { layout = WithoutHeader; variables = largest cs; clauses = cs })))
put_blank cs h = grind (arith, nat_tests, widened_apart, wide_sizes, added_apart, clauses_add_up)

others_are : (most : ℕ) (f : List Word → Listing) (first : Result (Listed × List Word) TextFault)
    → IfOk first (IsReadFrom most) → ((ws : List Word) → IfOk (f ws) AreClauses)
    → IfOk (first >>= next_clause f) AreClauses
others_are most f first h all = grind (arith, nat_tests)

clauses_are : (n end : ℕ) (ws : List Word) → IfOk (clauses_within n end ws) AreClauses
unfolding clauses_within
clauses_are n end [] = tt
clauses_are zero end (w ∷ ws) = tt
clauses_are (suc n) end (w ∷ ws) =
    others_are (length ws) (clauses_within n end) (clause_at WithoutHeader None end w ws)
    (clause_is WithoutHeader None end w ws) (clauses_are n end)

abbrev as_source : List Listed → Result Wcnf TextFault
as_source cs = Ok (record { layout = WithoutHeader; variables = largest cs; clauses = cs })

abbrev normal : Wcnf → Putting
normal s = Ok (normal_form (problem_of s))

into_blank : (read : Listing) → IfOk read AreClauses
    → (read >>= as_source) >>= normal ≡ read_into blank read
into_blank read h = grind (arith, nat_tests, put_blank)

-- what is put into a problem that says nothing is the problem of the text
pub headerless_read-blank : (end : ℕ) (ws : List Word)
    → headerless_read end ws ≡ read_into blank (clauses_to_end end ws)
unfolding headerless_of
headerless_read-blank end ws = into_blank (clauses_to_end end ws) (clauses_are (length ws) end ws)
