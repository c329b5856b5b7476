-- What is added to a problem one after another is the normal form of the whole.
--
-- A problem that is widened as it goes has in the end as many variables as if it had been widened
-- at once, and neither products nor constraints ask how many there are.
use Rattle.opb_reader.proofs.Common.{nat_tests, arith, ◌≡◌, ℕ, List, [], ◌∷◌, ◌++◌, map, fold, Result, Ok, refl, sym, append-nil, append_assoc, flat_map, fold-map, fold-append, TextFault, Word, TextAnswer, ◌>>=◌, Fails, end_line, Literal, Product, Constraint, ProblemContent, Widened, AddedProduct, AddedConstraint, normal_form, blank, with_variables, with_product, with_constraint, with_part, as_written, parts_add_up, products_apart, products_written, Listed, Opb, literals_in, widened, variables_of, constraints_at, head_at, reading_of_words, constraint_of, problem_of, problem_of_words, with_term, with_listed, head_read, constraints_read}
use Rattle.opb_reader.proofs.Variables.{widened-append}

-- ---- variables apart

constraints_apart : (p : ProblemContent) (v : ℕ) (ks : List Constraint)
    → fold with_constraint (with_variables p v) ks ≡ with_variables (fold with_constraint p ks) v
constraints_apart p v [] = refl
constraints_apart p v (k ∷ ks) = constraints_apart (with_constraint p k) v ks

terms_apart : (p : ProblemContent) (ts : List Product) → fold with_term p ts
    ≡ with_variables (fold with_product p ts) (widened p.variables (literals_in ts))
terms_apart p [] = refl
terms_apart p (t ∷ ts) =
    let v = widened p.variables t.literals in
    let terms = terms_apart (with_term p t) ts in
    let products = products_apart (with_product p t) v ts in
    let append = widened-append p.variables t.literals (literals_in ts) in
    grind (arith, nat_tests)

-- the literals of constraints
abbrev constraint_literals : List Listed → List Literal
constraint_literals ks = flat_map (λ (k : Listed). literals_in k.terms) ks

listed_apart : (p : ProblemContent) (ks : List Listed)
    → fold with_listed p ks ≡ with_variables (fold with_constraint p (map constraint_of ks))
    (widened p.variables (constraint_literals ks))
listed_apart p [] = refl
listed_apart p (k ∷ ks) =
    let v = widened p.variables (literals_in k.terms) in
    let first = with_constraint p (constraint_of k) in
    let listed = listed_apart (with_listed p k) ks in
    let constraints = constraints_apart first v (map constraint_of ks) in
    let append = widened-append p.variables (literals_in k.terms) (constraint_literals ks) in
    grind (arith, nat_tests)

-- ---- parts

constraints_written : (p : ProblemContent) (ks : List Constraint)
    → fold as_written p (map AddedConstraint ks) ≡ record p { constraints = p.constraints ++ ks }
constraints_written p [] = λ i. record p { constraints = sym (append-nil p.constraints) i }
constraints_written p (k ∷ ks) =
    let rest = constraints_written (record p { constraints = p.constraints ++ k ∷ [] }) ks in
    grind (arith, nat_tests, append_assoc)

-- so many variables, products and constraints
abbrev written : ℕ → List Product → List Constraint → ProblemContent
written v ts ks = record (with_variables blank v) { objective = ts; constraints = ks }

parts_are : (v : ℕ) (ts : List Product) (ks : List Constraint)
    → fold with_constraint (fold with_product (with_variables blank v) ts) ks
    ≡ normal_form (written v ts ks)
parts_are v ts ks =
    let wide = with_variables blank v in
    let parts = parts_add_up (Widened v ∷ map AddedProduct ts ++ map AddedConstraint ks) in
    let products = fold-map with_part AddedProduct wide ts in
    let constraints = fold-map with_part AddedConstraint (fold with_part wide (map AddedProduct ts)) ks in
    let written = constraints_written (record wide { objective = ts }) ks in
    grind (arith, nat_tests, fold-append, products_written wide ts)

-- ---- the whole

abbrev whole : List Product → List Listed → Opb
whole ts ks = record { objective = ts; constraints = ks }

put_together : (ts : List Product) (ks : List Listed)
    → fold with_listed (fold with_term blank ts) ks ≡ normal_form (problem_of (whole ts ks))
put_together ts ks =
    let cs = map constraint_of ks in
    let u = widened 0 (literals_in ts) in
    let v = variables_of (whole ts ks) in
    let all = fold with_product blank ts in
    let terms = terms_apart blank ts in
    let listed = listed_apart (with_variables all u) ks in
    let append = widened-append 0 (literals_in ts) (constraint_literals ks) in
    let apart = constraints_apart all in
    let products = products_apart blank v ts in
    grind (arith, nat_tests, parts_are v ts cs)

-- ---- a text

abbrev Putting : Type 0
Putting = Result ProblemContent TextFault

abbrev as_whole : List Product → List Listed × List Word → Result Opb TextFault
as_whole ts x = Ok (whole ts x.0)

abbrev normal : Opb → Putting
normal s = Ok (normal_form (problem_of s))

abbrev rest_of : ℕ → List Product × List Word → Result Opb TextFault
rest_of end head = constraints_at end head.1 >>= as_whole head.0

-- constraints that are put to an objective
abbrev pub constraints_after : ℕ → ProblemContent × List Word → Putting
constraints_after end x = constraints_read x.0 end x.1

others_are : (ts : List Product) (read : Result (List Listed × List Word) TextFault)
    → (read >>= as_whole ts) >>= normal
    ≡ (read >>= λ (x : List Listed × List Word). Ok (fold with_listed (fold with_term blank ts) x.0))
others_are ts read = grind (arith, nat_tests, put_together)

head_is : (end : ℕ) (read : Result (List Product × List Word) TextFault)
    → (read >>= rest_of end) >>= normal
    ≡ (read >>= λ (x : List Product × List Word). Ok (fold with_term blank x.0, x.1)) >>= constraints_after end
head_is end read = grind (arith, nat_tests, others_are)

-- the problem of words: their objective, put to a problem that says nothing, and their constraints
pub problem_of_words-put : (ws : List Word)
    → problem_of_words ws ≡ head_read blank (end_line ws) ws >>= constraints_after (end_line ws)
unfolding problem_of_words reading_of_words
problem_of_words-put ws = head_is (end_line ws) (head_at (end_line ws) ws)

-- a fault in the objective
pub head_fails : (e : TextAnswer) (end : ℕ) (read : Result (ProblemContent × List Word) TextFault)
    → Fails e read → Fails e (read >>= constraints_after end)
head_fails e end read h = grind (arith, nat_tests)
