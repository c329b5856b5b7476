-- Constraints: one is a sum and its comparison, and one more is read, or they end.
use Rattle.opb_reader.proofs.Common.{nat_tests, ◌≡◌, ℕ, ◌+◌, ◌≤◌, ◌<◌, true, false, ℤ, List, [], ◌∷◌, length, map, All, Option, Result, Ok, Err, refl, arith, MatchOption, unsigned_abs, codes, bytes_eq, ints, sum_by-cons, WordRef, TextFault, TextAnswer, Word, word_of, ◌>>=◌, Fails, Product, ProblemContent, negated, products_total, constraint_total, Operator, greatest_index, is_operator, sum_at, comparison_at, constraint_at, constraints_at, head_at, compared, put_all, with_listed, objective_read, head_read, constraint_read, constraints_read, All-map}
use Rattle.opb_reader.specs.declared.operator.Operator.TheVariants.{AtLeast, AtMost, Equal}
use Rattle.opb_reader.proofs.Many.{many_go_on, many_fail, many_end}
use Rattle.opb_reader.proofs.Shrinking.{constraint_shrinks}
use Rattle.opb_reader.proofs.Variables.{AreWithin}

-- ---- one constraint

pub sum_fails : (e : TextAnswer) (p : ProblemContent) (end : ℕ) (w : Word) (ws : List Word)
    → Fails e (sum_at greatest_index is_operator end (w ∷ ws))
    → Fails e (constraint_read p end w ws)
unfolding constraint_at
sum_fails e p end w ws h = grind (arith, nat_tests)

pub comparison_fails : (f : TextFault) (p : ProblemContent) (end : ℕ) (w : Word)
    (ws rest : List Word) (terms : List Product)
    → sum_at greatest_index is_operator end (w ∷ ws) ≡ Ok (terms, rest) → comparison_at end rest
    ≡ Err f → constraint_read p end w ws ≡ Err f
unfolding constraint_at
comparison_fails f p end w ws rest terms sum h = rw (sum, h) refl

pub constraint_is : (p : ProblemContent) (end : ℕ) (w : Word) (ws rest after : List Word)
    (terms : List Product) (operator : Operator) (bound : ℤ)
    → sum_at greatest_index is_operator end (w ∷ ws) ≡ Ok (terms, rest)
    → comparison_at end rest ≡ Ok (operator, bound, after) → constraint_read p end w ws
    ≡ Ok (with_listed p (record { terms = terms; operator = operator; bound = bound }), after)
unfolding constraint_at
constraint_is p end w ws rest after terms operator bound sum h = rw (sum, h) refl

-- ---- terms with the other sign

pub compared_within : (operator : Operator) (v : ℕ) (ts : List Product) (bound : ℤ)
    → AreWithin v ts → AreWithin v (compared operator ts bound).products
compared_within AtLeast v ts bound h = h
compared_within Equal v ts bound h = h
compared_within AtMost v ts bound h =
    All-map (λ (t : Product). All (λ l. l.variable < v) t.literals) negated ts h

pub negated-total : (ts : List Product) → products_total (map negated ts) ≡ products_total ts
negated-total [] = refl
negated-total (t ∷ ts) = simp sum_by-cons (omega (arith, ints, negated-total ts))

pub compared-total : (operator : Operator) (ts : List Product) (bound : ℤ)
    → constraint_total (compared operator ts bound) ≡ products_total ts + unsigned_abs bound
compared-total operator ts bound = grind (arith, nat_tests, ints, negated-total)

-- ---- all constraints

-- the problem alone
abbrev pub first_part : ProblemContent × List Word → Result ProblemContent TextFault
first_part x = Ok x.0

pub constraints_read-put : (p : ProblemContent) (end : ℕ) (ws : List Word)
    → constraints_read p end ws ≡ put_all with_listed p (constraints_at end ws) >>= first_part
constraints_read-put p end ws = grind (arith, nat_tests)

pub constraint_goes_on : (p q : ProblemContent) (end : ℕ) (w : Word) (ws rest : List Word)
    → length rest ≤ length ws → constraint_read p end w ws ≡ Ok (q, rest)
    → constraints_read p end (w ∷ ws) ≡ constraints_read q end rest
unfolding constraints_at
constraint_goes_on p q end w ws rest le one =
    grind (arith, nat_tests, constraints_read-put, many_go_on, constraint_shrinks)

first_fails : (e : TextAnswer) (read : Result (ProblemContent × List Word) TextFault)
    → Fails e read → Fails e (read >>= first_part)
first_fails e read h = grind (arith, nat_tests)

pub constraint_fails : (e : TextAnswer) (p : ProblemContent) (end : ℕ) (w : Word) (ws : List Word)
    → Fails e (constraint_read p end w ws) → Fails e (constraints_read p end (w ∷ ws))
unfolding constraints_at
constraint_fails e p end w ws h =
    grind (arith, nat_tests, constraints_read-put, first_fails, many_fail)

pub constraints_end : (p : ProblemContent) (end : ℕ) → constraints_read p end [] ≡ Ok p
unfolding constraints_at
constraints_end p end = grind (arith, nat_tests, constraints_read-put, many_end)

-- ---- where the objective may stand

pub head_objective : (p : ProblemContent) (end : ℕ) (w : Word) (ws : List Word)
    → bytes_eq w.bytes (codes "min:") ≡ true → head_read p end (w ∷ ws) ≡ objective_read p end ws
unfolding head_at
head_objective p end w ws e = rw e refl

pub head_other : (p : ProblemContent) (end : ℕ) (w : Word) (ws : List Word)
    → bytes_eq w.bytes (codes "min:") ≡ false → head_read p end (w ∷ ws) ≡ Ok (p, w ∷ ws)
unfolding head_at
head_other p end w ws e = rw e refl

pub head_none : (p : ProblemContent) (end : ℕ) → head_read p end [] ≡ Ok (p, [])
unfolding head_at
head_none p end = refl

-- the next word is the one that was seen
pub next_is : (ws new rest : List Word) (o : Option WordRef) (w : Word)
    → MatchOption o ((ws ≡ []) × (new ≡ [])) (λ v. ws ≡ word_of v ∷ new) → ws ≡ w ∷ rest
    → ws ≡ w ∷ new
next_is ws new rest o w h e = grind (arith, nat_tests)
