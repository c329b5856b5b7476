-- One constraint with its weight, step by step; and one more constraint, or the end.
use Rattle.wbo_reader.proofs.Common.{nat_tests, ints, arith, ◌≡◌, ℕ, ◌≤◌, ℤ, Bool, List, [], ◌∷◌, length, Option, Result, Ok, Err, refl, ap, TextFault, TextAnswer, Word, ◌>>=◌, Fails, Product, Constraint, Operator, literals_in, widened, is_operator, sum_at, comparison_at, constraint_at, compared, put_all, many_go_on, many_fail, many_end, Soft, WboContent, Weighed, greatest_index, front_at, weighed_at, constraints_at, with_constraint, with_weighed, constraint_read, constraints_read}
use Rattle.wbo_reader.proofs.Fronts.{weighed_shrinks}
use Rattle.wbo_reader.proofs.Together.{constraints_after}

-- ---- one constraint

pub front_fails : (f : TextFault) (s : WboContent) (end : ℕ) (w : Word) (ws : List Word)
    → front_at end w ws ≡ Err f → constraint_read s end w ws ≡ Err f
unfolding weighed_at
front_fails f s end w ws h = rw h refl

pub sum_fails : (e : TextAnswer) (s : WboContent) (end : ℕ) (w : Word) (ws : List Word)
    (weight : Option ℕ) (first : Word) (rest : List Word)
    → front_at end w ws ≡ Ok (weight, first, rest)
    → Fails e (sum_at greatest_index is_operator end (first ∷ rest))
    → Fails e (constraint_read s end w ws)
unfolding weighed_at constraint_at
sum_fails e s end w ws weight first rest front h = grind (arith, nat_tests)

pub comparison_fails : (f : TextFault) (s : WboContent) (end : ℕ) (w : Word) (ws : List Word)
    (weight : Option ℕ) (first : Word) (rest left : List Word) (terms : List Product)
    → front_at end w ws ≡ Ok (weight, first, rest)
    → sum_at greatest_index is_operator end (first ∷ rest) ≡ Ok (terms, left)
    → comparison_at end left ≡ Err f → constraint_read s end w ws ≡ Err f
unfolding weighed_at constraint_at
comparison_fails f s end w ws weight first rest left terms front sum h = rw (front, sum, h) refl

-- a constraint of these parts
abbrev pub weighed : Option ℕ → List Product → Operator → ℤ → Weighed
weighed weight terms operator bound = record {
  weight = weight;
  listed = record { terms = terms; operator = operator; bound = bound };
}

pub weighed_is : (s : WboContent) (end : ℕ) (w : Word) (ws : List Word) (weight : Option ℕ)
    (first : Word) (rest left after : List Word) (terms : List Product) (operator : Operator)
    (bound : ℤ) → front_at end w ws ≡ Ok (weight, first, rest)
    → sum_at greatest_index is_operator end (first ∷ rest) ≡ Ok (terms, left)
    → comparison_at end left ≡ Ok (operator, bound, after)
    → constraint_read s end w ws ≡ Ok (with_weighed s (weighed weight terms operator bound), after)
unfolding weighed_at constraint_at
weighed_is s end w ws weight first rest left after terms operator bound front sum h =
    rw (front, sum, h) refl

-- what is added to a source with more variables, by the parts that the code has
pub added_is : (s : WboContent) (v more : ℕ) (hard : List Constraint) (soft : List Soft)
    (top : Option ℕ) (order : List Bool) (new : WboContent) (weight : Option ℕ)
    (terms : List Product) (operator : Operator) (bound : ℤ) (k : Constraint)
    → record { variables = v; hard = hard; soft = soft; top = top; order = order } ≡ s
    → more ≡ widened v (literals_in terms) → k ≡ compared operator terms bound → new
    ≡ with_constraint
    (record { variables = more; hard = hard; soft = soft; top = top; order = order }) weight k
    → new ≡ with_weighed s (weighed weight terms operator bound)
added_is s v more hard soft top order new weight terms operator bound k was counted written is =
    grind (arith, nat_tests, ints)

-- ---- all constraints

-- the source alone
abbrev pub first_part : WboContent × List Word → Result WboContent TextFault
first_part x = Ok x.0

constraints_read-put : (s : WboContent) (end : ℕ) (ws : List Word)
    → constraints_read s end ws ≡ put_all with_weighed s (constraints_at end ws) >>= first_part
constraints_read-put s end ws = grind (arith, nat_tests)

pub constraint_goes_on : (s t : WboContent) (end : ℕ) (w : Word) (ws rest : List Word)
    → length rest ≤ length ws → constraint_read s end w ws ≡ Ok (t, rest)
    → constraints_read s end (w ∷ ws) ≡ constraints_read t end rest
unfolding constraints_at
constraint_goes_on s t end w ws rest le one =
    grind (arith, nat_tests, constraints_read-put, many_go_on, weighed_shrinks)

first_fails : (e : TextAnswer) (read : Result (WboContent × List Word) TextFault)
    → Fails e read → Fails e (read >>= first_part)
first_fails e read h = grind (arith, nat_tests)

pub constraint_fails : (e : TextAnswer) (s : WboContent) (end : ℕ) (w : Word) (ws : List Word)
    → Fails e (constraint_read s end w ws) → Fails e (constraints_read s end (w ∷ ws))
unfolding constraints_at
constraint_fails e s end w ws h =
    grind (arith, nat_tests, constraints_read-put, first_fails, many_fail)

pub constraints_end : (s : WboContent) (end : ℕ) → constraints_read s end [] ≡ Ok s
unfolding constraints_at
constraints_end s end = grind (arith, nat_tests, constraints_read-put, many_end)

-- ---- what stands before them

-- a fault before the constraints
pub head_fails : (f : TextFault) (end : ℕ) (read : Result (Option ℕ × List Word) TextFault)
    → read ≡ Err f → read >>= constraints_after end ≡ Err f
head_fails f end read h = ap (λ r. r >>= constraints_after end) h
