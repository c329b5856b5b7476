-- Sums: one more term is read, or it ends; and the objective, which is a sum and its `;`.
use Rattle.opb_reader.proofs.Common.{nat_tests, arith, ◌≡◌, ℕ, ◌≤◌, Bool, true, false, List, [], ◌∷◌, length, Result, Ok, Err, refl, TextFault, TextAnswer, Word, ◌>>=◌, Fails, fault, Product, ProblemContent, greatest_index, is_semicolon, term_at, sum_at, closed_at, objective_at, put, put_all, with_term, objective_read}
use Rattle.whole_text.specs.declared.faults.TextKind.TheVariants as kinds
use Rattle.opb_reader.proofs.Many.{two_parts, many_go_on, many_fail, many_stop, many_end}
use Rattle.opb_reader.proofs.Shrinking.{term_shrinks}

pub term_goes_on : {B : Type 0} (limit : ℕ) (step : B → Product → B) (b : B) (ends : List ℕ → Bool)
    (end : ℕ) (w : Word) (ws rest : List Word) (t : Product) → ends w.bytes ≡ false
    → length rest ≤ length ws → term_at limit end w ws ≡ Ok (t, rest)
    → put_all step b (sum_at limit ends end (w ∷ ws))
    ≡ put_all step (step b t) (sum_at limit ends end rest)
unfolding sum_at
term_goes_on limit step b ends end w ws rest t going le read =
    grind (arith, nat_tests, many_go_on, term_shrinks)

put_fails : {A B : Type 0} (e : TextAnswer) (step : B → A → B) (b : B)
    (read : Result (A × List Word) TextFault) → Fails e read → Fails e (put step b read)
put_fails e step b read h = grind (arith, nat_tests)

pub term_fails : {B : Type 0} (limit : ℕ) (e : TextAnswer) (step : B → Product → B) (b : B)
    (ends : List ℕ → Bool) (end : ℕ) (w : Word) (ws : List Word) → ends w.bytes ≡ false
    → Fails e (term_at limit end w ws) → Fails e (put_all step b (sum_at limit ends end (w ∷ ws)))
unfolding sum_at
term_fails limit e step b ends end w ws going fails = grind (arith, nat_tests, many_fail, put_fails)

pub sum_stops : {B : Type 0} (limit : ℕ) (step : B → Product → B) (b : B) (ends : List ℕ → Bool)
    (end : ℕ) (w : Word) (ws : List Word) → ends w.bytes ≡ true
    → put_all step b (sum_at limit ends end (w ∷ ws)) ≡ Ok (b, w ∷ ws)
unfolding sum_at
sum_stops limit step b ends end w ws stops = many_stop step b ends (term_at limit end) w ws stops

pub sum_ends : {B : Type 0} (limit : ℕ) (step : B → Product → B) (b : B) (ends : List ℕ → Bool)
    (end : ℕ) → put_all step b (sum_at limit ends end []) ≡ Ok (b, [])
unfolding sum_at
sum_ends limit step b ends end = many_end step b ends (term_at limit end)

-- ---- the objective

abbrev Terms : Type 0
Terms = Result (List Product × List Word) TextFault

abbrev with_rest : List Product × List Word → List Word → Terms
with_rest sum rest = Ok (sum.0, rest)

abbrev close : ℕ → List Product × List Word → Terms
close end sum = closed_at end sum.1 >>= with_rest sum

closed_by : (end : ℕ) (w : Word) (ws : List Word) → is_semicolon w.bytes ≡ true
    → closed_at end (w ∷ ws) ≡ Ok ws
unfolding closed_at
closed_by end w ws e = rw e refl

not_closed : (end : ℕ) → closed_at end [] ≡ Err (fault kinds.End end)
unfolding closed_at
not_closed end = refl

-- the `;` that ends the sum
pub objective_closed : (p q : ProblemContent) (end : ℕ) (ws rest : List Word) (w : Word)
    → is_semicolon w.bytes ≡ true
    → put_all with_term p (sum_at greatest_index is_semicolon end ws) ≡ Ok (q, w ∷ rest)
    → objective_read p end ws ≡ Ok (q, rest)
unfolding objective_at
objective_closed p q end ws rest w semicolon h = grind (arith, nat_tests, two_parts, closed_by)

-- the words end before it
pub objective_open : (p q : ProblemContent) (end : ℕ) (ws : List Word)
    → put_all with_term p (sum_at greatest_index is_semicolon end ws) ≡ Ok (q, [])
    → objective_read p end ws ≡ Err (fault kinds.End end)
unfolding objective_at
objective_open p q end ws h = grind (arith, nat_tests, two_parts, not_closed)

pub objective_fails : (e : TextAnswer) (p : ProblemContent) (end : ℕ) (ws : List Word)
    → Fails e (put_all with_term p (sum_at greatest_index is_semicolon end ws))
    → Fails e (objective_read p end ws)
unfolding objective_at
objective_fails e p end ws h = grind (arith, nat_tests)
