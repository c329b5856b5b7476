-- What is read leaves no more words than there were.
use Rattle.opb_reader.proofs.Common.{nat_tests, ℕ, ◌<◌, ◌≤◌, Bool, ℤ, List, [], ◌∷◌, length, IfOk, arith, Word, Operator, is_operator, literals_at, product_at, term_at, sum_at, closed_at, comparison_at, constraint_at, constraints_at, WordsAreEnough, suc, Result, Ok, Listed, ◌>>=◌, Product, TextFault}
use Rattle.opb_reader.proofs.Many.{Leaves, Shrinks, many_leaves, many_enough, many_all}

-- ---- literals

literals_leave : (limit : ℕ) (ws : List Word) → IfOk (literals_at limit ws) (Leaves (length ws))
unfolding literals_at
literals_leave limit [] = omega arith
literals_leave limit (w ∷ ws) = grind (arith, nat_tests, literals_leave limit ws)

product_leaves : (limit end : ℕ) (ws : List Word)
    → IfOk (product_at limit end ws) (Leaves (length ws))
unfolding product_at
product_leaves limit end [] = tt
product_leaves limit end (w ∷ ws) = grind (arith, nat_tests, literals_leave limit ws)

-- ---- terms

pub term_shrinks : (limit end : ℕ) → Shrinks (term_at limit end)
unfolding term_at
term_shrinks limit end = record {
  leaves = λ w ws. let rest = product_leaves limit end ws in grind (arith, nat_tests);
}

sum_leaves : (limit : ℕ) (ends : List ℕ → Bool) (end : ℕ) (ws : List Word)
    → IfOk (sum_at limit ends end ws) (Leaves (length ws))
unfolding sum_at
sum_leaves limit ends end ws = many_leaves ends (term_at limit end) (term_shrinks limit end)
    (length ws) ws

-- ---- constraints

closed_leaves : (end : ℕ) (ws : List Word)
    → IfOk (closed_at end ws) (λ rest. length rest ≤ length ws)
unfolding closed_at
closed_leaves end ws = grind (arith, nat_tests)

-- fewer words than this after a comparison
abbrev LeavesLast : ℕ → Operator × ℤ × List Word → Type 0
LeavesLast most x = length x.2 < most

comparison_leaves : (end : ℕ) (ws : List Word)
    → IfOk (comparison_at end ws) (LeavesLast (length ws))
unfolding comparison_at
comparison_leaves end [] = tt
comparison_leaves end (w ∷ []) = grind (arith, nat_tests)
comparison_leaves end (w ∷ v ∷ ws) = grind (arith, nat_tests, closed_leaves end ws)

compared_leaves : (most : ℕ) (sum : Result (List Product × List Word) TextFault)
    (compare : List Word → Result (Operator × ℤ × List Word) TextFault)
    → IfOk sum (Leaves (suc most)) → ((ws : List Word) → IfOk (compare ws) (LeavesLast (length ws)))
    → IfOk (sum >>= λ x. compare x.1 >>= λ y. Ok (record { terms = x.0; operator = y.0; bound = y.1 }, y.2))
    (λ (z : Listed × List Word). length z.1 ≤ most)
compared_leaves most sum compare h all = grind (arith, nat_tests)

pub constraint_shrinks : (limit end : ℕ) → Shrinks (constraint_at limit end)
unfolding constraint_at
constraint_shrinks limit end = record {
  leaves = λ w ws. compared_leaves (length ws) (sum_at limit is_operator end (w ∷ ws)) (comparison_at end)
      (sum_leaves limit is_operator end (w ∷ ws)) (comparison_leaves end);
}

-- ---- as many as there are words are enough

pub words_are_enough : WordsAreEnough
unfolding sum_at constraints_at
words_are_enough = record {
  terms = λ limit ends count end ws h. grind (arith, nat_tests, many_enough, term_shrinks);
  constraints = λ count end ws h. grind (arith, nat_tests, many_enough, constraint_shrinks);
  all = λ end ws. grind (arith, nat_tests, many_all, constraint_shrinks);
}
