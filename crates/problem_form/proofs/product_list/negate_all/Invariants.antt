use Rattle.problem_form.proofs.Common.{◌≡◌, neg_ℤ, changed_to}
use Rattle.problem_form.proofs.product_list.negate_all.Given as goal

-- the signs of the numbers so far are turned, and the others are as before
abbrev pub invariant-loop-number : goal.invariant-loop-number
invariant-loop-number l = l.number-items ≡ changed_to neg_ℤ l.number-index l.fn.numbers.items
