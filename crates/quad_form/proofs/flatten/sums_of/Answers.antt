use Rattle.quad_form.proofs.Common.{arith, nat_tests, ℕ, [], subst, AreSummed}
use Rattle.quad_form.proofs.HeldSums.{room-table}
use Rattle.quad_form.proofs.flatten.sums_of.Goals.{In_ok-sums}
use Rattle.quad_form.proofs.flatten.sums_of.Goals as goal

-- nothing is held at first
none : (c : In_ok-sums) → AreSummed (record c.args.table.now.content { terms = [] }) c.in_ok-sums.sums
none c =
    subst (λ (n : ℕ). AreSummed (record { width = n; terms = [] }) c.in_ok-sums.sums) c.width.ensures
    c.in_ok-sums.ensures.empty

pub add_terms-requires : goal.add_terms-requires
add_terms-requires c = grind (arith, nat_tests, room-table, none)

pub returns-clause-summed : goal.returns-clause-summed
returns-clause-summed c =
    let t = c.args.table.now.content in
    subst (λ us. AreSummed (record t { terms = us }) c.add_terms.new.sums) c.terms-terms.ensures.terms
    (c.in_ok-add_terms.ensures.held (record t { terms = [] }) (none (goal.at.returns-clause-summed c).In_ok-sums))
