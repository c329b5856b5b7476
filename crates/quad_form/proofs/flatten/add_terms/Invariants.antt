use Rattle.term_table.proofs.Filling.{Rest}
use Rattle.quad_form.proofs.flatten.add_terms.Given as goal

-- the terms so far were added
abbrev pub invariant-loop-literals : goal.invariant-loop-literals
invariant-loop-literals g l =
    Rest g.T.Gather.takes g.T.Gather.holds l.fn.sums l.sums l.literals-iterator l.fn.terms
