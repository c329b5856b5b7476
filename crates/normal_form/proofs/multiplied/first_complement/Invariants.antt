use Rattle.normal_form.proofs.Common.{take, ArePlain}
use Rattle.normal_form.proofs.multiplied.first_complement.Given as goal

-- the literals so far are no complements
abbrev pub invariant-loop-place : goal.invariant-loop-place
invariant-loop-place l = ArePlain (take l.place l.literals)
