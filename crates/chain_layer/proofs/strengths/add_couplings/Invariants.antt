use Rattle.chain_layer.proofs.Added.{AreLeft}
use Rattle.chain_layer.proofs.strengths.add_couplings.Given as goal

-- with the sizes of the couplings that are left, the strengths are what all couplings lead to
abbrev pub invariant-loop-coupling : goal.invariant-loop-coupling
invariant-loop-coupling l = AreLeft l.initial.strengths l.strengths l.couplings l.coupling-iterator
