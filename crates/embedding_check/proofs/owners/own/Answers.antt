use Rattle.embedding_check.proofs.Common.{arith}
use Rattle.embedding_check.proofs.Sorting.{at_of_in}
use Rattle.embedding_check.proofs.owners.own.Goals as goal

pub returns-clause-inside : goal.returns-clause-inside
returns-clause-inside c = λ b in'.
    let i = at_of_in c.args.chain.now b in' in
    rw (← i.2) (c.loop-k.invariant.given i.0 (omega (arith, i.1)))
