use Rattle.embedding_check.proofs.Common.{length, arith, IsChainJoin}
use Rattle.embedding_check.proofs.Noting.{least_of_notes}
use Rattle.embedding_check.proofs.noted.Noted.note_chain.Goals as goal

pub returns-clause-noted : goal.returns-clause-noted
returns-clause-noted g c = λ v low.
    least_of_notes (IsChainJoin _ c.args.owners.now c.args.node _ (length _))
    c.clear.new.self c.note_all.new.self c.note_all.ensures v
    (omega (arith, low)) (c.clear.ensures.none v low)
