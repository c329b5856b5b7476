use Rattle.model_text.proofs.Common.{drop, rows_text, chain_rows}
use Rattle.model_text.proofs.Puts.{IsPut}
use Rattle.model_text.proofs.lines.put_chains.Given as goal

-- the rows of the chains before this one were put
abbrev pub invariant-loop-node : goal.invariant-loop-node
invariant-loop-node g l =
    IsPut (g.S.Sink.taken l.fn.sink) (g.S.Sink.taken l.sink) (g.S.Sink.faults l.fn.sink) (g.S.Sink.faults l.sink)
    l.fn.buffer l.buffer (rows_text (chain_rows 0 l.chains)) (rows_text (chain_rows l.node (drop l.node l.chains)))
