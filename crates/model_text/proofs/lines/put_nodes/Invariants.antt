use Rattle.model_text.proofs.Common.{map, rows_text, entry_row}
use Rattle.model_text.proofs.Puts.{IsPut}
use Rattle.model_text.proofs.lines.put_nodes.Given as goal

-- the rows of all entries but those that are left were put
abbrev pub invariant-loop-entry : goal.invariant-loop-entry
invariant-loop-entry g l =
    IsPut (g.S.Sink.taken l.fn.sink) (g.S.Sink.taken l.sink) (g.S.Sink.faults l.fn.sink) (g.S.Sink.faults l.sink)
    l.fn.buffer l.buffer (rows_text (map entry_row l.weights)) (rows_text (map entry_row l.entry-iterator))
