use Rattle.model_text.proofs.EntryLists.{entries_text, rows_from}
use Rattle.model_text.proofs.Puts.{IsPut}
use Rattle.model_text.proofs.lines.put_couplers.Given as goal

-- the rows before this one were put
abbrev pub invariant-loop-index : goal.invariant-loop-index
invariant-loop-index g l =
    IsPut (g.S.Sink.taken l.fn.sink) (g.S.Sink.taken l.sink) (g.S.Sink.faults l.fn.sink) (g.S.Sink.faults l.sink)
    l.fn.buffer l.buffer (entries_text l.couplers) (entries_text (rows_from l.couplers l.index))
