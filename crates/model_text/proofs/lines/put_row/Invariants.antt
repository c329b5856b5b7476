use Rattle.std.proofs.Common.{drop}
use Rattle.model_text.proofs.EntryLists.{entries_text}
use Rattle.model_text.proofs.Puts.{IsPut}
use Rattle.model_text.proofs.lines.put_row.Given as goal

-- the entries before this one were put
abbrev pub invariant-loop-index : goal.invariant-loop-index
invariant-loop-index g l =
    IsPut (g.S.Sink.taken l.fn.sink) (g.S.Sink.taken l.sink) (g.S.Sink.faults l.fn.sink) (g.S.Sink.faults l.sink)
    l.fn.buffer l.buffer (entries_text l.row) (entries_text (drop l.index l.row))
