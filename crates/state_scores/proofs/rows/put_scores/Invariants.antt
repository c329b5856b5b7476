use Rattle.state_scores.proofs.Common.{map, drop, rows_text, IsPut, score_row}
use Rattle.state_scores.proofs.rows.put_scores.Given as goal

-- the rows of the scores before this one were put
abbrev pub invariant-loop-index : goal.invariant-loop-index
invariant-loop-index g l =
    IsPut (g.S.Sink.taken l.fn.sink) (g.S.Sink.taken l.sink) (g.S.Sink.faults l.fn.sink) (g.S.Sink.faults l.sink)
    l.fn.buffer l.buffer (rows_text (map score_row l.scores)) (rows_text (map score_row (drop l.index l.scores)))
