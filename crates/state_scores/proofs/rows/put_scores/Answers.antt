use Rattle.state_scores.proofs.Common.{List, ap, map, arith, drop_all, rows_text, Score, score_row, put_more, put_fault, put_all}
use Rattle.state_scores.proofs.ScoreRows.{scores_left}
use Rattle.state_scores.proofs.rows.put_scores.Goals as goal

pub returns-in_err-put_score : goal.returns-in_err-put_score
returns-in_err-put_score g c =
    let cut = scores_left c.args.scores.now c.loop-index.index c.score-score.result (omega (arith, c.loop-index-test.true, c.len-index-end.ensures)) c.score-score.ensures in
    put_fault _ _ c.from_residual.ensures.1 cut c.loop-index.invariant c.in_err-put_score.ensures

pub returns : goal.returns
returns g c =
    let none = drop_all c.loop-index.index c.args.scores.now (omega (arith, c.loop-index-test.false, c.len-index-end.ensures)) in
    put_all (ap (λ (scores : List Score). rows_text (map score_row scores)) none) c.loop-index.invariant

pub loop-index-preserved : goal.loop-index-preserved
loop-index-preserved g c =
    let cut = scores_left c.args.scores.now c.loop-index.index c.score-score.result (omega (arith, c.loop-index-test.true, c.len-index-end.ensures)) c.score-score.ensures in
    put_more cut c.loop-index.invariant c.in_ok-put_score.ensures
