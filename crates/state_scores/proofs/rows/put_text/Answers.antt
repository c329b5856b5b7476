use Rattle.state_scores.proofs.Common.{put_none, put_more, put_fault, put_last}
use Rattle.state_scores.proofs.ScoreRows.{text_parts}
use Rattle.state_scores.proofs.rows.put_text.Goals as goal

pub returns-in_err-put_scores : goal.returns-in_err-put_scores
returns-in_err-put_scores g c =
    put_fault _ _ c.from_residual.ensures.1 (text_parts c.args.scores.now c.args.best c.args.tail.now) put_none
    c.in_err-put_scores.ensures

pub returns : goal.returns
returns g c =
    let cut = text_parts c.args.scores.now c.args.best c.args.tail.now in
    put_last (put_more cut put_none c.in_ok-put_scores.ensures) c.put_best.ensures
