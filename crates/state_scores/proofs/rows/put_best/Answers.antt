use Rattle.state_scores.proofs.Common.{◌≡◌, rules, decimal, put_same}
use Rattle.state_scores.proofs.ScoreRows.{best_text}
use Rattle.state_scores.proofs.rows.put_best.Goals as goal

pub returns : goal.returns
returns g c =
    let number : c.as_bytes-number.result.now ≡ decimal c.args.line = search rules in
    put_same (best_text c.args.line _ c.args.tail.now number) c.put_pieces.ensures
