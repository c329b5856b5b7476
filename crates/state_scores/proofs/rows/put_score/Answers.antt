use Rattle.state_scores.proofs.Common.{◌≡◌, rules, decimal, signed_decimal, put_same}
use Rattle.state_scores.proofs.ScoreRows.{score_text}
use Rattle.state_scores.proofs.rows.put_score.Goals as goal

pub returns : goal.returns
returns g c =
    let s = c.args.score.now in
    let line : c.as_bytes-line.result.now ≡ decimal s.line = search rules in
    let energy : c.as_bytes-energy.result.now ≡ signed_decimal s.energy = search rules in
    put_same (score_text s _ _ _ line c.cost_word-cost.ensures energy) c.put_pieces.ensures
