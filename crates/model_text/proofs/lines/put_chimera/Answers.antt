use Rattle.model_text.proofs.Common.{◌≡◌, List, ℕ, ◌++◌, codes, ap, rules, decimal}
use Rattle.model_text.proofs.Puts.{put_same}
use Rattle.model_text.proofs.RowPieces.{three_pieces}
use Rattle.model_text.proofs.lines.put_chimera.Goals as goal

pub returns : goal.returns
returns g c =
    let first : c.as_bytes-first.result.now ≡ decimal c.args.rows = search rules in
    let second : c.as_bytes-second.result.now ≡ decimal c.args.cols = search rules in
    let third : c.as_bytes-third.result.now ≡ decimal c.args.shore = search rules in
    put_same (ap (λ (row : List ℕ). codes "c chimera " ++ row) (three_pieces _ _ _ _ _ _ first second third)) c.put_pieces.ensures
