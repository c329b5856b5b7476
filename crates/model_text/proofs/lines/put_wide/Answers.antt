use Rattle.model_text.proofs.Common.{◌≡◌, rules, decimal, signed_decimal}
use Rattle.model_text.proofs.Puts.{put_same}
use Rattle.model_text.proofs.RowPieces.{three_pieces}
use Rattle.model_text.proofs.lines.put_wide.Goals as goal

pub returns : goal.returns
returns g c =
    let entry = c.args.entry.now in
    let first : c.as_bytes-first.result.now ≡ decimal entry.first = search rules in
    let second : c.as_bytes-second.result.now ≡ decimal entry.second = search rules in
    let weight : c.as_bytes-weight.result.now ≡ signed_decimal entry.weight = search rules in
    let row = three_pieces _ _ _ _ _ _ first second weight in
    put_same row c.put_pieces.ensures
