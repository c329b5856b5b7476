use Rattle.model_text.proofs.Common.{◌≡◌, rules, count_by, decimal, is_node, is_coupler}
use Rattle.model_text.proofs.Puts.{put_same}
use Rattle.model_text.proofs.RowPieces.{header_pieces}
use Rattle.model_text.proofs.lines.put_header.Goals as goal

pub returns : goal.returns
returns g c =
    let first : c.as_bytes-first.result.now ≡ decimal c.args.nodes = search rules in
    let second : c.as_bytes-second.result.now ≡ decimal (count_by is_node c.args.entries.now) = search rules in
    let third : c.as_bytes-third.result.now ≡ decimal (count_by is_coupler c.args.entries.now) = search rules in
    let row = header_pieces c.args.kind _ _ _ _ _ _ _ c.words_of.ensures first second third in
    put_same row c.put_pieces.ensures
