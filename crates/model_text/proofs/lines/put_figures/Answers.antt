use Rattle.model_text.proofs.Common.{◌≡◌, pos, rules, signed_decimal}
use Rattle.model_text.proofs.Numerals.{size_fits}
use Rattle.model_text.proofs.Puts.{put_same}
use Rattle.model_text.proofs.RowPieces.{figures_pieces}
use Rattle.model_text.proofs.lines.put_figures.Goals as goal

pub returns : goal.returns
returns g c =
    let f = c.args.figures in
    let scale : c.as_bytes-scale.result.now ≡ signed_decimal f.scale = search rules in
    let offset : c.as_bytes-offset.result.now ≡ signed_decimal f.offset = search rules in
    let threshold : c.as_bytes-threshold.result.now ≡ signed_decimal f.threshold = search rules in
    let unit : c.as_bytes-counted.result.now ≡ signed_decimal c.args.unit = search rules in
    let number : c.as_bytes-number.result.now ≡ signed_decimal (pos c.args.variables) = search rules in
    let rows = figures_pieces f c.args.unit c.args.variables _ _ _ _ _ scale offset threshold unit number in record {
      put = put_same rows c.put_pieces.ensures;
      fits = record {
        scale = size_fits f.scale (search rules);
        offset = size_fits f.offset (search rules);
        threshold = size_fits f.threshold (search rules);
      };
    }
