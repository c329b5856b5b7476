use Rattle.std.proofs.Common.{◌≡◌, pos, get_or, unsigned_abs, arith, rules}
use Rattle.std.proofs.lemmas.List.{map_more}
use Rattle.cut_chains.proofs.weights.field_weights.Goals as goal

pub loop-field-preserved : goal.loop-field-preserved
loop-field-preserved c =
    let i = c.loop-field.field-index in
    let size : c.unsigned_abs.result ≡ unsigned_abs (get_or c.args.fields.now i (pos 0)) = search rules in
    let more = map_more (λ h. unsigned_abs h) c.args.fields.now i (pos 0) (omega arith) in
    cc (c.in_ok-push.ensures.items, c.loop-field.invariant, size, more)
