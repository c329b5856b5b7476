use Rattle.pair_sums.proofs.Common.{◌≡◌, ◌++◌, ◌∷◌, [], List, take, ap, sym, ◌∙◌, rules, take_more, slice_get_within, get_or_from_slice_get, Entry}
use Rattle.pair_sums.proofs.pairs.with_wide.Goals as goal

pub loop-i-preserved : goal.loop-i-preserved
loop-i-preserved c =
    let pairs = c.args.pairs.now in
    let i = c.loop-i.i in
    let e = c.at.result in
    let pushed : c.push.new.self.items ≡ c.loop-i.wide.items ++ e ∷ [] = search rules in
    pushed ∙ ap (λ (es : List Entry). es ++ e ∷ []) c.loop-i.invariant
    ∙ ap (λ (d : Entry). take i pairs ++ d ∷ []) (sym (get_or_from_slice_get pairs i e e c.at.ensures))
    ∙ sym (take_more pairs i e (slice_get_within pairs i e c.at.ensures))
