use Rattle.wbo_reader.proofs.Lemmas.{rules, ◌≡◌, ◌∙◌, ◌++◌, ◌∷◌, [], append-nil, map, length, take_all, arith, ap, sym, slice_get, constraint_total, fails, Soft, WboContent, soft_within, bits_more}
use Rattle.wbo_reader.proofs.wbo.Wbo.extend.Goals as goal

pub fails-bit-requires : goal.fails-bit-requires
fails-bit-requires c =
    let view = ap (λ (s : Soft). constraint_total s.constraint) c.soft.view_is in
    let within = soft_within c.self.inside.soft c.loop-i.i c.at-soft.result c.at-soft.ensures in
    omega (arith, c.self.invariant.small)

pub loop-i-preserved : goal.loop-i-preserved
loop-i-preserved c =
    let bit : c.fails-bit.result ≡ fails c.args.x.now c.at-soft.result.constraint = search rules in
    let more : c.push.new.self.items ≡ c.loop-i.y.items ++ c.fails-bit.result ∷ [] = search rules in
    let at = ap (λ (s : WboContent). slice_get s.soft c.loop-i.i) (sym c.self.view_is)
    ∙ c.at-soft.ensures in
    bits_more c.args.x.now c.loop-i.y.items _ c.args.self.now.soft c.loop-i.i c.at-soft.result _
    c.loop-i.invariant at bit more

pub loop-i-init : goal.loop-i-init
loop-i-init c = rw append-nil (search rules)

pub at-soft-requires : goal.at-soft-requires
at-soft-requires c = omega arith

pub returns : goal.returns
returns c =
    let x = c.args.x.now in
    let soft = ap (λ (s : WboContent). s.soft) c.self.view_is in
    c.loop-i.invariant ∙ ap (λ ss. x ++ map (λ k. fails x k.constraint) ss) (take_all _ _ (omega (arith, ap length soft)))
