use Rattle.rosenberg_layer.proofs.Common.{◌≡◌, ◌++◌, ◌∷◌, [], ◌-◌, ◌<◌, length, arith, ap, sym, ◌∙◌, subst, All, append-nil, chain}
use Rattle.rosenberg_layer.proofs.Chains.{chain_appended, chain_rest}
use Rattle.rosenberg_layer.proofs.buckets.append_list.Goals as goal

pub loop-done-init : goal.loop-done-init
loop-done-init c =
    let nexts = c.args.nexts.now in
    let all : c.args.head.count - 0 ≡ c.args.head.count = omega arith in
    record {
      whole = ap (λ k. c.args.list.now.items ++ chain nexts k c.args.head.first) all;
      within =
          subst (λ k. All (λ t. t < length nexts) (chain nexts k c.args.head.first)) (sym all) c.requires;
    }

pub loop-done-preserved : goal.loop-done-preserved
loop-done-preserved c =
    let nexts = c.args.nexts.now in
    let n = c.args.head.count in
    let i = c.loop-done._done in
    let more = c.loop-done-test.true in
    let pushed =
    c.in_ok-push.ensures.items ∙ ap (λ x. c.loop-done.list.items ++ x ∷ []) c.from.ensures in
    record {
      whole =
          chain_appended nexts n i c.loop-done.term c.loop-done.list.items _ _ more pushed
          c.loop-done.invariant.whole;
      within = chain_rest nexts n i c.loop-done.term more c.loop-done.invariant.within;
    }

pub returns : goal.returns
returns c =
    let none : c.args.head.count - c.loop-done._done ≡ 0 = omega (arith, c.loop-done-test.false) in
    sym (append-nil c.loop-done.list.items)
    ∙ sym (ap (λ k. c.loop-done.list.items ++ chain c.args.nexts.now k c.loop-done.term) none)
    ∙ c.loop-done.invariant.whole
