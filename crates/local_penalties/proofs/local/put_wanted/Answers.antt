use Rattle.local_penalties.proofs.Common.{◌-◌, number_of}
use Rattle.local_penalties.proofs.Hurting.{products-within}
use Rattle.local_penalties.proofs.LocalSteps.{wanted-step}
use Rattle.local_penalties.proofs.local.put_wanted.Goals as goal

pub loop-product-preserved : goal.loop-product-preserved
loop-product-preserved c =
    let h = c.loop-product.invariant in
    let t = c.in-Some.product in
    let steps = c.in-Some.ensures.steps in
    record {
      within = products-within _ t _ _ steps h.within;
      items = wanted-step (λ l. number_of c.args.numbers.now l - c.args.own) c.args.up t _ _ _ _ _ steps c.in_ok-add_wanted.ensures h.items;
    }
