use Rattle.run_steps.proofs.Lemmas.{nat_tests, rules, arith, ◌∙◌, length-take, cut_more}
use Rattle.run_steps.proofs.cut.feed_rest.Goals as goal

pub feed-requires : goal.feed-requires
feed-requires g c = grind (arith, nat_tests, length-take)

pub loop-count-preserved : goal.loop-count-preserved
loop-count-preserved g c =
    let i = c.loop-count.invariant in
    let taken = c.take_next in
    let read = c.in-Ok.ensures in
    let fed = c.in-Ok-feed.ensures in
    record {
      within = search rules;
      counted = search rules;
      filled = search rules;
      cut = cut_more _ _ _ _ _ _ _ _ _ _ i.cut read.bound.0 read.rest.0 fed.fed;
      styled = fed.style ∙ i.styled;
      same = record {
        begun = read.begun ∙ i.same.begun;
        marked = read.mark ∙ i.same.marked;
        named = read.name ∙ i.same.named;
        later = omega (arith, read.cause.later, i.same.later);
      };
      calm = read.cause.calm ∙ i.calm;
      held = read.held ∙ i.held;
    }
