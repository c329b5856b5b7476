use Rattle.whole_text.proofs.Common.{nat_tests, arith, rules, ◌-◌, strides}
use Rattle.whole_text.proofs.Strides.{token_along, last_placed, placed-push, lines_along-push, joined_bytes}
use Rattle.whole_text.proofs.packed.TokenList.push.Goals as goal

pub overflow_sub-stride-2 : goal.overflow_sub-stride-2
overflow_sub-stride-2 c =
    let ss = strides c.self.inside.marks.items c.self.inside.wide.items in
    omega (arith, c.self.invariant.last, last_placed ss, rw (← c.self.view_is) at c.requires.below)

pub invariant_of-self-2 : goal.invariant_of-self-2
invariant_of-self-2 c =
    let ss = strides c.self.inside.marks.items c.self.inside.wide.items in
    let below = rw (← c.self.view_is) at c.requires.below in
    record {
      few = search rules;
      every = c.in_ok-push_stride.ensures.every;
      last = rw c.in_ok-push_stride.ensures.pushed (omega (arith, c.self.invariant.last, last_placed ss, below, lines_along-push ss (record { len = c.args.token.end - c.args.token.start; lines = c.args.token.line - c.self.inside.line })));
    }

pub returns-clause-pushed : goal.returns-clause-pushed
returns-clause-pushed c =
    grind (arith, nat_tests, joined_bytes, last_placed, token_along, placed-push)
