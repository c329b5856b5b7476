use Rattle.state_scores.proofs.Common.{◌≡◌, length, arith, nat_tests, rules, sym, subst, All, Bool, List, [], ◌∷◌, length-append, All-append, All-cons, All-nil}
use Rattle.state_scores.proofs.TakenStates.{taken_more}
use Rattle.state_scores.proofs.batch.Batch.read.Goals as goal

pub loop-states-preserved : goal.loop-states-preserved
loop-states-preserved c =
    let so_far = c.loop-states.invariant in
    let wide = λ (state : List Bool). length state ≡ c.args.states.now.width in
    record {
      front = taken_more c.args.states.now.states c.loop-states.states.states c.next_into.new.self.states
          c.loop-states.self.lines.items c.push.new.self.lines.items c.loop-states.self.states c.push.new.self.states
          c.in-Some.line c.next_into.new.bits so_far.numbered so_far.front c.in-Some.ensures.next
          c.in_ok-push.ensures.lines c.in_ok-push.ensures.states;
      numbered = grind (arith, nat_tests, length-append, so_far.numbered);
      room = grind (arith, nat_tests, length-append, so_far.room);
      measured = grind (arith, nat_tests, length-append, so_far.measured);
      wide = subst (All wide) (sym c.in_ok-push.ensures.states)
          (All-append wide c.loop-states.self.states (c.next_into.new.bits ∷ []) so_far.wide
          (All-cons wide c.next_into.new.bits [] (search rules) (All-nil wide)));
      few = grind (arith, nat_tests, length-append, so_far.numbered);
      width = search rules;
      space = search rules;
    }
