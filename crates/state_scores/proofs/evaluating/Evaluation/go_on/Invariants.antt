use Rattle.state_scores.proofs.Common.{◌≡◌, ◌^◌, ◌<◌, List, ◌++◌, length, All, StateLine, standing}
use Rattle.state_scores.proofs.Best.{IsStanding}
use Rattle.state_scores.proofs.evaluating.Evaluation.go_on.Given as goal

-- this is known of the states before those that are left
abbrev pub invariant-loop-batch : goal.invariant-loop-batch
invariant-loop-batch g l =
    (done : List StateLine) × record {
      split : l.fn.states.states ≡ done ++ l.states.states;
      judged : IsStanding (g.J.Judge.judgement l.fn.judge) done (standing l.self);
      same : g.J.Judge.judgement l.judge ≡ g.J.Judge.judgement l.fn.judge;
      width : l.states.width ≡ (g.J.Judge.judgement l.judge).width;
      room : length l.self.state.items ≡ l.states.width;
      kept : length l.self.state.items ≡ length l.fn.self.state.items;
      space : length l.bits ≡ l.states.width;
      lines : All (λ state. state.0 < 2 ^ 32) l.states.states;
    }

abbrev pub decreases-loop-batch : goal.decreases-loop-batch
decreases-loop-batch g l = length l.states.states
