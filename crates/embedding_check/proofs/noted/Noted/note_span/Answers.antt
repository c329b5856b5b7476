use Rattle.embedding_check.proofs.Common.{arith, IsSpanJoin, IsRunJoin, clash}
use Rattle.embedding_check.proofs.Noting.{notes_same, IsJoinBelow, span_more, done_more, done_all}
use Rattle.embedding_check.proofs.noted.Noted.note_span.Goals as goal

pub runs-preserved-then-all : goal.runs-preserved-then-all
runs-preserved-then-all g c =
    let run = c.note_run-next in
    record {
      from = omega (arith, run.ensures.after);
      noted = span_more _ _ _ _ _ c.runs.b run.result.0 c.args.self.now c.runs.self
          run.new.self c.runs.invariant.from run.ensures.after (omega (arith, run.ensures.within))
          c.runs.invariant.noted run.ensures.noted;
      done = λ yes. done_more (IsRunJoin _ _ _ _ c.runs.b run.result.0) _ _ _ _
          c.runs.b run.result.0 c.runs.self run.new.self run.ensures.noted
          (c.runs.invariant.done c.if-all.true) (run.ensures.all yes);
    }

pub runs-preserved : goal.runs-preserved
runs-preserved g c =
    let run = c.note_run-next in
    record {
      from = omega (arith, run.ensures.after);
      noted = span_more _ _ _ _ _ c.runs.b run.result.0 c.args.self.now c.runs.self
          run.new.self c.runs.invariant.from run.ensures.after (omega (arith, run.ensures.within))
          c.runs.invariant.noted run.ensures.noted;
      done = λ yes. absurd (clash _ yes c.if-all.false);
    }

pub returns-clause-noted : goal.returns-clause-noted
returns-clause-noted g c =
    notes_same (IsJoinBelow _ _ _ _ _ c.runs.b) (IsSpanJoin _ _ _ _ _)
    c.args.self.now c.runs.self (λ v p low x. (x.0, x.1, x.3)) (λ v p low x. (
      x.0,
      x.1,
      omega (arith, c.lesser-end.ensures.between x.0 x.1.below (omega (arith, x.2.below))),
      x.2,
    )) c.runs.invariant.noted

pub returns-clause-all : goal.returns-clause-all
returns-clause-all g c = λ yes b after.
    done_all c.args.owners.now c.args.node c.args.a c.args.span c.runs.b c.runs.self b after
    (λ x faced below. omega (
      arith,
      c.lesser-end.ensures.between x faced.below (omega (arith, below)),
    )) (c.runs.invariant.done yes)
