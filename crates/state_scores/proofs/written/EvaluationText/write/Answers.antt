use Rattle.state_scores.proofs.Common.{List, ℕ, ap, ◌∙◌, subst, TakesFront, then_error, flushed_front, scores_text}
use Rattle.state_scores.proofs.written.EvaluationText.write.Goals as goal

pub returns-clause-front : goal.returns-clause-front
returns-clause-front g c =
    let same = ap (scores_text c.self.inside.scores c.self.inside.best) c.deref.ensures.value ∙ c.self.view_is in
    then_error c.flush.result
    (λ fault. subst (λ (text : List ℕ). TakesFront (g.S.Sink.taken c.args.sink.now) (g.S.Sink.taken c.flush.new.sink) text) same
    (flushed_front _ _ _ c.args.buffer.now c.put_text.new.buffer _ c.requires c.in_ok-put_text.ensures.passed fault))
    c.flush.ensures.front
