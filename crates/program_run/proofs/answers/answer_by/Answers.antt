use Rattle.program_run.proofs.Lemmas.{IfOk-weaker, model_text_some}
use Rattle.program_run.proofs.answers.answer_by.Goals as goal

pub returns-in-Make-clause-some : goal.returns-in-Make-clause-some
returns-in-Make-clause-some g c =
    IfOk-weaker c.answer_model.result _ _ (λ answer is. model_text_some _ is.model _ is.told)
    c.answer_model.ensures.made
