use Rattle.posiform_check.proofs.proving.difference.Goals as goal
use Rattle.posiform_check.proofs.Common.{model_terms}
use Rattle.posiform_check.proofs.FirstDifferences.{none_said, comparison_says}

pub returns-in-Ok : goal.returns-in-Ok
returns-in-Ok c =
    none_said _ (model_terms c.args.model.now) _ c.in-Ok.ensures
    (comparison_says c.args.model.now c.args.certificate.now)
