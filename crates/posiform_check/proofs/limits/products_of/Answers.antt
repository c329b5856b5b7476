use Rattle.posiform_check.proofs.Common.{length, ap, arith, Line}
use Rattle.posiform_check.proofs.Gathering.{few_complements}
use Rattle.posiform_check.proofs.limits.products_of.Goals as goal

pub power_of_2-requires : goal.power_of_2-requires
power_of_2-requires c =
    omega (arith, few_complements, ap (λ (l : Line). length l.literals) c.line.view_is)
