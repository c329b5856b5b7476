use Rattle.local_penalties.proofs.Common.{rules, number_of}
use Rattle.local_penalties.proofs.LocalSteps.{bound-price}
use Rattle.local_penalties.proofs.local.bound_penalty.Goals as goal

pub returns-in_ok-step-in-Some-clause-value : goal.returns-in_ok-step-in-Some-clause-value
returns-in_ok-step-in-Some-clause-value c =
    bound-price (number_of c.args.numbers.now) c.args.constraint.now c.most_below-below.result c.in-Some.room c.price_alone-alone.result c.in_ok-step-in-Some.step c.min.result
    (search rules) (search rules) (search rules) (search rules) (search rules) (search rules)
