use Rattle.monomial_layer.proofs.Common.{◌∙◌, ap, pos, rules}
use Rattle.monomial_layer.proofs.Weights.{product_fits, negated_fits, negated_is}
use Rattle.monomial_layer.proofs.nodes.pair_weight.Goals as goal

pub overflow_mul-result : goal.overflow_mul-result
overflow_mul-result c =
    product_fits c.args.coefficient.now _ _ (search rules) (search rules) (c.from.ensures ∙ ap pos c.factor.ensures) c.requires.small

pub overflow_sub-result : goal.overflow_sub-result
overflow_sub-result c =
    negated_fits c.args.coefficient.now _ _ (search rules) (search rules) (c.from.ensures ∙ ap pos c.factor.ensures) c.requires.small

pub returns : goal.returns
returns c =
    negated_is c.args.coefficient.now _ _ (search rules) (search rules) (c.from.ensures ∙ ap pos c.factor.ensures) c.requires.small
