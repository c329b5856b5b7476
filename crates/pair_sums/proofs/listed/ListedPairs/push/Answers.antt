use Rattle.pair_sums.proofs.Common.{nat_tests, arith, ◌≡◌, map, ap, ◌∙◌, rules, to_z-of_z, listed}
use Rattle.pair_sums.proofs.PairSums.{listed-kept, listed-push, on_err}
use Rattle.pair_sums.proofs.listed.ListedPairs.push.Goals as goal

pub returns-in_err-index-clause-unchanged : goal.returns-in_err-index-clause-unchanged
returns-in_err-index-clause-unchanged c = grind (arith, nat_tests, on_err, listed-kept)

pub returns-in_err-push-in-Some-clause-unchanged :
    goal.returns-in_err-push-in-Some-clause-unchanged
returns-in_err-push-in-Some-clause-unchanged c =
    let fields = c.self.inside in
    let vs = c.index_of.new.weights in
    let same : c.push.new.self.items ≡ fields.codes.items = search rules in
    on_err c.from_residual-in_err-push-in-Some.result
    (ap (map (listed fields.shape vs)) same
    ∙ listed-kept fields.shape fields.weights vs fields.codes.items c.index_of.ensures.kept c.self.invariant
    ∙ c.self.view_is)

pub returns-in_ok-push-in-Some-clause-pushed : goal.returns-in_ok-push-in-Some-clause-pushed
returns-in_ok-push-in-Some-clause-pushed c = grind (arith, nat_tests, to_z-of_z, listed-push)

pub returns-in-None-clause-pushed : goal.returns-in-None-clause-pushed
returns-in-None-clause-pushed c = grind (arith, nat_tests, listed-kept)
