use Rattle.ising_form.proofs.Common.{nat_tests, ◌≡◌, pos, neg_ℤ, ◌-ℤ◌, to_z, of_z, sym, ap, ◌∙◌, subst, arith, w128, ints, to_z-of_z, IsingContent, IsIsing}
use Rattle.ising_form.proofs.ReducedForms.{reduced_is_ising, made_of_weights, made_reduces, made_total}
use Rattle.ising_form.proofs.WrittenModels.{made_is_reduced}
use Rattle.ising_form.proofs.ising.Ising.reduce.Goals as goal

pub invariant_of-result : goal.invariant_of-result
invariant_of-result c =
    subst IsIsing
    (sym (made_of_weights c.self.inside.constant _ _ _ _ c.counted_weights-counted.ensures.nodes
    c.counted_weights-counted.ensures.couplers))
    (reduced_is_ising _ c.self.invariant)

pub returns-clause-target : goal.returns-clause-target
returns-clause-target c = grind (arith, nat_tests, ints, made_of_weights)

pub returns-clause-unit : goal.returns-clause-unit
returns-clause-unit c = grind (arith, nat_tests, ints, to_z-of_z)

pub returns-clause-reduces : goal.returns-clause-reduces
returns-clause-reduces c =
    let less : to_z w128 (of_z w128 (pos 0 -ℤ to_z w128 (of_z w128 c.self.inside.constant)))
    ≡ neg_ℤ c.self.inside.constant = omega (arith, ints, c.self.invariant.small) in
    let offset = less ∙ ap (λ (f : IsingContent). neg_ℤ f.constant) c.self.view_is in
    made_reduces c.args.self _ _ _ (returns-clause-target c) (returns-clause-unit c) offset

pub returns-clause-total : goal.returns-clause-total
returns-clause-total c =
    made_total c.args.self _ _ (returns-clause-target c) (returns-clause-unit c)

pub returns-clause-greatest : goal.returns-clause-greatest
returns-clause-greatest c =
    made_is_reduced c.args.self _ _ (returns-clause-target c) (returns-clause-unit c)
