use Rattle.quad_form.proofs.Common.{arith, nat_tests, ◌≡◌, ℤ, List, pos, ◌≤ℤ◌, FitsSigned, to_z, of_z, sym, ap, ◌∙◌, subst, rules, w128, to_z-of_z, Entry, unit_of, weights_of}
use Rattle.quad_form.proofs.Divisors.{numbers_in-one, couplers_in-one}
use Rattle.quad_form.proofs.ReducedForms.{one_le_quad_unit}
use Rattle.quad_form.proofs.units.counted_weights.Goals as goal

-- the unit that the code finds
unit_found : (unit : ℤ) (lent nodes : List ℤ) (couplers : List Entry) → FitsSigned w128 unit
    → unit ≡ unit_of (weights_of lent couplers) → lent ≡ nodes
    → to_z w128 (of_z w128 unit) ≡ unit_of (weights_of nodes couplers)
unit_found unit lent nodes couplers fits is same =
    to_z-of_z w128 unit fits ∙ is ∙ ap (λ ws. unit_of (weights_of ws couplers)) same

-- .. is at least 1
unit_low : (unit : ℤ) (lent nodes : List ℤ) (couplers : List Entry) → FitsSigned w128 unit
    → unit ≡ unit_of (weights_of lent couplers) → lent ≡ nodes → pos 1 ≤ℤ to_z w128 (of_z w128 unit)
unit_low unit lent nodes couplers fits is same =
    subst (λ u. pos 1 ≤ℤ u) (sym (unit_found unit lent nodes couplers fits is same))
    (one_le_quad_unit (record { constant = pos 0; diagonal = nodes; couplers = couplers }))

pub divide_weights-requires : goal.divide_weights-requires
divide_weights-requires c =
    unit_low _ _ _ c.args.couplers (search rules) c.greatest_unit-unit.ensures c.as_slice.ensures

pub divide-requires : goal.divide-requires
divide-requires c =
    unit_low _ _ _ c.args.couplers (search rules) c.greatest_unit-unit.ensures c.as_slice.ensures

pub returns-then-unit-eq1-clause-nodes : goal.returns-then-unit-eq1-clause-nodes
returns-then-unit-eq1-clause-nodes c = grind (arith, nat_tests, numbers_in-one)

pub returns-then-unit-eq1-clause-couplers : goal.returns-then-unit-eq1-clause-couplers
returns-then-unit-eq1-clause-couplers c = grind (arith, nat_tests, couplers_in-one)
