use Rattle.listed_graph.proofs.Common.{nat_tests, elements, ◌≡◌, true, refl, ap, ◌∙◌, arith, Part, is_named, eq-eqb}
use Rattle.listed_graph.proofs.index.mark.Goals as goal

pub bounds-marks-a : goal.bounds-marks-a
bounds-marks-a c =
    let q = c.in-Qubit.a in
    c.requires q (ap (λ (part : Part). is_named q part) c.in-Qubit.is ∙ eq-eqb q q refl)

pub bounds-marks-a-in-Coupler : goal.bounds-marks-a-in-Coupler
bounds-marks-a-in-Coupler c =
    let q = c.in-Coupler.a in
    let same = eq-eqb q q refl in
    c.requires q (ap (λ (part : Part). is_named q part) c.in-Coupler.is ∙ grind (arith, nat_tests))

pub bounds-marks-b : goal.bounds-marks-b
bounds-marks-b c =
    let q = c.in-Coupler.b in
    let same = eq-eqb q q refl in
    let low = c.requires q (ap (λ (part : Part). is_named q part) c.in-Coupler.is ∙ grind (arith, nat_tests)) in
    grind (arith, nat_tests, elements)
