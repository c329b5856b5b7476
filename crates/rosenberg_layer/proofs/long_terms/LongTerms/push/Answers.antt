use Rattle.rosenberg_layer.proofs.Common.{◌++◌, ◌∷◌, [], length, map, ap, ◌∙◌, sym, arith, subst, w128, AllZip, to_z-of_z, length-append, length-map, code_of, terms_in, HasTwo}
use Rattle.rosenberg_layer.proofs.RingTerms.{terms-push, two-push, untouched}
use Rattle.rosenberg_layer.proofs.long_terms.LongTerms.push.Goals as goal

pub invariant_of-self : goal.invariant_of-self
invariant_of-self c =
    let codes = map code_of c.args.literals.now in
    let old = c.self.inside in
    let new = c.in-Ok.ensures in
    let degree = length-map c.args.literals.now code_of in
    let two : HasTwo codes 0 = (omega (arith, degree, c.requires.long), omega (arith, degree, c.requires.short)) in
    let both = two-push old.rings old.turns.items codes 0 c.self.invariant.0 two in (
      subst (λ rs. AllZip HasTwo rs c.append.new.turns.items) (sym new.rings)
          (subst (AllZip HasTwo (old.rings ++ codes ∷ [])) (sym new.turns) both),
      let back = to_z-of_z w128 c.args.coefficient c.ranges.coefficient in
          let more = new.coefficients ∙ ap (λ k. old.coefficients.items ++ k ∷ []) back in
          let same = c.self.invariant.1 in
          let one = length-append old.turns.items (0 ∷ []) in
          let two = length-append old.coefficients.items (c.args.coefficient ∷ []) in
          omega (arith, same, one, two, ap length new.turns, ap length more),
    )

pub returns-in-Ok : goal.returns-in-Ok
returns-in-Ok c =
    let codes = map code_of c.args.literals.now in
    let old = c.self.inside in
    let new = c.in-Ok.ensures in
    let back = to_z-of_z w128 c.args.coefficient c.ranges.coefficient in
    let more = new.coefficients ∙ ap (λ k. old.coefficients.items ++ k ∷ []) back in
    (λ i. terms_in (new.rings i) (new.turns i) (more i))
    ∙ terms-push old.rings old.turns.items old.coefficients.items codes 0 c.args.coefficient
    c.self.invariant.0 c.self.invariant.1
    ∙ (λ i. c.self.view_is i ++ (untouched c.args.literals.now i, c.args.coefficient) ∷ [])
