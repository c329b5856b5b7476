use Rattle.rosenberg_layer.proofs.Common.{◌≡◌, ◌<◌, pos, List, length, get_or, ap, ◌∙◌, arith, rules, sym, w128, to_z-of_z, get_or_read, Term, term_at}
use Rattle.rosenberg_layer.proofs.RingTerms.{length-terms, terms-at}
use Rattle.rosenberg_layer.proofs.long_terms.LongTerms.coefficient.Goals as goal

pub index-requires : goal.index-requires
index-requires c = omega (arith, ap length c.self.view_is, c.self.invariant.1, length-terms)

pub returns : goal.returns
returns c =
    let old = c.self.inside in
    let cs = old.coefficients.items in
    let i = c.args.i in
    let same = c.self.invariant.1 in
    let within : i < length old.turns.items =
    omega (arith, ap length c.self.view_is, length-terms) in
    let read : c.index.result.now ≡ get_or cs i c.index.result.now = search rules in
    to_z-of_z w128 c.index.result.now (search rules)
    ∙ get_or_read cs i c.index.result.now (omega (arith, within, same)) read (pos 0)
    ∙ sym (ap (λ (t : Term). t.1) (terms-at old.rings old.turns.items cs i c.self.invariant.0 same within))
    ∙ ap (λ (ts : List Term). (term_at ts i).1) c.self.view_is
