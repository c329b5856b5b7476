use Rattle.std.proofs.Common.{◌≡◌, length, ap, ◌∙◌, rules, sym}
use Rattle.rosenberg_layer.proofs.RingTerms.{length-terms}
use Rattle.rosenberg_layer.proofs.long_terms.LongTerms.len.Goals as goal

pub returns : goal.returns
returns c =
    let old = c.self.inside in
    let count : c.len.result ≡ length old.turns.items = search rules in
    count
    ∙ sym (length-terms old.rings old.turns.items old.coefficients.items c.self.invariant.0 c.self.invariant.1)
    ∙ ap length c.self.view_is
