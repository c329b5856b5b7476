use Rattle.quad_form.proofs.Common.{rules, ◌≡◌, ◌≤◌, ap, arith, length, refl, subst, sym, to_z, of_z, w128, to_z-of_z, SumsContent, AreSummed}
use Rattle.quad_form.proofs.HeldSums.{fits-wider, held-wider}
use Rattle.quad_form.proofs.sums.QuadSums.widened.Goals as goal

pub invariant_of-result : goal.invariant_of-result
invariant_of-result c =
    let s : SumsContent = record { total = c.self.inside.total; constant = c.self.inside.constant; weights = c.self.inside.weights.items; pairs = c.self.inside.pairs } in
    let k : SumsContent = record { total = c.self.inside.total; constant = to_z w128 (of_z w128 c.self.inside.constant); weights = c.in_ok-widened.field-0.items; pairs = c.widened-2.result } in
    let wider : length s.weights ≤ c.args.nodes =
    omega (arith, c.requires.wider, ap (λ (u : SumsContent). length u.weights) c.self.view_is) in
    let constant : k.constant ≡ s.constant = to_z-of_z w128 c.self.inside.constant (search rules) in
    fits-wider s k c.args.nodes wider refl constant c.in_ok-widened.ensures c.widened-2.ensures c.requires.narrow
    c.self.invariant

pub returns-clause-held : goal.returns-clause-held
returns-clause-held c t held =
    let s : SumsContent = record { total = c.self.inside.total; constant = c.self.inside.constant; weights = c.self.inside.weights.items; pairs = c.self.inside.pairs } in
    let k : SumsContent = record { total = c.self.inside.total; constant = to_z w128 (of_z w128 c.self.inside.constant); weights = c.in_ok-widened.field-0.items; pairs = c.widened-2.result } in
    let wider : length s.weights ≤ c.args.nodes =
    omega (arith, c.requires.wider, ap (λ (u : SumsContent). length u.weights) c.self.view_is) in
    let constant : k.constant ≡ s.constant = to_z-of_z w128 c.self.inside.constant (search rules) in
    held-wider s k c.args.nodes wider refl constant c.in_ok-widened.ensures c.widened-2.ensures t
    (subst (AreSummed t) (sym c.self.view_is) held)
