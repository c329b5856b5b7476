use Rattle.rosenberg_layer.proofs.Common.{◌≡◌, ◌+◌, ◌*◌, ◌++◌, length, get_or, take, ap, ◌∙◌, arith, rules, get_or_read}
use Rattle.rosenberg_layer.proofs.RingTerms.{kept_at, kept_code, IsKept}
use Rattle.rosenberg_layer.proofs.long_terms.LongTerms.code.Goals.{After-ring}
use Rattle.rosenberg_layer.proofs.long_terms.LongTerms.code.Goals as goal

-- what is kept of the term, and its turns, which the code reads
kept : (c : After-ring) → let old = c.self.inside in
    IsKept old.rings old.turns.items old.coefficients.items c.args.self.now c.args.i
    × (c.index.result.now ≡ get_or old.turns.items c.args.i 0)
kept c =
    let req = c.requires.within in
    let own = kept_at _ _ _ _ _ c.self.invariant.0 c.self.invariant.1 c.self.view_is req in
    (own, get_or_read _ c.args.i c.index.result.now own.turns_within (search rules) 0)

pub index-requires : goal.index-requires
index-requires c =
    let req = c.requires.within in
    let own = kept_at _ _ _ _ _ c.self.invariant.0 c.self.invariant.1 c.self.view_is req in
    omega (arith, own.turns_within)

pub ring-requires : goal.ring-requires
ring-requires c =
    let req = c.requires.within in
    (kept_at _ _ _ _ _ c.self.invariant.0 c.self.invariant.1 c.self.view_is req).rings_within

pub at_place-requires-clause-place : goal.at_place-requires-clause-place
at_place-requires-clause-place c =
    let own = kept c in
    omega (arith, own.0.two.0, own.1, ap length c.ring.ensures, c.requires.place)

pub at_place-requires-clause-once : goal.at_place-requires-clause-once
at_place-requires-clause-once c =
    let own = kept c in
    omega (arith, own.0.two.0, own.1, ap length c.ring.ensures)

pub returns : goal.returns
returns c =
    let old = c.self.inside in
    let own = kept (goal.at.returns c).After-ring in
    let codes = c.ring.ensures in
    c.at_place.ensures
    ∙ (λ k. get_or (codes k ++ take (own.1 k) (codes k)) (2 * own.1 k + c.args.place) 0)
    ∙ kept_code old.rings old.turns.items _ c.args.self.now c.args.i c.args.place own.0
