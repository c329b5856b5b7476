use Rattle.rosenberg_layer.proofs.Common.{◌≡◌, ◌+◌, ◌≤◌, length, ap, arith, rules, get_or_read, term_at}
use Rattle.rosenberg_layer.proofs.RingTerms.{kept_at}
use Rattle.rosenberg_layer.proofs.long_terms.LongTerms.degree.Goals.{After-index}
use Rattle.rosenberg_layer.proofs.long_terms.LongTerms.degree.Goals as goal

-- the term is what its turns leave of its ring, and that is two literals at least
left : (c : After-index)
    → (length (term_at c.args.self.now c.args.i).0 + c.index.result.now ≡ length c.ring.result.now)
    × (c.index.result.now + 2 ≤ length c.ring.result.now)
left c =
    let kept = kept_at _ _ _ _ _ c.self.invariant.0 c.self.invariant.1 c.self.view_is c.requires in
    let turns = get_or_read _ c.args.i c.index.result.now kept.turns_within (search rules) 0 in
    let ring = ap length c.ring.ensures in
    (omega (arith, kept.degree, turns, ring), omega (arith, kept.two.0, turns, ring))

pub ring-requires : goal.ring-requires
ring-requires c =
    (kept_at _ _ _ _ _ c.self.invariant.0 c.self.invariant.1 c.self.view_is c.requires).rings_within

pub index-requires : goal.index-requires
index-requires c =
    let kept = kept_at _ _ _ _ _ c.self.invariant.0 c.self.invariant.1 c.self.view_is c.requires in
    omega (arith, kept.turns_within)

pub overflow_sub-result : goal.overflow_sub-result
overflow_sub-result c = omega (arith, (left (goal.at.overflow_sub-result c).After-index).1)

pub returns-clause-degree : goal.returns-clause-degree
returns-clause-degree c = omega (arith, (left (goal.at.returns-clause-degree c).After-index).0)

pub returns-clause-two : goal.returns-clause-two
returns-clause-two c = omega (arith, (left (goal.at.returns-clause-two c).After-index).1)
