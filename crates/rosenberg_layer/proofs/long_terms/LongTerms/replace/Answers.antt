use Rattle.rosenberg_layer.proofs.Common.{◌≡◌, ◌+◌, ◌≤◌, [], length, get_or, refl, arith, rules, sym, subst, get_or_read, length-set, HasTwo}
use Rattle.rosenberg_layer.proofs.RingTerms.{kept_at, replaced_two, replaced_terms, IsKept}
use Rattle.rosenberg_layer.proofs.long_terms.LongTerms.replace.Goals.{After-index-turns}
use Rattle.rosenberg_layer.proofs.long_terms.LongTerms.replace.Goals as goal

-- what is kept of the term, its turns, which the code reads, and three places after them
kept : (c : After-index-turns) → let old = c.self.inside in
    IsKept old.rings old.turns.items old.coefficients.items c.args.self.now c.args.i
    × (c.index-turns.result.now ≡ get_or old.turns.items c.args.i 0)
    × (c.index-turns.result.now + 3 ≤ length (get_or old.rings c.args.i []))
kept c =
    let req = c.requires.within in
    let own = kept_at _ _ _ _ _ c.self.invariant.0 c.self.invariant.1 c.self.view_is req in
    let turns =
    get_or_read _ c.args.i c.index-turns.result.now own.turns_within (search rules) 0 in
    (own, turns, omega (arith, own.degree, turns, c.requires.long))

pub index-turns-requires : goal.index-turns-requires
index-turns-requires c =
    let req = c.requires.within in
    let own = kept_at _ _ _ _ _ c.self.invariant.0 c.self.invariant.1 c.self.view_is req in
    omega (arith, own.turns_within)

pub put-requires-clause-list : goal.put-requires-clause-list
put-requires-clause-list c =
    (kept (goal.at.put-requires-clause-list c).After-index-turns).0.rings_within

pub put-requires-clause-place : goal.put-requires-clause-place
put-requires-clause-place c =
    omega (arith, (kept (goal.at.put-requires-clause-place c).After-index-turns).2)

pub overflow_add-turns : goal.overflow_add-turns
overflow_add-turns c =
    let own = kept (goal.at.overflow_add-turns c).After-index-turns in
    omega (arith, own.0.two.1, own.2)

pub index_mut-requires : goal.index_mut-requires
index_mut-requires c =
    omega (arith, (kept (goal.at.index_mut-requires c).After-index-turns).0.turns_within)

pub invariant_of-self : goal.invariant_of-self
invariant_of-self c =
    let old = c.self.inside in
    let own = kept (goal.at.invariant_of-self c).After-index-turns in
    let j = c.index-turns.result.now in
    let two = subst (HasTwo (get_or old.rings c.args.i [])) (sym own.1) own.0.two in
    let same = c.self.invariant.1 in (
      replaced_two old.rings _ old.turns.items _ c.args.i c.args.number j (j + 1) c.self.invariant.0
          two own.2 refl c.put.ensures refl,
      omega (arith, same, length-set old.turns.items c.args.i (j + 1)),
    )

pub returns : goal.returns
returns c =
    let old = c.self.inside in
    let own = kept (goal.at.returns c).After-index-turns in
    let j = c.index-turns.result.now in
    replaced_terms old.rings _ old.turns.items _ old.coefficients.items c.args.self.now c.args.i
    c.args.number j (j + 1) c.self.invariant.0 c.self.invariant.1 c.self.view_is own.0 own.1 own.2
    refl c.put.ensures refl
