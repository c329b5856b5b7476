use Rattle.wbo_reader.proofs.Lemmas.{rules, ◌≡◌, ◌-ℤ◌, pos, [], ◌∷◌, map, subst, sym, ap, arith, to_z, of_z, OnOk, w128, ints, IsSound, ProblemContent, negated, products_total, eased, eased_row, with_rows, negated-total, first_eased, both_eased}
use Rattle.wbo_reader.proofs.rewriting.add_soft.Goals.{After-negate}
use Rattle.wbo_reader.proofs.rewriting.add_soft.Goals as goal

pub add_eased-requires-clause-sound : goal.add_eased-requires-clause-sound
add_eased-requires-clause-sound c =
    let k = c.args.constraint in
    let products : c.copy_products.new.list ≡ k.products = search rules in
    let bound : to_z w128 (of_z w128 c.constraint.inside.bound) ≡ k.bound = search rules in
    first_eased c.args.problem.now c.args.variable k _ _ c.requires.sound products bound

pub add_eased-requires-2-clause-small : goal.add_eased-requires-2-clause-small
add_eased-requires-2-clause-small c =
    let products : c.negate.new.self ≡ map negated c.args.constraint.products = search rules in
    let bound : c.constraint.inside.bound ≡ c.args.constraint.bound = search rules in
    omega (arith, ints, ap products_total products, negated-total, bound)

-- both rows of an equation are added
both : (c : After-negate)
    → with_rows c.add_eased.new.problem (eased c.args.variable c.negate.new.self
    (to_z w128 (of_z w128 (pos 0 -ℤ to_z w128 (of_z w128 c.constraint.inside.bound)))) ∷ [])
    ≡ with_rows c.args.problem.now (eased_row c.args.variable c.args.constraint)
both c =
    let k = c.args.constraint in
    let products : c.copy_products.new.list ≡ k.products = search rules in
    let bound : to_z w128 (of_z w128 c.constraint.inside.bound) ≡ k.bound = search rules in
    let inside : c.constraint.inside.bound ≡ k.bound = search rules in
    both_eased _ _ _ k _ c.negate.new.self _ _ (search rules) c.in_ok-add_eased.ensures products
    bound (search rules) (omega (arith, ints, inside, c.requires.small))

pub add_eased-requires-2-clause-sound : goal.add_eased-requires-2-clause-sound
add_eased-requires-2-clause-sound c =
    let both = both (goal.at.add_eased-requires-2-clause-sound c).After-negate in
    subst IsSound (sym both) c.requires.sound

pub returns : goal.returns
returns c =
    let both = both (goal.at.returns c).After-negate in
    subst (λ (q : ProblemContent). OnOk c.add_eased-2.result (c.add_eased-2.new.problem ≡ q)) both
    c.add_eased-2.ensures
