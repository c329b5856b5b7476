use Rattle.penalty_layer.proofs.Common.{nat_tests, rules, arith, ◌≡◌, ◌∷◌, [], refl, List, sym, ap, ◌∙◌, w128, to_z-of_z, eqb-true, nil_from_length, Literal, has_clash, literal_set-ascends, union, union_terms, fills_if_ok, fills_none, fills_same, room_as, room_same}
use Rattle.penalty_layer.proofs.SquareSteps.{union_apart, union_empty-left, union_empty-right}
use Rattle.penalty_layer.proofs.squares.add_sets.Given.{Over}
use Rattle.penalty_layer.proofs.squares.add_sets.Goals.{Then-is_empty, Then-is_empty-2, Else-clashes}
use Rattle.penalty_layer.proofs.squares.add_sets.Goals as goal

-- where the second set is empty, the first is the union
first_alone : (g : Over) (c : Then-is_empty g)
    → union_terms c.args.ls.now c.args.ks.now c.args.coefficient
    ≡ (c.args.ls.now, c.args.coefficient) ∷ []
first_alone g c =
    ap (λ (us : List Literal). union_terms c.args.ls.now us c.args.coefficient)
    (nil_from_length c.args.ks.now (eqb-true _ _ (sym c.is_empty.ensures ∙ c.if-is_empty.true)))
    ∙ union_empty-right c.args.ls.now c.args.coefficient c.requires.left

-- where the first set is empty, the second is
second_alone : (g : Over) (c : Then-is_empty-2 g)
    → union_terms c.args.ls.now c.args.ks.now c.args.coefficient
    ≡ (c.args.ks.now, c.args.coefficient) ∷ []
second_alone g c =
    ap (λ (us : List Literal). union_terms us c.args.ks.now c.args.coefficient)
    (nil_from_length c.args.ls.now (eqb-true _ _ (sym c.is_empty-2.ensures ∙ c.if-is_empty-2.true)))
    ∙ union_empty-left c.args.ks.now c.args.coefficient c.requires.right

-- where there is no clash, the literals of both are
both : (g : Over) (c : Else-clashes g) → union_terms c.args.ls.now c.args.ks.now c.args.coefficient
    ≡ (union c.args.ls.now c.args.ks.now, c.args.coefficient) ∷ []
both g c =
    union_apart c.args.ls.now c.args.ks.now _ c.args.coefficient refl
    (ap has_clash (sym (c.deref.ensures.value ∙ c.in_ok-unite.ensures))
    ∙ sym c.clashes.ensures ∙ c.if-clashes.false)

pub gather-requires : goal.gather-requires
gather-requires g c =
    room_as g.T.Gather.takes c.args.terms.now c.args.ls.now _ c.args.coefficient _ refl
    (to_z-of_z w128 c.args.coefficient (search rules))
    (room_same g.T.Gather.takes c.args.terms.now _ _
    (first_alone g (goal.at.gather-requires g c).Then-is_empty) c.requires.room)

pub returns-then-is_empty : goal.returns-then-is_empty
returns-then-is_empty g c =
    rw (first_alone g (goal.at.returns-then-is_empty g c).Then-is_empty)
    (fills_if_ok g.T.Gather.takes g.T.Gather.holds c.args.terms.now c.gather.new.self
    c.gather.result c.args.ls.now _ c.args.coefficient _ refl
    (to_z-of_z w128 c.args.coefficient (search rules)) c.gather.ensures.added
    c.gather.ensures.takes)

pub gather-requires-then-is_empty-2 : goal.gather-requires-then-is_empty-2
gather-requires-then-is_empty-2 g c =
    room_as g.T.Gather.takes c.args.terms.now c.args.ks.now _ c.args.coefficient _ refl
    (to_z-of_z w128 c.args.coefficient (search rules))
    (room_same g.T.Gather.takes c.args.terms.now _ _
    (second_alone g (goal.at.gather-requires-then-is_empty-2 g c).Then-is_empty-2) c.requires.room)

pub returns-then-is_empty-2 : goal.returns-then-is_empty-2
returns-then-is_empty-2 g c =
    let own = c.gather-then-is_empty-2 in
    rw (second_alone g (goal.at.returns-then-is_empty-2 g c).Then-is_empty-2)
    (fills_if_ok g.T.Gather.takes g.T.Gather.holds c.args.terms.now own.new.self own.result
    c.args.ks.now _ c.args.coefficient _ refl (to_z-of_z w128 c.args.coefficient (search rules))
    own.ensures.added own.ensures.takes)

pub clashes-requires : goal.clashes-requires
clashes-requires g c = grind (arith, nat_tests, literal_set-ascends)

pub returns-then-clashes : goal.returns-then-clashes
returns-then-clashes g c = grind (arith, nat_tests, fills_same, fills_none)

pub gather-requires-2 : goal.gather-requires-2
gather-requires-2 g c = grind (arith, nat_tests, room_as, to_z-of_z, room_same, both)

pub returns : goal.returns
returns g c = grind (arith, nat_tests, both, fills_if_ok, to_z-of_z)
