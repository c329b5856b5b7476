use Rattle.penalty_layer.proofs.Common.{rules, nat_tests, arith, ◌≡◌, ◌∷◌, [], ◌∙◌, ap, List, length, to_z, of_z, w128, to_z-of_z, ℤ, subst, sym, HasRoomFor, Term, Literal, Product, fills_if_ok}
use Rattle.penalty_layer.proofs.adding.add_product.Goals as goal

-- a list of two literals has its first two
two : (ls rest later : List Literal) (a b : Literal) → length ls ≡ 2 → ls ≡ a ∷ rest → rest ≡ b ∷ later
    → a ∷ b ∷ [] ≡ ls
two ls rest [] a b count first second = grind (arith, nat_tests)
two ls rest (l ∷ later) a b count first second = grind (arith, nat_tests)

-- a list of one literal has its first one
lone : (ls rest : List Literal) (a : Literal) → length ls ≡ 1 → ls ≡ a ∷ rest → a ∷ [] ≡ ls
lone ls [] a count first = grind (arith, nat_tests)
lone ls (l ∷ rest) a count first = grind (arith, nat_tests)

-- there is room for a term that is another
room_same : {S : Type 0} (takes : S → List Term → Type 0) (now : S) (ls ks : List Literal) (c d : ℤ) → ks ≡ ls → d ≡ c
    → HasRoomFor takes now ((ls, c) ∷ []) → HasRoomFor takes now ((ks, d) ∷ [])
room_same takes now ls ks c d is same room =
    (room.0, subst (takes now) (λ i. (sym is i, sym same i) ∷ room.0) room.1)

pub gather-requires : goal.gather-requires
gather-requires g c =
    let set = lone c.product.inside.literals c.next.new.self c.in-Some.only (omega (arith, c.len.ensures, c.if-len-eq1.true)) c.in-Some.ensures.steps in
    room_same g.T.Gather.takes c.args.terms.now _ _ _ _ (set ∙ ap (λ (t : Product). t.literals) c.product.view_is)
    (to_z-of_z w128 c.product.inside.coefficient (search rules) ∙ ap (λ (t : Product). t.coefficient) c.product.view_is) c.requires

pub gather-requires-then-len-eq2 : goal.gather-requires-then-len-eq2
gather-requires-then-len-eq2 g c =
    let some = c.in-Some-Some in
    let set = two c.product.inside.literals c.next-then-len-eq2.new.self c.next-then-len-eq2-2.new.self some.first some.second
    (omega (arith, c.len-2.ensures, c.if-len-eq2.true)) some.ensures.steps some.ensures'.steps in
    room_same g.T.Gather.takes c.args.terms.now _ _ _ _ (set ∙ ap (λ (t : Product). t.literals) c.product.view_is)
    (to_z-of_z w128 c.product.inside.coefficient (search rules) ∙ ap (λ (t : Product). t.coefficient) c.product.view_is) c.requires

pub returns-then-len-eq1 : goal.returns-then-len-eq1
returns-then-len-eq1 g c =
    let some = c.in-Some in
    let count : length c.product.inside.literals ≡ 1 = omega (arith, c.len.ensures, c.if-len-eq1.true) in
    let set = lone c.product.inside.literals c.next.new.self some.only count some.ensures.steps
    ∙ ap (λ (t : Product). t.literals) c.product.view_is in
    let coefficient : to_z w128 (of_z w128 c.product.inside.coefficient) ≡ c.args.product.coefficient =
    to_z-of_z w128 c.product.inside.coefficient (search rules) ∙ ap (λ (t : Product). t.coefficient) c.product.view_is in
    fills_if_ok g.T.Gather.takes g.T.Gather.holds c.args.terms.now c.gather.new.self c.gather.result _ _ _ _ set
    coefficient c.gather.ensures.added c.gather.ensures.takes

pub returns-then-len-eq2 : goal.returns-then-len-eq2
returns-then-len-eq2 g c =
    let some = c.in-Some-Some in
    let count : length c.product.inside.literals ≡ 2 = omega (arith, c.len-2.ensures, c.if-len-eq2.true) in
    let set =
    two c.product.inside.literals c.next-then-len-eq2.new.self c.next-then-len-eq2-2.new.self some.first some.second count
    some.ensures.steps some.ensures'.steps ∙ ap (λ (t : Product). t.literals) c.product.view_is in
    let coefficient : to_z w128 (of_z w128 c.product.inside.coefficient) ≡ c.args.product.coefficient =
    to_z-of_z w128 c.product.inside.coefficient (search rules) ∙ ap (λ (t : Product). t.coefficient) c.product.view_is in
    fills_if_ok g.T.Gather.takes g.T.Gather.holds c.args.terms.now c.gather-then-len-eq2.new.self c.gather-then-len-eq2.result _ _ _ _ set
    coefficient c.gather-then-len-eq2.ensures.added c.gather-then-len-eq2.ensures.takes

pub returns : goal.returns
returns g c = grind (arith, nat_tests, to_z-of_z, fills_if_ok)
