use Rattle.poly_reader.proofs.Common.{◌≡◌, ◌<◌, List, [], ◌∷◌, length, get_or, sym, subst, arith, rules, w128, to_z-of_z, Literal}
use Rattle.poly_reader.proofs.reading.add_listed.Goals as goal

-- a list of two, by its places
two : (ls : List Literal) (x y : Literal) → length ls ≡ 2 → x ≡ get_or ls 0 x → y ≡ get_or ls 1 y → ls ≡ x ∷ y ∷ []
two (_ ∷ _ ∷ []) x y len first second = cc
two [] x y len first second = absurd (omega arith)
two (_ ∷ []) x y len first second = absurd (omega arith)
two (_ ∷ _ ∷ _ ∷ _) x y len first second = absurd (omega arith)

pub add_weighed_pair-requires-clause-first : goal.add_weighed_pair-requires-clause-first
add_weighed_pair-requires-clause-first c =
    subst (λ (l : Literal). l.variable < c.args.problem.now.variables) (sym c.index.ensures)
    (c.requires.within 0 _ (omega (arith, c.if-len-ne2.false, c.len.ensures)))

pub add_weighed_pair-requires-clause-second : goal.add_weighed_pair-requires-clause-second
add_weighed_pair-requires-clause-second c =
    subst (λ (l : Literal). l.variable < c.args.problem.now.variables) (sym c.index-2.ensures)
    (c.requires.within 1 _ (omega (arith, c.if-len-ne2.false, c.len.ensures)))

pub returns-clause-added : goal.returns-clause-added
returns-clause-added c =
    let len : length c.args.list.now.items ≡ 2 = omega (arith, c.if-len-ne2.false, c.len.ensures) in
    let kept = to_z-of_z w128 c.args.coefficient (search rules) in
    rw (two _ _ _ len c.index.ensures c.index-2.ensures) (rw kept at c.add_weighed_pair.ensures.added)
