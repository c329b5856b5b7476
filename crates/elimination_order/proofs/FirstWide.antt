-- The first node of an order that is too wide, by its place.
use Rattle.elimination_order.proofs.Common.{nat_tests, ◌≡◌, ℕ, zero, suc, ◌<◌, ◌≤◌, ◌∙◌, arith, List, [], ◌∷◌, ◌++◌, length, take, append_assoc, append-nil, Some, None, refl, Written, at_place, first_wide, width_after}

-- a node that is not too wide is passed
passed : (most : ℕ) (m : Written) (before vs : List ℕ) (v : ℕ) → width_after m before v ≤ most
    → first_wide most m before (v ∷ vs) ≡ first_wide most m (before ++ v ∷ []) vs
passed most m before vs v low = grind (arith, nat_tests)

-- no node is too wide
pub none_wide : (most : ℕ) (m : Written) (before vs : List ℕ)
    → ((p : ℕ) → p < length vs → width_after m (before ++ take p vs) (at_place vs p) ≤ most)
    → first_wide most m before vs ≡ None
none_wide most m before [] narrow = refl
none_wide most m before (v ∷ vs) narrow =
    let first = narrow 0 (omega arith) in
    passed most m before vs v (rw append-nil at first)
    ∙ none_wide most m (before ++ v ∷ []) vs (λ p h.
    rw append_assoc (narrow (suc p) (omega (arith, h))))

-- the node at a place is too wide, and none before it is
pub some_wide : (most : ℕ) (m : Written) (before vs : List ℕ) (place : ℕ) → place < length vs
    → most < width_after m (before ++ take place vs) (at_place vs place)
    → ((p : ℕ) → p < place → width_after m (before ++ take p vs) (at_place vs p) ≤ most)
    → first_wide most m before vs
    ≡ Some (at_place vs place, width_after m (before ++ take place vs) (at_place vs place))
some_wide most m before [] place within wide narrow = absurd (omega (arith, within))
some_wide most m before (v ∷ vs) zero within wide narrow = grind (arith, nat_tests, append-nil)
some_wide most m before (v ∷ vs) (suc place) within wide narrow =
    let first = narrow 0 (omega arith) in
    let rest = some_wide most m (before ++ v ∷ []) vs place (omega (arith, within))
    (rw append_assoc wide) (λ p h. rw append_assoc (narrow (suc p) (omega (arith, h)))) in
    passed most m before vs v (rw append-nil at first) ∙ (rw append_assoc at rest)
