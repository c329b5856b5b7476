use Rattle.posiform_check.proofs.Common.{rules, ◌≡◌, ap, ◌∙◌, ℤ, ◌*ℤ◌, ◌∷◌, [], pos, neg_ℤ, to_z, of_z, w128, refl, on_ok_weaker, additions_first, additions_second, both_made}
use Rattle.posiform_check.proofs.forms.add_coupling.Goals as goal

-- the product of a weight and -2 does not wrap
twice : (w z : ℤ) → to_z w128 (of_z w128 w) ≡ w → to_z w128 (of_z w128 z) ≡ z
    → z ≡ neg_ℤ (pos 2 *ℤ to_z w128 (of_z w128 w)) → to_z w128 (of_z w128 z) ≡ neg_ℤ (pos 2 *ℤ w)
twice w z same whole is = whole ∙ is ∙ ap (λ k. neg_ℤ (pos 2 *ℤ k)) same

-- nor does that of a weight and 4
four : (w z : ℤ) → to_z w128 (of_z w128 w) ≡ w → to_z w128 (of_z w128 z) ≡ z
    → z ≡ pos 4 *ℤ to_z w128 (of_z w128 w) → to_z w128 (of_z w128 z) ≡ pos 4 *ℤ w
four w z same whole is = whole ∙ is ∙ ap (λ k. pos 4 *ℤ k) same

pub add_node-requires : goal.add_node-requires
add_node-requires c =
    let value = twice c.args.weight c.twice_less-less.result (search rules) (search rules) c.twice_less-less.ensures in
    rw value (additions_first c.args.terms.now (_ ∷ []) (_ ∷ _ ∷ []) _ refl c.requires.fits)

pub add_node-requires-2 : goal.add_node-requires-2
add_node-requires-2 c =
    let value = twice c.args.weight c.twice_less-less.result (search rules) (search rules) c.twice_less-less.ensures in
    let made = rw value at c.in_ok-add_node.ensures in
    rw value (additions_first _ (_ ∷ []) (_ ∷ []) _ refl
    (additions_second c.args.terms.now _ (_ ∷ []) (_ ∷ _ ∷ []) _ refl made c.requires.fits))

pub add_pair-requires : goal.add_pair-requires
add_pair-requires c =
    let w = c.args.weight in
    let value = twice w c.twice_less-less.result (search rules) (search rules) c.twice_less-less.ensures in
    let most = four w c.four_times.result (search rules) (search rules) c.four_times.ensures in
    let made = rw value at c.in_ok-add_node.ensures in
    let more = rw value at c.in_ok-add_node-2.ensures in
    rw most (additions_second c.args.terms.now _ (_ ∷ _ ∷ []) (_ ∷ []) _ refl
    (both_made c.args.terms.now _ _ (_ ∷ []) (_ ∷ []) _ refl made more) c.requires.fits)

pub returns : goal.returns
returns c =
    let value = twice c.args.weight c.twice_less-less.result (search rules) (search rules) c.twice_less-less.ensures in
    let most = four c.args.weight c.four_times.result (search rules) (search rules) c.four_times.ensures in
    let both = both_made c.args.terms.now _ _ (_ ∷ []) (_ ∷ []) _ refl (rw value at c.in_ok-add_node.ensures) (rw value at c.in_ok-add_node-2.ensures) in
    on_ok_weaker c.add_pair.result (both_made c.args.terms.now _ _ (_ ∷ _ ∷ []) (_ ∷ []) _ refl both)
    (rw most at c.add_pair.ensures)
