-- The whole run keeps costs. Nothing here has to be believed.
--
-- Each substitution keeps the cost of a state whose new bit is the product of the pair, and lowers
-- that of no state. New bits stand after the old ones, so the first bits are those of the assignment.
use Rattle.std.specs.Prelude.{◌≡◌, ◌≤◌, ◌&&◌, ◌∷◌, ◌++◌, ◌≤ℤ◌}
use Rattle.rosenberg_layer.specs.laws.Common.{ℕ, zero, suc, Bool, false, List, [], length, take, get_or, fold, pos, Option, Some, None, arith, sym, ◌∙◌, refl, subst, nat_tests, ints, get_or_push, length_push, length-take, take-append-le, take_all, BitsLink, IsNeverInfinite, Keeps, Extends, Joins, first_bits, HasFirstBits, holds, terms_cost, TableContent, form_of, terms_cost-with_additions, node, Pair, next_pair, replaced, with_pair, with_next, substituted, run, excess, image, next_before, pairs_of, with_product, extension, Fits, Agrees, first_agrees, longer_agrees, holds-agrees, terms_cost-agrees}
use Rattle.rosenberg_layer.specs.laws.Costs.{product, replaced-le, replaced-same}
use Rattle.rosenberg_layer.specs.laws.Sets.{IsPair, IsSound, IsSound-substituted, found_in, pair_differs}

-- ---- no state costs less

substituted-le : (y : List Bool) (t : TableContent) → IsSound t
    → terms_cost y t.terms ≤ℤ terms_cost y (substituted t).terms
substituted-le y t sound = go (next_pair t.terms) refl
  where
    go : (next : Option Pair) → next_pair t.terms ≡ next
        → terms_cost y t.terms ≤ℤ terms_cost y (with_next next t).terms
    go None e = omega (arith, ints)
    go (Some pair) e =
        let differ = pair_differs t.width pair (found_in t pair sound e).is_pair in
        omega (
          arith,
          ints,
          replaced-le y pair (node t.width) t.terms differ,
          terms_cost-with_additions y (replaced pair (node t.width) t.terms),
        )

-- the run lowers no cost
pub run-le : (y : List Bool) (k : ℕ) (t : TableContent) → IsSound t
    → terms_cost y t.terms ≤ℤ terms_cost y (run k t).terms
run-le y zero t sound = omega (arith, ints)
run-le y (suc k) t sound =
    omega (
      arith,
      ints,
      substituted-le y t sound,
      run-le y k (substituted t) (IsSound-substituted t sound),
    )

-- ---- one more bit

product-agrees : (n : ℕ) (x y : List Bool) (pair : Pair) → Agrees n x y → IsPair n pair
    → product x pair ≡ product y pair
product-agrees n x y pair same ok =
    let up = ok.order in
    let inside = ok.within in
    λ i. holds-agrees n x y pair.0 same (omega arith) i
    && holds-agrees n x y pair.1 same inside i

-- a state with the product of the pair costs as much as before
with_pair_reach : (t : TableContent) (pair : Pair) (y : List Bool) → IsSound t → IsPair t.width pair
    → length y ≡ t.width
    → terms_cost (with_product y pair) (with_pair pair t).terms ≡ terms_cost y t.terms
with_pair_reach t pair y sound ok width =
    let b = product y pair in
    let z = y ++ b ∷ [] in
    let agrees : Agrees t.width y z =
    subst (λ n. Agrees n y z) width (longer_agrees y (b ∷ [])) in
    let bit : get_or z t.width false ≡ b = get_or_push y b false t.width width in
    let tied : holds z (node t.width) ≡ product z pair =
    bit ∙ product-agrees t.width y z pair agrees ok in
    let differ = pair_differs t.width pair ok in
    terms_cost-with_additions z (replaced pair (node t.width) t.terms)
    ∙ sym (replaced-same z pair (node t.width) t.terms differ tied)
    ∙ sym (terms_cost-agrees t.width y z t.terms agrees sound.sets)

-- ---- all bits

-- a state with the bits of so many substitutions
abbrev pub extended : ℕ → TableContent → List Bool → List Bool
extended k t y = fold with_product y (pairs_of k t)

-- it has the width of the table after them
pub length-extended : (k : ℕ) (t : TableContent) (y : List Bool) → length y ≡ t.width
    → length (extended k t y) ≡ (run k t).width
length-extended zero t y width = width
length-extended (suc k) t y width = go (next_pair t.terms) (length-extended k)
  where
    go : (next : Option Pair)
        → ((u : TableContent) (z : List Bool) → length z ≡ u.width
        → length (extended k u z) ≡ (run k u).width)
        → length (fold with_product y (next_before next (pairs_of k (with_next next t))))
        ≡ (run k (with_next next t)).width
    go None rest = rest t y width
    go (Some pair) rest =
        rest (with_pair pair t) (with_product y pair)
        (length_push y (product y pair) ∙ omega (arith, width))

-- .. and costs as much as the state did before
pub extended_reach : (k : ℕ) (t : TableContent) (y : List Bool) → IsSound t → length y ≡ t.width
    → terms_cost (extended k t y) (run k t).terms ≡ terms_cost y t.terms
extended_reach zero t y sound width = refl
extended_reach (suc k) t y sound width =
    go (next_pair t.terms) refl (IsSound-substituted t sound) (extended_reach k)
  where
    go : (next : Option Pair) → next_pair t.terms ≡ next → IsSound (with_next next t)
        → ((u : TableContent) (z : List Bool) → IsSound u → length z ≡ u.width
        → terms_cost (extended k u z) (run k u).terms ≡ terms_cost z u.terms)
        → terms_cost (fold with_product y (next_before next (pairs_of k (with_next next t))))
        (run k (with_next next t)).terms
        ≡ terms_cost y t.terms
    go None e after rest = rest t y sound width
    go (Some pair) e after rest =
        rest (with_pair pair t) (with_product y pair) after
        (length_push y (product y pair) ∙ omega (arith, width))
        ∙ with_pair_reach t pair y sound (found_in t pair sound e).is_pair width

-- .. and begins with it
pub take-products : (y : List Bool) (n : ℕ) (pairs : List Pair) → n ≤ length y
    → take n (fold with_product y pairs) ≡ take n y
take-products y n [] inside = refl
take-products y n (pair ∷ pairs) inside =
    take-products (with_product y pair) n pairs (omega (arith, length_push y (product y pair)))
    ∙ take-append-le n y (product y pair ∷ []) inside

-- a table after so many substitutions is at least as wide as before
pub width-run-le : (k : ℕ) (t : TableContent) → t.width ≤ (run k t).width
width-run-le zero t = omega arith
width-run-le (suc k) t = grind (arith, nat_tests, width-run-le k)

-- ---- so many substitutions

-- a link between a table and the one after so many substitutions
abbrev pub link_of : ℕ → TableContent → BitsLink
link_of k t = record { source_width = t.width; target_width = (run k t).width }

-- a state costs no less than its first bits before them
run_bound : (k : ℕ) (t : TableContent) (y : List Bool) → IsSound t
    → terms_cost (take t.width y) t.terms ≤ℤ terms_cost y (run k t).terms
run_bound k t y sound =
    omega (
      arith,
      ints,
      terms_cost-agrees t.width (take t.width y) y t.terms (first_agrees t.width y) sound.sets,
      run-le y k t sound,
    )

-- an assignment is reached with the products of the pairs
pub run_reaches : (k : ℕ) (t : TableContent) (x : List Bool) → IsSound t → length x ≡ t.width
    → Extends (form_of t) (form_of (run k t)) (first_bits (link_of k t)) (pos 1) (pos 0) x
    (extended k t x)
run_reaches k t x sound width = record {
  width = length-extended k t x width;
  decodes =
      take-products x t.width (pairs_of k t) (omega (arith, width))
      ∙ take_all t.width x (omega (arith, width));
  energy = omega (arith, ints, extended_reach k t x sound width);
}

-- they keep the costs of the table
pub run_keeps : (k : ℕ) (t : TableContent) → IsSound t
    → Keeps (form_of t) (form_of (run k t)) (first_bits (link_of k t)) (pos 1) (pos 0)
run_keeps k t sound = record {
  positive = omega (arith, ints);
  width = λ y w. omega (arith, w, width-run-le k t, length-take t.width y);
  bound = λ y w. omega (arith, ints, run_bound k t y sound);
  reached = λ x w. (extended k t x, run_reaches k t x sound w);
}

-- ---- the layer's laws

-- a link that fits can be decoded by
pub rosen_sound : (link : BitsLink) (t : TableContent) → Fits link t → HasFirstBits link
rosen_sound link t fits =
    let from = fits.source in
    let to = fits.target in omega (arith, width-run-le (excess t.terms) t)

-- it has the widths of the table and of its image
pub rosen_joins : (link : BitsLink) (t : TableContent) → Fits link t
    → Joins (form_of t) (form_of (image t)) (first_bits link)
rosen_joins link t fits = record { source = fits.source; target = fits.target }

fitting_link : (link : BitsLink) (t : TableContent) → Fits link t
    → link_of (excess t.terms) t ≡ link
fitting_link link t fits =
    let source = sym fits.source in
    let target = sym fits.target in
    λ i. record { source_width = source i; target_width = target i }

-- an assignment is reached by its extension
pub rosen_reaches : (link : BitsLink) (t : TableContent) (x : List Bool) → Fits link t
    → length x ≡ t.width
    → Extends (form_of t) (form_of (image t)) (first_bits link) (pos 1) (pos 0) x (extension x t)
rosen_reaches link t x fits width =
    subst
    (λ l. Extends (form_of t) (form_of (image t)) (first_bits l) (pos 1) (pos 0) x (extension x t))
    (fitting_link link t fits)
    (run_reaches (excess t.terms) t x fits.table.terms width)

-- the image keeps the costs of the table
pub rosen_keeps : (link : BitsLink) (t : TableContent) → Fits link t
    → Keeps (form_of t) (form_of (image t)) (first_bits link) (pos 1) (pos 0)
rosen_keeps link t fits =
    subst (λ l. Keeps (form_of t) (form_of (image t)) (first_bits l) (pos 1) (pos 0))
    (fitting_link link t fits)
    (run_keeps (excess t.terms) t fits.table.terms)

-- the costs of a table are whole
pub rosen_whole_source : (t : TableContent) → IsNeverInfinite (form_of t)
rosen_whole_source t y infinite = cc

-- the costs of an image are whole
pub rosen_whole : (t : TableContent) → IsNeverInfinite (form_of (image t))
rosen_whole t y infinite = cc
