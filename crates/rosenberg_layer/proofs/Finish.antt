-- The end of the run: the additions of lower degree give the image, and the pairs are those of the
-- image.
use Rattle.rosenberg_layer.proofs.Common.{nat_tests, ◌≡◌, ℕ, zero, suc, ◌+◌, ◌*◌, ◌^◌, ◌≤◌, arith, sym, ◌∙◌, append-nil, List, [], length, All-from_recursion, recursion_from_All, Term, terms_total, with_additions, IsTermSet, AreAdditions, TableContent, OfSet, run, excess, image, pairs_of, IsSound, weights, AreParts}
use Rattle.rosenberg_layer.proofs.Ends.{short-none, IsLow-image}
use Rattle.rosenberg_layer.proofs.Growth.{total-weights, weights-table}
use Rattle.rosenberg_layer.proofs.Parts.{long-is, with_additions-itself, with_additions-alike}
use Rattle.rosenberg_layer.proofs.Turns.{width-pairs, pairs-enough}

-- a turn adds at most one node
pub width-le : (k : ℕ) (t : TableContent) → (run k t).width ≤ t.width + k
width-le zero t = omega arith
width-le (suc k) t = grind (arith, nat_tests, width-le k)

-- no term of degree 3 or more is left
image-is : (t : TableContent) (adds long : List Term) (bound : ℕ) → IsSound t
    → AreParts (image t) adds long bound → (image t).terms ≡ with_additions [] adds
image-is t adds long bound sound parts =
    let low = recursion_from_All (λ (u : Term). length u.0 ≤ 2) (image t).terms (IsLow-image t sound) in
    let none : long ≡ [] = cc (long-is (image t) adds long bound parts, short-none (image t).terms low) in
    sym (with_additions-itself (image t).terms parts.sound.ordered parts.sound.nonzero)
    ∙ with_additions-alike (image t).terms adds (λ ls. rw (none, append-nil) at (parts.sums ls))

-- the additions give the image
pub made-image : (t made : TableContent) (adds long : List Term) (width k count bound : ℕ) → IsSound t
    → k ≡ excess t.terms → width ≡ t.width → count ≡ length (pairs_of k t)
    → AreParts (run k t) adds long bound
    → made ≡ record { width = width + count; terms = with_additions [] adds } → made ≡ image t
made-image t made adds long width k count bound sound number start pairs parts new =
    let terms = sym (image-is t adds long bound sound (rw number at parts)) in
    let nodes = width-pairs (excess t.terms) t in
    let width : width + count ≡ (image t).width = cc in
    new ∙ (λ i. record { width = width i; terms = terms i })

-- .. and can be added
pub adds-fit : (t : TableContent) (adds long : List Term) (width k count : ℕ) → IsSound t
    → width ≡ t.width → count ≡ length (pairs_of k t)
    → AreParts (run k t) adds long (weights t.terms) → (terms_total t.terms + 1) * 2 ^ 15 ≤ 2 ^ 124
    → AreAdditions (record { width = width + count; terms = adds })
adds-fit t adds long width k count sound start pairs parts small =
    let old = parts.small in
    let number : (run k t).width ≡ width + count = omega (arith, width-pairs k t, start, pairs) in
    record {
      sets = All-from_recursion (OfSet (IsTermSet (width + count))) adds (rw number at parts.sets);
      small = omega (arith, old, small, total-weights adds, weights-table t sound);
    }

-- as many turns as there are new nodes give all pairs
pub all-pairs : (t : TableContent) (k : ℕ) → (image t).width ≡ t.width + k
    → pairs_of k t ≡ pairs_of (excess t.terms) t
all-pairs t k number = grind (arith, nat_tests, width-pairs, pairs-enough)
