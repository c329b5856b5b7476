-- A form that has the sums of the parts is the image of the three steps.
--
-- The constant, the weight of each node and the sum of each pair of the image are what the parts
-- give; couplers in order, none of them 0, are told by the sums of their pairs.
use Rattle.quadratization.proofs.Common.{nat_tests, ◌≡◌, inl, inr, ℕ, ◌+◌, ◌*◌, ◌<◌, ◌≤◌, ◌^◌, arith, sym, ◌∙◌, refl, subst, List, [], ◌∷◌, length, get_or, pos, AllByRecursion, ints, cases_lt, same_lists, get_or_default, get_or-replicate, length-replicate, recursion_from_All, Entry, Literal, coefficient_of, terms_total, with_additions, TableContent, AreAdditions, coefficient_of-with_additions, node, IsLow-image, QuadContent, IsCoupler, IsQuad, zero_quad, weight_at, flat_sets, length-image, rising_from_ordered, couplers_are_pairs, nonzero_couplers, constant-fold, node-fold, pair-fold, IsQuad-image, same_entries, table_of, image, all_nodes, parts, sum_for, GivesSums, IsWithin, low_of, IsTable-low_of, total-low_of, share_at-append, ℤ, eqb, flat_map, flat_map-append, total_by, if_so, total_by-append, total_by-flat_map, Term, new_nodes, new_terms, all_new_terms, weight_for, short_couplers, Share, share_at, short_shares, short_constant-is, short_shares-are, short_couplers-are, short_terms, long_terms, place_couplers, all_shares, long_constant, all_places, constant_of, shares_of, couplers_of, IsSumOf, Amount, given}
use Rattle.term_table.specs.MultipliedOut.{contributions}
use Rattle.quadratization.proofs.Apart.{sum_for-with_additions, nodes-table, parts-give, short_terms-short, long_terms-long, share_of, sum_for-given, sum_for-append}
use Rattle.quadratization.proofs.LongTerms.{constants_close, shares_close, couplers_close}

-- the nodes of all parts
pub width-low_of : (t : TableContent) → (low_of t).width ≡ all_nodes t
width-low_of t = nodes-table t

-- ---- the sums of the image

-- what is collected in between gives what the parts give
sums-image : (ls : List Literal) (t : TableContent)
    → coefficient_of ls (with_additions [] (contributions (low_of t).terms)) ≡ sum_for ls (parts t)
sums-image ls t =
    grind (arith, nat_tests, coefficient_of-with_additions, low_of, sum_for-with_additions, parts-give)

pub constant-image : (t : TableContent) → (image t).constant ≡ sum_for [] (parts t)
constant-image t = grind (arith, nat_tests, constant-fold, low_of, sums-image)

pub weight-image : (t : TableContent) (i : ℕ) → AreAdditions t
    → (terms_total t.terms + 1) * 2 ^ 26 ≤ 2 ^ 124 → i < (low_of t).width
    → get_or (image t).diagonal i (pos 0) ≡ sum_for (node i ∷ []) (parts t)
weight-image t i additions total within =
    let low = low_of t in
    let sets = recursion_from_All _ _ (flat_sets low (IsTable-low_of t additions total) (IsLow-image (table_of t))) in
    let folded = node-fold (zero_quad low.width) low.width i (with_additions [] (contributions low.terms)) (length-replicate low.width (pos 0)) sets in
    omega (arith, ints, folded, get_or-replicate low.width i (pos 0) (pos 0) within, sums-image (node i ∷ []) t)

pub pair-image : (t : TableContent) (i j : ℕ) → AreAdditions t
    → (terms_total t.terms + 1) * 2 ^ 26 ≤ 2 ^ 124
    → weight_at i j (image t).couplers ≡ sum_for (node i ∷ node j ∷ []) (parts t)
pair-image t i j additions total =
    let low = low_of t in
    let sets = recursion_from_All _ _ (flat_sets low (IsTable-low_of t additions total) (IsLow-image (table_of t))) in
    let folded = pair-fold (zero_quad low.width) i j low.width (with_additions [] (contributions low.terms)) sets in
    omega (arith, ints, folded, sums-image (node i ∷ node j ∷ []) t)

-- ---- what has these sums

-- the image is a quadratic form
pub image-quad : (t : TableContent) → IsWithin t → IsQuad (image t)
image-quad t within =
    let additions = within.additions in
    let total = within.total in
    IsQuad-image (low_of t) (IsTable-low_of t additions total) (IsLow-image (table_of t))
    (omega (arith, within.narrow, width-low_of t)) (omega (arith, total, total-low_of t additions))

-- a pair that is none, or lies outside, has no weight
weight-none : (n i j : ℕ) (es : List Entry) → AllByRecursion (IsCoupler n) es → (i < j → n ≤ j)
    → weight_at i j es ≡ pos 0
weight-none n i j [] all outside = refl
weight-none n i j (e ∷ es) all outside =
    grind (arith, nat_tests, weight-none n i j es all.1 outside)

-- the image has a node for each that the parts have
pub nodes-image : (t : TableContent) → length (image t).diagonal ≡ all_nodes t
nodes-image t = length-image (low_of t) ∙ width-low_of t

same_diagonals : (t : TableContent) (q : QuadContent) → IsWithin t
    → GivesSums (all_nodes t) (parts t) q → q.diagonal ≡ (image t).diagonal
same_diagonals t q within gives =
    let lengths = gives.width ∙ sym (nodes-image t) in
    same_lists q.diagonal (image t).diagonal lengths (λ k d in'.
    let here : k < all_nodes t = subst (λ n. k < n) gives.width in' in
    let low : k < (low_of t).width = subst (λ n. k < n) (sym (width-low_of t)) here in
    get_or_default q.diagonal k d (pos 0) in' ∙ gives.weights k here
    ∙ sym (weight-image t k within.additions within.total low)
    ∙ get_or_default (image t).diagonal k (pos 0) d (subst (λ n. k < n) lengths in'))

same_pairs : (t : TableContent) (q : QuadContent) → IsWithin t
    → GivesSums (all_nodes t) (parts t) q → (i j : ℕ)
    → weight_at i j q.couplers ≡ weight_at i j (image t).couplers
same_pairs t q within gives i j = elim (cases_lt i j) [
  | inl up ↦ elim (cases_lt j (all_nodes t)) [
    | inl in' ↦ gives.pairs i j up in' ∙ sym (pair-image t i j within.additions within.total)
    | inr out ↦ none (λ h. out)
  ]
  | inr down ↦ none (λ h. absurd (omega (arith, down, h)))
]
  where
    none : (i < j → all_nodes t ≤ j) → weight_at i j q.couplers ≡ weight_at i j (image t).couplers
    none outside =
        let others = recursion_from_All _ _ (image-quad t within).couplers in
        weight-none (all_nodes t) i j q.couplers (recursion_from_All _ _ gives.couplers) outside
        ∙ sym (weight-none (length (image t).diagonal) i j (image t).couplers others (rw (nodes-image t) outside))

-- what has the sums of the parts is the image
pub sums_give_image : (t : TableContent) (q : QuadContent) → IsWithin t
    → GivesSums (all_nodes t) (parts t) q → q ≡ image t
sums_give_image t q within gives =
    let kept = image-quad t within in
    let couplers = recursion_from_All _ _ gives.couplers in
    let others = recursion_from_All _ _ kept.couplers in
    let pairs = couplers_are_pairs _ q.couplers within.narrow couplers in
    let other_pairs = couplers_are_pairs _ (image t).couplers kept.narrow others in
    let constant : q.constant ≡ (image t).constant = gives.constant ∙ sym (constant-image t) in
    let diagonal = same_diagonals t q within gives in
    let same : q.couplers ≡ (image t).couplers =
    same_entries q.couplers (image t).couplers pairs other_pairs
    (rising_from_ordered q.couplers pairs gives.ordered)
    (rising_from_ordered (image t).couplers other_pairs kept.ordered)
    (nonzero_couplers _ q.couplers couplers) (nonzero_couplers _ (image t).couplers others)
    (same_pairs t q within gives) in
    λ k. record { constant = constant k; diagonal = diagonal k; couplers = same k }

-- The sums of all parts: the constants, the shares of nodes and the couplers of short and long terms
-- are what the parts give.

-- ---- short terms

-- a sum over terms of at most two literals, by what each gives
over_short : (f : Amount) (g : Term → ℤ) (ts : List Term)
    → ((t : Term) → length t.0 ≤ 2 → f t.0 t.1 ≡ g t)
    → AllByRecursion (λ (t : Term). length t.0 ≤ 2) ts → given f ts ≡ total_by g ts
over_short f g [] same short = refl
over_short f g (t ∷ ts) same short = grind (arith, nat_tests, ints, over_short f g ts same short.1)

short_part : (ls : List Literal) (g : Term → ℤ) (ts : List Term)
    → ((t : Term) → length t.0 ≤ 2 → share_of ls t.0 t.1 ≡ g t)
    → sum_for ls (short_terms ts) ≡ total_by g (short_terms ts)
short_part ls g ts same =
    grind (arith, nat_tests, ints, sum_for-given, over_short, share_of, short_terms-short)

-- ---- long terms

-- three literals or more
abbrev AreLong : List Term → Type 0
AreLong ts = AllByRecursion (λ (t : Term). 3 ≤ length t.0) ts

long_constants : (ts : List Term) (n : ℕ) → AreLong ts
    → sum_for [] (all_new_terms ts n) ≡ total_by long_constant ts
long_constants [] n long = refl
long_constants (t ∷ ts) n long =
    grind (arith, nat_tests, long_constants ts (n + new_nodes t) long.1, sum_for-append, constants_close)

long_shares : (i : ℕ) (ts : List Term) (n : ℕ) → AreLong ts
    → sum_for (node i ∷ []) (all_new_terms ts n) ≡ share_at i (all_shares ts n)
long_shares i [] n long = refl
long_shares i (t ∷ ts) n long =
    let both = sum_for-append (node i ∷ []) (new_terms t n) (all_new_terms ts (n + new_nodes t)) in
    simp total_by-append (omega (arith, ints, both, shares_close t n i long.0, long_shares i ts (n + new_nodes t) long.1))

long_couplers : (i j : ℕ) (ts : List Term) (n : ℕ) → AreLong ts
    → sum_for (node i ∷ node j ∷ []) (all_new_terms ts n)
    ≡ weight_at i j (flat_map place_couplers (all_places ts n))
long_couplers i j [] n long = refl
long_couplers i j (t ∷ ts) n long =
    let rest = long_couplers i j ts (n + new_nodes t) long.1 in
    let both = sum_for-append (node i ∷ node j ∷ []) (new_terms t n) (all_new_terms ts (n + new_nodes t)) in
    simp (flat_map-append, total_by-append) (omega (arith, ints, both, couplers_close t n i j long.0, rest))

-- ---- all parts

pub constant-parts : (t : TableContent) → sum_for [] (parts t) ≡ constant_of t
constant-parts t =
    grind (arith, nat_tests, sum_for-append, short_part, short_constant-is, long_constants, long_terms-long)

pub shares-parts : (t : TableContent) (i : ℕ)
    → sum_for (node i ∷ []) (parts t) ≡ share_at i (shares_of t)
shares-parts t i =
    let shorts = short_terms t.terms in
    let both = sum_for-append (node i ∷ []) shorts (all_new_terms (long_terms t.terms) t.width) in
    let short = short_part (node i ∷ []) (λ (u : Term). share_at i (short_shares u)) t.terms (short_shares-are i) in
    let flat = total_by-flat_map (λ (s : Share). if_so (eqb i s.0) s.1) short_shares shorts in
    let sum = share_at-append i (flat_map short_shares shorts) (all_shares (long_terms t.terms) t.width) in
    omega (arith, ints, both, short, flat, long_shares i (long_terms t.terms) t.width (long_terms-long t.terms), sum)

pub couplers-parts : (t : TableContent) (i j : ℕ)
    → sum_for (node i ∷ node j ∷ []) (parts t) ≡ weight_at i j (couplers_of t)
couplers-parts t i j =
    let shorts = short_terms t.terms in
    let both = sum_for-append (node i ∷ node j ∷ []) shorts (all_new_terms (long_terms t.terms) t.width) in
    let short = short_part (node i ∷ node j ∷ []) (λ (u : Term). weight_at i j (short_couplers u)) t.terms (short_couplers-are i j) in
    let long = long_couplers i j (long_terms t.terms) t.width (long_terms-long t.terms) in
    simp total_by-append (omega (arith, ints, both, short, total_by-flat_map (weight_for i j) short_couplers shorts, long))

-- what has these sums is the image
pub sum_is_image : (t : TableContent) (q : QuadContent) → IsWithin t → IsSumOf t q → q ≡ image t
sum_is_image t q within sum =
    grind (arith, nat_tests, sums_give_image, constant-parts, shares-parts, couplers-parts)

-- and the image has them
pub image_has_sums : (t : TableContent) → IsWithin t → IsSumOf t (image t)
image_has_sums t within =
    let kept = image-quad t within in
    record {
      constant = constant-image t ∙ constant-parts t;
      width = nodes-image t;
      weights = λ i in'. weight-image t i within.additions within.total (rw (width-low_of t) in') ∙ shares-parts t i;
      ordered = kept.ordered;
      couplers = rw (nodes-image t) at kept.couplers;
      pairs = λ i j up in'. pair-image t i j within.additions within.total ∙ couplers-parts t i j;
    }
