-- The quadratic form that is made of sums is the image of the table of what was added.
--
-- What a term of at most two literals gives is additive in its coefficient: the additions give what
-- their table does, and the table gives what it is multiplied out to. A form is told by its
-- constant, its weights of nodes and the sums of its pairs.
use Rattle.quad_form.proofs.Common.{nat_tests, ◌≡◌, ℕ, ◌≤◌, ◌<◌, ◌^◌, eqb, arith, sym, ap, ◌∙◌, refl, subst, List, [], ◌∷◌, append-nil, length, get_or, ℤ, pos, AllByRecursion, is_eq, ints, same_lists, get_or_default, get_or-replicate, length-replicate, All-from_recursion, recursion_from_All, if_so, total_by-flat_map, Literal, Term, coefficient_of, set_cmp, terms_total, with_additions, TableContent, IsLow, IsTable, plain_terms, contributions, coefficient_of-with_additions, terms_total-with_additions, OfSet, All-with_additions, AreTerms-with_additions, same_tables, Entry, weights-append, weight_at, weight_for, IsNonzero, IsPair, QuadContent, node_entries, IsCoupler, IsQuad, image, zero_quad, IsFlat, Share, share_at, short_constant, short_couplers, short_shares, SumsContent, AreSummed, IsSums, size_of, flat_sets, length-image}
use Rattle.pair_sums.specs.Pairs as pairs
use Rattle.quad_form.proofs.Additive.{Amount, IsAdditive, given, given-with_additions}
use Rattle.quad_form.proofs.ShortTerms.{given_to, constant-additive, couplers-additive, shares-additive, short_constant-is, short_couplers-are, short_shares-are}
use Rattle.quad_form.proofs.UniqueForms.{node, constant-fold, node-fold, pair-fold, same_couplers, IsQuad-image}
use Rattle.quad_form.proofs.UnitEntries.{sizes_of_weights}

-- ---- what additions give

-- the table of additions
abbrev pub table_of : TableContent → TableContent
table_of t = record t { terms = with_additions [] t.terms }

abbrev AreShort : List Term → Type 0
AreShort ts = AllByRecursion (λ (t : Term). length t.0 ≤ 2) ts

over_short : (f g : Amount) (ts : List Term)
    → ((t : Term) → length t.0 ≤ 2 → f t.0 t.1 ≡ g t.0 t.1) → AreShort ts → given f ts ≡ given g ts
over_short f g [] same short = refl
over_short f g (t ∷ ts) same short = grind (arith, nat_tests, over_short f g ts same short.1)

-- what their table is multiplied out to gives a set what they give it
table-gives : (ls : List Literal) (g : Amount) (ts : List Term) → IsAdditive g
    → ((t : Term) → length t.0 ≤ 2 → given_to ls t.0 t.1 ≡ g t.0 t.1)
    → AreShort (with_additions [] ts)
    → coefficient_of ls (with_additions [] (contributions (with_additions [] ts))) ≡ given g ts
table-gives ls g ts plus same short =
    let us = with_additions [] ts in
    coefficient_of-with_additions ls (contributions us)
    ∙ total_by-flat_map (λ (t : Term). if_so (is_eq (set_cmp ls t.0)) t.1) (λ (t : Term). plain_terms t.0 t.1) us
    ∙ over_short (given_to ls) g us same short ∙ given-with_additions g plus ts

-- ---- additions that sums hold

module _ (t : TableContent) (s : SumsContent) (fits : IsSums s) (held : AreSummed t s) where
  abbrev u : TableContent
  u = table_of t

  low : IsLow u
  low = All-with_additions (λ (ls : List Literal). length ls ≤ 2) t.terms held.low

  short : AreShort u.terms
  short = recursion_from_All (λ (v : Term). length v.0 ≤ 2) u.terms low

  small : terms_total u.terms ≤ 2 ^ 122
  small = omega (arith, terms_total-with_additions t.terms, held.total, fits.total)

  table : IsTable u
  table = record {
    terms = AreTerms-with_additions t.width t.terms held.sets;
    small = omega (arith, small);
  }

  kept : IsQuad (image u)
  kept = IsQuad-image u table low (omega (arith, held.width, fits.narrow)) (omega (arith, small))

  -- the constant of the image
  constant : (image u).constant ≡ s.constant
  constant =
      let folded = constant-fold (zero_quad u.width) (with_additions [] (contributions u.terms)) in
      let gives = table-gives [] (λ ls c. short_constant (ls, c)) t.terms constant-additive short_constant-is short in
      omega (arith, ints, folded, gives, held.constant)

  -- its weights of nodes
  weight : (i : ℕ) → i < t.width → get_or (image u).diagonal i (pos 0) ≡ get_or s.weights i (pos 0)
  weight i within =
      let none = get_or-replicate u.width i (pos 0) (pos 0) within in
      let sets = recursion_from_All (OfSet (IsFlat t.width)) _ (flat_sets u table low) in
      let folded = node-fold (zero_quad u.width) u.width i (with_additions [] (contributions u.terms)) (length-replicate u.width (pos 0)) sets in
      let gives = table-gives (node i ∷ []) (λ ls c. share_at i (short_shares (ls, c))) t.terms (shares-additive i) (short_shares-are i) short in
      let flat = total_by-flat_map (λ (x : Share). if_so (eqb i x.0) x.1) short_shares t.terms in
      omega (arith, ints, folded, none, gives, flat, held.weights i)

  -- and the sum of each pair
  pair : (i j : ℕ) → weight_at i j (image u).couplers ≡ weight_at i j s.pairs
  pair i j =
      let sets = recursion_from_All (OfSet (IsFlat t.width)) _ (flat_sets u table low) in
      let folded = pair-fold (zero_quad u.width) i j u.width (with_additions [] (contributions u.terms)) sets in
      let gives = table-gives (node i ∷ node j ∷ []) (λ ls c. weight_at i j (short_couplers (ls, c))) t.terms (couplers-additive i j) (short_couplers-are i j) short in
      let flat = total_by-flat_map (weight_for i j) short_couplers t.terms in
      omega (arith, ints, folded, gives, flat, ap (weight_at i j) held.pairs)

  -- a form with these sums is the image
  pub sums_are_image : (q : QuadContent) → IsQuad q → q.constant ≡ s.constant → q.diagonal ≡ s.weights
      → pairs.AreSummed s.pairs q.couplers → q ≡ image u
  sums_are_image q quad same nodes summed =
      let wide : length s.weights ≡ length (image u).diagonal = held.width ∙ sym (length-image u) in
      let diagonal : q.diagonal ≡ (image u).diagonal =
      nodes ∙ same_lists s.weights (image u).diagonal wide (λ k d in'.
      get_or_default s.weights k d (pos 0) in' ∙ sym (weight k (subst (λ n. k < n) held.width in'))
      ∙ get_or_default (image u).diagonal k (pos 0) d (subst (λ n. k < n) wide in')) in
      let couplers : q.couplers ≡ (image u).couplers =
      same_couplers q (image u) quad kept (λ i j. summed.sums i j ∙ sym (pair i j)) in
      λ k. record { constant = (same ∙ sym constant) k; diagonal = diagonal k; couplers = couplers k }

-- ---- the form that is made of sums

couplers_from_pairs : (n : ℕ) (es : List Entry) → AllByRecursion (IsPair n) es
    → AllByRecursion IsNonzero es → AllByRecursion (IsCoupler n) es
couplers_from_pairs n [] of nonzero = tt
couplers_from_pairs n (e ∷ es) of nonzero =
    (record { upward = of.0.upward; within = of.0.within; nonzero = nonzero.0 }, couplers_from_pairs n es of.1 nonzero.1)

-- it is a quadratic form, where the code has others for the constant and the weights
pub IsQuad-sums : (s : SumsContent) (constant : ℤ) (diagonal : List ℤ) (couplers : List Entry) → IsSums s
    → constant ≡ s.constant → diagonal ≡ s.weights → pairs.AreSummed s.pairs couplers
    → IsQuad (record { constant = constant; diagonal = diagonal; couplers = couplers })
IsQuad-sums s constant diagonal couplers fits same nodes summed =
    let n = length s.weights in
    rw (same, nodes) (record {
      ordered = summed.ordered;
      couplers =
          All-from_recursion (IsCoupler n) couplers
          (couplers_from_pairs n couplers (recursion_from_All _ _ (summed.pairs n fits.pairs)) (recursion_from_All _ _ summed.nonzero));
      narrow = fits.narrow;
      small =
          let weights = weights-append (node_entries 0 s.weights) couplers in
          let sizes = sizes_of_weights s.weights [] in
          let whole = ap size_of (append-nil s.weights) in
          omega (arith, summed.small, weights, sizes, whole, fits.constant, fits.weights, fits.pairs_total, fits.total);
    })

-- ---- a table

-- summed once more it is the table
pub table_of-table : (t : TableContent) → IsTable t → table_of t ≡ t
table_of-table t table =
    let same : with_additions [] t.terms ≡ t.terms =
    same_tables _ _ _ (AreTerms-with_additions t.width t.terms table.terms.sets) table.terms
    (λ ls. coefficient_of-with_additions ls t.terms) in
    λ k. record { width = t.width; terms = same k }
