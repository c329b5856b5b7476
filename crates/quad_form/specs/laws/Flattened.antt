-- Flattening keeps costs. Nothing here has to be believed.
--
-- Terms cost what they are multiplied out to, a table of sums costs what was added, and a term adds
-- to the quadratic form where it is placed exactly what it costs.
use Rattle.term_table.proofs.Common.{nat_tests, ℕ, zero, suc, ℤ, pos, neg_ℤ, Bool, true, false, List, [], length, All, replicate, AllByRecursion, fold, arith, ap, sym, ◌∙◌, refl, ints, All-nil, All-append, All-head, All-tail, All-from_recursion, recursion_from_All, total_by, if_so, total_by-append, all_hold, IsLiteralSet, Term, terms_cost, with_additions, IsTermSet, TableContent, IsTable, IsLow, plain, with_front, plain_terms, contributions, Literal}
use Rattle.std.specs.Prelude.{◌&&◌, slice_set, ◌≡◌, ◌+◌, ◌<◌, ◌≤◌, ◌+ℤ◌, ◌∷◌, ◌++◌, if◌then◌else◌}
use Rattle.std.specs.List.{slice_index_or}
use Rattle.std.specs.List.Sorted.{IsStrictlySortedBy}
use Rattle.std.proofs.lemmas.List.{length-set, length-replicate}
use Rattle.base.proofs.Totals.{total_by_push}
use Rattle.form_steps.specs.declared.layer.BitsLink.{BitsLink}
use Rattle.base.specs.Costs.{IsNeverInfinite}
use Rattle.bits_model.specs.Output.{bit_at, bits_energy}
use Rattle.form_steps.specs.Relations.{Keeps, Extends, Joins}
use Rattle.term_table.specs.Terms.{term_cost}
use Rattle.term_table.specs.Tables as tables
use Rattle.term_table.specs.laws.MultipliedOut.{terms_cost-contributions}
use Rattle.term_table.proofs.SmallSets.{in_order}
use Rattle.term_table.proofs.Additions.{terms_cost-with_additions}
use Rattle.term_table.proofs.KeptTerms.{OfSet, All-with_additions}
use Rattle.quad_form.specs.Quads.{QuadContent, node_entries, quad_value, form_of}
use Rattle.quad_form.specs.Flat.{IsPlain, IsFlat, pair_entry, with_term, zero_quad, image, same_bits, IsSound, Fits}

-- ---- the sets that are left

-- the variables of a set of two rise
pub two_in_order : (width : ℕ) (l k : Literal) → IsLiteralSet width (l ∷ k ∷ [])
    → l.variable < k.variable
unfolding IsStrictlySortedBy
two_in_order width l k set =
    let apart = set.apart in in_order l k set.ordered.0.0 (grind (arith, nat_tests))

-- all terms have such sets
abbrev AreFlat : ℕ → List Term → Type 0
AreFlat width ts = AllByRecursion (OfSet (IsFlat width)) ts

-- a term of one or of two literals, multiplied out, by which of them are complements
abbrev pub one_out : Bool → Literal → ℤ → List Term
one_out n v c = if n then ([], c) ∷ (v ∷ [], neg_ℤ c) ∷ [] else (v ∷ [], c) ∷ []

-- a term of two literals, multiplied out
abbrev pub two_out : Bool → Bool → Literal → Literal → ℤ → List Term
two_out n m v w c =
    if n
    then one_out m w c ++ with_front v (one_out m w (neg_ℤ c))
    else with_front v (one_out m w c)

-- a term of one literal gives the constant and a node
flat_one : (width : ℕ) (l : Literal) (c : ℤ) → l.variable < width
    → AreFlat width (plain_terms (l ∷ []) c)
flat_one width l c in' = go l.negated
  where
    variable : IsPlain width (plain l)
    variable = record { plain = refl; within = in' }

    go : (n : Bool) → AreFlat width (one_out n (plain l) c)
    go true = (tt, (variable, tt))
    go false = (variable, tt)

-- one of two literals gives the constant, two nodes and a coupler, as far as they have complements
flat_two : (width : ℕ) (l k : Literal) (c : ℤ) → l.variable < k.variable → k.variable < width
    → AreFlat width (plain_terms (l ∷ k ∷ []) c)
flat_two width l k c up in' = go l.negated k.negated
  where
    first : IsPlain width (plain l)
    first = record { plain = refl; within = omega arith }

    second : IsPlain width (plain k)
    second = record { plain = refl; within = in' }

    go : (n m : Bool) → AreFlat width (two_out n m (plain l) (plain k) c)
    go true true = (tt, (second, (first, ((first, second, up), tt))))
    go true false = (second, ((first, second, up), tt))
    go false true = (first, ((first, second, up), tt))
    go false false = ((first, second, up), tt)

-- so a term of at most two literals gives sets that have a place
flat_term : (width : ℕ) (ls : List Literal) (c : ℤ) → IsLiteralSet width ls → length ls ≤ 2
    → AreFlat width (plain_terms ls c)
flat_term width [] c set short = (tt, tt)
flat_term width (l ∷ []) c set short =
    flat_one width l c (All-head (λ k. k.variable < width) l [] set.within)
flat_term width (l ∷ k ∷ []) c set short =
    let others = All-tail (λ m. m.variable < width) l (k ∷ []) set.within in
    flat_two width l k c (two_in_order width l k set)
    (All-head (λ m. m.variable < width) k [] others)
flat_term width (l ∷ k ∷ m ∷ ls) c set short = absurd (omega arith)

-- the contributions of low terms are over variables
pub flat_contributions : (width : ℕ) (ts : List Term)
    → AllByRecursion (OfSet (IsTermSet width)) ts
    → AllByRecursion (λ (t : Term). length t.0 ≤ 2) ts
    → All (OfSet (IsFlat width)) (contributions ts)
flat_contributions width [] sets low = All-nil (OfSet (IsFlat width))
flat_contributions width (t ∷ ts) sets low =
    All-append (OfSet (IsFlat width)) (plain_terms t.0 t.1) (contributions ts)
    (All-from_recursion _ _ (flat_term width t.0 t.1 sets.0.set low.0))
    (flat_contributions width ts sets.1 low.1)

-- the sets of a table of low terms, multiplied out and collected
pub flat_sets : (t : TableContent) → IsTable t → IsLow t
    → All (OfSet (IsFlat t.width)) (with_additions [] (contributions t.terms))
flat_sets t table low =
    All-with_additions (IsFlat t.width) (contributions t.terms)
    (flat_contributions t.width t.terms (recursion_from_All _ _ table.terms.sets)
    (recursion_from_All _ _ low))

-- ---- where a term is placed

-- a node's weight that grows by c costs c more where the node is 1
node_grown : (y : List Bool) (n i node : ℕ) (ws : List ℤ) (c : ℤ) → i < length ws → node ≡ n + i
    → total_by (bits_energy y) (node_entries n (slice_set ws i (slice_index_or ws i (pos 0) +ℤ c)))
    ≡ total_by (bits_energy y) (node_entries n ws) +ℤ if_so (bit_at y node) c
node_grown y n i node [] c in' same = absurd (omega arith)
node_grown y n zero node (w ∷ ws) c in' same =
    let first : n ≡ node = omega arith in
    let bit = ap (bit_at y) first in
    grind (arith, nat_tests, ints)
node_grown y n (suc i) node (w ∷ ws) c in' same =
    omega (arith, ints, node_grown y (suc n) i node ws c (omega arith) (omega arith))

-- a set of one variable is true where its bit is 1
all_hold-one : (y : List Bool) (l : Literal) → l.negated ≡ false
    → all_hold y (l ∷ []) ≡ bit_at y l.variable
all_hold-one y l is = grind (arith, nat_tests)

-- a set of two where both bits are
all_hold-two : (y : List Bool) (l k : Literal) → l.negated ≡ false → k.negated ≡ false
    → all_hold y (l ∷ k ∷ []) ≡ (bit_at y l.variable && bit_at y k.variable)
all_hold-two y l k is ks = grind (arith, nat_tests)

-- a placed term adds no node
pub length-with_term : (q : QuadContent) (t : Term)
    → length (with_term q t).diagonal ≡ length q.diagonal
length-with_term q ([], c) = refl
length-with_term q (l ∷ [], c) = length-set q.diagonal l.variable _
length-with_term q (l ∷ k ∷ ls, c) = refl

-- a term in its place adds to the value what it costs
quad_value-with_term : (y : List Bool) (q : QuadContent) (ls : List Literal) (c : ℤ)
    → IsFlat (length q.diagonal) ls
    → quad_value (with_term q (ls, c)) y ≡ quad_value q y +ℤ term_cost y (ls, c)
quad_value-with_term y q [] c flat = omega (arith, ints)
quad_value-with_term y q (l ∷ []) c flat =
    let old = slice_index_or q.diagonal l.variable (pos 0) in
    let grown = slice_set q.diagonal l.variable (old +ℤ c) in
    let cost : term_cost y (l ∷ [], c) ≡ if_so (bit_at y l.variable) c =
    ap (λ b. if_so b c) (all_hold-one y l flat.plain) in
    omega (
      arith,
      ints,
      cost,
      node_grown y 0 l.variable l.variable q.diagonal c flat.within (omega arith),
      total_by-append (bits_energy y) (node_entries 0 grown) q.couplers,
      total_by-append (bits_energy y) (node_entries 0 q.diagonal) q.couplers,
    )
quad_value-with_term y q (l ∷ k ∷ []) c flat =
    let entry = pair_entry l k c in
    let cost : term_cost y (l ∷ k ∷ [], c) ≡ bits_energy y entry =
    ap (λ b. if_so b c) (all_hold-two y l k flat.0.plain flat.1.plain) in
    omega (
      arith,
      ints,
      cost,
      total_by_push (bits_energy y) q.couplers entry,
      total_by-append (bits_energy y) (node_entries 0 q.diagonal) (q.couplers ++ entry ∷ []),
      total_by-append (bits_energy y) (node_entries 0 q.diagonal) q.couplers,
    )
quad_value-with_term y q (l ∷ k ∷ m ∷ ls) c flat = absurd flat

-- and so do all terms, one after another
quad_value-fold : (y : List Bool) (q : QuadContent) (width : ℕ) (ts : List Term)
    → length q.diagonal ≡ width → AreFlat width ts
    → quad_value (fold with_term q ts) y ≡ quad_value q y +ℤ terms_cost y ts
quad_value-fold y q width [] same flat = omega (arith, ints)
quad_value-fold y q width (t ∷ ts) same flat =
    omega (
      arith,
      ints,
      quad_value-fold y (with_term q t) width ts (length-with_term q t ∙ same) flat.1,
      quad_value-with_term y q t.0 t.1 (rw same flat.0),
    )

-- a form of zeros has the value 0
quad_value-zero : (y : List Bool) (n width : ℕ)
    → total_by (bits_energy y) (node_entries n (replicate width (pos 0)) ++ []) ≡ pos 0
quad_value-zero y n zero = refl
quad_value-zero y n (suc width) =
    let rest = quad_value-zero y (suc n) width in grind (arith, nat_tests, ints)

-- ---- the layer's laws

-- the image costs what the table costs
pub image_value : (t : TableContent) → IsTable t → IsLow t → (y : List Bool)
    → quad_value (image t) y ≡ terms_cost y t.terms
image_value t table low y =
    let ts = with_additions [] (contributions t.terms) in
    omega (
      arith,
      ints,
      quad_value-fold y (zero_quad t.width) t.width ts (length-replicate t.width (pos 0))
          (recursion_from_All _ _ (flat_sets t table low)),
      quad_value-zero y 0 t.width,
      terms_cost-with_additions y (contributions t.terms),
      terms_cost-contributions y t.terms,
    )

-- placed terms add no nodes
pub length-fold : (q : QuadContent) (ts : List Term)
    → length (fold with_term q ts).diagonal ≡ length q.diagonal
length-fold q [] = refl
length-fold q (t ∷ ts) = length-fold (with_term q t) ts ∙ length-with_term q t

-- the image has a node for each variable
pub length-image : (t : TableContent) → length (image t).diagonal ≡ t.width
length-image t =
    length-fold (zero_quad t.width) (with_additions [] (contributions t.terms))
    ∙ length-replicate t.width (pos 0)

-- a link that fits can be decoded by
pub flat_sound : (link : BitsLink) (t : TableContent) → Fits link t → IsSound link
flat_sound link t fits = fits.source ∙ sym fits.target

-- it has the widths of the table and of its image
pub flat_joins : (link : BitsLink) (t : TableContent) → Fits link t
    → Joins (tables.form_of t) (form_of (image t)) (same_bits link)
flat_joins link t fits = record {
  source = fits.source;
  target = fits.target ∙ sym (length-image t);
}

-- each assignment reaches itself
pub flat_reaches : (link : BitsLink) (t : TableContent) (x : List Bool) → Fits link t
    → length x ≡ t.width
    → Extends (tables.form_of t) (form_of (image t)) (same_bits link) (pos 1) (pos 0) x x
flat_reaches link t x fits width = record {
  width = width ∙ sym (length-image t);
  decodes = refl;
  energy = omega (arith, ints, image_value t fits.table fits.low x);
}

-- the image keeps the costs of the table
pub flat_keeps : (link : BitsLink) (t : TableContent) → Fits link t
    → Keeps (tables.form_of t) (form_of (image t)) (same_bits link) (pos 1) (pos 0)
flat_keeps link t fits = record {
  positive = omega (arith, ints);
  width = λ y w. w ∙ length-image t;
  bound = λ y w. omega (arith, ints, image_value t fits.table fits.low y);
  reached = λ x w. (x, flat_reaches link t x fits w);
}

-- the costs of a table are whole
pub flat_whole_source : (t : TableContent) → IsNeverInfinite (tables.form_of t)
flat_whole_source t y infinite = cc

-- the costs of an image are whole
pub flat_whole : (t : TableContent) → IsNeverInfinite (form_of (image t))
flat_whole t y infinite = cc
