-- Steps of making the form of additions: one addition more, and the rows from the first to the last.
use Rattle.quadratization.proofs.Common.{nat_tests, ◌≡◌, ℕ, ◌<◌, true, false, arith, List, [], ◌∷◌, ◌++◌, append-nil, length, ℤ, pos, filter-append, Term, TableContent, is_low, short_terms, long_additions, all_nodes, couplers_of, IsSumOf, AreRows, ints, ◌+◌, ◌-◌, ◌≤◌, ◌^◌, refl, sym, subst, ap, ◌∙◌, map, unsigned_abs, All, Result, OnOk, OnErr, map-append, All-push, All-weaker, filter_passes, recursion_from_All, sum_by-filter_both, sum_by-append, sum_by-cons, le-leb, lt-leb, Literal, Product, products_total, terms_total, IsTermSet, with_appended, IsTermSet-wider, terms_total-map, filter-all, filter-none, SumsContent, is_long, product_term, short_part, AreHeld, IsHeld, held_of, pairs, all-append, inl, inr, ◌*◌, ◌+ℤ◌, AllByRecursion, flat_map, IsPermutation, cases_lt, All-filter, All-map, total_by, total_by-append, total_by-IsPermutation, Entry, weight_total, with_additions, AreAdditions, terms_total-with_additions, OfSet, All-with_additions, new_nodes, IsPair, weight_for, weight_at, table_of, long_terms, short_shares, Gain, IsSums, size_of, widened, share_at-append, length-widened, value-widened, Place, places_in, term_places, all_places, place_couplers, all_shares, long_constant, terms_of, node_count, AreLong, HeldContent}
use Rattle.quad_form.specs.Sums.{AreSummed}
use Rattle.quadratization.specs.Held.{sums_of}
use Rattle.quadratization.proofs.LongPlaces.{differs}
use Rattle.quadratization.proofs.SortedAdditions.{AreLong-table}
use Rattle.quadratization.proofs.GainedShares.{long_constants-size, AreShort}
use Rattle.quadratization.proofs.RowForms.{weight-below, weight-place_other}

-- ---- one addition more

-- a short one is appended to the short ones
pub short-more : (ts : List Term) (t : Term) → is_low t ≡ true
    → (short_terms (ts ++ t ∷ []) ≡ short_terms ts ++ t ∷ [])
    × (long_additions (ts ++ t ∷ []) ≡ long_additions ts)
short-more ts t low = grind (arith, nat_tests, filter-append, append-nil)

-- a long one to the long ones
pub long-more : (ts : List Term) (t : Term) → is_low t ≡ false
    → (short_terms (ts ++ t ∷ []) ≡ short_terms ts)
    × (long_additions (ts ++ t ∷ []) ≡ long_additions ts ++ t ∷ [])
long-more ts t high = grind (arith, nat_tests, filter-append, append-nil)

-- Additions of which the sums of short terms and the long ones are held: one addition more, the short
-- ones alone, and more nodes.

-- ---- short and long additions

short-twice : (ts : List Term) → short_terms (short_terms ts) ≡ short_terms ts
short-twice ts = grind (arith, nat_tests, filter-all, recursion_from_All, filter_passes)

long-short : (ts : List Term) → long_additions (short_terms ts) ≡ []
long-short ts = grind (arith, nat_tests, filter-none, recursion_from_All, filter_passes)

pub total-parts : (ts : List Term)
    → terms_total (short_terms ts) + terms_total (long_additions ts) ≡ terms_total ts
total-parts ts = sum_by-filter_both is_low is_long (λ t. refl) (λ (t : Term). unsigned_abs t.1) ts

-- ---- what is held

-- its sums of short terms
same_sums : (s : SumsContent) (long : List Product) → sums_of (held_of s long) ≡ s
same_sums s long =
    let back : (s.total + products_total long) - products_total long ≡ s.total = omega arith in
    λ k. record { total = back k; constant = s.constant; weights = s.weights; pairs = s.pairs }

module _ (s : SumsContent) (long : List Product) where
  pub sums-held : (t : TableContent) → AreHeld t (held_of s long) → AreSummed (short_part t) s
  sums-held t held = subst (AreSummed (short_part t)) (same_sums s long) held.short

  pub held-sums : (t : TableContent) → AreSummed (short_part t) s → map product_term long ≡ long_additions t.terms
      → AreHeld t (held_of s long)
  held-sums t summed longs = record {
    total = omega (arith, terms_total-map, ap terms_total longs, total-parts);
    short = subst (AreSummed (short_part t)) (sym (same_sums s long)) summed;
    long = longs;
  }

-- ---- answers

-- what follows from both answers of a call holds
pub either : {T E P Q R : Type 0} (r : Result T E) → OnOk r P → OnErr r Q → (P → R) → (Q → R) → R
either r p q f g = grind (arith, nat_tests)

pub both_ok : {T E : Type 0} (P Q : Type 0) (r : Result T E) → OnOk r P → OnOk r Q → OnOk r (P × Q)
both_ok P Q r p q = grind (arith, nat_tests)

-- ---- one addition more

pub products_more : (long : List Product) (ls : List Literal) (c : ℤ)
    → products_total (long ++ record { literals = ls; coefficient = c } ∷ []) ≡ products_total long + unsigned_abs c
products_more long ls c = grind (arith, nat_tests, ints, sum_by-append, sum_by-cons)

module _ (s : SumsContent) (long : List Product) (ls : List Literal) (z : ℤ) where
  -- a short one, where the code has the coefficient as z
  pub held-short : (new : SumsContent) (t : TableContent) (c : ℤ) → z ≡ c → length ls ≤ 2 → AreHeld t (held_of s long)
      → AreSummed (with_appended (short_part t) ls z) new → AreHeld (with_appended t ls c) (held_of new long)
  held-short new t c is low held summed =
      let more = short-more t.terms (ls, z) (le-leb (length ls) 2 low) in
      rw (← is) (held-sums new long (with_appended t ls z)
      (rw more.0 summed) (held.long ∙ sym more.1))

  pub fits-short : (new : SumsContent) → IsHeld (held_of s long) → length new.weights ≡ length s.weights
      → new.total ≡ s.total + unsigned_abs z → s.total + products_total long + unsigned_abs z ≤ 2 ^ 97
      → IsHeld (held_of new long)
  fits-short new fits width total low = record {
    total = omega (arith, total, low);
    long = fits.long;
    sets = subst (λ n. All (λ (p : Product). IsTermSet n p.literals) long) (sym width) fits.sets;
  }

  -- a long one
  pub held-long : (new : List Product) (t : TableContent) (c : ℤ) → z ≡ c → 2 < length ls → AreHeld t (held_of s long)
      → new ≡ long ++ record { literals = ls; coefficient = z } ∷ [] → AreHeld (with_appended t ls c) (held_of s new)
  held-long new t c is high held pushed =
      let more = long-more t.terms (ls, z) (lt-leb (length ls) 2 high) in
      rw (← is) (held-sums s new (with_appended t ls z) (rw more.0 (sums-held s long t held))
      (ap (map product_term) pushed ∙ map-append product_term long _
      ∙ ap (λ us. us ++ (ls, z) ∷ []) held.long ∙ sym more.1))

  pub fits-long : (new : List Product) → IsHeld (held_of s long) → 2 < length ls → IsTermSet (length s.weights) ls
      → s.total + products_total long + unsigned_abs z ≤ 2 ^ 97
      → new ≡ long ++ record { literals = ls; coefficient = z } ∷ [] → IsHeld (held_of s new)
  fits-long new fits high set low pushed =
      let p : Product = record { literals = ls; coefficient = z } in
      subst (λ ps. IsHeld (held_of s ps)) (sym pushed) (record {
        total = omega (arith, low, products_more long ls z);
        long = All-push (λ (q : Product). 3 ≤ length q.literals) long p fits.long (omega (arith, high));
        sets = All-push (λ (q : Product). IsTermSet (length s.weights) q.literals) long p fits.sets set;
      })

-- ---- short additions alone, and more nodes

module _ (s : SumsContent) (long : List Product) where
  pub held-apart : (t : TableContent) (none : List Product) → none ≡ [] → AreHeld t (held_of s long)
      → AreHeld (short_part t) (held_of s none)
  held-apart t none is held =
      grind (arith, nat_tests, held-sums, short-twice, sums-held, long-short)

  pub fits-wider : (new : SumsContent) (nodes : ℕ) → length s.weights ≤ nodes → length new.weights ≡ nodes
      → new.total ≡ s.total → IsHeld (held_of s long) → IsHeld (held_of new long)
  fits-wider new nodes wider wide total fits =
      record {
        total = omega (arith, total, fits.total);
        long = fits.long;
        sets = subst (λ m. All (λ (p : Product). IsTermSet m p.literals) long) (sym wide)
            (All-weaker _ _ (λ (p : Product) set. IsTermSet-wider _ nodes p.literals wider set) _
            fits.sets);
      }

-- What is held of additions, and what long terms give beside it, are the sums of all parts.

-- ---- what is held can be summed

-- no set is too long
lengths_of : (t : TableContent) → AreLong t → AreShort t.terms
lengths_of t kept = grind (arith, nat_tests, recursion_from_All)

module _ (s : SumsContent) (long : List Product) (held : IsHeld (held_of s long)) where
  -- the table of the long terms
  abbrev longs : TableContent
  longs = table_of (terms_of (length s.weights) long)

  -- they are additions
  pub additions-held : AreAdditions (terms_of (length s.weights) long)
  additions-held = record {
    sets = All-map (λ (u : Term). IsTermSet (length s.weights) u.0) product_term long held.sets;
    small = omega (arith, terms_total-map product_term long, held.total);
  }

  -- so their table is as small
  total-held : s.total + terms_total longs.terms ≤ 2 ^ 97
  total-held = omega (arith, terms_total-with_additions, terms_total-map)

  pub couplers-fit : IsSums s → weight_total s.pairs + terms_total longs.terms * 2 ^ 24 ≤ 2 ^ 126
  couplers-fit fits = omega (arith, total-held, fits.pairs_total)

  pub weights-fit : IsSums s → size_of s.weights + terms_total longs.terms * 2 ^ 24 ≤ 2 ^ 126
  weights-fit fits = omega (arith, total-held, fits.weights)

  pub constants-fit : IsSums s → node_count longs < 2 ^ 32
      → unsigned_abs s.constant + unsigned_abs (total_by long_constant longs.terms) ≤ 2 ^ 126
  constants-fit fits narrow =
      let kept = AreLong-table (length s.weights) long additions-held held.long narrow in
      omega (arith, long_constants-size longs.terms (lengths_of longs kept), total-held, fits.constant)

-- ---- rows after those of the variables

-- no pair of variables is in a later row
weight-pairs : (w i j : ℕ) (es : List Entry) → All (IsPair w) es → w ≤ i → weight_at i j es ≡ pos 0
weight-pairs w i j es pairs le = grind (arith, nat_tests, weight-below, recursion_from_All)

-- the variables of places lie below w
abbrev Below : ℕ → List Place → Type 0
Below w ps = AllByRecursion (λ p. p.literal.variable < w) ps

below-term : (w : ℕ) (ls : List Literal) (d : ℕ) (c : ℤ) (n : ℕ)
    → AllByRecursion (λ (l : Literal). l.variable < w) ls → Below w (places_in ls d c n)
below-term w [] d c n below = tt
below-term w (l ∷ ls) d c n below = (below.0, below-term w ls d c n below.1)

below-places : (w : ℕ) (ts : List Term) (n : ℕ) → AllByRecursion (λ (t : Term). IsTermSet w t.0) ts
    → Below w (all_places ts n)
below-places w [] n sets = tt
below-places w (t ∷ ts) n sets =
    all-append (λ (p : Place). p.literal.variable < w) (term_places t n) (all_places ts (n + new_nodes t))
    (below-term w t.0 (length t.0) t.1 n (recursion_from_All (λ (l : Literal). l.variable < w) t.0 sets.0.set.within))
    (below-places w ts (n + new_nodes t) sets.1)

-- nor is a place
weight-places : (w i j : ℕ) (ps : List Place) → Below w ps → w ≤ i
    → weight_at i j (flat_map place_couplers ps) ≡ pos 0
weight-places w i j [] below le = refl
weight-places w i j (p ∷ ps) below le =
    grind (arith, nat_tests, weight-places w i j ps below.1 le, total_by-append, weight-place_other, differs)

-- rows without weights may follow
rows-whole : (nodes w : ℕ) (all made : List Entry) → w ≤ nodes
    → ((i j : ℕ) → w ≤ i → weight_at i j all ≡ pos 0) → AreRows nodes w all made
    → AreRows nodes nodes all made
rows-whole nodes w all made le none rows = record {
  first = All-weaker (λ (e : Entry). e.first < w) (λ (e : Entry). e.first < nodes) (λ (e : Entry) h. omega arith) made rows.first;
  ordered = rows.ordered;
  couplers = rows.couplers;
  sums = λ i j less. elim (cases_lt i w) [
    | inl here ↦ rows.sums i j here
    | inr past ↦
        let below = recursion_from_All (λ (e : Entry). e.first < i) made (λ k d in'. omega (arith, rows.first k d in', past)) in
        weight-below i j made below ∙ sym (none i j past)
  ];
}

-- the pairs may stand in another order
pub rows-permuted : (nodes w : ℕ) (ps qs others made : List Entry) → IsPermutation ps qs
    → AreRows nodes w (qs ++ others) made → AreRows nodes w (ps ++ others) made
rows-permuted nodes w ps qs others made moved rows = record {
  first = rows.first;
  ordered = rows.ordered;
  couplers = rows.couplers;
  sums = λ i j less.
      let same = total_by-IsPermutation (weight_for i j) ps qs moved in
      grind (arith, ints, rows.sums i j less, same, total_by-append (weight_for i j) qs others, total_by-append (weight_for i j) ps others);
}

-- ---- all sums

-- the table of the long terms of additions
abbrev pub long_table : TableContent → TableContent
long_table t = record { width = t.width; terms = long_terms t.terms }

pub same_table : (t : TableContent) (h : HeldContent) → AreHeld t h
    → table_of (terms_of (length h.weights) h.long) ≡ long_table t
same_table t h held = λ k. record { width = held.short.width k; terms = with_additions [] (held.long k) }

long_sets : (t : TableContent) → AreAdditions t
    → AllByRecursion (λ (u : Term). IsTermSet t.width u.0) (long_terms t.terms)
long_sets t additions =
    let P = IsTermSet t.width in
    recursion_from_All _ (long_terms t.terms)
    (All-with_additions P (long_additions t.terms) (All-filter is_long (OfSet P) t.terms additions.sets))

module _ (t : TableContent) (h : HeldContent) (additions : AreAdditions t) (pairs : All (IsPair (length h.weights)) h.pairs) (held : AreHeld t h) where
  abbrev shorts : List Term
  shorts = short_terms t.terms

  abbrev places : List Place
  places = all_places (long_terms t.terms) t.width

  none-before : (i j : ℕ) → t.width ≤ i → weight_at i j (couplers_of t) ≡ pos 0
  none-before i j past =
      let none = weight-pairs (length h.weights) i j h.pairs pairs (omega (arith, held.short.width, past)) in
      let below = below-places t.width (long_terms t.terms) t.width (long_sets t additions) in
      let outside = weight-places t.width i j places below past in
      simp total_by-append (omega (arith, ints, none, ap (weight_at i j) held.short.pairs, outside))

  pub sum-of_held : (constant : ℤ) (weights : List ℤ) (couplers : List Entry) (most : ℕ)
      → constant ≡ h.constant +ℤ total_by long_constant (long_terms t.terms)
      → Gain (all_shares (long_terms t.terms) t.width) most (widened (all_nodes t) h.weights) weights
      → AreRows (all_nodes t) t.width (h.pairs ++ flat_map place_couplers places) couplers
      → IsSumOf t (record { constant = constant; diagonal = weights; couplers = couplers })
  sum-of_held constant weights couplers most sum gain rows =
      let shares = all_shares (long_terms t.terms) t.width in
      let whole = rows-whole (all_nodes t) t.width (couplers_of t) couplers (omega arith) none-before (rw held.short.pairs at rows) in
      record {
        constant = omega (arith, ints, sum, held.short.constant);
        width = gain.width ∙ length-widened (all_nodes t) h.weights (omega (arith, held.short.width));
        weights = λ i in'.
            let old = value-widened (all_nodes t) h.weights i ∙ held.short.weights i in
            omega (arith, ints, gain.weights i, old, share_at-append i (flat_map short_shares shorts) shares);
        ordered = whole.ordered;
        couplers = whole.couplers;
        pairs = λ i j up in'. whole.sums i j (omega arith);
      }

-- What is made of additions that fit the fields of a form, and of those of a problem that is admitted.

-- the sums, where the code has others for the constant and the weights
pub made_sums : (t : TableContent) (c z : ℤ) (ws ds : List ℤ) (es : List Entry) → z ≡ c → ds ≡ ws
    → IsSumOf t (record { constant = c; diagonal = ws; couplers = es })
    → IsSumOf t (record { constant = z; diagonal = ds; couplers = es })
made_sums t c z ws ds es constant weights sums = grind (arith, nat_tests, ints)
