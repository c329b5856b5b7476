-- The places of one variable, and the entries that are added of them to its row.
use Rattle.quadratization.proofs.Common.{nat_tests, ◌≡◌, inl, inr, ℕ, suc, ◌<◌, ◌≤◌, ◌^◌, arith, sym, ◌∙◌, refl, List, [], ◌∷◌, ◌++◌, length, get_or, append_assoc, ℤ, pos, unsigned_abs, AllByRecursion, ints, Entry, ◌⊎◌, ◌+◌, false, ap, map, take, flat_map, sum_by, filter-append, sum_by-cons, Literal, Term, TableContent, IsBelow, Ascend, new_nodes, Place, places_in, term_places, all_places, places_of, has_variable, occurrences, term_at, places_in_term, places_at, IsOccurrence, neg_ℤ, ◌*ℤ◌, ◌-ℤ◌, to_z, of_z, w128, factor, signed, node_coupler, node_couplers, drop, drop_more, Head, node_count, IsPlaceOf, node_part, head_of, head_part, IsHead}
use Rattle.quadratization.proofs.LongPlaces.{none_above}

-- the fact is weaker
pub weaker : (P Q : Entry → Type 0) → ((e : Entry) → P e → Q e) → (es : List Entry)
    → AllByRecursion P es → AllByRecursion Q es
weaker P Q f [] all = tt
weaker P Q f (e ∷ es) all = (f e all.0, weaker P Q f es all.1)

-- ---- the place of a variable in a term

-- a variable that stands in a term has one place
pub record IsOnly (v : ℕ) (ls : List Literal) (d : ℕ) (c : ℤ) (n : ℕ) : Type 0 where
  pub literal : Literal
  pub later : List Literal
  pub places : places_of v (places_in ls d c n)
      ≡ record { literal = literal; later = later; degree = d; coefficient = c; first_node = n } ∷ []
  pub here : literal.variable ≡ v
  pub above : IsBelow literal later
  pub shorter : length later ≤ length ls
  pub kept : (w : ℕ) → AllByRecursion (λ l. l.variable < w) ls → AllByRecursion (λ l. l.variable < w) later

-- a variable that does not stand in a term has none
abbrev pub IsNone : ℕ → List Literal → ℕ → ℤ → ℕ → Type 0
IsNone v ls d c n = places_of v (places_in ls d c n) ≡ []

pub term_cases : (v : ℕ) (ls : List Literal) (d : ℕ) (c : ℤ) (n : ℕ) → Ascend ls
    → IsNone v ls d c n ⊎ IsOnly v ls d c n
term_cases v [] d c n up = inl refl
term_cases v (k ∷ ks) d c n up =
    grind (arith, nat_tests, ints, term_cases v ks d c n up.1, none_above)

-- where no literal has the variable, it has no place
no_places : (v : ℕ) (ls : List Literal) (d : ℕ) (c : ℤ) (n : ℕ) → has_variable v ls ≡ false
    → places_of v (places_in ls d c n) ≡ []
no_places v [] d c n none = refl
no_places v (k ∷ ks) d c n none = grind (arith, nat_tests, ints, no_places v ks d c n)

-- ---- one place more

pub places_more : (f : Place → List Entry) (t : TableContent) (v k : ℕ) (ks : List ℕ) (p : Place)
    → places_in_term t v k ≡ p ∷ []
    → flat_map f (places_at t v (k ∷ ks)) ≡ f p ++ flat_map f (places_at t v ks)
places_more f t v k ks p is = ap (λ ps. flat_map f (ps ++ places_at t v ks)) is

-- ---- entries that are added one part after another

-- with the next part, the rest makes the row that of all
pub part_added : (row left es rest all new : List Entry) → left ≡ es ++ rest → new ≡ row ++ es
    → row ++ left ≡ all → new ++ rest ≡ all
part_added row left es rest all new step made whole =
    ap (λ fs. fs ++ rest) made ∙ append_assoc row es rest ∙ ap (λ fs. row ++ fs) (sym step) ∙ whole

-- ---- the places of a variable

pub places_are : (v m n : ℕ) (F : ℕ → List Place) (ts : List Term)
    → ((i : ℕ) (d : Term) → i < length ts
    → F (m + i) ≡ places_of v (term_places (get_or ts i d) (n + sum_by new_nodes (take i ts))))
    → flat_map F (occurrences v m ts) ≡ places_of v (all_places ts n)
places_are v m n F [] at = refl
places_are v m n F (t ∷ ts) at =
    let first : m + 0 ≡ m = omega arith in
    let none : n + 0 ≡ n = omega arith in
    let own = rw (first, none) at (at 0 t (omega arith)) in
    let later : (i : ℕ) (d : Term) → i < length ts
    → F (suc m + i) ≡ places_of v (term_places (get_or ts i d) (n + new_nodes t + sum_by new_nodes (take i ts))) =
    λ i d in'.
    let up : suc m + i ≡ m + suc i = omega arith in
    let node : n + sum_by new_nodes (t ∷ take i ts) ≡ n + new_nodes t + sum_by new_nodes (take i ts) =
    omega (arith, sum_by-cons new_nodes t (take i ts)) in
    rw up (rw node at (at (suc i) d (omega arith))) in
    let rest = places_are v (suc m) (n + new_nodes t) F ts later in
    rw filter-append (grind (arith, own, rest, no_places v t.0 (length t.0) t.1 n))

-- the terms in which a variable occurs have it
pub occurrences-are : (v m : ℕ) (t : TableContent) (ts : List Term) → m + length ts ≤ length t.terms
    → ((i : ℕ) (d : Term) → i < length ts → get_or t.terms (m + i) d ≡ get_or ts i d)
    → AllByRecursion (IsOccurrence t v) (occurrences v m ts)
occurrences-are v m t [] le at = tt
occurrences-are v m t (u ∷ us) le at =
    let first : m + 0 ≡ m = omega arith in
    let term : term_at t m ≡ u = rw first at (at 0 ([], pos 0) (omega arith)) in
    let rest = occurrences-are v (suc m) t us (omega (arith, le))
    (λ i d in'. let up : suc m + i ≡ m + suc i = omega arith in rw up (at (suc i) d (omega arith))) in
    grind (arith, nat_tests)

-- Weights that are added one by one, and couplers with new nodes.

pub signed_comm : (l k : Literal) (c : ℤ) → signed k (signed l c) ≡ signed l (signed k c)
signed_comm l k c = grind (arith, nat_tests, ints)

-- ---- couplers with new nodes

pub node_couplers-more : (l : Literal) (d : ℕ) (c : ℤ) (n k : ℕ) → node_couplers l d c n (k + 1)
    ≡ node_couplers l d c n k ++ node_coupler l (neg_ℤ (c *ℤ pos (factor d k))) (n + k) ∷ []
node_couplers-more l d c n k = grind (arith, nat_tests, ints)

pub turned : (c f : ℤ) (m : ℕ) → f ≡ pos m → (m ≡ 1) ⊎ (m ≡ 2) → unsigned_abs c ≤ 2 ^ 124
    → to_z w128 (of_z w128 (pos 0 -ℤ to_z w128 (of_z w128 (to_z w128 (of_z w128 c) *ℤ to_z w128 (of_z w128 f)))))
    ≡ neg_ℤ (c *ℤ pos m)
turned c f m is (inl one) small = rw (is, one) (omega (arith, ints, small))
turned c f m is (inr two) small = rw (is, two) (omega (arith, ints, small))

-- What is kept of places: their couplers with new nodes, and that it fits its fields.

pub head_kept : (t : TableContent) (v : ℕ) (p : Place) → IsPlaceOf t v p → node_count t ≤ 2 ^ 32
    → IsHead (head_of p)
head_kept t v p kept narrow = record {
  variable = omega (arith, kept.within, narrow);
  nodes = omega (arith, kept.nodes, narrow);
  small = kept.small;
}

-- their couplers are those of the places
pub heads_part : (ps : List Place) → flat_map head_part (map head_of ps) ≡ flat_map node_part ps
heads_part [] = refl
heads_part (p ∷ ps) = ap (λ es. node_part p ++ es) (heads_part ps)

-- one head more
pub head_step : (hs : List Head) (i : ℕ) (d : Head) (couplers new all : List Entry) → i < length hs
    → new ≡ couplers ++ head_part (get_or hs i d) → couplers ++ flat_map head_part (drop i hs) ≡ all
    → new ++ flat_map head_part (drop (i + 1) hs) ≡ all
head_step hs i d couplers new all in' pushed before =
    grind (arith, nat_tests, append_assoc, drop_more)
