-- Rows of couplers: places and entries of other rows add nothing to a row, and rows in order are a
-- form's couplers.
use Rattle.quadratization.proofs.Common.{nat_tests, ◌≡◌, inl, inr, ℕ, zero, suc, ◌+◌, ◌<◌, ◌≤◌, ◌^◌, false, ◌&&◌, eqb, arith, ap, refl, List, [], ◌∷◌, ◌++◌, map, ℤ, pos, AllByRecursion, flat_map, IsPermutation, ints, cases_lt, All-append, All-weaker, recursion_from_All, if_so, total_by-append, total_by-flat_map, total_by-IsPermutation, total_by_push, Entry, Literal, IsCoupler, weight_for, weight_at, Before, Rises, ordered_from_rising, rising_from_ordered, couplers_are_pairs, pair_coupler, node_couplers, place_couplers, Place, is_at, places_of, row_of, IsRow, AreRows, cases_Bool, all-append, ◌≢◌, int_lt, sym, ◌∙◌, subst, length, get_or, replicate, neg_ℤ, ◌+ℤ◌, ◌*ℤ◌, All, sum_by, length-replicate, All-from_recursion, filter-append, sum_by-cons, Term, IsTermSet, TableContent, IsBelow, IsLiteralSet-ascends, new_nodes, nodes_for, factor, IsPair, all_places, signed, node_coupler, node_count, place_nodes, AreLong, AppendsSums, pair_part, node_part, cond, append-nil, IsNonDecreasingBy, eq-eqb, map-id, weight_total, pair_number, AreSummed, size_of, AreFromRow, weights-append, size-signed, terms_total-cons, ◌*◌, unsigned_abs, get_or_default, All-nil, terms_total, occurrences, places_at, IsOccurrence, factor_cases, ◌⊎◌}
use Rattle.std.specs.Prelude.{⊤}
use Rattle.quadratization.proofs.LongPlaces.{long_nodes}
use Rattle.quadratization.proofs.SummedRows.{weaker, term_cases, places_are, occurrences-are}

-- ---- entries of other rows

weight_for-other : (i j : ℕ) (e : Entry) → eqb i e.first ≡ false → weight_for i j e ≡ pos 0
weight_for-other i j e other = ap (λ a. if_so (a && eqb j e.second) e.weight) other

-- a row has all entries of its pairs
pub weight-row : (i j : ℕ) (es : List Entry) → weight_at i j es ≡ weight_at i j (row_of i es)
weight-row i j [] = refl
weight-row i j (e ∷ es) = grind (arith, nat_tests, weight-row i j es)

-- ---- places of other rows

weight-pairs_other : (i j : ℕ) (l : Literal) (c : ℤ) (ks : List Literal) → eqb i l.variable ≡ false
    → weight_at i j (map (pair_coupler l c) ks) ≡ pos 0
weight-pairs_other i j l c [] other = refl
weight-pairs_other i j l c (k ∷ ks) other =
    grind (arith, nat_tests, ints, weight-pairs_other i j l c ks other)

weight-nodes_other : (i j : ℕ) (l : Literal) (d : ℕ) (c : ℤ) (n k : ℕ) → eqb i l.variable ≡ false
    → weight_at i j (node_couplers l d c n k) ≡ pos 0
weight-nodes_other i j l d c n zero other = refl
weight-nodes_other i j l d c n (suc k) other =
    grind (arith, nat_tests, ints, weight-nodes_other i j l d c n k other, total_by_push, weight_for-other)

pub weight-place_other : (i j : ℕ) (p : Place) → is_at i p ≡ false
    → weight_at i j (place_couplers p) ≡ pos 0
weight-place_other i j p other =
    grind (arith, nat_tests, weight_for-other, total_by-append, weight-pairs_other, weight-nodes_other)

-- a row has the couplers of the places of its variable alone
pub places_make_rows : (i j : ℕ) (ps : List Place) → weight_at i j (flat_map place_couplers ps)
    ≡ weight_at i j (flat_map place_couplers (places_of i ps))
places_make_rows i j [] = refl
places_make_rows i j (p ∷ ps) =
    grind (arith, nat_tests, places_make_rows i j ps, total_by-append, weight-place_other)

-- the order of the places does not matter
pub places_permute : (i j : ℕ) (ps qs : List Place) → IsPermutation ps qs
    → weight_at i j (flat_map place_couplers qs) ≡ weight_at i j (flat_map place_couplers ps)
places_permute i j ps qs moved = grind (arith, nat_tests, total_by-flat_map, total_by-IsPermutation)

-- ---- one row after others

-- entries of rows below i and of row i
Before-row : (i : ℕ) (e : Entry) (row : List Entry) → e.first < i → e.second < 2 ^ 32
    → AllByRecursion (λ f. f.first ≡ i) row → Before e row
Before-row i e [] below narrow all = tt
Before-row i e (f ∷ fs) below narrow all =
    grind (arith, nat_tests, Before-row i e fs below narrow all.1)

Before-append : (e : Entry) (es fs : List Entry) → Before e es → Before e fs → Before e (es ++ fs)
Before-append e [] fs before after = after
Before-append e (d ∷ es) fs before after = (before.0, Before-append e es fs before.1 after)

Rises-append : (nodes i : ℕ) (es row : List Entry) → nodes ≤ 2 ^ 32
    → AllByRecursion (λ e. e.first < i) es → AllByRecursion (IsCoupler nodes) es
    → AllByRecursion (λ f. f.first ≡ i) row → Rises es → Rises row → Rises (es ++ row)
Rises-append nodes i [] row narrow below couplers first rises more = more
Rises-append nodes i (e ∷ es) row narrow below couplers first rises more = (
  Before-append e es row rises.0 (Before-row i e row below.0 (omega (arith, couplers.0.within)) first),
  Rises-append nodes i es row narrow below.1 couplers.1 first rises.1 more,
)

-- a row has no weight for the pairs of others
weight-other_rows : (i k j : ℕ) (row : List Entry) → k < i → AllByRecursion (λ f. f.first ≡ i) row
    → weight_at k j row ≡ pos 0
weight-other_rows i k j [] less first = refl
weight-other_rows i k j (f ∷ fs) less first =
    grind (arith, nat_tests, weight-other_rows i k j fs less first.1)

pub weight-below : (i j : ℕ) (es : List Entry) → AllByRecursion (λ e. e.first < i) es
    → weight_at i j es ≡ pos 0
weight-below i j [] below = refl
weight-below i j (e ∷ es) below = grind (arith, nat_tests, weight-below i j es below.1)

pub rows_follow : (nodes i : ℕ) (all couplers row : List Entry) → nodes < 2 ^ 32
    → AreRows nodes i all couplers → IsRow nodes i all row
    → AreRows nodes (i + 1) all (couplers ++ row)
rows_follow nodes i all couplers row narrow before here =
    let below = recursion_from_All _ couplers before.first in
    let first = recursion_from_All _ row here.first in
    let old = recursion_from_All _ couplers before.couplers in
    let new_pairs = couplers_are_pairs nodes row narrow (recursion_from_All _ row here.couplers) in
    let together = All-append (IsCoupler nodes) couplers row before.couplers here.couplers in
    let pairs = couplers_are_pairs nodes (couplers ++ row) narrow (recursion_from_All _ (couplers ++ row) together) in
    record {
      first =
          All-append (λ (e : Entry). e.first < i + 1) couplers row
          (All-weaker (λ (e : Entry). e.first < i) (λ (e : Entry). e.first < i + 1) (λ (e : Entry) h. omega arith) couplers before.first)
          (All-weaker (λ (e : Entry). e.first ≡ i) (λ (e : Entry). e.first < i + 1) (λ (e : Entry) h. omega arith) row here.first);
      ordered =
          ordered_from_rising (couplers ++ row) pairs
          (Rises-append nodes i couplers row (omega arith) below old first
          (rising_from_ordered couplers (couplers_are_pairs nodes couplers narrow old) before.ordered)
          (rising_from_ordered row new_pairs here.ordered));
      couplers = together;
      sums = λ k j less. elim (cases_lt k i) [
        | inl lower ↦ simp total_by-append (omega (arith, ints, before.sums k j lower, weight-other_rows i k j row lower first))
        | inr upper ↦
            let same : k ≡ i = omega (arith, less, upper) in
            rw same (simp total_by-append (omega (arith, ints, here.sums j, weight-below i j couplers below)))
      ];
    }

-- The row of a variable: what is summed of its pairs and places, and then the couplers with new
-- nodes, which are in order since the places are.

-- ---- entries in order

-- the second nodes ascend, from n on
abbrev pub AreFrom : ℕ → List Entry → Type 0
AreFrom n [] = ⊤
AreFrom n (e ∷ es) = (n ≤ e.second) × AreFrom (suc e.second) es

AreFrom-weaker : (m n : ℕ) → m ≤ n → (es : List Entry) → AreFrom n es → AreFrom m es
AreFrom-weaker m n le [] from = tt
AreFrom-weaker m n le (e ∷ es) from = (omega (arith, from.0), from.1)

AreFrom-append : (n m : ℕ) (es fs : List Entry) → AreFrom n es
    → AllByRecursion (λ e. e.second < m) es → n ≤ m → AreFrom m fs → AreFrom n (es ++ fs)
AreFrom-append n m [] fs from below le next = AreFrom-weaker n m le fs next
AreFrom-append n m (e ∷ es) fs from below le next =
    (from.0, AreFrom-append (suc e.second) m es fs from.1 below.1 (omega (arith, below.0)) next)

before : (i n : ℕ) (e : Entry) (es : List Entry) → e.first ≡ i → e.second < n
    → AllByRecursion (λ f. f.first ≡ i) es → AreFrom n es → Before e es
before i n e [] first less firsts from = tt
before i n e (f ∷ fs) first less firsts from =
    let one = firsts.0 in
    grind (arith, nat_tests, before i (suc f.second) e fs first (omega (arith, less, from.0)) firsts.1 from.1)

-- entries of one first node whose second nodes ascend
rises : (i n : ℕ) (es : List Entry) → AllByRecursion (λ e. e.first ≡ i) es → AreFrom n es → Rises es
rises i n [] firsts from = tt
rises i n (e ∷ es) firsts from =
    grind (arith, nat_tests, rises i (suc e.second) es firsts.1 from.1, before)

-- entries whose second nodes are below a number, and then such that are not
rises-behind : (i n : ℕ) (es fs : List Entry) → AllByRecursion (λ e. e.first ≡ i) es
    → AllByRecursion (λ e. e.second < n) es → Rises es → AllByRecursion (λ e. e.first ≡ i) fs
    → AreFrom n fs → Rises (es ++ fs)
rises-behind i n [] fs firsts below up more from = rises i n fs more from
rises-behind i n (e ∷ es) fs firsts below up more from = (
  Before-append e es fs up.0 (before i n e fs firsts.0 below.0 more from),
  rises-behind i n es fs firsts.1 below.1 up.1 more from,
)

-- ---- the couplers of a place with new nodes

-- a coupler of a first node, with a second one below a number
pub record IsGood (i m : ℕ) (e : Entry) : Type 0 where
  pub first : e.first ≡ i
  pub coupler : IsCoupler m e

-- the number is greater
good-wider : (i k m : ℕ) → k ≤ m → (es : List Entry) → AllByRecursion (IsGood i k) es
    → AllByRecursion (IsGood i m) es
good-wider i k m le =
    weaker (IsGood i k) (IsGood i m) (λ e h. record {
      first = h.first;
      coupler = record { upward = h.coupler.upward; within = omega (arith, le, h.coupler.within); nonzero = h.coupler.nonzero };
    })

signed-nonzero : (l : Literal) (c : ℤ) → c ≢ pos 0 → signed l c ≢ pos 0
signed-nonzero l c some = grind (arith, nat_tests, ints)

turned-nonzero : (c : ℤ) (m : ℕ) → c ≢ pos 0 → (m ≡ 1) ⊎ (m ≡ 2) → neg_ℤ (c *ℤ pos m) ≢ pos 0
turned-nonzero c m some is = grind (arith, nat_tests, ints)

good_nodes : (l : Literal) (d : ℕ) (c : ℤ) (n k : ℕ) → c ≢ pos 0 → l.variable < n
    → AreFrom n (node_couplers l d c n k)
    × AllByRecursion (IsGood l.variable (n + k)) (node_couplers l d c n k)
good_nodes l d c n zero some up = (tt, tt)
good_nodes l d c n (suc k) some up =
    let rest = good_nodes l d c n k some up in
    let es = node_couplers l d c n k in
    let e = node_coupler l (neg_ℤ (c *ℤ pos (factor d k))) (n + k) in
    let below = weaker (IsGood l.variable (n + k)) (λ f. f.second < n + k) (λ f h. h.coupler.within) es rest.1 in
    let nonzero = signed-nonzero l _ (turned-nonzero c (factor d k) some (factor_cases d k)) in
    let good : IsGood l.variable (n + suc k) e = record { first = refl; coupler = record { upward = omega (arith, up); within = omega arith; nonzero = nonzero } } in (
      AreFrom-append n (n + k) es (e ∷ []) rest.0 below (omega arith) (omega arith, tt),
      all-append (IsGood l.variable (n + suc k)) es (e ∷ []) (good-wider l.variable (n + k) (n + suc k) (omega arith) es rest.1) (good, tt),
    )

good_part : (p : Place) → p.coefficient ≢ pos 0 → p.literal.variable < p.first_node
    → AreFrom p.first_node (node_part p)
    × AllByRecursion (IsGood p.literal.variable (p.first_node + place_nodes p)) (node_part p)
good_part p some up =
    elim (cases_Bool (int_lt p.coefficient (pos 0))) [
      | inl sign ↦
          let nonzero = signed-nonzero p.literal p.coefficient some in
          let good : IsGood p.literal.variable (p.first_node + 1) (node_coupler p.literal p.coefficient p.first_node) =
          record { first = refl; coupler = record { upward = up; within = omega arith; nonzero = nonzero } } in
          rw sign ((omega arith, tt), (good, tt))
      | inr sign ↦ rw sign (good_nodes p.literal p.degree p.coefficient p.first_node (nodes_for p.degree) some up)
    ]

-- ---- the places of a variable

-- a place of the variable, with later literals below a width
pub record IsOwn (v w : ℕ) (p : Place) : Type 0 where
  pub here : p.literal.variable ≡ v
  pub above : IsBelow p.literal p.later
  pub within : AllByRecursion (λ l. l.variable < w) p.later

-- the places of a variable, whose new nodes are numbered from n on and below m
pub record AreOwn (v w n m : ℕ) (ps : List Place) : Type 0 where
  pub own : AllByRecursion (IsOwn v w) ps
  pub nodes : AreFrom n (flat_map node_part ps)
  pub good : AllByRecursion (IsGood v m) (flat_map node_part ps)

-- what is kept of each term
pub record IsKept (w : ℕ) (t : Term) : Type 0 where
  pub set : IsTermSet w t.0
  pub long : 3 ≤ length t.0
  pub nonzero : t.1 ≢ pos 0

pub own_places : (v w n m : ℕ) (ts : List Term) → AllByRecursion (IsKept w) ts → v < n
    → n + sum_by new_nodes ts ≤ m → AreOwn v w n m (places_of v (all_places ts n))
own_places v w n m [] kept up le = record { own = tt; nodes = tt; good = tt }
own_places v w n m (t ∷ ts) kept up le =
    let rest = own_places v w (n + new_nodes t) m ts kept.1 (omega (arith, up)) (omega (arith, le, sum_by-cons new_nodes t ts)) in
    let later = flat_map node_part (places_of v (all_places ts (n + new_nodes t))) in
    rw filter-append
    (elim (term_cases v t.0 (length t.0) t.1 n (IsLiteralSet-ascends w t.0 kept.0.set.set)) [
      | inl none ↦
          let nodes = AreFrom-weaker n (n + new_nodes t) (omega arith) later rest.nodes in
          rw none (record { own = rest.own; nodes = nodes; good = rest.good })
      | inr only ↦
          let p : Place = record { literal = only.literal; later = only.later; degree = length t.0; coefficient = t.1; first_node = n } in
          let part = good_part p kept.0.nonzero (omega (arith, up, only.here)) in
          let count : place_nodes p ≡ new_nodes t = sym (long_nodes t.0 t.1 kept.0.long) in
          let end : n + new_nodes t ≤ m = omega (arith, le, sum_by-cons new_nodes t ts) in
          let below = weaker (IsGood p.literal.variable (n + place_nodes p)) (λ e. e.second < n + new_nodes t) (λ e h. omega (arith, h.coupler.within, count)) (node_part p) part.1 in
          let good = subst (λ i. AllByRecursion (IsGood i m) (node_part p)) only.here (good-wider _ _ m (omega (arith, count, end)) (node_part p) part.1) in
          let within = only.kept w (recursion_from_All (λ (l : Literal). l.variable < w) t.0 kept.0.set.set.within) in
          rw only.places (record {
            own = (record { here = only.here; above = only.above; within = within }, rest.own);
            nodes = AreFrom-append n (n + new_nodes t) (node_part p) later part.0 below (omega arith) rest.nodes;
            good = all-append (IsGood v m) (node_part p) later good rest.good;
          })
    ])

-- ---- what is summed

-- a coupler of a first node, with a second one above it and below a width
pub record IsUp (i w : ℕ) (e : Entry) : Type 0 where
  pub first : e.first ≡ i
  pub upward : i < e.second
  pub within : e.second < w

up_of_pairs : (i w : ℕ) (es : List Entry) → AllByRecursion (IsPair w) es
    → AllByRecursion (IsUp i w) (row_of i es)
up_of_pairs i w [] all = tt
up_of_pairs i w (e ∷ es) all = grind (arith, nat_tests, up_of_pairs i w es all.1)

up_of_later : (i w : ℕ) (l : Literal) (c : ℤ) (ks : List Literal) → l.variable ≡ i → IsBelow l ks
    → AllByRecursion (λ k. k.variable < w) ks → AllByRecursion (IsUp i w) (map (pair_coupler l c) ks)
up_of_later i w l c [] here above within = tt
up_of_later i w l c (k ∷ ks) here above within =
    grind (arith, nat_tests, ints, up_of_later i w l c ks here above.1 within.1)

up_of_part : (i w : ℕ) (p : Place) → IsOwn i w p → AllByRecursion (IsUp i w) (pair_part p)
up_of_part i w p own = grind (arith, nat_tests, up_of_later)

up_of_places : (i w : ℕ) (ps : List Place) → AllByRecursion (IsOwn i w) ps
    → AllByRecursion (IsUp i w) (flat_map pair_part ps)
up_of_places i w [] own = tt
up_of_places i w (p ∷ ps) own =
    all-append (IsUp i w) (pair_part p) (flat_map pair_part ps) (up_of_part i w p own.0)
    (up_of_places i w ps own.1)

-- ---- the parts of places

weight_parts : (i j : ℕ) (p : Place)
    → weight_at i j (place_couplers p) ≡ weight_at i j (pair_part p) +ℤ weight_at i j (node_part p)
weight_parts i j p = grind (arith, nat_tests, ints, total_by-append)

weight_split : (i j : ℕ) (ps : List Place) → weight_at i j (flat_map place_couplers ps)
    ≡ weight_at i j (flat_map pair_part ps) +ℤ weight_at i j (flat_map node_part ps)
weight_split i j [] = refl
weight_split i j (p ∷ ps) =
    simp total_by-append (omega (arith, ints, weight_parts i j p, weight_split i j ps))

-- ---- a row

pub kept_of : (t : TableContent) → AreLong t → AllByRecursion (IsKept t.width) t.terms
kept_of t kept = grind (arith, nat_tests, recursion_from_All)

weights_both : (i j : ℕ) (es fs : List Entry)
    → weight_at i j (es ++ fs) ≡ weight_at i j es +ℤ weight_at i j fs
weights_both i j es fs = total_by-append (weight_for i j) es fs

-- what is summed of a variable's pairs and places
abbrev pub summed_part : TableContent → List Entry → ℕ → List Entry
summed_part t pairs i =
    row_of i pairs ++ flat_map pair_part (places_of i (all_places t.terms t.width))

up_of_row : (t : TableContent) (pairs : List Entry) (i : ℕ) → AreLong t → All (IsPair t.width) pairs
    → i < t.width → AllByRecursion (IsUp i t.width) (summed_part t pairs i)
up_of_row t pairs i kept all in' =
    let own = own_places i t.width t.width (node_count t) t.terms (kept_of t kept) in' (omega arith) in
    all-append (IsUp i t.width) (row_of i pairs) (flat_map pair_part (places_of i (all_places t.terms t.width)))
    (up_of_pairs i t.width pairs (recursion_from_All (IsPair t.width) pairs all)) (up_of_places i t.width _ own.own)

pub row_pairs : (t : TableContent) (pairs : List Entry) (i : ℕ) → AreLong t
    → All (IsPair t.width) pairs → i < t.width → All (IsPair t.width) (summed_part t pairs i)
row_pairs t pairs i kept all in' =
    All-from_recursion (IsPair t.width) (summed_part t pairs i)
    (weaker (IsUp i t.width) (IsPair t.width) (λ e u. record { upward = omega (arith, u.first, u.upward); within = u.within })
    (summed_part t pairs i) (up_of_row t pairs i kept all in'))

row_firsts : (t : TableContent) (pairs : List Entry) (i : ℕ) → AreLong t
    → All (IsPair t.width) pairs → i < t.width → All (λ e. e.first ≡ i) (summed_part t pairs i)
row_firsts t pairs i kept all in' =
    All-from_recursion (λ (e : Entry). e.first ≡ i) (summed_part t pairs i)
    (weaker (IsUp i t.width) (λ (e : Entry). e.first ≡ i) (λ e u. u.first)
    (summed_part t pairs i) (up_of_row t pairs i kept all in'))

pub row_is : (t : TableContent) (pairs : List Entry) (i : ℕ) (old new : List Entry)
    → AreLong t → All (IsPair t.width) pairs → i < t.width
    → (r : AppendsSums (summed_part t pairs i) old new)
    → IsRow (node_count t) i (pairs ++ flat_map place_couplers (all_places t.terms t.width))
    (r.row ++ flat_map node_part (places_of i (all_places t.terms t.width)))
row_is t pairs i old new kept all in' r =
    let w = t.width in
    let m = node_count t in
    let row = r.row in
    let every = all_places t.terms w in
    let ps = places_of i every in
    let es = row_of i pairs in
    let fs = flat_map pair_part ps in
    let nodes = flat_map node_part ps in
    let own = own_places i w w m t.terms (kept_of t kept) in' (omega arith) in
    let firsts = recursion_from_All (λ (e : Entry). e.first ≡ i) row (r.firsts i (row_firsts t pairs i kept all in')) in
    let inside : All (IsPair w) row = r.summed.pairs w (row_pairs t pairs i kept all in') in
    let below = weaker (IsPair w) (λ (e : Entry). e.second < w) (λ e p. p.within) row (recursion_from_All (IsPair w) row inside) in
    let couplers : All (IsCoupler m) row = λ k d here.
    let pair : IsPair w (get_or row k d) = inside k d here in
    record { upward = pair.upward; within = omega (arith, pair.within); nonzero = r.summed.nonzero k d here } in
    let each = recursion_from_All (IsCoupler m) row couplers in
    let whole = all-append (IsCoupler m) row nodes each (weaker (IsGood i m) (IsCoupler m) (λ e g. g.coupler) nodes own.good) in
    let more = weaker (IsGood i m) (λ (e : Entry). e.first ≡ i) (λ e g. g.first) nodes own.good in
    let up = rising_from_ordered row (couplers_are_pairs m row kept.narrow each) r.summed.ordered in
    record {
      first = All-from_recursion (λ (e : Entry). e.first ≡ i) (row ++ nodes) (all-append (λ (e : Entry). e.first ≡ i) row nodes firsts more);
      ordered =
          ordered_from_rising (row ++ nodes) (couplers_are_pairs m (row ++ nodes) kept.narrow whole)
          (rises-behind i w row nodes firsts below up more own.nodes);
      couplers = All-from_recursion (IsCoupler m) (row ++ nodes) whole;
      sums = λ j. simp total_by-append
          (omega (arith, ints, r.summed.sums i j, weights_both i j es fs, weight-row i j pairs, places_make_rows i j every, weight_split i j ps));
    }

-- Couplers in the order of their first nodes, row by row.

-- ---- the first of several couplers

pub row-own : (i : ℕ) (e : Entry) (es : List Entry) → e.first ≡ i → row_of i (e ∷ es) ≡ e ∷ row_of i es
row-own i e es is = ap (λ b. cond b (e ∷ row_of i es) (row_of i es)) (eq-eqb i e.first (sym is))

pub row-other : (i : ℕ) (e : Entry) (es : List Entry) → e.first ≢ i → row_of i (e ∷ es) ≡ row_of i es
row-other i e es other = grind (arith, nat_tests)

-- ---- couplers in order

-- those that come later are in later rows
none-before : (i j : ℕ) (es : List Entry) → AreFromRow j es → i < j → row_of i es ≡ []
none-before i j [] from less = refl
none-before i j (e ∷ es) from less =
    grind (arith, nat_tests, none-before i e.first es from.1 (omega (arith, less, from.0)))

-- a row ends where a coupler is not its own
pub ends-row : (i : ℕ) (e : Entry) (es : List Entry) → AreFromRow i (e ∷ es) → e.first ≢ i
    → AreFromRow (i + 1) (e ∷ es)
ends-row i e es from other = (omega (arith, other, from.0), from.1)

pub row-ended : (i : ℕ) (es : List Entry) → AreFromRow (i + 1) es → row_of i es ≡ []
row-ended i es from = none-before i (i + 1) es from (omega arith)

-- couplers whose first nodes do not descend
pub from_ordered : {X : Type 0} (entry : X → Entry) (i : ℕ) (xs : List X)
    → IsNonDecreasingBy (λ x. (entry x).first) xs
    → ((k : ℕ) (d : X) → k < length xs → i ≤ (entry (get_or xs k d)).first)
    → AreFromRow i (map entry xs)
from_ordered entry i [] up from = tt
from_ordered entry i (x ∷ xs) up from = (
  from 0 x (omega arith),
  from_ordered entry (entry x).first xs (λ j k d le in'. up (suc j) (suc k) d (omega arith) (omega arith))
      (λ k d in'. up 0 (suc k) d (omega arith) (omega arith)),
)

-- the first nodes do not descend then
pub from_numbers : (es : List Entry) → All (IsPair (2 ^ 32)) es → IsNonDecreasingBy pair_number es
    → AreFromRow 0 es
from_numbers es pairs up =
    subst (AreFromRow 0) (map-id es) (from_ordered (λ (e : Entry). e) 0 es firsts (λ k d in'. omega arith))
  where
    firsts : IsNonDecreasingBy (λ (e : Entry). e.first) es
    firsts i j d le in' =
        let one : IsPair (2 ^ 32) (get_or es i d) = pairs i d (omega (arith, le, in')) in
        let two : IsPair (2 ^ 32) (get_or es j d) = pairs j d in' in
        omega (arith, one.within, two.within, up i j d le in')

-- ---- the rows of couplers alone

pub rows-summed : (w n : ℕ) (ps others es : List Entry) → others ≡ [] → w ≤ n → All (IsPair w) ps
    → AreSummed ps es → AreRows n w (ps ++ others) es
rows-summed w n ps others es none le pairs summed =
    let inside = summed.pairs w pairs in
    let whole : ps ++ others ≡ ps = ap (λ fs. ps ++ fs) none ∙ append-nil ps in
    record {
      first = All-weaker (IsPair w) (λ (e : Entry). e.first < w)
          (λ (e : Entry) p. omega (arith, p.upward, p.within)) es inside;
      ordered = summed.ordered;
      couplers = λ i d in'.
          let pair : IsPair w (get_or es i d) = inside i d in' in
          record { upward = pair.upward; within = omega (arith, pair.within, le); nonzero = summed.nonzero i d in' };
      sums = λ i j less. summed.sums i j ∙ ap (weight_at i j) (sym whole);
    }

-- What the occurrences of a variable stand for, and how large its row is.

-- ---- what occurrences stand for

pub place_run : (v : ℕ) (t : TableContent)
    → places_at t v (occurrences v 0 t.terms) ≡ places_of v (all_places t.terms t.width)
place_run v t = grind (arith, nat_tests, places_are, get_or_default)

pub place_run-of : (v : ℕ) (t : TableContent) → All (IsOccurrence t v) (occurrences v 0 t.terms)
place_run-of v t =
    All-from_recursion (IsOccurrence t v) (occurrences v 0 t.terms)
    (occurrences-are v 0 t t.terms (omega arith)
    (λ i d in'. let z : 0 + i ≡ i = omega arith in ap (λ m. get_or t.terms m d) z))

-- a row to which the pairs of a variable were added, and then what its terms give
pub row_made : (t : TableContent) (pairs left : List Entry) (v : ℕ) (ks : List ℕ)
    (before first whole : List Entry) → ks ≡ occurrences v 0 t.terms → row_of v left ≡ row_of v pairs
    → before ≡ [] → first ≡ before ++ row_of v left
    → whole ≡ first ++ flat_map pair_part (places_at t v ks) → whole ≡ summed_part t pairs v
row_made t pairs left v ks before first whole own same none one two =
    two ∙ ap (λ es. es ++ flat_map pair_part (places_at t v ks)) one
    ∙ (λ k. (none k ++ same k) ++ flat_map pair_part ((ap (λ js. places_at t v js) own ∙ place_run v t) k))

-- no rows
pub no_rows : (m : ℕ) (all : List Entry) → AreRows m 0 all []
no_rows m all = record {
  first = All-nil (λ (e : Entry). e.first < 0);
  ordered = ordered_from_rising [] tt tt;
  couplers = All-nil (IsCoupler m);
  sums = λ i j less. absurd (omega (arith, less));
}

-- ---- how large a row is

pub row-total : (v : ℕ) (es : List Entry) → weight_total (row_of v es) ≤ weight_total es
row-total v [] = omega arith
row-total v (e ∷ es) =
    let size = λ (d : Entry). unsigned_abs d.weight in
    grind (arith, nat_tests, row-total v es, sum_by-cons size e (row_of v es), sum_by-cons size e es)

later-total : (l : Literal) (c : ℤ) (ks : List Literal) (m : ℕ) → length ks ≤ m
    → weight_total (map (pair_coupler l c) ks) ≤ m * unsigned_abs c
later-total l c [] m le = omega arith
later-total l c (k ∷ ks) zero le = absurd (omega arith)
later-total l c (k ∷ ks) (suc m) le =
    simp sum_by-cons (omega (arith, later-total l c ks m (omega (arith, le)), size-signed l (signed k c) ∙ size-signed k c))

part-total : (p : Place) (m : ℕ) → length p.later ≤ m
    → weight_total (pair_part p) ≤ m * unsigned_abs p.coefficient
part-total p m le = grind (arith, nat_tests, later-total)

pub places-total : (v w n : ℕ) (ts : List Term) → AllByRecursion (IsKept w) ts
    → weight_total (flat_map pair_part (places_of v (all_places ts n))) ≤ terms_total ts * 2 ^ 24
places-total v w n [] kept = omega arith
places-total v w n (t ∷ ts) kept =
    let rest = places-total v w (n + new_nodes t) ts kept.1 in
    rw filter-append
    (elim (term_cases v t.0 (length t.0) t.1 n (IsLiteralSet-ascends w t.0 kept.0.set.set)) [
      | inl none ↦ rw none (omega (arith, rest, terms_total-cons t ts))
      | inr only ↦
          let p : Place = record { literal = only.literal; later = only.later; degree = length t.0; coefficient = t.1; first_node = n } in
          let later = flat_map pair_part (places_of v (all_places ts (n + new_nodes t))) in
          let part = part-total p 2048 (omega (arith, only.shorter, kept.0.set.short)) in
          rw only.places (omega (arith, rest, part, weights-append (pair_part p) later, terms_total-cons t ts))
    ])

-- what is summed of a row fits
pub row-small : (t : TableContent) (pairs : List Entry) (i : ℕ) → AreLong t
    → weight_total pairs + terms_total t.terms * 2 ^ 24 ≤ 2 ^ 126
    → weight_total (summed_part t pairs i) ≤ 2 ^ 126
row-small t pairs i kept small =
    omega (arith, weights-append (row_of i pairs) (flat_map pair_part (places_of i (all_places t.terms t.width))), row-total i pairs, places-total i t.width t.width t.terms (kept_of t kept), small)
