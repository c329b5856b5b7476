-- Entries in the order of their second nodes, as columns of these.
use Rattle.basic_solve.proofs.Common.{nat_tests, ints, inl, inr, ◌≡◌, ◌≢◌, ℕ, zero, suc, ◌+◌, ◌<◌, ◌≤◌, ◌==◌, ◌||◌, ℤ, pos, ◌+ℤ◌, Bool, List, [], ◌∷◌, ◌++◌, length, get_or, set, take, map, replicate, refl, sym, arith, ap, ◌∙◌, subst, cases_eq, append_assoc, append-nil, All, AllByRecursion, recursion_from_All, sum_by, sum_by-cons, list_any, length-append, length-replicate, length-set, take_more, get_or_append_left, get_or-append_seam, total_by, Entry, IsPlaced, entry_energy, is_in, couples, AreOf, AreEntriesOf, AreLowerNeighbours, AreHandedOn, sum_by_push, sum_by-drop_more, column, columns, lesser_nodes, turned, with_lesser, AreColumns, AreLeft, IsMadeOf}
use Rattle.std.specs.Prelude.{nat_lt, ◌&&◌, ◌*◌, ◌-◌, ◌^◌, unsigned_abs}
use Rattle.base.specs.declared.costs.Cost.TheVariants.{Whole}
use Rattle.std.specs.List.Sorted.{IsNonDecreasingBy, IsPermutation}
use Rattle.std.proofs.lemmas.List.{get_or-map, length-map, get_or_default, length-take-le, get_or-take}
use Rattle.std.proofs.lemmas.List.Sorted.{All-permutation, IsPermutation-map, sum_by-IsPermutation, list_any-IsPermutation}
use borrow.Author.Differences.{up, down}
use Rattle.base.proofs.Totals.{total_by-IsPermutation, total_by_is}
use Rattle.bits_model.specs.PairNumbers.{pair_number}
use Rattle.basic_solve.proofs.Common.{count_by, range_with_len, drop, form_of, weight_total, Written, IsFirstLeast, IsFirstWider, after, coupled, names_both, width}
use Rattle.basic_solve.specs.Widths.{IsWithinWidth}
use Rattle.basic_solve.proofs.Passing.{by_last}
use Rattle.basic_solve.proofs.Eliminating.{all_push}

-- ---- one column

-- one entry more at the end
pub column-here : (v : ℕ) (es : List Entry) (e : Entry) → e.second ≡ v
    → column v (es ++ e ∷ []) ≡ e ∷ column v es
column-here v [] e is = grind (arith, nat_tests)
column-here v (f ∷ es) e is = grind (arith, nat_tests, column-here v es e is)

pub column-there : (v : ℕ) (es : List Entry) (e : Entry) → e.second ≢ v
    → column v (es ++ e ∷ []) ≡ column v es
column-there v [] e other = grind (arith, nat_tests)
column-there v (f ∷ es) e other = grind (arith, nat_tests, column-there v es e other)

pub column-none : (v : ℕ) (es : List Entry)
    → ((k : ℕ) (d : Entry) → k < length es → (get_or es k d).second < v) → column v es ≡ []
column-none v [] below = refl
column-none v (e ∷ es) below =
    let lt = below 0 e (omega arith) in
    let rest = column-none v es (λ k d h. below (suc k) d (omega arith)) in
    grind (arith, nat_tests)

column-own : (v n : ℕ) (es : List Entry) → AllByRecursion (IsPlaced n) es → AreOf v (column v es)
column-own v n [] placed = tt
column-own v n (e ∷ es) placed =
    let up = placed.0.upward in
    let own = column-own v n es placed.1 in
    let push = all_push (λ e. (e.first ≤ v) × (e.second ≡ v)) (column v es) e own in
    grind (arith, nat_tests)

-- ---- all columns

pub columns-same : (n : ℕ) (es fs : List Entry)
    → ((v : ℕ) → v < n → column v es ≡ column v fs) → columns n es ≡ columns n fs
columns-same zero es fs same = refl
columns-same (suc n) es fs same =
    let rest = columns-same n es fs (λ v h. same v (omega arith)) in
    λ i. rest i ++ same n (omega arith) i ∷ []

pub length-columns : (n : ℕ) (es : List Entry) → length (columns n es) ≡ n
length-columns zero es = refl
length-columns (suc n) es =
    omega (arith, length-append (columns n es) (column n es ∷ []), length-columns n es)

pub get_or-columns : (n : ℕ) (es : List Entry) (v : ℕ) → v < n
    → get_or (columns n es) v [] ≡ column v es
get_or-columns zero es v h = absurd (omega arith)
get_or-columns (suc n) es v h =
    let long = length-columns n es in
    let seam = get_or-append_seam (columns n es) (column n es) [] [] in
    let left = get_or_append_left (columns n es) (column n es ∷ []) [] v in
    grind (arith, nat_tests, cases_eq v n, get_or-columns n es v)

-- ---- sums over columns

column-more : (v : ℕ) (e : Entry) (es : List Entry) → e.second ≡ v
    → column v (e ∷ es) ≡ column v es ++ e ∷ []
column-more v e es is = grind (arith, nat_tests)

column-other : (v : ℕ) (e : Entry) (es : List Entry) → e.second ≢ v
    → column v (e ∷ es) ≡ column v es
column-other v e es other = grind (arith, nat_tests)

-- an entry changes no column before its own
columns-before : (n : ℕ) (e : Entry) (es : List Entry) → n ≤ e.second
    → columns n (e ∷ es) ≡ columns n es
columns-before n e es le =
    columns-same n (e ∷ es) es (λ v h. column-other v e es (λ is. omega (arith, is, le, h)))

sum-none : (f : Entry → ℕ) (n : ℕ) → sum_by (sum_by f) (columns n []) ≡ 0
sum-none f zero = refl
sum-none f (suc n) = omega (arith, sum_by_push (sum_by f) (columns n []) [], sum-none f n)

sum-more : (f : Entry → ℕ) (n : ℕ) (e : Entry) (es : List Entry) → e.second < n
    → sum_by (sum_by f) (columns n (e ∷ es)) ≡ f e + sum_by (sum_by f) (columns n es)
sum-more f zero e es h = absurd (omega arith)
sum-more f (suc n) e es h =
    let one = sum_by_push (sum_by f) (columns n (e ∷ es)) (column n (e ∷ es)) in
    let two = sum_by_push (sum_by f) (columns n es) (column n es) in
    elim (cases_eq e.second n) [
      | inl is ↦
          let before = ap (sum_by (sum_by f)) (columns-before n e es (omega (arith, is))) in
          let here = ap (sum_by f) (column-more n e es is) in
          omega (arith, one, two, before, here, sum_by_push f (column n es) e)
      | inr other ↦
          let there = ap (sum_by f) (column-other n e es other) in
          omega (arith, one, two, there, sum-more f n e es (omega (arith, h, other)))
    ]

sum-columns : (f : Entry → ℕ) (n : ℕ) (es : List Entry) → AllByRecursion (IsPlaced n) es
    → sum_by (sum_by f) (columns n es) ≡ sum_by f es
sum-columns f n [] placed = sum-none f n
sum-columns f n (e ∷ es) placed =
    let within = placed.0.within in
    omega (arith, sum-more f n e es within, sum_by-cons f e es, sum-columns f n es placed.1)

held_total : (f : Entry → ℤ) (held : List (List Entry))
    → total_by (total_by f) held +ℤ pos (sum_by (sum_by (λ e. down (f e))) held)
    ≡ pos (sum_by (sum_by (λ e. up (f e))) held)
held_total f [] = refl
held_total f (es ∷ held) =
    let less = sum_by-cons (sum_by (λ e. down (f e))) es held in
    omega (arith, ints, total_by_is f es, held_total f held, less, sum_by-cons (sum_by (λ e. up (f e))) es held)

-- so whole numbers that they add are those that all entries add
total-columns : (f : Entry → ℤ) (n : ℕ) (es : List Entry) → AllByRecursion (IsPlaced n) es
    → total_by (total_by f) (columns n es) ≡ total_by f es
total-columns f n es placed =
    let more = sum-columns (λ e. up (f e)) n es placed in
    let less = sum-columns (λ e. down (f e)) n es placed in
    omega (arith, ints, held_total f (columns n es), total_by_is f es, more, less)

-- the columns hold all entries
pub columns-entries : (n : ℕ) (es : List Entry) → All (IsPlaced n) es
    → AreEntriesOf n es (columns n es)
columns-entries n es placed =
    let all = recursion_from_All (IsPlaced n) es placed in
    record {
      count = length-columns n es;
      each = λ w h.
          let lt : w < n = omega (arith, h, length-columns n es) in
          rw (get_or-columns n es w lt) (column-own w n es all);
      whole = λ kind y. total-columns (entry_energy kind y) n es all;
      sums = λ f. sum-columns f n es all;
    }

-- ---- lesser neighbours

-- what is taken from the last column and passed to its node
pub with_lesser-push : (held : List (List Entry)) (passed : List (List ℕ)) (es : List Entry)
    (us : List ℕ) → length passed ≡ length held → with_lesser (held ++ es ∷ []) (passed ++ us ∷ [])
    ≡ with_lesser held passed ++ (lesser_nodes es ++ us) ∷ []
with_lesser-push [] [] es us long = refl
with_lesser-push [] (p ∷ passed) es us long = absurd (omega (arith, long))
with_lesser-push (h ∷ held) [] es us long = absurd (omega (arith, long))
with_lesser-push (h ∷ held) (p ∷ passed) es us long =
    ap (λ ls. (lesser_nodes h ++ p) ∷ ls) (with_lesser-push held passed es us (omega (arith, long)))

pub length-with_lesser : (held : List (List Entry)) (passed : List (List ℕ))
    → length passed ≡ length held → length (with_lesser held passed) ≡ length held
length-with_lesser [] passed long = refl
length-with_lesser (h ∷ held) [] long = absurd (omega (arith, long))
length-with_lesser (h ∷ held) (p ∷ passed) long =
    omega (arith, length-with_lesser held passed (omega (arith, long)))

-- what is passed to a node
with_lesser-set : (held : List (List Entry)) (passed : List (List ℕ)) (q : ℕ) (us : List ℕ)
    → with_lesser held (set passed q (get_or passed q [] ++ us))
    ≡ set (with_lesser held passed) q (get_or (with_lesser held passed) q [] ++ us)
with_lesser-set [] passed q us = refl
with_lesser-set (h ∷ held) [] q us = refl
with_lesser-set (h ∷ held) (p ∷ passed) zero us =
    ap (λ l. l ∷ with_lesser held passed) (sym (append_assoc (lesser_nodes h) p us))
with_lesser-set (h ∷ held) (p ∷ passed) (suc q) us =
    ap (λ ls. (lesser_nodes h ++ p) ∷ ls) (with_lesser-set held passed q us)

pub handed_with : (held : List (List Entry)) (passed more : List (List ℕ)) (ns : List ℕ)
    → AreHandedOn ns passed more → AreHandedOn ns (with_lesser held passed) (with_lesser held more)
handed_with held passed more ns h = record {
  none = λ none. ap (with_lesser held) (h.none none);
  last = λ rest q parts. ap (with_lesser held) (h.last rest q parts) ∙ with_lesser-set held passed q rest;
}

-- ---- the lesser neighbours at first

get_or-with_lesser : (held : List (List Entry)) (v : ℕ) → v < length held
    → get_or (with_lesser held (replicate (length held) [])) v [] ≡ lesser_nodes (get_or held v [])
get_or-with_lesser [] v h = absurd (omega arith)
get_or-with_lesser (es ∷ held) zero h = append-nil (lesser_nodes es)
get_or-with_lesser (es ∷ held) (suc v) h = get_or-with_lesser held v (omega arith)

lesser-push : (es : List Entry) (e : Entry) (u : ℕ) → is_in (lesser_nodes (es ++ e ∷ [])) u
    ≡ (is_in (lesser_nodes es) u || (nat_lt e.first e.second && (e.first == u)))
lesser-push [] e u = grind (arith, nat_tests)
lesser-push (f ∷ es) e u = grind (arith, nat_tests, lesser-push es e u)

column-lesser : (v u : ℕ) (es : List Entry)
    → is_in (lesser_nodes (column v es)) u ≡ list_any (couples u v) es
column-lesser v u [] = refl
column-lesser v u (e ∷ es) =
    let rest = column-lesser v u es in
    let push = lesser-push (column v es) e u in
    grind (arith, nat_tests)

-- no node is passed
abbrev pub none_passed : List ℕ
none_passed = []

pub columns-lower : (n : ℕ) (es : List Entry)
    → AreLowerNeighbours n es (with_lesser (columns n es) (replicate n []))
columns-lower n es =
    let long = length-columns n es in
    let none = ap (λ k. replicate k none_passed) (sym long) in
    record {
      count = length-with_lesser (columns n es) (replicate n none_passed) (length-replicate n none_passed ∙ sym long) ∙ long;
      members = λ u w h.
          ap (λ us. is_in (get_or (with_lesser (columns n es) us) w []) u) none
          ∙ ap (λ l. is_in l u) (get_or-with_lesser (columns n es) w (omega (arith, long))
          ∙ ap lesser_nodes (get_or-columns n es w h)) ∙ column-lesser w u es;
    }

-- ---- entries that are turned

pub turned_twice : (es : List Entry) → map turned (map turned es) ≡ es
turned_twice [] = refl
turned_twice (e ∷ es) = ap (λ fs. e ∷ fs) (turned_twice es)

abbrev pub no_entry : Entry
no_entry = record { first = 0; second = 0; weight = pos 0 }

-- pairs in order are in the order of the second nodes of what they are turned
turned-ordered : (n : ℕ) (ps : List Entry) → n ≤ 2 ^ 32 → All (IsPlaced n) (map turned ps)
    → IsNonDecreasingBy pair_number ps → IsNonDecreasingBy (λ e. e.second) (map turned ps)
turned-ordered n ps few placed up i j d le h =
    let long = length-map ps turned in
    let a = placed i d (omega (arith, le, h)) in
    let b = placed j d h in
    let x = get_or ps i no_entry in
    let y = get_or ps j no_entry in
    let is = get_or-map turned ps i no_entry d (omega (arith, le, h, long)) in
    let js = get_or-map turned ps j no_entry d (omega (arith, h, long)) in
    let one : (get_or (map turned ps) i d).second ≡ x.first = ap (λ e. e.second) is in
    let two : (get_or (map turned ps) i d).first ≡ x.second = ap (λ e. e.first) is in
    let three : (get_or (map turned ps) j d).second ≡ y.first = ap (λ e. e.second) js in
    let four : (get_or (map turned ps) j d).first ≡ y.second = ap (λ e. e.first) js in
    let rise : x.first * 2 ^ 32 + x.second ≤ y.first * 2 ^ 32 + y.second
    = up i j no_entry le (omega (arith, h, long)) in
    omega (arith, rise, one, two, three, four, a.upward, a.within, b.upward, b.within, few)

-- sorted pairs are columns
pub turned-columns : (n : ℕ) (ps qs : List Entry) → n ≤ 2 ^ 32 → IsPermutation ps qs
    → IsNonDecreasingBy pair_number qs → All (IsPlaced n) (map turned ps)
    → weight_total (map turned ps) ≤ 2 ^ 124 → AreColumns n (map turned qs)
turned-columns n ps qs few moved up placed light =
    let all = All-permutation (IsPlaced n) (map turned ps) (map turned qs) (IsPermutation-map turned ps qs moved) placed in
    record {
      ordered = turned-ordered n qs few all up;
      placed = all;
      light = omega (arith, light, sum_by-IsPermutation (λ e. unsigned_abs e.weight) (map turned ps) (map turned qs) (IsPermutation-map turned ps qs moved));
    }

-- all entries are of the first n nodes
pub all_left : (n : ℕ) (es : List Entry) → AreColumns n es → AreLeft n (length es) es
all_left n es are = record {
  ordered = are.ordered;
  within = omega arith;
  below = λ k d h. (are.placed k d h).within;
}

-- ---- a column from its end

-- the last entry of a front of entries is of this column, and of no other
pub front-here : (v : ℕ) (es : List Entry) (s : ℕ) (d e : Entry) → s < length es
    → e ≡ get_or es s d → e.second ≡ v → column v (take (s + 1) es) ≡ e ∷ column v (take s es)
front-here v es s d e h is own =
    ap (column v) (take_more es s d h ∙ ap (λ x. take s es ++ x ∷ []) (sym is))
    ∙ column-here v (take s es) e own

pub front-there : (v : ℕ) (es : List Entry) (s : ℕ) (d e : Entry) → s < length es
    → e ≡ get_or es s d → e.second ≢ v → column v (take (s + 1) es) ≡ column v (take s es)
front-there v es s d e h is other =
    ap (column v) (take_more es s d h ∙ ap (λ x. take s es ++ x ∷ []) (sym is))
    ∙ column-there v (take s es) e other

-- what a step down keeps
pub step_down : (v : ℕ) (es : List Entry) (start end : ℕ) (into more : List Entry) (d e : Entry)
    → start ≤ length es → 0 < start → e ≡ get_or es (start - 1) d → e.second ≡ v
    → more ≡ into ++ e ∷ [] → into ++ column v (take start es) ≡ column v (take end es)
    → ((w : ℕ) → w < v → column w (take start es) ≡ column w (take end es))
    → (more ++ column v (take (start - 1) es) ≡ column v (take end es))
    × ((w : ℕ) → w < v → column w (take (start - 1) es) ≡ column w (take end es))
step_down v es start end into more d e within some is own pushed so_far others =
    let before : (start - 1) + 1 ≡ start = omega (arith, some) in
    let low : start - 1 < length es = omega (arith, some, within) in (
      ap (λ l. l ++ column v (take (start - 1) es)) pushed
          ∙ append_assoc into (e ∷ []) (column v (take (start - 1) es))
          ∙ ap (λ l. into ++ l) (sym (front-here v es (start - 1) d e low is own)
          ∙ ap (λ k. column v (take k es)) before) ∙ so_far,
      λ w lt.
          sym (front-there w es (start - 1) d e low is (λ same. omega (arith, same, own, lt)))
          ∙ ap (λ k. column w (take k es)) before ∙ others w lt,
    )

-- an entry of a lesser node before the end: no entry before it is of the column
pub none_before : (v : ℕ) (es : List Entry) (start end : ℕ) (d e : Entry) → AreLeft (v + 1) end es
    → start ≤ end → 0 < start → e ≡ get_or es (start - 1) d → e.second ≢ v → AreLeft v start es
none_before v es start end d e left le some is other = record {
  ordered = left.ordered;
  within = omega (arith, left.within, le);
  below = λ k x h.
      let up = left.ordered k (start - 1) x (omega (arith, h)) (omega (arith, left.within, le, some)) in
      let last = left.below (start - 1) x (omega (arith, le, some)) in
      let same = get_or_default es (start - 1) x d (omega (arith, left.within, le, some)) in
      omega (arith, up, last, other, ap (λ f. f.second) is, ap (λ f. f.second) same);
}

pub none_left : (v : ℕ) (es : List Entry) (start : ℕ) → AreLeft v start es
    → column v (take start es) ≡ []
none_left v es start left =
    let long = length-take-le start es left.within in
    column-none v (take start es) (λ k d h.
    let low : k < start = omega (arith, h, long) in
    let same = get_or-take start es k d low in
    omega (arith, left.below k d low, ap (λ f. f.second) same))

-- the weights that are left after a number of them
pub weight_left : (ps : List Entry) (i : ℕ) (e : Entry) → i < length ps → e ≡ get_or ps i no_entry
    → weight_total (drop i (map turned ps))
    ≡ unsigned_abs e.weight + weight_total (drop (i + 1) (map turned ps))
weight_left ps i e h is =
    let long = length-map ps turned in
    let there = get_or-map turned ps i no_entry no_entry h in
    sum_by-drop_more (λ e. unsigned_abs e.weight) (map turned ps) i no_entry (omega (arith, h, long))
    ∙ ap (λ k. k + weight_total (drop (i + 1) (map turned ps)))
    (ap (λ f. unsigned_abs f.weight) (there ∙ sym (ap turned is)))

-- ---- what is passed

pub length-handed : (ns : List ℕ) (passed more : List (List ℕ)) → AreHandedOn ns passed more
    → length more ≡ length passed
length-handed ns passed more h =
    by_last ns (λ none. ap length (h.none none))
    (λ rest q parts. ap length (h.last rest q parts) ∙ length-set passed q (get_or passed q [] ++ rest))

-- ---- models of the same entries

module _ (m r : Written) (same : IsMadeOf m.kind m.nodes m.entries r) where
  form-same : form_of r ≡ form_of m
  form-same = λ i. record {
    bits = same.nodes i;
    cost = λ y. Whole ((ap (λ kind. total_by (entry_energy kind y) r.entries) same.kind
        ∙ total_by-IsPermutation (entry_energy m.kind y) m.entries r.entries same.entries) i);
  }

  pub first_least-same : (y : List Bool) → IsFirstLeast (form_of r) y → IsFirstLeast (form_of m) y
  first_least-same y first = subst (λ f. IsFirstLeast f y) form-same first

  width-same : (v : ℕ) → width r v ≡ width m v
  width-same v =
      let near : coupled r.entries ≡ coupled m.entries
      = λ i u w. sym (list_any-IsPermutation (names_both u w) m.entries r.entries same.entries) i in
      λ i. count_by (λ u. after (same.nodes i) (near i) (same.nodes i - suc v) u v) (range_with_len 0 (same.nodes i))

  pub within_width-same : (most : ℕ) → IsWithinWidth most r → IsWithinWidth most m
  within_width-same most within v h =
      omega (arith, within v (omega (arith, h, same.nodes)), width-same v)

  pub first_wider-same : (most v w : ℕ) → IsFirstWider most r v w → IsFirstWider most m v w
  first_wider-same most v w f = record {
    node = omega (arith, f.node, same.nodes);
    has = sym (width-same v) ∙ f.has;
    wide = f.wide;
    first = λ u lt h. omega (arith, f.first u lt (omega (arith, h, same.nodes)), width-same u);
  }
