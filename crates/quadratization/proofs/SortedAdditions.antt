-- Additions with their keys, in the order of their sets, and the numbers of new nodes.
use Rattle.quadratization.proofs.Common.{length-map, get_or-map, nat_tests, ◌≡◌, ◌≢◌, ℕ, ◌+◌, ◌<◌, ◌≤◌, ◌^◌, arith, sym, ap, ◌∙◌, subst, List, [], ◌∷◌, ◌++◌, map, length, get_or, take, drop, ℤ, pos, ◌+ℤ◌, Some, slice_get, All, sum_by, ordering_then, take_more, take-map, map_push, drop_more, sum_by_push, sum_by-cons, sum_by-take-le, All-push, All-map, slice_get_within, get_or_from_slice_get, Literal, Product, literal_cmp, ints, Term, set_cmp, AreAdditions, same_set, All-with_additions, table_of, new_nodes, Keyed, KeyLength, product_term, terms_of, node_count, first_nodes, key_for, addition_at, additions_at, sums_with, AreLong, unsigned_abs, drop_all, terms_total, append_assoc, set_at, summed_term, IsNextSum, Option, ◌*◌, AllByRecursion, IsSortedBy, All-get_or, recursion_from_All, nat_cmp, ordering_reverse, is_lt, Ordering, IsTotalOrder, IsTermSet, is_below, set_total, IsCoded, code_of, triple_key, IsTable-table_of}
use Rattle.std.specs.declared.cmp.Ordering.TheVariants.{Equal}
use Rattle.quadratization.specs.declared.additions.KeyLength.TheVariants.{Three, Two, Zero}

-- ---- numbers

first_nodes_push : (n : ℕ) (ts : List Term) (t : Term)
    → first_nodes n (ts ++ t ∷ []) ≡ first_nodes n ts ++ (n + sum_by new_nodes ts) ∷ []
first_nodes_push n [] t = let z : n ≡ n + 0 = omega arith in ap (λ m. m ∷ []) z
first_nodes_push n (u ∷ us) t =
    grind (arith, nat_tests, sum_by-cons new_nodes u us, first_nodes_push (n + new_nodes u) us t)

take_product : (ps : List Product) (i : ℕ) (p : Product) → slice_get ps i ≡ Some p
    → map product_term (take (i + 1) ps) ≡ map product_term (take i ps) ++ product_term p ∷ []
take_product ps i p at =
    ap (map product_term) (take_more ps i p (slice_get_within ps i p at) ∙ ap (λ q. take i ps ++ q ∷ []) (get_or_from_slice_get ps i p p at))
    ∙ map_push product_term (take i ps) p

pub numbers_more : (w i : ℕ) (ps : List Product) (p : Product) (firsts new : List ℕ) (next : ℕ)
    → slice_get ps i ≡ Some p → firsts ≡ first_nodes w (map product_term (take i ps))
    → next ≡ node_count (terms_of w (take i ps)) → new ≡ firsts ++ next ∷ []
    → new ≡ first_nodes w (map product_term (take (i + 1) ps))
numbers_more w i ps p firsts new next at so_far is pushed =
    pushed ∙ (λ k. so_far k ++ is k ∷ [])
    ∙ sym (first_nodes_push w (map product_term (take i ps)) (product_term p))
    ∙ ap (first_nodes w) (sym (take_product ps i p at))

pub count_more : (w i : ℕ) (ps : List Product) (p : Product) → slice_get ps i ≡ Some p
    → node_count (terms_of w (take (i + 1) ps))
    ≡ node_count (terms_of w (take i ps)) + new_nodes (product_term p)
count_more w i ps p at = omega (arith, ap (sum_by new_nodes) (take_product ps i p at), sum_by_push)

pub count_within : (w i : ℕ) (ps : List Product)
    → node_count (terms_of w (take i ps)) ≤ node_count (terms_of w ps)
count_within w i ps =
    omega (arith, ap (sum_by new_nodes) (take-map product_term i ps), sum_by-take-le new_nodes (map product_term ps) i)

-- ---- keys, one after another

pub keyed_more : (n : KeyLength) (additions : List Product) (i key : ℕ) (p : Product)
    (order new : List Keyed) → slice_get additions i ≡ Some p → key ≡ key_for n p.literals
    → new ≡ order ++ record { key = key; index = i } ∷ []
    → All (λ k. k.index < length additions) order
    → All (λ k. k.key ≡ key_for n (addition_at additions k.index).0) order
    → additions_at additions order ≡ map product_term (take i additions)
    → All (λ k. k.index < length additions) new
    × All (λ k. k.key ≡ key_for n (addition_at additions k.index).0) new
    × (additions_at additions new ≡ map product_term (take (i + 1) additions))
keyed_more n additions i key p order new at is pushed within keys whole =
    let d : Product = record { literals = []; coefficient = pos 0 } in
    let k : Keyed = record { key = key; index = i } in
    let same : get_or additions i d ≡ p = get_or_from_slice_get additions i p d at in
    let W : Keyed → Type 0 = λ k. k.index < length additions in
    let K : Keyed → Type 0 = λ k. k.key ≡ key_for n (addition_at additions k.index).0 in
    let own : K k = is ∙ ap (λ (q : Product). key_for n q.literals) (sym same) in (
      subst (All W) (sym pushed) (All-push W order k within (slice_get_within additions i p at)),
      subst (All K) (sym pushed) (All-push K order k keys own),
      ap (additions_at additions) pushed
          ∙ map_push (λ (m : Keyed). addition_at additions m.index) order k
          ∙ (λ j. whole j ++ product_term (same j) ∷ []) ∙ sym (take_product additions i p at),
    )

-- ---- lists of products as lists of terms

pub long_of : (ps : List Product) → All (λ (u : Term). 3 ≤ length u.0) (map product_term ps)
    → All (λ (p : Product). 3 ≤ length p.literals) ps
long_of ps all =
    λ k d in'.
    let moved = get_or-map product_term ps k d (product_term d) in' in
    rw moved at (all k (product_term d) (omega (arith, in', length-map ps product_term)))

-- the table of long additions has long terms
pub AreLong-table : (w : ℕ) (ps : List Product) → AreAdditions (terms_of w ps)
    → All (λ (p : Product). 3 ≤ length p.literals) ps
    → node_count (table_of (terms_of w ps)) < 2 ^ 32 → AreLong (table_of (terms_of w ps))
AreLong-table w ps additions long narrow =
    let t = terms_of w ps in
    let table = IsTable-table_of t additions in
    let all = All-map (λ (u : Term). 3 ≤ length u.0) product_term ps long in
    record {
      terms = table.terms;
      long = All-with_additions (λ ls. 3 ≤ length ls) t.terms all;
      narrow = narrow;
      small = table.small;
    }

-- ---- sums of neighbours

pub same_step : (c : ℤ) (t u : Term) (us : List Term) → set_cmp t.0 u.0 ≡ Equal
    → sums_with c (t ∷ u ∷ us) ≡ sums_with (c +ℤ t.1) (u ∷ us)
same_step c t u us e = grind (arith, nat_tests, ints, same_set t.0 u.0 e)

-- the first of the terms is of another set
abbrev pub IsOther : Term → List Term → Type 0
IsOther t [] = Unit {0}
IsOther t (u ∷ us) = set_cmp t.0 u.0 ≢ Equal

-- the set of the first term ends there: a sum of 0 is left out
pub sum_none : (c : ℤ) (t : Term) (us : List Term) → IsOther t us → c +ℤ t.1 ≡ pos 0
    → sums_with c (t ∷ us) ≡ sums_with (pos 0) us
sum_none c t us other none = grind (arith, nat_tests, ints)

-- another sum comes next
pub sum_some : (c : ℤ) (t : Term) (us : List Term) → IsOther t us → c +ℤ t.1 ≢ pos 0
    → sums_with c (t ∷ us) ≡ (t.0, c +ℤ t.1) ∷ sums_with (pos 0) us
sum_some c t us other some = grind (arith, nat_tests, ints)

pub next_addition : (ps : List Product) (order : List Keyed) (i : ℕ) (d : Keyed) → i < length order
    → additions_at ps (drop i order)
    ≡ addition_at ps (get_or order i d).index ∷ additions_at ps (drop (i + 1) order)
next_addition ps order i d in' = ap (additions_at ps) (drop_more order i d in')

-- Sums of neighbours of one set, one addition more.

-- the index of the addition at a place of an order
abbrev pub index_at : List Keyed → ℕ → ℕ
index_at order i = (get_or order i (record { key = 0; index = 0 })).index

-- its term
abbrev pub term_at : List Product → List Keyed → ℕ → Term
term_at ps order i = addition_at ps (index_at order i)

-- the terms from a place on
abbrev pub left : List Product → List Keyed → ℕ → List Term
left ps order i = additions_at ps (drop i order)

-- the addition that is read has its coefficient
pub read_coefficient : (ps : List Product) (order : List Keyed) (i : ℕ) (p q : Product)
    → slice_get ps (index_at order i) ≡ Some q → p ≡ q → p.coefficient ≡ (term_at ps order i).1
read_coefficient ps order i p q at same = grind (arith, nat_tests, get_or_from_slice_get)

module _ (ps : List Product) (order : List Keyed) (i : ℕ) (in' : i < length order) where
  -- the place comes first of what is left
  pub left_more : left ps order i ≡ term_at ps order i ∷ left ps order (i + 1)
  left_more = next_addition ps order i (record { key = 0; index = 0 }) in'

  -- sums stay small
  pub small_more : (sum : ℤ) → unsigned_abs sum + terms_total (left ps order i) ≤ 2 ^ 124
      → unsigned_abs (sum +ℤ (term_at ps order i).1) + terms_total (left ps order (i + 1)) ≤ 2 ^ 124
  small_more sum small =
      let size : Term → ℕ = λ u. unsigned_abs u.1 in
      omega (arith, ints, small, ap terms_total left_more, sum_by-cons size (term_at ps order i) (left ps order (i + 1)))

  -- the next one is of the same set: the sum waits
  pub wait : (sum : ℤ) → i + 1 < length order
      → set_cmp (term_at ps order i).0 (term_at ps order (i + 1)).0 ≡ Equal
      → sums_with sum (left ps order i)
      ≡ sums_with (sum +ℤ (term_at ps order i).1) (left ps order (i + 1))
  wait sum next equal =
      let t = term_at ps order i in
      let after = next_addition ps order (i + 1) (record { key = 0; index = 0 }) next in
      ap (sums_with sum) (left_more ∙ ap (λ ts. t ∷ ts) after)
      ∙ same_step sum t (term_at ps order (i + 1)) (left ps order (i + 1 + 1)) equal
      ∙ ap (sums_with (sum +ℤ t.1)) (sym after)

  -- the next one is of another set
  pub other_next : i + 1 < length order
      → set_cmp (term_at ps order i).0 (term_at ps order (i + 1)).0 ≢ Equal
      → IsOther (term_at ps order i) (left ps order (i + 1))
  other_next next apart = grind (arith, nat_tests, next_addition)

  -- there is no next one
  pub other_end : length order ≤ i + 1 → IsOther (term_at ps order i) (left ps order (i + 1))
  other_end past = grind (arith, nat_tests, drop_all)

  -- the set ends with a sum of 0
  pub end_none : (sum : ℤ) → IsOther (term_at ps order i) (left ps order (i + 1))
      → sum +ℤ (term_at ps order i).1 ≡ pos 0
      → sums_with sum (left ps order i) ≡ sums_with (pos 0) (left ps order (i + 1))
  end_none sum other none = grind (arith, nat_tests, ints, left_more, sum_none)

  -- it ends with another sum
  pub end_some : (sum : ℤ) → IsOther (term_at ps order i) (left ps order (i + 1))
      → sum +ℤ (term_at ps order i).1 ≢ pos 0 → sums_with sum (left ps order i)
      ≡ ((term_at ps order i).0, sum +ℤ (term_at ps order i).1)
      ∷ sums_with (pos 0) (left ps order (i + 1))
  end_some sum other some = grind (arith, nat_tests, ints, left_more, sum_some)

-- what a step gives is appended: what is left makes the sums those of all again
pub given_next : (ps : List Product) (order : List Keyed) (i : ℕ) (s n z : ℤ) (o : Option ℤ)
    (front made all : List Term) → IsNextSum ps order i s n o
    → made ≡ front ++ summed_term (set_at ps order i) o → z ≡ n
    → front ++ sums_with s (left ps order i) ≡ all → made ++ sums_with z (left ps order (i + 1)) ≡ all
given_next ps order i s n z o front made all is pushed same before =
    (λ k. pushed k ++ sums_with (same k) (left ps order (i + 1)))
    ∙ append_assoc front (summed_term (set_at ps order i) o) _ ∙ ap (λ ts. front ++ ts) (sym is) ∙ before

-- The key of a set's first literals goes with the order of sets.

-- literals are in the order of their codes
code_cmp : (l k : Literal) → literal_cmp l k ≡ nat_cmp (code_of l) (code_of k)
code_cmp l k = grind (arith, nat_tests)

-- numbers of two digits are in the order of the higher ones, and then of the lower ones
digits_cmp : (a b c d : ℕ) → b < 2 ^ 21 → d < 2 ^ 21
    → nat_cmp (a * 2 ^ 21 + b) (c * 2 ^ 21 + d) ≡ ordering_then (nat_cmp a c) (nat_cmp b d)
digits_cmp a b c d low low' = grind (arith, nat_tests)

-- what three comparisons say goes before what follows them
three_then : (a b c d : Ordering)
    → ordering_then (ordering_then (ordering_then a b) c) (ordering_then a (ordering_then b (ordering_then c d)))
    ≡ ordering_then a (ordering_then b (ordering_then c d))
three_then a b c d = grind (arith, nat_tests)

triple_agrees : (l k m l' k' m' : Literal) (ls ks : List Literal)
    → k.variable < 2 ^ 20 → m.variable < 2 ^ 20 → k'.variable < 2 ^ 20 → m'.variable < 2 ^ 20
    → ordering_then (nat_cmp (triple_key (l ∷ k ∷ m ∷ ls)) (triple_key (l' ∷ k' ∷ m' ∷ ks)))
    (set_cmp (l ∷ k ∷ m ∷ ls) (l' ∷ k' ∷ m' ∷ ks)) ≡ set_cmp (l ∷ k ∷ m ∷ ls) (l' ∷ k' ∷ m' ∷ ks)
triple_agrees l k m l' k' m' ls ks lk lm lk' lm' =
    let low : (n : Literal) → n.variable < 2 ^ 20 → code_of n < 2 ^ 21 = λ n h. grind (arith, nat_tests) in
    let front = digits_cmp (code_of l) (code_of k) (code_of l') (code_of k') (low k lk) (low k' lk') in
    let whole = digits_cmp (code_of l * 2 ^ 21 + code_of k) (code_of m) (code_of l' * 2 ^ 21 + code_of k') (code_of m') (low m lm) (low m' lm') in
    let keys = whole ∙ (λ i. ordering_then ((front ∙ (λ j. ordering_then (sym (code_cmp l l') j) (sym (code_cmp k k') j))) i) (sym (code_cmp m m') i)) in
    ap (λ o. ordering_then o (set_cmp (l ∷ k ∷ m ∷ ls) (l' ∷ k' ∷ m' ∷ ks))) keys
    ∙ three_then (literal_cmp l l') (literal_cmp k k') (literal_cmp m m') (set_cmp ls ks)

-- the order by keys, and then by sets, is that of sets
pub key_agrees : (n : KeyLength) (ls ks : List Literal) → 3 ≤ length ls → 3 ≤ length ks
    → AllByRecursion (λ l. IsCoded n l.variable) ls → AllByRecursion (λ l. IsCoded n l.variable) ks
    → ordering_then (nat_cmp (key_for n ls) (key_for n ks)) (set_cmp ls ks) ≡ set_cmp ls ks
key_agrees Three (l ∷ k ∷ m ∷ ls) (l' ∷ k' ∷ m' ∷ ks) long long' low low' =
    triple_agrees l k m l' k' m' ls ks low.1.0 low.1.1.0 low'.1.0 low'.1.1.0
key_agrees Three ls ks long long' low low' = grind (arith, nat_tests)
key_agrees Two ls ks long long' low low' = grind (arith, nat_tests)
key_agrees Zero ls ks long long' low low' = grind (arith, nat_tests)

-- the order by keys, and then by sets, is total
abbrev pub keyed_cmp : List Product → Keyed → Keyed → Ordering
keyed_cmp additions a b =
    ordering_then (nat_cmp a.key b.key)
    (set_cmp (addition_at additions a.index).0 (addition_at additions b.index).0)

pub keyed_total : (additions : List Product) → IsTotalOrder (keyed_cmp additions)
keyed_total additions = grind (arith, nat_tests, set_total)

pub none_first : (ls : List Literal) → ordering_reverse (set_cmp ls []) ≡ set_cmp [] ls
none_first ls = grind (arith, nat_tests)

-- ---- additions in the order of their keys

-- an addition of three literals or more, which have codes for keys
pub record IsAddition (n : KeyLength) (p : Product) : Type 0 where
  pub long : 3 ≤ length p.literals
  pub low : AllByRecursion (λ l. IsCoded n l.variable) p.literals

pub sets_sorted : (n : KeyLength) (ps : List Product) (order : List Keyed)
    → All (IsAddition n) ps → All (λ k. k.index < length ps) order
    → All (λ k. k.key ≡ key_for n (addition_at ps k.index).0) order
    → IsSortedBy (λ a b. is_lt (keyed_cmp ps a b)) order → IsSortedBy is_below (additions_at ps order)
sets_sorted n ps order each within keys sorted =
    λ k d lo in'.
    let e : Keyed = record { key = 0; index = 0 } in
    let f : Keyed → Term = λ m. addition_at ps m.index in
    let a = get_or order (k + 1) e in
    let b = get_or order k e in
    let in1 : k + 1 < length order = omega (arith, in', length-map order f) in
    let in0 : k < length order = omega (arith, in1) in
    let W : Keyed → Type 0 = λ m. m.index < length ps in
    let K : Keyed → Type 0 = λ m. m.key ≡ key_for n (addition_at ps m.index).0 in
    let p : Product = record { literals = []; coefficient = pos 0 } in
    let fa = All-get_or (IsAddition n) ps a.index p (All-get_or W order (k + 1) e in1 within) each in
    let fb = All-get_or (IsAddition n) ps b.index p (All-get_or W order k e in0 within) each in
    let agree = key_agrees n (f a).0 (f b).0 (omega (arith, fa.long)) (omega (arith, fb.long)) fa.low fb.low in
    let made : keyed_cmp ps a b ≡ set_cmp (f a).0 (f b).0 =
    (λ i. ordering_then (nat_cmp (All-get_or K order (k + 1) e in1 keys i) (All-get_or K order k e in0 keys i)) (set_cmp (f a).0 (f b).0)) ∙ agree in
    (λ i. is_lt (set_cmp (get_or-map f order (k + 1) e d in1 i).0 (get_or-map f order k e d in0 i).0))
    ∙ ap is_lt (sym made) ∙ sorted k e lo in1

-- products of literal sets are such additions
pub are_additions : (n : KeyLength) (w : ℕ) (ps : List Product)
    → All (λ (u : Term). IsTermSet w u.0) (map product_term ps)
    → All (λ (p : Product). 3 ≤ length p.literals) ps → ((v : ℕ) → v < w → IsCoded n v)
    → All (IsAddition n) ps
are_additions n w ps sets long low =
    λ k d in'.
    let p = get_or ps k d in
    let moved = get_or-map product_term ps k d (product_term d) in' in
    let set : IsTermSet w p.literals = rw moved at (sets k (product_term d) (omega (arith, in', length-map ps product_term))) in
    record {
      long = long k d in';
      low = recursion_from_All (λ (l : Literal). IsCoded n l.variable) p.literals (λ j e j_in. low _ (set.set.within j e j_in));
    }
