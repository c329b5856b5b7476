-- Steps of the layer's loops, over plain lists.
use Rattle.chain_layer.proofs.Common.{nat_tests, elements, ◌≡◌, ◌≢◌, ℕ, zero, suc, ◌+◌, ◌*◌, ◌<◌, ◌≤◌, ◌^◌, Bool, cond, ◌||◌, List, [], ◌∷◌, ◌++◌, map, length, take, drop, get_or, set, replicate, fold, ℤ, pos, ◌+ℤ◌, unsigned_abs, neg_ℤ, sym, ap, subst, ◌∙◌, arith, append_assoc, append-nil, map-id, sum_by, flat_map, ◌==◌, All, AllByRecursion, AllZip, list_any, range_with_len, int_div_euclid, int_rem_euclid, ints, cases_eq, drop_more, flat_map_more, get_or_past, get_or-set_same, get_or-set_other, length-set, length-map, length-replicate, get_or-replicate, fill_by_all, get_or-map-range_with_len, length-map-range_with_len, map-range_with_len_more, sum_by-cons, sum_by_push, sum_by-append, fold-append, if_so, total_by_push, Entry, weight_total, node_entries, IsCoupler, weights_within, Embedding, chain_of, nodes_of, field_of, strength, coupling_entry, field_at, equal_shares, shares, ties, couplings_at, recursion_from_All, All-from_recursion, IsNode, shares_size, weights_of_equal, added, AllZip-long, list_any-append, get_or-map}
use Rattle.std.proofs.Math.Seq.{take-append_seam}
use Rattle.chain_layer.proofs.Ordered.{ties_at}

-- ---- fields

pub length-added : (fields : List ℤ) (e : Entry) → length (added fields e) ≡ length fields
length-added fields e = length-set fields e.first _

-- the parts of a split field, as the code has them
pub record IsSplit (chain : List ℕ) (h share : ℤ) (front back : List ℕ) : Type 0 where
  pub quotient : share ≡ int_div_euclid h (pos (length chain))
  pub front_is : front ≡ take (unsigned_abs (int_rem_euclid h (pos (length chain)))) chain
  pub back_is : back ≡ drop (unsigned_abs (int_rem_euclid h (pos (length chain)))) chain

split_shares : (chain : List ℕ) (h share : ℤ) (front back : List ℕ) → IsSplit chain h share front back
    → shares chain h ≡ equal_shares front (share +ℤ pos 1) ++ equal_shares back share
split_shares chain h share front back split = grind (arith, nat_tests)

-- the shares have the size of the field
pub split_weights : (chain : List ℕ) (h share : ℤ) (front back : List ℕ) → (chain ≢ [])
    → IsSplit chain h share front back
    → length front * unsigned_abs (share +ℤ pos 1) + length back * unsigned_abs share ≡ unsigned_abs h
split_weights chain h share front back filled split =
    let weights = ap weight_total (split_shares chain h share front back split) in
    omega (arith, sum_by-append, weights_of_equal, shares_size)

pub share_small : (chain : List ℕ) (h share : ℤ) (front back : List ℕ) → (chain ≢ [])
    → IsSplit chain h share front back → unsigned_abs share ≤ unsigned_abs h
share_small chain h share front back filled split = grind (arith, nat_tests)

-- both parts, added one after the other
pub split_added : (fields : List ℤ) (chain : List ℕ) (h share : ℤ) (front back : List ℕ)
    → IsSplit chain h share front back
    → fold added (fold added fields (equal_shares front (share +ℤ pos 1))) (equal_shares back share)
    ≡ fold added fields (shares chain h)
split_added fields chain h share front back split =
    sym (fold-append added fields (equal_shares front (share +ℤ pos 1)) (equal_shares back share))
    ∙ ap (fold added fields) (sym (split_shares chain h share front back split))

field_at-push : (es : List Entry) (e : Entry) (q : ℕ)
    → field_at (es ++ e ∷ []) q ≡ field_at es q +ℤ if_so (q == e.first) e.weight
field_at-push es e q = total_by_push (λ f. if_so (q == f.first) f.weight) es e

-- one more entry, in a list of fields that are sums
added_more : (n : ℕ) (es : List Entry) (e : Entry) → e.first < n
    → added (map (field_at es) (range_with_len 0 n)) e ≡ map (field_at (es ++ e ∷ [])) (range_with_len 0 n)
added_more n es e within =
    let old = map (field_at es) (range_with_len 0 n) in
    let size : length old ≡ n = length-map-range_with_len (field_at es) 0 n in
    fill_by_all (field_at (es ++ e ∷ [])) (added old e) n (pos 0) (length-added old e ∙ size)
    (λ k l.
    let here = get_or-map-range_with_len (field_at es) 0 n k k (pos 0) l (omega arith) in
    let same = get_or-set_same old e.first (get_or old e.first (pos 0) +ℤ e.weight) (pos 0) in
    let other = get_or-set_other old e.first k (get_or old e.first (pos 0) +ℤ e.weight) (pos 0) in
    let push = field_at-push es e k in grind (arith, nat_tests, ints))

fold_added : (n : ℕ) (es ds : List Entry) → AllByRecursion (λ e. e.first < n) ds
    → fold added (map (field_at es) (range_with_len 0 n)) ds ≡ map (field_at (es ++ ds)) (range_with_len 0 n)
fold_added n es [] h = ap (λ fs. map (field_at fs) (range_with_len 0 n)) (sym (append-nil es))
fold_added n es (d ∷ ds) h =
    ap (λ fs. fold added fs ds) (added_more n es d h.0) ∙ fold_added n (es ++ d ∷ []) ds h.1
    ∙ ap (λ fs. map (field_at fs) (range_with_len 0 n)) (append_assoc es (d ∷ []) ds)

-- entries that are added to fields of 0 give the sums
pub fields_are_sums : (n : ℕ) (ds : List Entry) → AllByRecursion (λ e. e.first < n) ds
    → fold added (replicate n (pos 0)) ds ≡ map (field_at ds) (range_with_len 0 n)
fields_are_sums n ds h =
    ap (λ fs. fold added fs ds)
    (fill_by_all (field_at []) (replicate n (pos 0)) n (pos 0) (length-replicate n (pos 0)) (λ k l. get_or-replicate n k (pos 0) (pos 0) l))
    ∙ fold_added n [] ds h

-- ---- strengths

-- both nodes of a coupling, raised by its size
pub raised_both : (xs : List ℕ) (a b m i : ℕ) → a < length xs → b < length xs → a < b → i < length xs
    → get_or (set (set xs a (get_or xs a 0 + m)) b (get_or (set xs a (get_or xs a 0 + m)) b 0 + m)) i 0
    ≡ get_or xs i 0 + cond ((i == a) || (i == b)) m 0
raised_both xs a b m i a_in b_in less i_in = grind (arith, nat_tests, elements)

-- ---- couplings

-- one more tie
pub ties_of_more : (made whole : List Entry) (strong : ℕ → ℕ) (chain ps : List ℕ) (i n : ℕ)
    → i + 1 < length chain → i < length ps → n ≡ strong (get_or chain (i + 1) 0)
    → made ++ ties strong (drop (i + 1) chain) (drop i ps) ≡ whole
    → (made ++ coupling_entry (get_or chain (i + 1) 0) (get_or ps i 0) (neg_ℤ (pos n)) ∷ [])
    ++ ties strong (drop (i + 1 + 1) chain) (drop (i + 1) ps) ≡ whole
ties_of_more made whole strong chain ps i n q_in p_in is h =
    append_assoc made _ _ ∙ ap (λ m. made
    ++ coupling_entry (get_or chain (i + 1) 0) (get_or ps i 0) (neg_ℤ (pos m))
    ∷ ties strong (drop (i + 1 + 1) chain) (drop (i + 1) ps)) is ∙ sym ((λ k. made
    ++ ties strong (drop_more chain (i + 1) 0 q_in k) (drop_more ps i 0 p_in k))) ∙ h

-- the numbers up to one more
pub range_more : (n : ℕ) → range_with_len 0 (n + 1) ≡ range_with_len 0 n ++ n ∷ []
range_more n =
    sym (map-id (range_with_len 0 (n + 1))) ∙ map-range_with_len_more (λ i. i) 0 n n (omega arith)
    ∙ ap (λ l. l ++ n ∷ []) (map-id (range_with_len 0 n))

pub flat_range : (f : ℕ → List Entry) (n : ℕ)
    → flat_map f (range_with_len 0 (n + 1)) ≡ flat_map f (range_with_len 0 n) ++ f n
flat_range f n = ap (flat_map f) (range_more n) ∙ sym (flat_map_more f [] (range_with_len 0 n) n)

pub sum_range : (f : ℕ → ℕ) (n : ℕ)
    → sum_by f (range_with_len 0 (n + 1)) ≡ sum_by f (range_with_len 0 n) + f n
sum_range f n = ap (sum_by f) (range_more n) ∙ sum_by_push f (range_with_len 0 n) n

-- a sum over fewer numbers is less
pub sum_within : (f : ℕ → ℕ) (k n : ℕ) → k ≤ n
    → sum_by f (range_with_len 0 k) ≤ sum_by f (range_with_len 0 n)
sum_within f k zero h =
    let same : k ≡ 0 = omega arith in omega (arith, ap (λ m. sum_by f (range_with_len 0 m)) same)
sum_within f k (suc n) h =
    let up : suc n ≡ n + 1 = omega arith in
    let rest = sum_within f k n in
    let more = sum_range f n in
    let cases = cases_eq k (suc n) in grind (arith, nat_tests)

-- ---- node by node

abbrev pub shares_at : Embedding → ℕ → List Entry
shares_at e i = shares (chain_of e.chains i) (field_of e i)

pub fields_more : (e : Embedding) (zeros fields next : List ℤ) (i : ℕ)
    → fields ≡ fold added zeros (flat_map (shares_at e) (range_with_len 0 i))
    → next ≡ fold added fields (shares_at e i)
    → next ≡ fold added zeros (flat_map (shares_at e) (range_with_len 0 (i + 1)))
fields_more e zeros fields next i so_far step =
    step ∙ ap (λ fs. fold added fs (shares_at e i)) so_far
    ∙ sym (fold-append added zeros (flat_map (shares_at e) (range_with_len 0 i)) (shares_at e i))
    ∙ ap (fold added zeros) (sym (flat_range (shares_at e) i))

pub ties_more_nodes : (e : Embedding) (before made next : List Entry) (i : ℕ)
    → made ≡ before ++ flat_map (ties_at e) (range_with_len 0 i) → next ≡ made ++ ties_at e i
    → next ≡ before ++ flat_map (ties_at e) (range_with_len 0 (i + 1))
ties_more_nodes e before made next i so_far step =
    step ∙ ap (λ es. es ++ ties_at e i) so_far
    ∙ append_assoc before (flat_map (ties_at e) (range_with_len 0 i)) (ties_at e i)
    ∙ ap (λ es. before ++ es) (sym (flat_range (ties_at e) i))

-- what a list of all strengths has
pub strength_at : (e : Embedding) (xs : List ℕ) (i : ℕ) → xs ≡ map (strength e) (nodes_of e)
    → i < length xs → (i < length e.ising.fields) × (get_or xs i 0 ≡ strength e i)
strength_at e xs i same within =
    let size : length xs ≡ length e.ising.fields =
    ap length same ∙ length-map-range_with_len (strength e) 0 (length e.ising.fields) in
    let below : i < length e.ising.fields = omega (arith, within, size) in
    let get = get_or-map-range_with_len (strength e) 0 (length e.ising.fields) i i 0 below in
    grind (arith, nat_tests)

pub at_map : (f : ℤ → ℕ) (hs : List ℤ) (i : ℕ) → i < length hs
    → get_or (map f hs) i 0 ≡ f (get_or hs i (pos 0))
at_map f hs i h = get_or-map f hs i (pos 0) 0 h

pub first_strength : (hs : List ℤ) (xs : List ℕ) (i : ℕ) → xs ≡ map (λ h. unsigned_abs h + 1) hs
    → get_or xs i 0 ≤ weight_total (node_entries 0 hs) + 1
first_strength hs xs i same =
    let past = get_or_past (map (λ h. unsigned_abs h + 1) hs) i 0 in
    let long = length-map hs (λ (h : ℤ). unsigned_abs h + 1) in
    let here = at_map (λ h. unsigned_abs h + 1) hs i in
    let within = weights_within hs i (pos 0) in rw same (grind arith)

-- a list after its items were changed as those of a slice
pub changed : {X : Type 0} (xs ys : List X) (n : ℕ) → length xs ≡ n → length ys ≡ n
    → take n (ys ++ drop (length ys) xs) ≡ ys
changed xs ys n size same =
    ap (λ k. take k (ys ++ drop (length ys) xs)) (sym same) ∙ take-append_seam ys (drop (length ys) xs)

pub all_strengths : (e : Embedding) (xs ys : List ℕ) (cs : List Entry)
    → xs ≡ map (λ h. unsigned_abs h + 1) e.ising.fields → cs ≡ e.ising.couplings
    → length ys ≡ length xs
    → ((i : ℕ) → i < length xs → get_or ys i 0 ≡ get_or xs i 0 + couplings_at i cs)
    → ys ≡ map (strength e) (nodes_of e)
all_strengths e xs ys cs same listed size sums =
    let hs = e.ising.fields in
    let wide : length xs ≡ length hs = ap length same ∙ length-map hs (λ (h : ℤ). unsigned_abs h + 1) in
    fill_by_all (strength e) ys (length hs) 0 (size ∙ wide) (λ k l.
    omega (arith, ap (λ s. get_or s k 0) same, at_map, ap (couplings_at k) listed))

-- ---- strengths by steps

-- both ends of a coupling are raised
pub ends_raised : (xs ys zs : List ℕ) (e : Entry) (m : ℕ) → IsCoupler (length xs) e → m ≡ unsigned_abs e.weight
    → ys ≡ set xs e.first (get_or xs e.first 0 + m) → zs ≡ set ys e.second (get_or ys e.second 0 + m)
    → (i : ℕ) → i < length xs → get_or zs i 0 ≡ get_or xs i 0 + couplings_at i (e ∷ [])
ends_raised xs ys zs e m coupler size once twice i below =
    let up = coupler.upward in
    let second_in = coupler.within in
    let first_in : e.first < length xs = omega (arith, up, second_in) in
    let one = set xs e.first (get_or xs e.first 0 + m) in
    let both : zs ≡ set one e.second (get_or one e.second 0 + m) =
    twice ∙ ap (λ l. set l e.second (get_or l e.second 0 + m)) once in
    let here = raised_both xs e.first e.second m i first_in second_in up below in
    rw both (simp sum_by-cons (grind (arith, nat_tests)))

-- with the sizes of the couplings that are left, the strengths are what all couplings lead to
pub record AreLeft (old xs : List ℕ) (all left : List Entry) : Type 0 where
  pub same_length : length xs ≡ length old
  pub within : All (IsCoupler (length old)) left
  pub small : (i : ℕ) → i < length old → get_or xs i 0 + weight_total left < 2 ^ 127
  pub sums : (i : ℕ) → i < length old
      → get_or xs i 0 + couplings_at i left ≡ get_or old i 0 + couplings_at i all

couplings-cons : (i : ℕ) (e : Entry) (es : List Entry)
    → couplings_at i (e ∷ es) ≡ couplings_at i (e ∷ []) + couplings_at i es
couplings-cons i e es = simp sum_by-cons (grind arith)

couplings-le : (i : ℕ) (e : Entry) → couplings_at i (e ∷ []) ≤ unsigned_abs e.weight
couplings-le i e = simp sum_by-cons (grind (arith, nat_tests))

-- the next one has its ends, and room for its size there
pub left_next : (old xs : List ℕ) (all left : List Entry) (e : Entry) (es : List Entry) → left ≡ e ∷ es
    → AreLeft old xs all left
    → IsCoupler (length xs) e × ((i : ℕ) → i < length xs → get_or xs i 0 + unsigned_abs e.weight < 2 ^ 127)
left_next old xs all left e es is so_far =
    let n = length old in
    let couplers = recursion_from_All (IsCoupler n) (e ∷ es) (subst (All (IsCoupler n)) is so_far.within) in (
      subst (λ m. IsCoupler m e) (sym so_far.same_length) couplers.0,
      λ i l. omega (arith, so_far.small i (omega (arith, l, so_far.same_length)), ap weight_total is, sum_by-cons),
    )

pub left_more : (old xs zs : List ℕ) (all left : List Entry) (e : Entry) (es : List Entry)
    → left ≡ e ∷ es → AreLeft old xs all left → length zs ≡ length xs
    → ((i : ℕ) → i < length xs → get_or zs i 0 ≡ get_or xs i 0 + couplings_at i (e ∷ []))
    → AreLeft old zs all es
left_more old xs zs all left e es is so_far same raised =
    let n = length old in
    let couplers : AllByRecursion (IsCoupler n) (e ∷ es) =
    recursion_from_All (IsCoupler n) (e ∷ es) (subst (All (IsCoupler n)) is so_far.within) in
    record {
      same_length = same ∙ so_far.same_length;
      within = All-from_recursion (IsCoupler n) es couplers.1;
      small = λ i l. omega (
        arith,
        raised i (omega (arith, l, so_far.same_length)),
        so_far.small i l,
        ap weight_total is,
        sum_by-cons,
        couplings-le i e,
      );
      sums = λ i l. omega (
        arith,
        raised i (omega (arith, l, so_far.same_length)),
        so_far.sums i l,
        ap (couplings_at i) is,
        couplings-cons i e es,
      );
    }

-- a chain has one qubit more than parents
pub filled_lengths : (e : Embedding) (i : ℕ) → IsNode e i
    → length (chain_of e.chains i) ≡ length (chain_of e.parents i) + 1
filled_lengths e i node = grind (arith, nat_tests, elements)

pub zip_lengths : {A B : Type 0} (R : A → B → Type 0) (xs : List A) (ys : List B) → AllZip R xs ys
    → length xs ≡ length ys
zip_lengths R xs ys all = sym (AllZip-long R xs ys all)

-- ---- states by steps

any_push : (p : ℕ → Bool) (is : List ℕ) (i : ℕ) → list_any p (is ++ i ∷ []) ≡ (list_any p is || p i)
any_push p is i = let both = list_any-append p is (i ∷ []) in grind (arith, nat_tests)

-- one more node
pub any_range : (p : ℕ → Bool) (n : ℕ)
    → list_any p (range_with_len 0 (n + 1)) ≡ (list_any p (range_with_len 0 n) || p n)
any_range p n = ap (list_any p) (range_more n) ∙ any_push p (range_with_len 0 n) n
