-- Forms that are gathered by adding to them.
use Rattle.posiform_check.proofs.Common.{nat_tests, ◌≡◌, ℕ, zero, suc, ◌+◌, ◌<◌, ◌≤◌, Bool, true, take, List, [], ◌∷◌, ◌++◌, map, length, ℤ, pos, ◌+ℤ◌, refl, sym, ap, arith, slice_set, get_or, replicate, int_eq, is_eq, list_all, take_more, take_all, IsPermutation, ints, if_so, if_so-plus, Decides-int_eq, total_by-append, total_by-map, total_by-IsPermutation, Literal, Term, set_cmp, coefficient_of, node_set, pair_set, AreSameForms, HasMore, HasNone, node_terms, pair_term, sum_term, sums_terms, ◌∙◌, neg_ℤ, to_z, of_z, map-append, w128}
use Rattle.std.proofs.lemmas.Bool.{and_parts}
use Rattle.posiform_check.specs.declared.set_sums.PairSum.{PairSum}
use Rattle.posiform_check.specs.declared.set_sums.PairTerm.{PairTerm}

-- what a term gives a set
abbrev pub given : List Literal → Term → ℤ
given set t = if_so (is_eq (set_cmp set t.0)) t.1

pub coefficients-append : (set : List Literal) (ts us : List Term)
    → coefficient_of set (ts ++ us) ≡ coefficient_of set ts +ℤ coefficient_of set us
coefficients-append set ts us = total_by-append (given set) ts us

pub nothing-given : (b : Bool) → if_so b (pos 0) ≡ pos 0
nothing-given b = grind (arith, nat_tests)

-- the opposite of a number, as both are kept
pub kept_opposite : (k z : ℤ) → to_z w128 (of_z w128 k) ≡ k → to_z w128 (of_z w128 z) ≡ z
    → z ≡ neg_ℤ (to_z w128 (of_z w128 k)) → to_z w128 (of_z w128 z) ≡ neg_ℤ k
kept_opposite k z own whole is = whole ∙ is ∙ ap neg_ℤ own

-- ---- nodes

more_here : (x a c d r : ℤ) → x ≡ a +ℤ c → d ≡ c → x +ℤ r ≡ (a +ℤ r) +ℤ d
more_here x a c d r e f = omega (arith, ints, e, f)

more_later : (g x y d e : ℤ) → x ≡ y +ℤ d → e ≡ d → g +ℤ x ≡ (g +ℤ y) +ℤ e
more_later g x y d e h f = omega (arith, ints, h, f)

pub node_more : (set : List Literal) (n i : ℕ) (ws : List ℤ) (c new : ℤ) → i < length ws
    → new ≡ get_or ws i (pos 0) +ℤ c → coefficient_of set (node_terms n (slice_set ws i new))
    ≡ coefficient_of set (node_terms n ws) +ℤ given set (node_set (n + i), c)
node_more set n i [] c new h e = absurd (omega (arith, h))
node_more set n zero (w ∷ ws) c new h e =
    let same : n + 0 ≡ n = omega arith in
    let own = ap (λ v. given set (node_set n, v)) e ∙ if_so-plus (is_eq (set_cmp set (node_set n))) w c in
    more_here _ _ _ _ _ own (ap (λ k. given set (node_set k, c)) same)
node_more set n (suc i) (w ∷ ws) c new h e =
    let next : n + suc i ≡ suc n + i = omega arith in
    more_later _ _ _ _ _ (node_more set (suc n) i ws c new (omega (arith, h)) e) (ap (λ k. given set (node_set k, c)) next)

zeros-replicate : (set : List Literal) (n count : ℕ)
    → coefficient_of set (node_terms n (replicate count (pos 0))) ≡ pos 0
zeros-replicate set n zero = refl
zeros-replicate set n (suc count) =
    omega (arith, ints, nothing-given (is_eq (set_cmp set (node_set n))), zeros-replicate set (suc n) count)

zeros : (set : List Literal) (n : ℕ) (ws : List ℤ)
    → list_all (λ w. int_eq w (pos 0)) ws ≡ true → coefficient_of set (node_terms n ws) ≡ pos 0
zeros set n [] h = refl
zeros set n (w ∷ ws) h =
    let both = and_parts (int_eq w (pos 0)) (list_all (λ v. int_eq v (pos 0)) ws) h in
    let own = ap (λ v. given set (node_set n, v)) ((Decides-int_eq w (pos 0)).0 both.0) in
    omega (arith, ints, own, nothing-given (is_eq (set_cmp set (node_set n))), zeros set (suc n) ws both.1)

-- ---- pairs

pairs-append : (set : List Literal) (xs ys : List PairTerm)
    → coefficient_of set (map pair_term (xs ++ ys))
    ≡ coefficient_of set (map pair_term xs) +ℤ coefficient_of set (map pair_term ys)
pairs-append set xs ys = rw map-append (coefficients-append set (map pair_term xs) (map pair_term ys))

-- one listed term more comes to the next sum
pub pairs-step : (ps : List PairTerm) (i : ℕ) (d : PairTerm) (s next : PairSum) → i < length ps
    → AreSameForms (map pair_term (take i ps)) (sum_term s ∷ [])
    → HasMore (sum_term s ∷ []) (pair_term (get_or ps i d) ∷ []) (sum_term next ∷ [])
    → AreSameForms (map pair_term (take (i + 1) ps)) (sum_term next ∷ [])
pairs-step ps i d s next h so_far more set =
    let taken = ap (λ qs. coefficient_of set (map pair_term qs)) (take_more ps i d h) in
    omega (arith, ints, taken, pairs-append set (take i ps) (get_or ps i d ∷ []), so_far set, more set)

pub pairs-end : (ps : List PairTerm) (i : ℕ) (s : PairSum) → length ps ≤ i → s.sum ≡ pos 0
    → AreSameForms (map pair_term (take i ps)) (sum_term s ∷ []) → HasNone (map pair_term ps)
pairs-end ps i s h nothing all set =
    let own = ap (λ v. given set (pair_set s.first s.second, v)) nothing in
    let taken = ap (λ qs. coefficient_of set (map pair_term qs)) (take_all i ps h) in
    omega (arith, ints, taken, all set, own, nothing-given (is_eq (set_cmp set (pair_set s.first s.second))))

pub pairs-permuted : (set : List Literal) (ps qs : List PairTerm) → IsPermutation ps qs
    → coefficient_of set (map pair_term qs) ≡ coefficient_of set (map pair_term ps)
pairs-permuted set ps qs h =
    total_by-map (given set) pair_term qs
    ∙ total_by-IsPermutation (λ p. given set (pair_term p)) ps qs h
    ∙ sym (total_by-map (given set) pair_term ps)

-- ---- all sums

pub sums_parts : (set : List Literal) (constant : ℤ) (ws : List ℤ) (ps : List PairTerm)
    → coefficient_of set (sums_terms constant ws ps) ≡ given set ([], constant)
    +ℤ (coefficient_of set (node_terms 0 ws) +ℤ coefficient_of set (map pair_term ps))
sums_parts set constant ws ps =
    ap (λ z. given set ([], constant) +ℤ z) (coefficients-append set (node_terms 0 ws) (map pair_term ps))

-- one node has more
pub sums_node : (constant : ℤ) (ws : List ℤ) (ps : List PairTerm) (i : ℕ) (c new : ℤ)
    (old : List Term) → i < length ws → new ≡ get_or ws i (pos 0) +ℤ c
    → sums_terms constant ws ps ≡ old
    → HasMore old ((node_set i, c) ∷ []) (sums_terms constant (slice_set ws i new) ps)
sums_node constant ws ps i c new old h e is set =
    let first : given set (node_set (0 + i), c) ≡ given set (node_set i, c) =
    ap (λ k. given set (node_set k, c)) (omega arith) in
    let more : coefficient_of set (node_terms 0 (slice_set ws i new))
    ≡ coefficient_of set (node_terms 0 ws) +ℤ coefficient_of set ((node_set i, c) ∷ []) =
    omega (arith, ints, node_more set 0 i ws c new h e, first) in
    let sums = sums_parts set constant (slice_set ws i new) ps in
    omega (arith, ints, more, sums_parts set constant ws ps, ap (coefficient_of set) is)

-- one term more is listed
pub sums_pair : (constant : ℤ) (ws : List ℤ) (ps qs : List PairTerm) (p : PairTerm) (t : Term)
    (old : List Term) → qs ≡ ps ++ p ∷ [] → pair_term p ≡ t → sums_terms constant ws ps ≡ old
    → HasMore old (t ∷ []) (sums_terms constant ws qs)
sums_pair constant ws ps qs p t old more term is set =
    let sums = sums_parts set constant ws ps in
    let parts = sums_parts set constant ws qs in
    let same = ap (λ xs. coefficient_of set (map pair_term xs)) more in
    let pairs_append = pairs-append set ps (p ∷ []) in
    omega (arith, ints, ap (coefficient_of set) is, ap (given set) term)

-- no sums
pub sums_none : (ws : List ℤ) (ps : List PairTerm) (count : ℕ) → ws ≡ replicate count (pos 0)
    → ps ≡ [] → HasNone (sums_terms (pos 0) ws ps)
sums_none ws ps count blank none set =
    let nodes = ap (λ v. coefficient_of set (node_terms 0 v)) blank ∙ zeros-replicate set 0 count in
    let pairs = ap (λ qs. coefficient_of set (map pair_term qs)) none in
    omega (arith, ints, sums_parts set (pos 0) ws ps, nodes, pairs, nothing-given (is_eq (set_cmp set [])))

-- all cancel
pub sums_cancel : (constant : ℤ) (ws : List ℤ) (ps qs : List PairTerm) (all : List Term)
    → constant ≡ pos 0 → list_all (λ w. int_eq w (pos 0)) ws ≡ true → IsPermutation ps qs
    → HasNone (map pair_term qs) → sums_terms constant ws ps ≡ all → HasNone all
sums_cancel constant ws ps qs all nothing tested moved none is set =
    let same = ap (λ c. given set ([], c)) nothing in
    let nothing_given = nothing-given (is_eq (set_cmp set [])) in
    let are = zeros set 0 ws tested in
    let pairs_permuted = pairs-permuted set ps qs moved in
    omega (arith, ints, sums_parts set constant ws ps, none set, ap (coefficient_of set) is)

pub take_back : (a b : List Term) (k : List Literal) (w less : ℤ) → less +ℤ w ≡ pos 0
    → HasMore a ((k, less) ∷ []) b → HasMore b ((k, w) ∷ []) a
take_back a b k w less h more set =
    let t = is_eq (set_cmp set k) in
    omega (arith, ints, more set, if_so-plus t less w, ap (if_so t) h, nothing-given t)
