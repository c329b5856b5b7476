-- The turns of a run, one after another.
use Rattle.rosenberg_layer.proofs.Common.{weights, IsTable, nat_tests, ◌≡◌, ℕ, zero, suc, ◌+◌, ◌-◌, ◌≤◌, arith, refl, sym, ap, ◌∙◌, subst, List, [], ◌∷◌, ◌++◌, length, map, Option, Some, None, filter, IsPermutation, mul-le-mul_left, append_assoc, append-nil, length-append, length-map, length-filter_both, IsPermutation-append_left, IsPermutation-append_right, IsPermutation-append_comm, length_permutation, sum_by-cons, Literal, Term, set_size, terms_size, TableContent, terms_size-cons, node, Pair, next_pair, tie_terms, with_next, is_long, substituted, run, excess, next_before, pairs_of, front_term, is_short, IsStep, ties_of, AllLong, IsTurn, width-run-le}
use Rattle.rosenberg_layer.proofs.Growth.{square_is}
use Rattle.rosenberg_layer.proofs.Bags.{held-start, held-step, none-next, AreHeld}

-- ---- the measure fits

pub excess-one : (ls : List Literal) → length ls - 2 ≤ set_size ls
excess-one ls = grind (arith, nat_tests, square_is, mul-le-mul_left)

pub excess-size : (ts : List Term) → excess ts ≤ terms_size ts
excess-size [] = omega arith
excess-size (t ∷ ts) = omega (arith, excess-one t.0, excess-size ts, terms_size-cons, sum_by-cons)

pub excess_fits : (sum bound : ℕ) (t : Term) (left rest all : List Term) → left ≡ t ∷ rest
    → sum + excess left ≡ excess all → terms_size all ≤ bound → sum + (length t.0 - 2) ≤ bound
excess_fits sum bound t left rest all e so_far small =
    omega (arith, so_far, small, ap excess e, sum_by-cons, excess-size)

-- ---- one more turn

pub run-next : (k : ℕ) (t : TableContent) → run (k + 1) t ≡ substituted (run k t)
run-next zero t = refl
run-next (suc k) t =
    let e : suc k + 1 ≡ suc (k + 1) = omega arith in
    ap (λ n. run n t) e ∙ run-next k (substituted t)

-- the pairs of one more turn
pub pairs-next : (k : ℕ) (t : TableContent)
    → pairs_of (k + 1) t ≡ pairs_of k t ++ next_before (next_pair (run k t).terms) []
pairs-next zero t = refl
pairs-next (suc k) t = grind (arith, nat_tests, pairs-next k (substituted t))

-- each pair has a node
pub width-pairs : (k : ℕ) (t : TableContent) → (run k t).width ≡ t.width + length (pairs_of k t)
width-pairs zero t = omega arith
width-pairs (suc k) t = grind (arith, nat_tests, width-pairs k)

pub width-grows : (k m : ℕ) (t : TableContent) → k ≤ m → (run k t).width ≤ (run m t).width
width-grows zero m t le = width-run-le m t
width-grows (suc k) zero t le = absurd (omega arith)
width-grows (suc k) (suc m) t le = width-grows k m (substituted t) (omega arith)

-- ---- the terms that tie the nodes

ties-last : (n : ℕ) (pairs : List Pair) (ms : List ℕ) (pair : Pair) (m : ℕ) → length ms ≡ length pairs
    → ties_of n (pairs ++ pair ∷ []) (ms ++ m ∷ [])
    ≡ ties_of n pairs ms ++ tie_terms pair (node (n + length pairs)) m
ties-last n [] [] pair m each = grind (arith, nat_tests, append-nil)
ties-last n [] (k ∷ ms) pair m each = absurd (omega (arith, each))
ties-last n (p ∷ pairs) [] pair m each = absurd (omega (arith, each))
ties-last n (p ∷ pairs) (k ∷ ms) pair m each =
    grind (arith, nat_tests, ties-last (n + 1) pairs ms pair m (omega (arith, each)))

adds-moved : (base low old down ties : List Term)
    → IsPermutation (((base ++ (low ++ old)) ++ down) ++ ties) (base ++ ((low ++ down) ++ (old ++ ties)))
adds-moved base low old down ties =
    let here =
    IsPermutation-append_left ties (old ++ down) (down ++ old) (IsPermutation-append_comm old down) in
    let one = IsPermutation-append_right low ((old ++ down) ++ ties) ((down ++ old) ++ ties) here in
    let two = IsPermutation-append_right base _ _ one in
    simp append_assoc (simp append_assoc at two)

-- ---- one more turn

-- the parts before and after a turn, of a table whose nodes are numbered below a width
pub record IsRun (t : TableContent) (k width : ℕ) (low long : List Term) (pairs : List Pair) (ms : List ℕ)
    : Type 0 where
  pub held : AreHeld (run k t) (filter is_short t.terms ++ (low ++ ties_of width pairs ms)) long (weights t.terms)
  pub pairs_are : pairs ≡ pairs_of k t
  pub each : length ms ≡ length pairs

pub run-start : (t : TableContent) (width : ℕ) (low long : List Term) (pairs : List Pair) (ms : List ℕ)
    → IsTable t → long ≡ filter is_long t.terms → low ≡ [] → pairs ≡ [] → ms ≡ []
    → IsRun t 0 width low long pairs ms
run-start t width low long pairs ms table e no_low no_pairs no_ms = record {
  held =
      subst (λ us. AreHeld t us long (weights t.terms))
      (sym (append-nil (filter is_short t.terms))
      ∙ (λ i. filter is_short t.terms ++ (sym no_low i ++ ties_of width (sym no_pairs i) (sym no_ms i))))
      (held-start t long table e);
  pairs_are = no_pairs;
  each = ap length no_ms ∙ sym (ap length no_pairs);
}

-- the number of the next node
pub run-width : (t : TableContent) (k width : ℕ) (low long : List Term) (pairs : List Pair) (ms : List ℕ)
    → IsRun t k width low long pairs ms → t.width ≡ width → width + length pairs ≡ (run k t).width
run-width t k width low long pairs ms so_far same =
    omega (arith, width-pairs k t, ap length so_far.pairs_are, same)

pub turn-run : (t : TableContent) (k width : ℕ) (low low' long long' : List Term)
    (pairs pairs' : List Pair) (ms ms' : List ℕ) (o : Option Pair)
    → IsRun t k width low long pairs ms → AllLong long → t.width ≡ width
    → IsTurn o (width + length pairs) long low pairs ms long' low' pairs' ms'
    → IsRun t (k + 1) width low' long' pairs' ms'
turn-run t k width low low' long long' pairs pairs' ms ms' None so_far high same turned =
    let next = none-next (run k t) _ long _ so_far.held turned.0 in
    grind (arith, nat_tests, run-next, append-nil, pairs-next)
turn-run t k width low low' long long' pairs pairs' ms ms' (Some pair) so_far high same turned =
    let now = run k t in
    let base = filter is_short t.terms in
    let m = turned.0 in
    let w = node now.width in
    let old = ties_of width pairs ms in
    let number = run-width t k width low long pairs ms so_far same in
    let step = subst (λ j. IsStep pair (node j) long low long' low' m) number turned.1 in
    let down = filter is_short (map (front_term w) step.touched) in
    let last = ties-last width pairs ms pair m so_far.each in
    let new_pairs = turned.2 in
    let new_ms = turned.3 in
    let ties : ties_of width pairs' ms' ≡ old ++ tie_terms pair w m = cc in
    let moved : IsPermutation (((base ++ (low ++ old)) ++ down) ++ tie_terms pair w m)
    (base ++ (low' ++ ties_of width pairs' ms')) =
    rw (step.put_down, ties) (adds-moved base low old down (tie_terms pair w m)) in
    let after =
    held-step now pair (base ++ (low ++ old)) (base ++ (low' ++ ties_of width pairs' ms')) low long low' long'
    m (weights t.terms) so_far.held high step moved in
    let next = run-next k t in
    let more = pairs-next k t in
    let is = after.1 in
    let last_pairs = so_far.pairs_are in
    let one = ap length turned.2 in
    let two = ap length turned.3 in
    let each = so_far.each in
    record {
      held =
          subst (λ u. AreHeld u (base ++ (low' ++ ties_of width pairs' ms')) long' (weights t.terms))
          (sym (next ∙ ap (λ x. with_next x now) is)) after.0;
      pairs_are = cc;
      each = grind (arith, nat_tests, length-append);
    }

-- ---- what is moved down

-- a step moves terms, and adds none to them
step-few : (pair : Pair) (w : Literal) (long low long' low' : List Term) (m : ℕ)
    → IsStep pair w long low long' low' m → length low' + length long' ≤ length low + length long
step-few pair w long low long' low' m step =
    let moved = map (front_term w) step.touched in
    let back = length_permutation (step.rest ++ filter is_long moved) long' step.put_back in
    let all = length_permutation long (step.touched ++ step.rest) step.taken.whole in
    let both = length-filter_both is_long is_short (λ t. refl) moved in
    omega (arith, ap length step.put_down, length-append {A = Term}, length-map step.touched (front_term w))

-- .. and so does a turn
pub turn-few : (o : Option Pair) (n most : ℕ) (low low' long long' : List Term) (pairs pairs' : List Pair)
    (ms ms' : List ℕ) → length low + length long ≤ most
    → IsTurn o n long low pairs ms long' low' pairs' ms' → length low' + length long' ≤ most
turn-few None n most low low' long long' pairs pairs' ms ms' few turned =
    omega (arith, few, ap length turned.1, ap length turned.2)
turn-few (Some pair) n most low low' long long' pairs pairs' ms ms' few turned =
    omega (arith, few, step-few pair (node n) long low long' low' turned.0 turned.1)

-- as many turns as there are pairs give all pairs
pub pairs-enough : (k : ℕ) (t : TableContent) → pairs_of (length (pairs_of k t)) t ≡ pairs_of k t
pairs-enough zero t = refl
pairs-enough (suc k) t = grind (arith, nat_tests, pairs-enough k)
