-- What the terms cost that stand for one term. Nothing here has to be believed.
--
-- For a term of degree 3 or more they cost never less than it, and as much where each new node is 1
-- exactly where what it is multiplied by is negative. For a negative coefficient, (d - 1) less the
-- number of true literals is negative only where all d are true. For a positive one, the nodes save
-- as much as the pairs of true literals cost, and 1 less where all are true; the coefficient comes
-- in last.
use Rattle.std.specs.Prelude.{◌≡◌, ◌+◌, ◌-◌, ◌*◌, ◌<◌, ◌≤◌, ◌&&◌, ◌∷◌, ◌+ℤ◌, ◌-ℤ◌, ◌*ℤ◌, ◌≤ℤ◌}
use Rattle.monomial_layer.specs.laws.Common.{ℕ, zero, suc, inl, inr, Bool, true, false, cond, eqb, arith, sym, ap, ◌∙◌, refl, List, [], length, ℤ, pos, neg_ℤ, sum_by-cons, count_by-le-length, ints, cases_lt, nat_tests, if_so, multiply_out, integers, times-le, times-le_negative, times-plus, total_by-append, total_by-map, total_by-if_so, total_by-same, Literal, holds, all_hold, term_cost, terms_cost, node, with_each, each_with, pair_terms, factor, node_term, node_terms, nodes_for, positive_terms, negative_terms, is_taken, true_literals, Term, map}
use Rattle.monomial_layer.specs.laws.Positive.{pairs, above, below, positive_bound, positive_reached, IsSized}

-- ---- how many literals are true

-- the first literal, and the others
pub true_literals-cons : (y : List Bool) (l : Literal) (ls : List Literal)
    → true_literals y (l ∷ ls) ≡ cond (holds y l) 1 0 + true_literals y ls
true_literals-cons y l ls = sum_by-cons (λ l. cond (holds y l) 1 0) l ls

-- no more literals are true than there are
pub true_literals-le : (y : List Bool) (ls : List Literal) → true_literals y ls ≤ length ls
true_literals-le y ls = count_by-le-length (holds y) ls

-- all literals are true where as many are as there are
pub all_hold-count : (y : List Bool) (ls : List Literal)
    → all_hold y ls ≡ eqb (true_literals y ls) (length ls)
all_hold-count y [] = refl
all_hold-count y (l ∷ ls) =
    let rest = all_hold-count y ls in
    let le = true_literals-le y ls in
    rw (true_literals-cons y l ls) (grind (arith, nat_tests))

-- a coefficient counts once or not at all
times_one : (c : ℤ) (t : Bool) → c *ℤ pos (cond t 1 0) ≡ if_so t c
times_one c t = grind (arith, nat_tests, ints)

-- so a term costs its coefficient just where as many literals are true as it has
term_cost-count : (y : List Bool) (ls : List Literal) (c : ℤ)
    → term_cost y (ls, c) ≡ c *ℤ pos (cond (eqb (true_literals y ls) (length ls)) 1 0)
term_cost-count y ls c =
    ap (λ t. if_so t c) (all_hold-count y ls)
    ∙ sym (times_one c (eqb (true_literals y ls) (length ls)))

-- ---- sums of products

-- a number may be multiplied before or after the test
if_so-times : (t : Bool) (c : ℤ) (n : ℕ) → if_so t c *ℤ pos n ≡ if_so t (c *ℤ pos n)
if_so-times t c n = grind (arith, nat_tests, ints)

-- where a term of each literal of a list costs the coefficient if this one and the first are true, all
-- cost it for each true one, where the first is true
cost-each : (y : List Bool) (l : Literal) (c : ℤ) (term : Literal → Term) (ks : List Literal)
    → ((k : Literal) → term_cost y (term k) ≡ if_so (holds y k) (if_so (holds y l) c))
    → terms_cost y (map term ks) ≡ if_so (holds y l) (c *ℤ pos (true_literals y ks))
cost-each y l c term ks each =
    total_by-map (term_cost y) term ks
    ∙ total_by-same _ (λ k. if_so (holds y k) (if_so (holds y l) c)) ks each
    ∙ total_by-if_so (holds y) (if_so (holds y l) c) ks
    ∙ if_so-times (holds y l) c (true_literals y ks)

-- a literal times each of a list costs the coefficient for each true one, where the literal is true
cost-with_each : (y : List Bool) (l : Literal) (c : ℤ) (ks : List Literal)
    → terms_cost y (with_each l c ks) ≡ if_so (holds y l) (c *ℤ pos (true_literals y ks))
cost-with_each y l c ks = cost-each y l c _ ks (λ k. grind (arith, nat_tests))

-- and so in the other order
cost-each_with : (y : List Bool) (l : Literal) (c : ℤ) (ks : List Literal)
    → terms_cost y (each_with ks l c) ≡ if_so (holds y l) (c *ℤ pos (true_literals y ks))
cost-each_with y l c ks = cost-each y l c _ ks (λ k. grind (arith, nat_tests))

-- all pairs cost the coefficient for each pair of true literals
cost-pair_terms : (y : List Bool) (ls : List Literal) (c : ℤ)
    → terms_cost y (pair_terms ls c) ≡ c *ℤ pos (pairs (true_literals y ls))
cost-pair_terms y [] c = omega (arith, ints)
cost-pair_terms y (l ∷ ls) c =
    total_by-append (term_cost y) (with_each l c ls) (pair_terms ls c)
    ∙ (λ i. cost-with_each y l c ls i +ℤ cost-pair_terms y ls c i)
    ∙ go (holds y l)
    ∙ ap (λ n. c *ℤ pos (pairs n)) (sym (true_literals-cons y l ls))
  where
    go : (t : Bool)
        → if_so t (c *ℤ pos (true_literals y ls)) +ℤ c *ℤ pos (pairs (true_literals y ls))
        ≡ c *ℤ pos (pairs (cond t 1 0 + true_literals y ls))
    go true =
        let e : 1 + true_literals y ls ≡ suc (true_literals y ls) = omega arith in
        rw e (sym (times-plus c (pos (true_literals y ls)) (pos (pairs (true_literals y ls)))))
    go false =
        let e : 0 + true_literals y ls ≡ true_literals y ls = omega arith in
        rw e (omega (arith, ints))

-- ---- a positive coefficient

-- what one node more adds, and what it takes away
one_node : (t : Bool) (c : ℤ) (a f s u d : ℕ)
    → c *ℤ (pos u -ℤ pos d)
    +ℤ (if_so (t && true) (c *ℤ pos a) +ℤ if_so t (neg_ℤ (c *ℤ pos f) *ℤ pos s))
    ≡ c *ℤ (pos (u + cond t a 0) -ℤ pos (d + cond t (f * s) 0))
one_node true c a f s u d = simp multiply_out (omega (arith, integers))
one_node false c a f s u d = simp multiply_out (omega (arith, integers))

-- the node of each number, under a state
abbrev pub nodes_at : List Bool → ℕ → ℕ → Bool
nodes_at y n i = holds y (node (n + i))

-- the first k nodes cost c times what they add, less what they take away
cost-node_terms : (y : List Bool) (ls : List Literal) (c : ℤ) (n k : ℕ)
    → terms_cost y (node_terms ls c n k)
    ≡ c
    *ℤ (pos (above (length ls) (nodes_at y n) k)
    -ℤ pos (below (length ls) (true_literals y ls) (nodes_at y n) k))
cost-node_terms y ls c n zero = omega (arith, ints)
cost-node_terms y ls c n (suc k) =
    let f = factor (length ls) k in
    let t = holds y (node (n + k)) in
    total_by-append (term_cost y) (node_terms ls c n k) (node_term ls c (node (n + k)) k)
    ∙ (λ i. cost-node_terms y ls c n k i
    +ℤ (if_so (t && true) (c *ℤ pos (f * (2 * k + 2) - 1))
    +ℤ cost-each_with y (node (n + k)) (neg_ℤ (c *ℤ pos f)) ls i))
    ∙ one_node t c (f * (2 * k + 2) - 1) f (true_literals y ls) _ _

-- so many nodes suit a degree of 3 or more
pub sized : (d : ℕ) → 3 ≤ d → IsSized d (nodes_for d)
sized d high = (omega arith, grind arith)

-- the pairs and the nodes, under one coefficient
joined : (c : ℤ) (p u d : ℕ)
    → c *ℤ pos p +ℤ c *ℤ (pos u -ℤ pos d) ≡ c *ℤ (pos (p + u) -ℤ pos d)
joined c p u d = simp multiply_out (omega (arith, integers))

-- so what stands for a positive term costs c times a difference of whole numbers
cost-positive_terms : (y : List Bool) (ls : List Literal) (c : ℤ) (n : ℕ)
    → terms_cost y (positive_terms ls c n)
    ≡ c
    *ℤ (pos (pairs (true_literals y ls) + above (length ls) (nodes_at y n) (nodes_for (length ls)))
    -ℤ pos (below (length ls) (true_literals y ls) (nodes_at y n) (nodes_for (length ls))))
cost-positive_terms y ls c n =
    total_by-append (term_cost y) (pair_terms ls c) (node_terms ls c n (nodes_for (length ls)))
    ∙ (λ i. cost-pair_terms y ls c i +ℤ cost-node_terms y ls c n (nodes_for (length ls)) i)
    ∙ joined c _ _ _

-- what stands for a positive term costs no less
pub positive_terms-le : (y : List Bool) (ls : List Literal) (c : ℤ) (n : ℕ) → 3 ≤ length ls
    → pos 0 ≤ℤ c → term_cost y (ls, c) ≤ℤ terms_cost y (positive_terms ls c n)
positive_terms-le y ls c n high positive =
    let d = length ls in
    let bound =
    positive_bound d (true_literals y ls) (nodes_for d) (nodes_at y n) (sized d high)
    (true_literals-le y ls) in
    rw (term_cost-count y ls c, cost-positive_terms y ls c n)
    (times-le c _ _ positive (omega (arith, ints, bound)))

-- what the nodes add depends on their own bits alone
above-same : (d : ℕ) (w v : ℕ → Bool) (n : ℕ) → ((i : ℕ) → i < n → w i ≡ v i)
    → above d w n ≡ above d v n
above-same d w v zero same = refl
above-same d w v (suc k) same = rw (above-same d w v k (λ i l. same i (omega arith)), same k (omega arith))

-- and so does what they take away
below-same : (d s : ℕ) (w v : ℕ → Bool) (n : ℕ) → ((i : ℕ) → i < n → w i ≡ v i)
    → below d s w n ≡ below d s v n
below-same d s w v zero same = refl
below-same d s w v (suc k) same = rw (below-same d s w v k (λ i l. same i (omega arith)), same k (omega arith))

-- .. and as much, where each node is taken as is_taken says
pub positive_terms_reach : (y : List Bool) (ls : List Literal) (c : ℤ) (n : ℕ) → 3 ≤ length ls
    → ((i : ℕ) → i < nodes_for (length ls) → nodes_at y n i ≡ is_taken (true_literals y ls) i)
    → term_cost y (ls, c) ≡ terms_cost y (positive_terms ls c n)
positive_terms_reach y ls c n high same =
    let d = length ls in
    let s = true_literals y ls in
    let w = nodes_at y n in
    let k = nodes_for d in
    let reached = positive_reached d s k (sized d high) (true_literals-le y ls) in
    let up = above-same d w (is_taken s) k same in
    let down = below-same d s w (is_taken s) k same in
    let value : pos (cond (eqb s d) 1 0) ≡ pos (pairs s + above d w k) -ℤ pos (below d s w k) =
    omega (arith, ints) in
    term_cost-count y ls c ∙ ap (λ z. c *ℤ z) value ∙ sym (cost-positive_terms y ls c n)

-- ---- a negative coefficient

-- a negative term's node costs its share where it is 1
negative_value : (t : Bool) (c : ℤ) (d s : ℕ)
    → if_so (t && true) (neg_ℤ (c *ℤ pos d)) +ℤ if_so t (c *ℤ pos s)
    ≡ if_so t (c *ℤ (pos s -ℤ pos d))
negative_value true c d s = simp multiply_out (omega (arith, integers))
negative_value false c d s = refl

-- so what stands for it costs c times the number of true literals less d - 1, where the node is 1
cost-negative_terms : (y : List Bool) (ls : List Literal) (c : ℤ) (n : ℕ)
    → terms_cost y (negative_terms ls c n)
    ≡ if_so (holds y (node n)) (c *ℤ (pos (true_literals y ls) -ℤ pos (length ls - 1)))
cost-negative_terms y ls c n =
    ap (λ z. if_so (holds y (node n) && true) (neg_ℤ (c *ℤ pos (length ls - 1))) +ℤ z)
    (cost-each_with y (node n) c ls)
    ∙ negative_value (holds y (node n)) c (length ls - 1) (true_literals y ls)

-- that difference is at most 1, and 1 only where all d literals are true
tested : (s d : ℕ) → s ≤ d → 1 ≤ d → (pos s -ℤ pos (d - 1)) ≤ℤ pos (cond (eqb s d) 1 0)
tested s d le some = grind (arith, nat_tests, ints)

-- where all are true the term costs c, as the node does
reached_value : (s d : ℕ) (c : ℤ) → s ≤ d → 1 ≤ d
    → if_so (eqb s d) c ≡ if_so (eqb s d) (c *ℤ (pos s -ℤ pos (d - 1)))
reached_value s d c le some = elim (cases_lt s d) [
  | inl lt ↦ let e : eqb s d ≡ false = grind (arith, nat_tests) in rw e refl
  | inr ge ↦
      let e : eqb s d ≡ true = grind (arith, nat_tests) in
      let one : pos s -ℤ pos (d - 1) ≡ pos 1 = omega (arith, ints) in
      rw (e, one) (omega (arith, ints))
]

-- what stands for a negative term costs no less
pub negative_terms-le : (y : List Bool) (ls : List Literal) (c : ℤ) (n : ℕ) → 1 ≤ length ls
    → c ≤ℤ pos 0 → term_cost y (ls, c) ≤ℤ terms_cost y (negative_terms ls c n)
negative_terms-le y ls c n some negative =
    let s = true_literals y ls in
    let d = length ls in
    let one = pos (cond (eqb s d) 1 0) in
    let high = times-le_negative c _ _ negative (tested s d (true_literals-le y ls) some) in
    let low = times-le_negative c (pos 0) one negative (omega (arith, ints)) in
    rw (term_cost-count y ls c, cost-negative_terms y ls c n) (grind (arith, nat_tests, ints))

-- .. and as much, where the node is 1 exactly where all literals are true
pub negative_terms_reach : (y : List Bool) (ls : List Literal) (c : ℤ) (n : ℕ) → 1 ≤ length ls
    → holds y (node n) ≡ all_hold y ls → term_cost y (ls, c) ≡ terms_cost y (negative_terms ls c n)
negative_terms_reach y ls c n some same =
    let s = true_literals y ls in
    let d = length ls in
    ap (λ t. if_so t c) (all_hold-count y ls)
    ∙ reached_value s d c (true_literals-le y ls) some
    ∙ ap (λ t. if_so t (c *ℤ (pos s -ℤ pos (d - 1)))) (sym (same ∙ all_hold-count y ls))
    ∙ sym (cost-negative_terms y ls c n)
