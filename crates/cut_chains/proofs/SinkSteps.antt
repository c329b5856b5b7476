-- One step of the sums of subtrees, on lists.
use Rattle.cut_chains.proofs.Common.{elements, ◌≡◌, ℕ, ◌+◌, ◌<◌, ◌≤◌, ◌^◌, Bool, true, false, cond, List, ◌∷◌, length, get_or, ap, ◌∙◌, arith, sum_by, nat_tests, both_ways, get_or-set_same, get_or-set_other, sum_by-le-sum_by, set, is_in, parent_in, each_at, side_weight, Sinkable, held_below, All, get_or_default, recursion_from_All, subst}
use Rattle.cut_chains.proofs.Subtrees.{IsSinking, order_inside, front_inside, giving_small, sink_one, starts_sinking}

side_weight-le : (weight : ℕ → ℕ) (qs : List ℕ) (is_on : ℕ → Bool)
    → side_weight weight qs is_on ≤ sum_by weight qs
side_weight-le weight qs is_on =
    sum_by-le-sum_by (λ r. cond (is_on r) (weight r) 0) weight qs (λ r. grind arith)

module _ (up sums order xs : List ℕ) (t : Sinkable up sums order) where
  -- what is kept, for the qubits from the i-th on
  abbrev pub Sinks : List ℕ → ℕ → Type 0
  Sinks ys i =
      IsSinking t.first t.cs t.ps order t.root t.ordered (λ q. get_or sums q 0) (λ q. get_or ys q 0)
      i

  pub starts : Sinks sums (length order)
  starts =
      starts_sinking t.first t.cs t.ps order t.root t.ordered (λ q. get_or sums q 0) (length sums)
      t.different t.inside.1

  inside_of : (q : ℕ) → is_in (t.first ∷ t.cs) q ≡ true → q < length sums
  inside_of q in' = each_at (λ p. p < length sums) (t.first ∷ t.cs) q t.inside in'

  module _ (same : length xs ≡ length sums) (a : ℕ) (within : a < length order) where
    giver_in : is_in t.cs (get_or order a 0) ≡ true
    giver_in = order_inside t.first t.cs t.ps order t.root t.ordered a within

    parent_is : get_or up (get_or order a 0) 0 ≡ parent_in t.cs t.ps (get_or order a 0)
    parent_is = t.parents (get_or order a 0) giver_in

    parent_inside : is_in (t.first ∷ t.cs) (parent_in t.cs t.ps (get_or order a 0)) ≡ true
    parent_inside =
        let there = front_inside t.first t.cs t.ps order t.root t.ordered a _ (omega (arith, within))
        (t.ordered.after a within) in
        grind (arith, nat_tests)

    pub giver_below : get_or order a 0 < length xs
    giver_below =
        let giver = giver_in in
        let inside = inside_of (get_or order a 0) in grind (arith, nat_tests)

    pub giver_known : get_or order a 0 < length up
    giver_known = each_at (λ p. p < length up) t.cs (get_or order a 0) t.known giver_in

    pub parent_below : get_or up (get_or order a 0) 0 < length xs
    parent_below =
        omega (arith, parent_is, inside_of (parent_in t.cs t.ps (get_or order a 0)) parent_inside)

    pub step_fits : Sinks xs (a + 1)
        → get_or xs (get_or up (get_or order a 0) 0) 0 + get_or xs (get_or order a 0) 0 < 2 ^ 127
    step_fits sinking =
        let moved = ap (λ r. get_or xs r 0) parent_is in
        let small = giving_small t.first t.cs t.ps order t.root t.ordered (λ q. get_or sums q 0)
        (λ q. get_or xs q 0) a within sinking in
        omega (arith, side_weight-le)

    pub step_next : Sinks xs (a + 1) → Sinks (set xs (get_or up (get_or order a 0) 0)
        (get_or xs (get_or up (get_or order a 0) 0) 0 + get_or xs (get_or order a 0) 0)) a
    step_next sinking =
        let q = get_or order a 0 in
        let p = get_or up q 0 in
        let more = get_or xs p 0 + get_or xs q 0 in
        let get = get_or-set_same xs p more 0 parent_below in
        let get_set_other = get_or-set_other xs p in
        let sink = sink_one t.first t.cs t.ps order t.root t.ordered in
        grind (arith, nat_tests, elements, parent_is)

    pub step_others : (r : ℕ) → is_in (t.first ∷ t.cs) r ≡ false
        → get_or (set xs (get_or up (get_or order a 0) 0)
        (get_or xs (get_or up (get_or order a 0) 0) 0 + get_or xs (get_or order a 0) 0)) r 0
        ≡ get_or xs r 0
    step_others r out =
        get_or-set_other xs (get_or up (get_or order a 0) 0) r _ 0
        (λ e. both_ways (is_in (t.first ∷ t.cs) r) out
        (ap (is_in (t.first ∷ t.cs)) (e ∙ parent_is) ∙ parent_inside))

  -- at the end
  pub ends_below : Sinks xs 0 → (q : ℕ) → is_in t.cs q ≡ true → get_or xs q 0 ≡ held_below t q
  ends_below sinking q in' =
      let Held : ℕ → Type 0 = λ r. get_or xs r 0 ≡ held_below t r in
      let held : All Held order = λ j d l.
      subst Held (get_or_default order j 0 d l) (sinking.done j (omega arith) l) in
      each_at Held order q (recursion_from_All Held order held) (t.ordered.all q ∙ in')

  pub ends_all : Sinks xs 0 → get_or xs t.first 0 ≡ held_below t t.first
  ends_all sinking = grind (arith, nat_tests)
