-- How sums of subtrees come about: in an order of the qubits in which each stands after its parent,
-- from the last one on, each gives what it holds to its parent.
--
-- What the qubits that have not given yet hold below a qubit is always the weight below it. The
-- next one to give has none of the others below it, so it holds the weight below it.
use Rattle.cut_chains.proofs.Common.{◌≡◌, ◌≢◌, ◌⊎◌, inl, inr, ℕ, zero, suc, ◌+◌, ◌<◌, ◌≤◌, Bool, true, false, cond, ◌||◌, List, [], ◌∷◌, length, take, get_or, refl, sym, ap, subst, ◌∙◌, arith, ◌==◌, ℤ, pos, ◌+ℤ◌, AllByRecursion, range_with_len, ints, nat_tests, cases_eq, false_from_ne_true, take-length, take-suc, sum_by-cons, sum_by_more, total_by, if_so, total_by-plus, is_in, is_in_at, parent_in, climbed, range-zero, range-same, hit, each_at, is_below, side_weight, IsOrder, IsRooted, parent_outside, same_side, tied_below, is_below_first, found_in_range, Once, drop, take-append-drop, take-take, eqb-true, or_cases, or_left}
use Rattle.cut_chains.proofs.Members.{in_more, is_in-append, is_in-push, once_more}

is_in-first : (q : ℕ) (qs : List ℕ) → is_in (q ∷ qs) q ≡ true
is_in-first q qs = grind (arith, nat_tests)

is_in-rest : (q : ℕ) (qs : List ℕ) (r : ℕ) → is_in qs r ≡ true → is_in (q ∷ qs) r ≡ true
is_in-rest q qs r i = grind (arith, nat_tests)

-- ---- sums over lists of different qubits

-- a qubit that is not in the list is of no account
pub same_held : (is_on : ℕ → Bool) (held next : ℕ → ℕ) (qs : List ℕ)
    → ((r : ℕ) → is_in qs r ≡ true → next r ≡ held r)
    → side_weight next qs is_on ≡ side_weight held qs is_on
same_held is_on held next [] same = refl
same_held is_on held next (q ∷ qs) same =
    let here = same q (is_in-first q qs) in
    let rest = same_held is_on held next qs (λ r i. same r (is_in-rest q qs r i)) in
    simp sum_by-cons (grind arith)

-- one qubit of the list gets more
pub more_held : (is_on : ℕ → Bool) (held next : ℕ → ℕ) (p more : ℕ) (qs : List ℕ) → Once qs
    → is_in qs p ≡ true → next p ≡ held p + more → ((r : ℕ) → (r ≢ p) → next r ≡ held r)
    → side_weight next qs is_on ≡ side_weight held qs is_on + cond (is_on p) more 0
more_held is_on held next p more [] once in' gets keeps = grind arith
more_held is_on held next p more (q ∷ qs) once in' gets keeps =
    let cases = cases_eq q p in
    let same_is = same_held is_on held next qs in
    let more_is = more_held is_on held next p more qs once.1 in
    simp sum_by-cons (grind (arith, nat_tests))

-- one element of a sum is no more than it
pub one_held : (is_on : ℕ → Bool) (held : ℕ → ℕ) (p : ℕ) (qs : List ℕ) → is_in qs p ≡ true
    → is_on p ≡ true → held p ≤ side_weight held qs is_on
one_held is_on held p [] in' on = grind arith
one_held is_on held p (q ∷ qs) in' on =
    let rest = one_held is_on held p qs in simp sum_by-cons (grind (arith, nat_tests))

-- nothing is held where nobody is on the side
none_held : (is_on : ℕ → Bool) (held : ℕ → ℕ) (qs : List ℕ)
    → ((r : ℕ) → is_in qs r ≡ true → is_on r ≡ false) → side_weight held qs is_on ≡ 0
none_held is_on held [] none = refl
none_held is_on held (q ∷ qs) none =
    let here = none q (is_in-first q qs) in
    let rest = none_held is_on held qs (λ r i. none r (is_in-rest q qs r i)) in
    simp sum_by-cons (grind arith)

-- ---- in an order

-- the first qubits of an order, with the chain's first
abbrev pub front : ℕ → List ℕ → ℕ → List ℕ
front first order i = first ∷ take i order

module _ (first : ℕ) (cs ps order : List ℕ) (root : IsRooted first cs ps)
    (ordered : IsOrder first cs ps order) where
  in_front_suc : (i q : ℕ) → i < length order → is_in (front first order (suc i)) q
      ≡ (is_in (front first order i) q || (get_or order i 0 == q))
  in_front_suc i q within =
      ap (λ qs. is_in (first ∷ qs) q) (take-suc order i 0 within)
      ∙ is_in-push (front first order i) (get_or order i 0) q

  -- parents of qubits in front are in front
  parent_in_front : (i q : ℕ) → i ≤ length order → is_in (front first order i) q ≡ true
      → is_in (front first order i) (parent_in cs ps q) ≡ true
  parent_in_front zero q few in' =
      let out = parent_outside cs ps q in
      grind (arith, nat_tests)
  parent_in_front (suc i) q few in' =
      let here = in_front_suc i q few in
      let up : is_in (front first order i) (parent_in cs ps q) ≡ true =
      elim (or_cases (is_in (front first order i) q) (get_or order i 0 == q) (sym here ∙ in')) [
        | inl old ↦ parent_in_front i q (omega arith) old
        | inr same ↦
            subst (λ r. is_in (front first order i) (parent_in cs ps r) ≡ true)
            (eqb-true (get_or order i 0) q same) (ordered.after i few)
      ] in
      rw (in_front_suc i (parent_in cs ps q) few) (or_left _ _ up)

  climbed_in_front : (i n q : ℕ) → i ≤ length order → is_in (front first order i) q ≡ true
      → is_in (front first order i) (climbed cs ps n q) ≡ true
  climbed_in_front i zero q few in' = in'
  climbed_in_front i (suc n) q few in' =
      climbed_in_front i n (parent_in cs ps q) few (parent_in_front i q few in')

  -- a qubit of the order is one of the chain
  pub order_inside : (i : ℕ) → i < length order → is_in cs (get_or order i 0) ≡ true
  order_inside i within =
      sym (ordered.all (get_or order i 0)) ∙ is_in_at order i (get_or order i 0) within refl

  -- none in front is below the next one
  none_below : (i r : ℕ) → i < length order → is_in (front first order i) r ≡ true
      → is_below (first ∷ cs) ps (get_or order i 0) r ≡ false
  none_below i r within in' =
      let climbed_front = climbed_in_front i in
      grind (arith, nat_tests, found_in_range, false_from_ne_true)

  pub front_inside : (i q : ℕ) → i ≤ length order → is_in (front first order i) q ≡ true
      → (q ≡ first) ⊎ (is_in cs q ≡ true)
  front_inside zero q few in' = grind (arith, nat_tests)
  front_inside (suc i) q few in' =
      elim (or_cases (is_in (front first order i) q) (get_or order i 0 == q)
      (sym (in_front_suc i q few) ∙ in')) [
        | inl old ↦ front_inside i q (omega arith) old
        | inr same ↦ inr (rw (← eqb-true (get_or order i 0) q same) (order_inside i few))
      ]

  -- the next one is below just those that its parent is below
  below_alike : (i x : ℕ) → i < length order → is_in (front first order i) x ≡ true
      → is_below (first ∷ cs) ps x (get_or order i 0)
      ≡ is_below (first ∷ cs) ps x (parent_in cs ps (get_or order i 0))
  below_alike i x within in' =
      let q = get_or order i 0 in
      let q_in = order_inside i within in
      let out = ordered.once i within in
      let up = front_inside i (parent_in cs ps q) (omega (arith, within)) (ordered.after i within) in
      let inside = front_inside i x in
      let below = is_below_first first cs ps root q in
      let below_first = is_below_first first cs ps root (parent_in cs ps q) up in
      let side = same_side first cs ps root x q in grind (arith, nat_tests)

  once_front : (i : ℕ) → i ≤ length order → Once (front first order i)
  once_front zero few = (refl, tt)
  once_front (suc i) few =
      rw (take-suc order i 0 few)
      (once_more (front first order i) (get_or order i 0) (once_front i (omega (arith, few)))
      (ordered.once i few))

  -- ---- giving to the parent

  held_more : (is_on : ℕ → Bool) (held : ℕ → ℕ) (i : ℕ) → i < length order
      → side_weight held (front first order (i + 1)) is_on
      ≡ side_weight held (front first order i) is_on
      + cond (is_on (get_or order i 0)) (held (get_or order i 0)) 0
  held_more is_on held i within =
      simp sum_by-cons (omega (arith, sum_by_more (λ r. cond (is_on r) (held r) 0) order i 0 within))

  -- the weight below a qubit
  abbrev pub below_weight : (ℕ → ℕ) → ℕ → ℕ
  below_weight weight x = side_weight weight (first ∷ cs) (is_below (first ∷ cs) ps x)

  -- those in front hold what is below each of them, and the others the weight below themselves
  pub record IsSinking (weight held : ℕ → ℕ) (i : ℕ) : Type 0 where
    pub left : (x : ℕ) → is_in (front first order i) x ≡ true
        → side_weight held (front first order i) (is_below (first ∷ cs) ps x)
        ≡ below_weight weight x
    pub done : (j : ℕ) → i ≤ j → j < length order
        → held (get_or order j 0) ≡ below_weight weight (get_or order j 0)

  -- what the next one gives, and what its parent holds, are below its parent
  pub giving_small : (weight held : ℕ → ℕ) (i : ℕ) → i < length order
      → IsSinking weight held (i + 1)
      → held (parent_in cs ps (get_or order i 0)) + held (get_or order i 0)
      ≤ below_weight weight (parent_in cs ps (get_or order i 0))
  giving_small weight held i within sinking =
      let p = parent_in cs ps (get_or order i 0) in
      let p_in = ordered.after i within in
      let below = is_below (first ∷ cs) ps p in
      let alike = below_alike i p within p_in in
      let itself = tied_below first cs ps root p in
      let here = in_more order i p within in
      let whole = sinking.left p (grind (arith, nat_tests)) in
      let more = held_more below held i within in
      let part = one_held below held p (front first order i) p_in itself in grind arith

  pub sink_one : (weight held next : ℕ → ℕ) (i : ℕ) → i < length order
      → IsSinking weight held (i + 1) → next (parent_in cs ps (get_or order i 0))
      ≡ held (parent_in cs ps (get_or order i 0)) + held (get_or order i 0)
      → ((r : ℕ) → (r ≢ parent_in cs ps (get_or order i 0)) → next r ≡ held r)
      → IsSinking weight next i
  sink_one weight held next i within sinking gives keeps =
      let q = get_or order i 0 in
      let p_in = ordered.after i within in
      let kept : (r : ℕ) → is_in (front first order i) r ≡ false → next r ≡ held r = λ r out.
      keeps r (λ e. cc) in
      record {
        left = λ x x_in.
            let below = is_below (first ∷ cs) ps x in
            let alike = below_alike i x within x_in in
            let here = in_more order i x within in
            let gets = more_held below held next (parent_in cs ps q) (held q) (front first order i)
            (once_front i (omega (arith, within))) p_in gives keeps in
            let whole = sinking.left x (grind (arith, nat_tests)) in
            let rest = held_more below held i within in grind arith;
        done = λ j from in'.
            elim (cases_eq j i) [
              | inl same ↦
                  let below = is_below (first ∷ cs) ps q in
                  let itself = kept q (ordered.once i within) in
                  let here = in_more order i q within in
                  let whole = sinking.left q (grind (arith, nat_tests)) in
                  let rest = held_more below held i within in
                  let none = none_held below held (front first order i) (λ r. none_below i r within) in
                  let tied = tied_below first cs ps root q in
                  let held_here : next q ≡ below_weight weight q = grind arith in cc
              | inr other ↦
                  kept (get_or order j 0) (later_out i j (grind arith) in')
                  ∙ sinking.done j (grind arith) in'
            ];
      }
    where
      -- who stands later is not in front
      later_out : (i j : ℕ) → i + 1 ≤ j → j < length order
          → is_in (front first order i) (get_or order j 0) ≡ false
      later_out i j more in' =
          let out = ordered.once j in' in
          let earlier = take-take i j order (omega (arith, more)) in
          let whole = take-append-drop i (take j order) in
          let both = is_in-append (take i order) (drop i (take j order)) (get_or order j 0) in
          grind (arith, nat_tests)

-- ---- the start

-- different qubits, as some of the first n
pub once_spread : (is_on : ℕ → Bool) (held : ℕ → ℕ) (n : ℕ) (qs : List ℕ) → Once qs
    → AllByRecursion (λ q. q < n) qs → pos (side_weight held qs is_on)
    ≡ total_by (λ q. if_so (is_in qs q) (pos (cond (is_on q) (held q) 0))) (range_with_len 0 n)
once_spread is_on held n [] once within = sym (range-zero 0 n)
once_spread is_on held n (c ∷ cs) once within =
    let f : ℕ → ℕ = λ q. cond (is_on q) (held q) 0 in
    let here : ℕ → ℤ = λ q. if_so (q == c) (pos (f q)) in
    let rest : ℕ → ℤ = λ q. if_so (is_in cs q) (pos (f q)) in
    let range_same = range-same (λ q. here q +ℤ rest q) (λ q. if_so (is_in (c ∷ cs) q) (pos (f q))) 0 n
    (λ q l. let out = once.0 in grind (arith, nat_tests, ints)) in
    let total = total_by-plus here rest (range_with_len 0 n) in
    let more = hit (λ q. pos (f q)) c 0 n (omega arith) (omega (arith, within.0)) in
    omega (arith, ints, once_spread is_on held n cs once.1 within.1, sum_by-cons f c cs)

-- lists of the same different qubits hold the same
pub same_qubits : (is_on : ℕ → Bool) (held : ℕ → ℕ) (n : ℕ) (qs rs : List ℕ) → Once qs → Once rs
    → AllByRecursion (λ q. q < n) qs → AllByRecursion (λ q. q < n) rs
    → ((q : ℕ) → is_in qs q ≡ is_in rs q) → side_weight held qs is_on ≡ side_weight held rs is_on
same_qubits is_on held n qs rs once_qs once_rs within_qs within_rs same =
    let once = once_spread is_on held n rs once_rs within_rs in
    let range_same = range-same (λ q. if_so (is_in qs q) (pos (cond (is_on q) (held q) 0)))
    (λ q. if_so (is_in rs q) (pos (cond (is_on q) (held q) 0))) 0 n
    (λ q l. ap (λ b. if_so b (pos (cond (is_on q) (held q) 0))) (same q)) in
    omega (arith, ints, once_spread is_on held n qs once_qs within_qs)

within_alike : (n : ℕ) (qs rs : List ℕ) → AllByRecursion (λ q. q < n) rs
    → ((q : ℕ) → is_in qs q ≡ true → is_in rs q ≡ true) → AllByRecursion (λ q. q < n) qs
within_alike n [] rs within inside = tt
within_alike n (q ∷ qs) rs within inside = (
  each_at (λ p. p < n) rs q within (inside q (is_in-first q qs)),
  within_alike n qs rs within (λ r in'. inside r (is_in-rest q qs r in')),
)

-- at the start each holds its own weight
pub starts_sinking : (first : ℕ) (cs ps order : List ℕ) (root : IsRooted first cs ps)
    (ordered : IsOrder first cs ps order) (weight : ℕ → ℕ) (n : ℕ) → Once cs
    → AllByRecursion (λ q. q < n) cs
    → IsSinking first cs ps order root ordered weight weight (length order)
starts_sinking first cs ps order root ordered weight n once within = record {
  left = λ x x_in.
      let below = is_below (first ∷ cs) ps x in
      let whole = take-length order in
      let both = once_front first cs ps order root ordered (length order) (omega arith) in
      let more = ap (λ qs. side_weight weight qs below) whole in
      let same = same_qubits below weight n order cs (subst Once whole both.1) once
      (within_alike n order cs within (λ q in'. sym (ordered.all q) ∙ in')) within ordered.all in
      simp sum_by-cons (omega arith);
  done = λ j from in'. absurd (omega (arith, from, in'));
}
