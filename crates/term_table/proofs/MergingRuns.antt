-- Steps of merging two runs: the lesser of the two first sets goes first.
use Rattle.term_table.proofs.Common.{to_z, of_z, w128, unsigned_abs, ◌^◌, nat_tests, ints, arith, ◌≡◌, ℕ, ◌+◌, ◌<◌, ◌≤◌, ◌⊎◌, length, get_or, drop, List, [], ◌∷◌, ◌++◌, sym, ap, ◌∙◌, subst, refl, append_assoc, append-nil, ℤ, ◌+ℤ◌, All, IsStrictlySortedBy, Ordering, match_ordering, ordering_reverse, drop_more, drop_all, All-get_or, All-head, All-tail, Literal, Term, set_cmp, in_front, with_addition, with_additions, Ascends, merged}
use Rattle.std.specs.declared.cmp.Ordering.TheVariants.{Less, Equal, Greater}
use Rattle.term_table.proofs.SetOrder.{set_total, same_set}
use Rattle.term_table.proofs.KeptTerms.{IsNonzero, Under, Under-further, greater_back}

pub less_back : (ks ls : List Literal) → set_cmp ks ls ≡ Less → set_cmp ls ks ≡ Greater
less_back ks ls e = set_total.antisymm ls ks ∙ ap ordering_reverse e

-- a term at a place is small, as all are
pub small_at : (ts : List Term) (i : ℕ) (t : Term) → t ≡ get_or ts i t → i < length ts
    → All (λ v. unsigned_abs v.1 ≤ 2 ^ 125) ts → unsigned_abs t.1 ≤ 2 ^ 125
small_at ts i t at p all =
    let P = λ (v : Term). unsigned_abs v.1 ≤ 2 ^ 125 in subst P (sym at) (All-get_or P ts i t p all)

-- two small coefficients are summed in 128 bits
pub sum_back : (a b x y : ℤ) → a ≡ x → b ≡ y → unsigned_abs x ≤ 2 ^ 125 → unsigned_abs y ≤ 2 ^ 125
    → to_z w128 (of_z w128 (to_z w128 (of_z w128 a) +ℤ to_z w128 (of_z w128 b))) ≡ x +ℤ y
sum_back a b x y first second few others = omega (arith, ints)

equal_back : (ks ls : List Literal) → set_cmp ks ls ≡ Equal → set_cmp ls ks ≡ Equal
equal_back ks ls e = set_total.antisymm ls ks ∙ ap ordering_reverse e

pub front-append : (ls : List Literal) (c : ℤ) (ts : List Term)
    → in_front ls c ts ≡ in_front ls c [] ++ ts
front-append ls c ts = grind (arith, nat_tests, ints)

front-some : (t : Term) (ts : List Term) → IsNonzero t → in_front t.0 t.1 ts ≡ t ∷ ts
front-some t ts some = grind (arith, nat_tests)

-- ---- two runs, by the order of their first sets

-- a term that lies below all that is added stays in front
merged-under : (t : Term) (ts us : List Term) → Under t.0 us
    → with_additions (t ∷ ts) us ≡ t ∷ with_additions ts us
merged-under t ts [] under = refl
merged-under t ts (u ∷ us) under =
    let more = merged-under t (with_addition ts u.0 u.1) us under.1 in
    let back = less_back t.0 u.0 under.0 in
    grind (arith, nat_tests)

front-under : (ls : List Literal) (c : ℤ) (ts us : List Term) → Under ls us
    → with_additions (in_front ls c ts) us ≡ in_front ls c (with_additions ts us)
front-under ls c ts us under = grind (arith, nat_tests, ints, merged-under)

pub merged-less : (t : Term) (ts : List Term) (u : Term) (us : List Term) → Ascends (u ∷ us)
    → IsNonzero t → set_cmp t.0 u.0 ≡ Less
    → merged (t ∷ ts) (u ∷ us) ≡ in_front t.0 t.1 [] ++ merged ts (u ∷ us)
unfolding IsStrictlySortedBy
merged-less t ts u us up some e =
    grind (arith, nat_tests, merged-under t ts (u ∷ us) (e, Under-further t.0 u.0 us e up.0), front-some t)

added_equal : (t : Term) (ts : List Term) (ls : List Literal) (c : ℤ) → set_cmp ls t.0 ≡ Equal
    → with_addition (t ∷ ts) ls c ≡ in_front t.0 (t.1 +ℤ c) ts
added_equal t ts ls c e =
    ap (λ o. match_ordering o (in_front ls c (t ∷ ts)) (in_front t.0 (t.1 +ℤ c) ts) (t ∷ with_addition ts ls c)) e

pub merged-equal : (t : Term) (ts : List Term) (u : Term) (us : List Term) → Ascends (u ∷ us)
    → set_cmp t.0 u.0 ≡ Equal
    → merged (t ∷ ts) (u ∷ us) ≡ in_front t.0 (t.1 +ℤ u.1) [] ++ merged ts us
unfolding IsStrictlySortedBy
merged-equal t ts u us up e =
    ap (λ (table : List Term). with_additions table us)
    (added_equal t ts u.0 u.1 (equal_back t.0 u.0 e)) ∙ front-under t.0 (t.1 +ℤ u.1) ts us
    (subst (λ (ls : List Literal). Under ls us) (sym (same_set t.0 u.0 e)) up.0)
    ∙ front-append t.0 (t.1 +ℤ u.1) (merged ts us)

pub merged-greater : (t : Term) (ts : List Term) (u : Term) (us : List Term) → Ascends (u ∷ us)
    → set_cmp t.0 u.0 ≡ Greater
    → merged (t ∷ ts) (u ∷ us) ≡ in_front u.0 u.1 [] ++ merged (t ∷ ts) us
unfolding IsStrictlySortedBy
merged-greater t ts u us up e =
    let back = greater_back t.0 u.0 e in
    grind (arith, nat_tests, front-under, front-append)

-- a run alone is its own merging
pub merged-none : (us : List Term) → Ascends us → All IsNonzero us → merged [] us ≡ us
unfolding IsStrictlySortedBy
merged-none [] up some = refl
merged-none (u ∷ us) up some =
    let first = front-some u [] (All-head IsNonzero u us some) in
    let rest = merged-none us up.1 (All-tail IsNonzero u us some) in
    grind (arith, nat_tests, merged-under u [] us up.0)

-- ---- the loop

-- the list, with the merging of the rests, is all; and the rests are in order, without 0
pub record MergedRuns (now left right all : List Term) : Type 0 where
  pub whole : now ++ merged left right ≡ all
  pub left_up : Ascends left
  pub right_up : Ascends right
  pub left_some : All IsNonzero left
  pub right_some : All IsNonzero right

tail_up : (t : Term) (ts : List Term) → Ascends (t ∷ ts) → Ascends ts
unfolding IsStrictlySortedBy
tail_up t ts up = up.1

-- ---- by places in the two runs

module _ (now new ts us all : List Term) (i j : ℕ) (t u : Term) (o : Ordering) (w : ℤ)
    (p : i < length ts) (q : j < length us) (at_t : t ≡ get_or ts i t) (at_u : u ≡ get_or us j u)
    (e : o ≡ set_cmp t.0 u.0) where
  left : drop i ts ≡ t ∷ drop (i + 1) ts
  left = drop_more ts i t p ∙ ap (λ (v : Term). v ∷ drop (i + 1) ts) (sym at_t)

  right : drop j us ≡ u ∷ drop (j + 1) us
  right = drop_more us j u q ∙ ap (λ (v : Term). v ∷ drop (j + 1) us) (sym at_u)

  pub less_at : o ≡ Less → w ≡ t.1 → new ≡ now ++ in_front t.0 w []
      → MergedRuns now (drop i ts) (drop j us) all → MergedRuns new (drop (i + 1) ts) (drop j us) all
  less_at is weight pushed before =
      let m = rw (left, right) at before in
      let some = All-head IsNonzero t (drop (i + 1) ts) m.left_some in
      let step = merged-less t (drop (i + 1) ts) u (drop (j + 1) us) m.right_up some (sym e ∙ is) in
      let up = tail_up t (drop (i + 1) ts) m.left_up in
      let rest = All-tail IsNonzero t (drop (i + 1) ts) m.left_some in
      grind (arith, nat_tests, append_assoc, right)

  pub equal_at : o ≡ Equal → w ≡ t.1 +ℤ u.1 → new ≡ now ++ in_front t.0 w []
      → MergedRuns now (drop i ts) (drop j us) all
      → MergedRuns new (drop (i + 1) ts) (drop (j + 1) us) all
  equal_at is weight pushed before =
      let m = rw (left, right) at before in
      let step = merged-equal t (drop (i + 1) ts) u (drop (j + 1) us) m.right_up (sym e ∙ is) in
      let up = tail_up t (drop (i + 1) ts) m.left_up in
      let up' = tail_up u (drop (j + 1) us) m.right_up in
      let rest = All-tail IsNonzero t (drop (i + 1) ts) m.left_some in
      let rest' = All-tail IsNonzero u (drop (j + 1) us) m.right_some in
      grind (arith, nat_tests, append_assoc)

  pub greater_at : o ≡ Greater → w ≡ u.1 → new ≡ now ++ in_front u.0 w []
      → MergedRuns now (drop i ts) (drop j us) all → MergedRuns new (drop i ts) (drop (j + 1) us) all
  greater_at is weight pushed before =
      let m = rw (left, right) at before in
      let step = merged-greater t (drop (i + 1) ts) u (drop (j + 1) us) m.right_up (sym e ∙ is) in
      let up = tail_up u (drop (j + 1) us) m.right_up in
      let rest = All-tail IsNonzero u (drop (j + 1) us) m.right_some in
      grind (arith, nat_tests, append_assoc, left)

-- the rests, one after the other, where one of them is none
pub runs_all : (now new ts us all : List Term) (i j : ℕ) → ((length ts ≤ i) ⊎ (length us ≤ j)) → new
    ≡ (now ++ drop i ts) ++ drop j us → MergedRuns now (drop i ts) (drop j us) all → new ≡ all
runs_all now new ts us all i j over made m =
    grind (arith, nat_tests, append_assoc, drop_all, merged-none, append-nil)
