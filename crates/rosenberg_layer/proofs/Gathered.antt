-- The quadratic terms that a run left, as loops add them.
use Rattle.rosenberg_layer.proofs.Common.{◌≡◌, refl, ℕ, ℤ, suc, drop, ◌+◌, ◌<◌, arith, sym, ap, ◌∙◌, subst, List, [], ◌∷◌, ◌++◌, length, get_or, filter, drop-cons, filter-append, Literal, Term, HasRoomFor, TableContent, with_appended, fills_as, rest_none, rest_room, room_as, Rest, node, Pair, tie_terms, is_short, ties_of}
use Rattle.term_table.proofs.Filling.{rest_more}

-- a loop begins with all that is to be added
pub rest-start : {S : Type 0} (takes : S → List Term → Type 0) (holds : S → TableContent → Type 0) (start : S)
    (left all : List Term) → left ≡ all → Rest takes holds start start left all
rest-start takes holds start left all same =
    subst (λ ts. Rest takes holds start start ts all) (sym same) (rest_none takes holds start all)

-- ---- the first of the terms left, whose coefficient the code has in other words

module _ {S : Type 0} (takes : S → List Term → Type 0) (holds : S → TableContent → Type 0) where
  -- there is room for it
  pub room_term : (start now : S) (ls : List Literal) (c d : ℤ) (left all : List Term)
      → Rest takes holds start now ((ls, c) ∷ left) all → HasRoomFor takes start all → d ≡ c
      → HasRoomFor takes now ((ls, d) ∷ [])
  room_term start now ls c d left all before room coefficient =
      room_as takes now ls ls c d refl coefficient
      (rest_room takes holds start now ((ls, c) ∷ left) left all ((ls, c) ∷ []) refl before room)

  -- it is taken in
  pub rest_term : (start now new : S) (ls : List Literal) (c d : ℤ) (left all : List Term)
      → Rest takes holds start now ((ls, c) ∷ left) all → d ≡ c
      → ((t : TableContent) → holds now t → holds new (with_appended t ls d))
      → ((more : List Term) → takes now ((ls, d) ∷ more) → takes new more)
      → Rest takes holds start new left all
  rest_term start now new ls c d left all before coefficient held room =
      rest_more takes holds start now new ((ls, c) ∷ left) left all ((ls, c) ∷ []) refl
      (fills_as takes holds now new ls ls c d refl coefficient held room) before

-- ---- the terms of degree 2 or less

-- they are the next one, where it is, and those after it
pub short-split : (t : Term) (left rest : List Term) → left ≡ t ∷ rest
    → filter is_short left ≡ filter is_short (t ∷ []) ++ filter is_short rest
short-split t left rest e = ap (filter is_short) e ∙ filter-append is_short (t ∷ []) rest

-- ---- a list

-- the next of a list, and those after it
pub next-left : (xs : List Term) (i : ℕ) (x d : Term) → i < length xs → x ≡ get_or xs i d
    → drop i xs ≡ (x ∷ []) ++ drop (i + 1) xs
next-left xs i x d inside is =
    let after : suc i ≡ i + 1 = omega arith in
    drop-cons xs i d inside ∙ (λ k. sym is k ∷ drop (after k) xs)

-- ---- the terms that tie the nodes

-- those of the next pair, and of the others
pub ties-next : (n i : ℕ) (pairs : List Pair) (ms : List ℕ) (d : Pair) (e : ℕ) (w : Literal)
    → i < length pairs → i < length ms → w ≡ node (n + i)
    → ties_of (n + i) (drop i pairs) (drop i ms)
    ≡ tie_terms (get_or pairs i d) w (get_or ms i e)
    ++ ties_of (n + (i + 1)) (drop (i + 1) pairs) (drop (i + 1) ms)
ties-next n i pairs ms d e w inside also is =
    let next : n + i + 1 ≡ n + (i + 1) = omega arith in
    let after : suc i ≡ i + 1 = omega arith in
    let p = drop-cons pairs i d inside in
    let m = drop-cons ms i e also in
    rw (p, m) (cc)
