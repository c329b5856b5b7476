-- Steps of the additions that stand for a term.
use Rattle.monomial_layer.proofs.Common.{nat_tests, ints, ◌≡◌, Bool, ℕ, zero, suc, ◌+◌, ◌-◌, ◌*◌, ◌<◌, ◌≤◌, ◌^◌, List, [], ◌∷◌, ◌++◌, length, map, take, drop, get_or, ℤ, refl, sym, ap, ◌∙◌, arith, Result, OnOk, flat_map, sum_by, append_assoc, append-nil, drop_more, take_rest, recursion_from_All, sum_by-cons, on_ok_weaker, Literal, Term, terms_total, IsTermSet, TableContent, AreAdditions, IsTable, with_appended, with_more, Fills, HasRoomFor, fills_as, fills_more, room_first, room_next, room_same, OfSet, room-additions, node, with_each, pair_terms, node_term, node_terms, new_nodes, new_bits, all_new_terms, Rest, rest_room}
use Rattle.term_table.proofs.Filling as filling
use Rattle.monomial_layer.proofs.Sets.{sets-all_new_terms}
use Rattle.monomial_layer.proofs.Sizes.{total-image}

-- ---- a term for each element

-- what is left begins with the term of the next element
map_left : {X : Type 0} (f : X → Term) (xs : List X) (i : ℕ) (d : X) → i < length xs
    → map f (drop i xs) ≡ (f (get_or xs i d) ∷ []) ++ map f (drop (i + 1) xs)
map_left f xs i d inside = ap (map f) (drop_more xs i d inside)

module _ {S : Type 0} (takes : S → List Term → Type 0) (holds : S → TableContent → Type 0)
    (start now : S)
    (f : Literal → Term) (ls : List Literal) (i : ℕ) (d : Literal) (inside : i < length ls)
    (so_far : Rest takes holds start now (map f (drop i ls)) (map f ls)) where
  -- there is room for it
  pub each_room : HasRoomFor takes start (map f ls) → HasRoomFor takes now (f (get_or ls i d) ∷ [])
  each_room =
      rest_room takes holds start now _ (map f (drop (i + 1) ls)) _ (f (get_or ls i d) ∷ [])
      (map_left f ls i d inside) so_far

  -- and with it one more is taken in
  pub each_more : (next : S) → Fills takes holds now next (f (get_or ls i d) ∷ [])
      → Rest takes holds start next (map f (drop (i + 1) ls)) (map f ls)
  each_more next one =
      filling.rest_more takes holds start now next _ _ _ _ (map_left f ls i d inside) one so_far

-- ---- the products of pairs

-- the pairs that are left begin with those of the next literal, with those after it as the code
-- lends them
pub pairs_left : (ls : List Literal) (i : ℕ) (d : Literal) (c : ℤ) → i < length ls
    → pair_terms (drop i ls) c
    ≡ with_each (get_or ls i d) c (take (length ls - (i + 1)) (drop (i + 1) ls))
    ++ pair_terms (drop (i + 1) ls) c
pairs_left ls i d c inside = grind (arith, nat_tests, ints, drop_more, take_rest)

-- ---- a term, whose literals and coefficient the code has in other words, and others after it

module _ {S : Type 0} (takes : S → List Term → Type 0) (holds : S → TableContent → Type 0) where
  -- there is room for it
  pub own_room : (now : S) (ls ks : List Literal) (c d : ℤ) (us : List Term) → ks ≡ ls → d ≡ c
      → HasRoomFor takes now ((ls, c) ∷ us) → HasRoomFor takes now ((ks, d) ∷ [])
  own_room now ls ks c d us set weight room = grind (arith, nat_tests, ints)

  -- after it there is room for the others
  pub others_room : (now new : S) (ls ks : List Literal) (c d : ℤ) (us : List Term) → ks ≡ ls → d ≡ c
      → ((t : TableContent) → holds now t → holds new (with_appended t ks d))
      → ((more : List Term) → takes now ((ks, d) ∷ more) → takes new more)
      → HasRoomFor takes now ((ls, c) ∷ us) → HasRoomFor takes new us
  others_room now new ls ks c d us set weight held room all = grind (arith, nat_tests, ints)

  -- and with them all are taken in
  pub own_and_others : {V E : Type 0} (r : Result V E) (now new last : S) (ls ks : List Literal) (c d : ℤ)
      (us : List Term) → ks ≡ ls → d ≡ c
      → ((t : TableContent) → holds now t → holds new (with_appended t ks d))
      → ((more : List Term) → takes now ((ks, d) ∷ more) → takes new more)
      → OnOk r (Fills takes holds new last us) → OnOk r (Fills takes holds now last ((ls, c) ∷ us))
  own_and_others r now new last ls ks c d us set weight held room others =
      on_ok_weaker r (λ more.
      fills_more _ _ _ _ _ _ _ (fills_as takes holds now new ls ks c d set weight held room) more)
      others

-- ---- new nodes

-- the terms of some nodes begin with those of the first ones
nodes_more : (ls : List Literal) (c : ℤ) (n k d : ℕ)
    → (rest : List Term) × (node_terms ls c n (k + d) ≡ node_terms ls c n k ++ rest)
nodes_more ls c n k zero = grind (arith, nat_tests, ints, append-nil)
nodes_more ls c n k (suc d) =
    let before = nodes_more ls c n k d in
    let one = node_term ls c (node (n + (k + d))) (k + d) in
    let next : k + suc d ≡ suc (k + d) = omega arith in
    (before.0 ++ one, rw (next, before.1) (append_assoc (node_terms ls c n k) before.0 one))

-- where there is room for the terms of all nodes, and those of the first ones are taken in, there is
-- room for those of the next one
pub nodes_room : {S : Type 0} (takes : S → List Term → Type 0) (holds : S → TableContent → Type 0) (start now : S)
    (ls : List Literal) (w : Literal) (c : ℤ) (n k nodes : ℕ) → k < nodes → w ≡ node (n + k)
    → Fills takes holds start now (node_terms ls c n k)
    → HasRoomFor takes start (node_terms ls c n nodes) → HasRoomFor takes now (node_term ls c w k)
nodes_room takes holds start now ls w c n k nodes inside number filled room =
    let more = nodes_more ls c n (suc k) (nodes - suc k) in
    let count : suc k + (nodes - suc k) ≡ nodes = omega (arith, inside) in
    let first =
    room_first takes start (node_terms ls c n nodes) (node_terms ls c n (suc k)) more.0
    (sym (ap (node_terms ls c n) count) ∙ more.1) room in
    room_same takes now (node_term ls c (node (n + k)) k) (node_term ls c w k)
    (ap (λ (l : Literal). node_term ls c l k) (sym number))
    (room_next takes holds start now (node_terms ls c n (suc k)) (node_terms ls c n k)
    (node_term ls c (node (n + k)) k) refl filled first)

-- ---- all terms

-- the nodes so far, and those of the terms that are left
pub nodes_left : (so_far found all : ℕ) (t : Term) (left rest : List Term) → left ≡ t ∷ rest
    → found ≡ new_nodes t → so_far + sum_by new_nodes left ≡ all
    → so_far + found + sum_by new_nodes rest ≡ all
nodes_left so_far found all t left rest e same h =
    omega (arith, h, same, ap (sum_by new_nodes) e, sum_by-cons new_nodes t rest)

-- the bits so far, and those of the terms that are left
pub bits_left : (x bits more whole : List Bool) (t : Term) (left rest : List Term) → left ≡ t ∷ rest
    → more ≡ bits ++ new_bits x t → bits ++ flat_map (new_bits x) left ≡ whole
    → more ++ flat_map (new_bits x) rest ≡ whole
bits_left x bits more whole t left rest e new h = grind (arith, nat_tests, append_assoc)

-- ---- the table of what stands for all terms

-- for which additions a table that is being gathered has room, and what it holds
abbrev pub Takes : TableContent → List Term → Type 0
Takes t ts = AreAdditions (with_more t ts)

abbrev pub Holds : TableContent → TableContent → Type 0
Holds now t = now ≡ t

-- no terms yet, over the nodes of a table and the new ones of its terms
abbrev pub empty_of : TableContent → TableContent
empty_of t = record { width = t.width + sum_by new_nodes t.terms; terms = [] }

-- there is room for what stands for the terms of a table
pub room_for_all : (t : TableContent) → IsTable t → (terms_total t.terms + 1) * 2 ^ 24 ≤ 2 ^ 124
    → HasRoomFor Takes (empty_of t) (all_new_terms t.terms t.width)
room_for_all t table total =
    let e = empty_of t in
    let sets = sets-all_new_terms e.width t.width t.width t.terms (omega arith) (omega arith)
    (recursion_from_All (OfSet (IsTermSet t.width)) t.terms table.terms.sets) in
    room-additions e.width _ e
    (record { sets = sets; small = omega (arith, total-image t table, total) }) refl
