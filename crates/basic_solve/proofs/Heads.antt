-- Lists that are seen at the places of nodes.
use Rattle.basic_solve.proofs.Common.{elements, nat_tests, ◌≡◌, ◌≢◌, ◌⊎◌, ℕ, zero, suc, ◌+◌, ◌<◌, List, [], ◌∷◌, ◌++◌, length, map, get_or, set, refl, sym, arith, ap, ◌∙◌, length-append, replicate, cases_eq, length-map, map-append, length-set, get_or-set_same, get_or-set_other, get_or_append_left, get_or_at, get_or_past, get_or_push, ext_get_or, get_or-map, map-set, lists_at, AreHeads, IsTaken}

-- what is seen at each place
at-head : {A : Type 0} (heads : List ℕ) (lists : List (List A)) (i : ℕ) → get_or lists 0 [] ≡ []
    → get_or (lists_at heads lists) i [] ≡ get_or lists (get_or heads i 0) []
at-head [] lists i none = sym none
at-head (head ∷ heads) lists zero none = refl
at-head (head ∷ heads) lists (suc i) none = at-head heads lists i none

-- what is seen is the same where each place shows the same
same_seen : {A : Type 0} (heads : List ℕ) (lists : List (List A)) (seen : List (List A))
    → get_or lists 0 [] ≡ [] → length seen ≡ length heads
    → ((i : ℕ) → i < length heads → get_or lists (get_or heads i 0) [] ≡ get_or seen i [])
    → lists_at heads lists ≡ seen
same_seen heads lists seen none long each =
    let count = length-map heads (λ head. get_or lists head []) in
    ext_get_or [] (lists_at heads lists) seen (count ∙ sym long)
    (λ i lt. at-head heads lists i none ∙ each i (omega (arith, lt, count)))

-- ---- a list that changes

pub heads_set : {A : Type 0} (heads : List ℕ) (lists : List (List A)) (head : ℕ) (list : List A)
    → AreHeads heads lists → 0 < head → AreHeads heads (set lists head list)
heads_set heads lists head list are some = record {
  none = get_or-set_other lists head 0 list [] (λ e. omega (arith, e, some)) ∙ are.none;
  within = λ i. omega (arith, are.within i, length-set lists head list);
  apart = are.apart;
}

pub seen_set : {A : Type 0} (heads : List ℕ) (lists : List (List A)) (node head : ℕ) (list : List A)
    → AreHeads heads lists → node < length heads → 0 < head → get_or heads node 0 ≡ head
    → lists_at heads (set lists head list) ≡ set (lists_at heads lists) node list
seen_set {A} heads lists node head list are lt some is =
    let count = length-map heads (λ h. get_or lists h []) in
    same_seen heads (set lists head list) (set _ node list)
    (heads_set heads lists head list are some).none (length-set _ node list ∙ count) (λ i _.
    let within = are.within node in
    let before = at-head heads lists i are.none in
    let apart = are.apart i node in
    grind (arith, nat_tests, elements))

-- ---- a node that gets a list

module _ {A : Type 0} (heads : List ℕ) (lists : List (List A)) (node head : ℕ)
    (are : AreHeads heads lists)
    (lt : node < length heads)
    (new : head ≡ length lists) where
  abbrev now : List ℕ
  now = set heads node head

  abbrev more : List (List A)
  more = lists ++ [] ∷ []

  long : length more ≡ length lists + 1
  long = length-append lists ([] ∷ [])

  mine : (i : ℕ) → i ≡ node → get_or now i 0 ≡ head
  mine i e = ap (λ k. get_or now k 0) e ∙ get_or-set_same heads node head 0 lt

  other : (i : ℕ) → i ≢ node → get_or now i 0 ≡ get_or heads i 0
  other i n = get_or-set_other heads node i head 0 n

  pub heads_more : AreHeads (set heads node head) (lists ++ [] ∷ [])
  heads_more = record {
    none = get_or_append_left lists ([] ∷ []) [] 0 (omega (arith, are.within node)) ∙ are.none;
    within = λ i. let low = are.within i in grind (arith, nat_tests, mine, other, long, cases_eq i node);
    apart = λ i j some same.
        let old = are.apart i j in
        let low = are.within i in
        let low' = are.within j in
        grind (arith, nat_tests, mine, other, cases_eq i node, cases_eq j node);
  }

  pub seen_more : get_or heads node 0 ≡ 0
      → lists_at (set heads node head) (lists ++ [] ∷ []) ≡ lists_at heads lists
  seen_more was =
      same_seen now more (lists_at heads lists) heads_more.none
      (length-map heads (λ h. get_or lists h []) ∙ sym (length-set heads node head)) (λ i _.
      let seen = at-head heads lists i are.none in
      let here = mine i in
      let there = other i in
      let old = get_or_append_left lists ([] ∷ []) [] (get_or heads i 0) (are.within i) in
      let none = are.none in
      grind (arith, nat_tests, get_or_push lists [] [] head (sym new)))

-- ---- the last node, whose list is taken out

module _ {A : Type 0} (rest : List ℕ) (head : ℕ) (lists left : List (List A))
    (are : AreHeads (rest ++ head ∷ []) lists)
    (taken : IsTaken head lists left) where
  abbrev whole : List ℕ
  whole = rest ++ head ∷ []

  front : (i : ℕ) → i < length rest → get_or whole i 0 ≡ get_or rest i 0
  front i lt = get_or_append_left rest (head ∷ []) 0 i lt

  end : get_or whole (length rest) 0 ≡ head
  end = get_or_at rest head [] 0 (length rest) refl

  inside : (i : ℕ) → 0 < get_or rest i 0 → i < length rest
  inside i some = let past = get_or_past rest i 0 in grind (arith, nat_tests)

  below : (i : ℕ) → 0 < get_or rest i 0 → get_or rest i 0 < length lists
  below i some = omega (arith, are.within i, front i (inside i some))

  not_head : (i : ℕ) → 0 < get_or rest i 0 → get_or rest i 0 ≢ head
  not_head i some e =
      let lt = inside i some in
      let same = are.apart i (length rest) (omega (arith, some, front i lt)) (cc (front i lt, end)) in
      omega (arith, same, lt)

  none_left : (head ≡ 0) ⊎ (head ≡ 0 → ⊥) → get_or left 0 [] ≡ []
  none_left is = grind (arith, nat_tests)

  pub heads_left : AreHeads rest left
  heads_left = record {
    none = grind (arith, nat_tests, none_left, cases_eq head 0);
    within = λ i.
        let some = taken.some in
        let kept = taken.kept (get_or rest i 0) in
        grind (arith, nat_tests, not_head, below, cases_eq (get_or rest i 0) 0);
    apart = λ i j some same.
        let lt = inside i some in
        let lj = inside j (omega (arith, some, same)) in
        are.apart i j (omega (arith, some, front i lt)) (front i lt ∙ same ∙ sym (front j lj));
  }

  seen_left : lists_at rest lists ≡ lists_at rest left
  seen_left = grind (arith, nat_tests, same_seen, length-map, cases_eq, at-head, not_head, below)

  pub seen_last : lists_at (rest ++ head ∷ []) lists
      ≡ lists_at rest left ++ get_or lists head [] ∷ []
  seen_last = grind (arith, nat_tests, map-append, seen_left)

-- ---- lists that are seen in what holds them

abbrev nil : (A : Type 0) → List A
nil A = []

pub seen_none : {A : Type 0} (count : ℕ)
    → lists_at (replicate count 0) (nil A ∷ []) ≡ replicate count (nil A)
seen_none zero = refl
seen_none {A = A} (suc count) = ap (λ ls. nil A ∷ ls) (seen_none {A = A} count)

-- items are appended to the list of a node
pub pushed_seen : {A X : Type 0} (items : X → List A) (heads : List ℕ) (lists : List X)
    (olds : List ℕ) (old : List (List A)) (seen : List (List A)) (node place : ℕ) (had has : X)
    (more : List A) → AreHeads heads (map items lists)
    → lists_at heads (map items lists) ≡ lists_at olds old → length heads ≡ length olds
    → lists_at olds old ≡ seen → node < length seen → 0 < place → get_or heads node 0 ≡ place
    → had ≡ get_or lists place had → items has ≡ items had ++ more
    → lists_at heads (map items (set lists place has)) ≡ set seen node (get_or seen node [] ++ more)
pushed_seen items heads lists olds old seen node place had has more a e count is lt pos own read h =
    grind (arith, nat_tests, elements, length-map, inside, get_or-map, at-head, map-set, seen_set)

-- a list is taken out by an empty one
pub taken_by_set : {A X : Type 0} (items : X → List A) (lists : List X) (place : ℕ) (none : X)
    → items none ≡ [] → place < length lists
    → IsTaken place (map items lists) (map items (set lists place none))
taken_by_set {A} items lists place none is lt =
    let inside : place < length (map items lists) = omega (arith, lt, length-map lists items) in
    let count = length-set (map items lists) place [] in
    rw (map-set, is)
    (record {
      some = omega (arith, inside, count);
      gone = get_or-set_same (map items lists) place [] [] inside;
      kept = λ k n l. (omega (arith, l, count), get_or-set_other (map items lists) place k [] [] n);
    })

-- ---- a list that changes, and one at the end that is taken out

-- a list of a node changes, and no other
pub heads_with : {A X : Type 0} (items : X → List A) (heads : List ℕ) (lists : List X) (place : ℕ)
    (has : X) → AreHeads heads (map items lists) → 0 < place
    → AreHeads heads (map items (set lists place has))
heads_with items heads lists place has are some =
    grind (arith, nat_tests, elements, map-set, heads_set)

-- a list is taken out at the end
pub taken_by_pop : {A X : Type 0} (items : X → List A) (lists rest : List X) (last : X) (place : ℕ)
    → lists ≡ rest ++ last ∷ [] → place ≡ length rest → 0 < place
    → IsTaken place (map items lists) (map items rest)
taken_by_pop items lists rest last place is at some =
    let count = length-map rest items in
    let all = length-map lists items in
    let more = length-append rest (last ∷ []) in
    record {
      some = omega (arith, some, at, count);
      gone = get_or_past (map items rest) place [] (omega (arith, at, count));
      kept = λ k n l.
          let low : k < length (map items rest) = omega (arith, l, n, at, count, all, ap length is, more) in
          (low, rw (is, map-append) (sym (get_or_append_left (map items rest) (items last ∷ []) [] k low)));
    }
