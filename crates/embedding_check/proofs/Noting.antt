-- The least joined pair between two chains.
-- Noted pairs: each is the least of what was noted before and of what is new. Runs of qubits with one
-- owner, and pairs that are not less than what is noted.
use Rattle.embedding_check.proofs.Common.{Others, IsOtherAhead}
use Rattle.embedding_check.proofs.Common.{nat_tests, ◌≡◌, ℕ, ◌<◌, ◌≤◌, ◌⊎◌, inl, inr, true, false, List, length, refl, sym, subst, arith, Option, Some, None, cases_eq, cases_lt, Span, CanBeJoined, Joins, IsCrossing, qubit_at, IsLeast, IsLeastPair, IsAhead, IsFacedAhead, IsNumberedAhead, IsArrow, IsPlaceIn, IsBefore, is_in_at, ◌&&◌, map, get_or, set, ◌∙◌, or_cases, and_parts, same_Some, get_or-map, get_or-set_same, get_or-set_other, length-map, length-set, is_in, chain_of, Mark, AreOwners, marked_pair, noted_at, Notes, ordered, IsChainJoin, IfSome, IsJoin, IsRunJoin, IsSpanJoin, AreNotedTo, AreNotedFrom, IsFaced}
use Rattle.embedding_check.proofs.Taking.{rising_weak}
use Rattle.embedding_check.proofs.Sorting.{at_of_in}

-- ---- one span

pub none_faced : (joined : Joins) (a : ℕ) (chain : List ℕ) (span : Span) (k : ℕ)
    → ((i : ℕ) → i < k → a < qubit_at chain i → span.start ≤ qubit_at chain i → joined a (qubit_at chain i) ≡ false)
    → ((i : ℕ) → k ≤ i → i < length chain → span.end ≤ qubit_at chain i)
    → (b : ℕ) → IsFacedAhead joined a chain span b → ⊥
none_faced joined a chain span k before after b f =
    let i = at_of_in chain b f.ahead.inside in
    let low = before i.0 in
    let high = after i.0 in
    let cases = cases_lt i.0 k in
    grind (arith, nat_tests)

pub some_faced : (joined : Joins) (a : ℕ) (chain : List ℕ) (span : Span) (k : ℕ)
    → ((i j : ℕ) → i < j → j < length chain → qubit_at chain i < qubit_at chain j)
    → ((i : ℕ) → i < k → a < qubit_at chain i → span.start ≤ qubit_at chain i → joined a (qubit_at chain i) ≡ false)
    → k < length chain → a < qubit_at chain k → span.start ≤ qubit_at chain k → qubit_at chain k < span.end
    → joined a (qubit_at chain k) ≡ true → IsLeast (IsFacedAhead joined a chain span) (Some (qubit_at chain k))
some_faced joined a chain span k rising before below above from end linked = (
  record {
    ahead = record { inside = is_in_at chain k (qubit_at chain k) below refl; above = above; linked = linked };
    faced = record { from = from; below = end };
  },
  λ b f.
      let i = at_of_in chain b f.ahead.inside in
      let low = before i.0 in
      let up = rising_weak chain rising k i.0 in
      let cases = cases_lt i.0 k in
      grind (arith, nat_tests),
)

-- ---- the lesser of two

pub least_of_two : (S T : ℕ → Type 0) (x y r : Option ℕ) → IsLeast S x → IsLeast T y → (x ≡ None → r
    ≡ y) → (y ≡ None → r ≡ x) → ((m n : ℕ) → x ≡ Some m → y ≡ Some n
    → ((m ≤ n) × (r ≡ Some m)) ⊎ ((n ≤ m) × (r ≡ Some n))) → IsLeast (λ b. S b ⊎ T b) r
least_of_two S T None None r s t left right both =
    rw (left refl) (λ b p. let one = s b in let two = t b in grind (arith, nat_tests))
least_of_two S T None (Some n) r s t left right both =
    rw (left refl) (inr t.0, λ b p. let one = s b in let two = t.1 b in grind (arith, nat_tests))
least_of_two S T (Some m) None r s t left right both =
    rw (right refl) (inl s.0, λ b p. let one = s.1 b in let two = t b in grind (arith, nat_tests))
least_of_two S T (Some m) (Some n) r s t left right both = elim (both m n refl refl) [
  | inl h ↦ rw h.1 (inl s.0, λ b p. let one = s.1 b in let two = t.1 b in grind (arith, nat_tests))
  | inr h ↦ rw h.1 (inr t.0, λ b p. let one = s.1 b in let two = t.1 b in grind (arith, nat_tests))
]

pub least_same : (S T : ℕ → Type 0) (r : Option ℕ) → ((b : ℕ) → S b → T b) → ((b : ℕ) → T b → S b)
    → IsLeast S r → IsLeast T r
least_same S T None to from least = λ b t. least b (from b t)
least_same S T (Some r) to from least = (to r least.0, λ b t. least.1 b (from b t))

pub ahead_ways : (joined : Joins) (a : ℕ) (chain : List ℕ) (span : Span) (others : Others) (other : ℕ → ℕ) (r : Option ℕ)
    → ((b : ℕ) → IsAhead joined a chain b → CanBeJoined span others other b)
    → IsLeast (λ b. IsFacedAhead joined a chain span b ⊎ IsOtherAhead joined a chain others other b) r
    → IsLeast (IsAhead joined a chain) r
ahead_ways joined a chain span others other r findable least =
    least_same (λ b. IsFacedAhead joined a chain span b ⊎ IsOtherAhead joined a chain others other b)
    (IsAhead joined a chain) r (λ b. elim [
      | inl x ↦ x.ahead
      | inr x ↦ x.ahead
    ]) (λ b h. elim (findable b h) [
      | inl faced ↦ inl (record { ahead = h; faced = faced })
      | inr is ↦ inr (record { ahead = h; is = is })
    ]) least

-- ---- arrows

pub arrow_none : (joined : Joins) (c d : List ℕ) → ((i : ℕ) → i < length c → (b : ℕ)
    → IsAhead joined (qubit_at c i) d b → ⊥) → (p : ℕ × ℕ) → IsArrow joined c d p → ⊥
arrow_none joined c d none p f =
    let i = at_of_in c p.0 f.from in
    none i.0 i.1 p.1 (subst (λ x. IsAhead joined x d p.1) (sym i.2) f.ahead)

pub arrow_some : (joined : Joins) (c d : List ℕ) (k b : ℕ) → ((i j : ℕ) → i < j → j < length c
    → qubit_at c i < qubit_at c j) → k < length c → ((i : ℕ) → i < k → (b : ℕ)
    → IsAhead joined (qubit_at c i) d b → ⊥) → IsLeast (IsAhead joined (qubit_at c k) d) (Some b)
    → IsLeastPair (IsArrow joined c d) (Some (qubit_at c k, b))
arrow_some joined c d k b rising below none least = (
  record { from = is_in_at c k (qubit_at c k) below refl; ahead = least.0 },
  λ q f.
      let i = at_of_in c q.0 f.from in
      let ahead = subst (λ x. IsAhead joined x d q.1) (sym i.2) f.ahead in
      let low = none i.0 in
      let up = rising k i.0 in
      let this = least.1 q.1 in
      grind (arith, nat_tests, cases_eq i.0 k),
)

pub before_trans : (p q r : ℕ × ℕ) → IsBefore p q → IsBefore q r → IsBefore p r
before_trans p q r a b = grind (arith, nat_tests)

pub least_pair_of_two : (S T : ℕ × ℕ → Type 0) (x y r : Option (ℕ × ℕ)) → IsLeastPair S x → IsLeastPair T y
    → (x ≡ None → r ≡ y) → (y ≡ None → r ≡ x)
    → ((m n : ℕ × ℕ) → x ≡ Some m → y ≡ Some n → (IsBefore m n × (r ≡ Some m)) ⊎ (IsBefore n m × (r ≡ Some n)))
    → IsLeastPair (λ p. S p ⊎ T p) r
least_pair_of_two S T None None r s t left right both =
    rw (left refl) (λ b p. let one = s b in let two = t b in grind (arith, nat_tests))
least_pair_of_two S T None (Some n) r s t left right both =
    rw (left refl) (inr t.0, λ b p. let one = s b in let two = t.1 b in grind (arith, nat_tests))
least_pair_of_two S T (Some m) None r s t left right both =
    rw (right refl) (inl s.0, λ b p. let one = s.1 b in let two = t b in grind (arith, nat_tests))
least_pair_of_two S T (Some m) (Some n) r s t left right both = elim (both m n refl refl) [
  | inl h ↦ rw h.1 (inl s.0, λ b p. let one = s.1 b in let two = t.1 b in grind (arith, nat_tests, before_trans m n b h.0))
  | inr h ↦ rw h.1 (inr t.0, λ b p. let one = s.1 b in let two = t.1 b in grind (arith, nat_tests, before_trans n m b h.0))
]

pub least_pair_same : (S T : ℕ × ℕ → Type 0) (r : Option (ℕ × ℕ)) → ((p : ℕ × ℕ) → S p → T p)
    → ((p : ℕ × ℕ) → T p → S p) → IsLeastPair S r → IsLeastPair T r
least_pair_same S T None to from least = λ p t. least p (from p t)
least_pair_same S T (Some r) to from least = (to r least.0, λ p t. least.1 p (from p t))

pub place_of_arrows : (joined : Joins) (c d : List ℕ) (r : Option (ℕ × ℕ))
    → IsLeastPair (λ p. IsArrow joined c d p ⊎ IsArrow joined d c p) r → IsPlaceIn joined c d r
place_of_arrows joined c d r least =
    least_pair_same (λ p. IsArrow joined c d p ⊎ IsArrow joined d c p) (IsCrossing joined c d) r
    (λ p x. grind (arith, nat_tests)) (λ p x. grind (arith, nat_tests)) least

none_some : (p : ℕ × ℕ) → None ≡ Some p → ⊥
none_some p e = absurd cc

-- ---- least pairs

pub before_self : (p : ℕ × ℕ) → IsBefore p p
before_self p = inr (refl, omega arith)

least_self : (x : Option (ℕ × ℕ)) → IsLeastPair (λ p. x ≡ Some p) x
least_self None = λ p e. none_some p e
least_self (Some x) = (refl, λ q e. subst (IsBefore x) (same_Some x q e) (before_self x))

-- the least of what x is the least of, and of more
least_pair_more : (S U : ℕ × ℕ → Type 0) (x r : Option (ℕ × ℕ)) → IsLeastPair S x
    → IsLeastPair (λ p. (x ≡ Some p) ⊎ U p) r → IsLeastPair (λ p. S p ⊎ U p) r
least_pair_more S U None None s n = λ p. elim [
  | inl a ↦ s p a
  | inr b ↦ n p (inr b)
]
least_pair_more S U (Some x) None s n = absurd (n x (inl refl))
least_pair_more S U None (Some r) s n =
    (grind (arith, nat_tests), λ q w. let low = n.1 q in let none = s q in grind (arith, nat_tests))
least_pair_more S U (Some x) (Some r) s n =
    let first = before_trans r x in
    (grind (arith, nat_tests), λ q w. let low = n.1 q in let this = s.1 q in let that = n.1 x in grind (arith, nat_tests))

-- for each of the pairs there is one of the others that is not greater
least_pair_lesser : (S T : ℕ × ℕ → Type 0) (r : Option (ℕ × ℕ)) → ((p : ℕ × ℕ) → S p → T p)
    → ((p : ℕ × ℕ) → T p → (q : ℕ × ℕ) × S q × IsBefore q p) → IsLeastPair S r → IsLeastPair T r
least_pair_lesser S T None to from least = λ p t. let x = from p t in least x.0 x.1
least_pair_lesser S T (Some r) to from least =
    (to r least.0, λ p t. let x = from p t in before_trans r x.0 p (least.1 x.0 x.1) x.2)

-- ---- notes

pub notes_lesser : (T U : ℕ → ℕ × ℕ → Type 0) (xs ys : List (Option (ℕ × ℕ))) → ((v : ℕ) (p : ℕ × ℕ)
    → v < length xs → T v p → U v p) → ((v : ℕ) (p : ℕ × ℕ) → v < length xs → U v p
    → (q : ℕ × ℕ) × ((noted_at xs v ≡ Some q) ⊎ T v q) × IsBefore q p) → Notes T xs ys
    → Notes U xs ys
notes_lesser T U xs ys to from notes = record {
  same = notes.same;
  each = λ v low. least_pair_lesser (λ p. (noted_at xs v ≡ Some p) ⊎ T v p)
      (λ p. (noted_at xs v ≡ Some p) ⊎ U v p) (noted_at ys v)
      (λ p w. let more = to v p low in grind (arith, nat_tests)) (λ p. elim [
        | inl e ↦ (p, inl e, before_self p)
        | inr u ↦ from v p low u
      ]) (notes.each v low);
}

pub notes_same : (T U : ℕ → ℕ × ℕ → Type 0) (xs ys : List (Option (ℕ × ℕ)))
    → ((v : ℕ) (p : ℕ × ℕ) → v < length xs → T v p → U v p)
    → ((v : ℕ) (p : ℕ × ℕ) → v < length xs → U v p → T v p) → Notes T xs ys → Notes U xs ys
notes_same T U xs ys to from notes =
    notes_lesser T U xs ys to (λ v p low u. (p, inr (from v p low u), before_self p)) notes

-- nothing new
pub notes_none : (T : ℕ → ℕ × ℕ → Type 0) (xs : List (Option (ℕ × ℕ)))
    → ((v : ℕ) (p : ℕ × ℕ) → v < length xs → T v p → ⊥) → Notes T xs xs
notes_none T xs none = record {
  same = refl;
  each = λ v low. least_pair_same (λ p. noted_at xs v ≡ Some p)
      (λ p. (noted_at xs v ≡ Some p) ⊎ T v p) (noted_at xs v) (λ p e. inl e)
      (λ p w. let t = none v p low in grind (arith, nat_tests)) (least_self (noted_at xs v));
}

-- one after the other
pub notes_both : (T U : ℕ → ℕ × ℕ → Type 0) (xs ys zs : List (Option (ℕ × ℕ))) → Notes T xs ys
    → Notes U ys zs → Notes (λ v p. T v p ⊎ U v p) xs zs
notes_both T U xs ys zs one two = record {
  same = two.same ∙ one.same;
  each = λ v low. least_pair_same (λ p. ((noted_at xs v ≡ Some p) ⊎ T v p) ⊎ U v p)
      (λ p. (noted_at xs v ≡ Some p) ⊎ (T v p ⊎ U v p)) (noted_at zs v)
      (λ p w. grind (arith, nat_tests)) (λ p w. grind (arith, nat_tests))
      (least_pair_more (λ p. (noted_at xs v ≡ Some p) ⊎ T v p) (U v) (noted_at ys v)
      (noted_at zs v) (one.each v low) (two.each v (omega (arith, low, one.same))));
}

-- where nothing was noted before, what is noted is the least of what is new
pub least_of_notes : (T : ℕ → ℕ × ℕ → Type 0) (xs ys : List (Option (ℕ × ℕ))) → Notes T xs ys
    → (v : ℕ) → v < length xs → noted_at xs v ≡ None → IsLeastPair (T v) (noted_at ys v)
least_of_notes T xs ys notes v low none =
    least_pair_same (λ p. (noted_at xs v ≡ Some p) ⊎ T v p) (T v) (noted_at ys v)
    (λ p w. grind (arith, nat_tests)) (λ p t. inr t) (notes.each v low)

-- ---- the two qubits of a join

pub ordered_up : (a b : ℕ) → a < b → ordered a b ≡ (a, b)
ordered_up a b less = grind (arith, nat_tests)

pub ordered_down : (a b : ℕ) → b < a → ordered a b ≡ (b, a)
ordered_down a b less = grind (arith, nat_tests)

pub crossing_at : (joined : Joins) (c d : List ℕ) (a b : ℕ) → joined a b ≡ joined b a
    → joined a a ≡ false → is_in c a ≡ true → is_in d b ≡ true → joined a b ≡ true
    → IsCrossing joined c d (ordered a b)
crossing_at joined c d a b back self in_c in_d linked = elim (cases_lt a b) [
  | inl up ↦ grind (arith, nat_tests)
  | inr le ↦ grind (arith, nat_tests, cases_eq a b)
]

-- the joins of a chain to a later node are what crosses between their two chains
pub noted_place : (joined : Joins) (chains : List (List ℕ)) (owners : List ℕ) (node v : ℕ)
    (r : Option (ℕ × ℕ)) → ((a b : ℕ) → joined a b ≡ joined b a) → ((a : ℕ) → joined a a ≡ false)
    → AreOwners chains owners → node < v → v < length chains
    → ((j : ℕ) → j < length (chain_of chains v) → qubit_at (chain_of chains v) j < length owners)
    → IsLeastPair (IsChainJoin joined owners node (chain_of chains node) (length (chain_of chains node)) v) r
    → IsPlaceIn joined (chain_of chains node) (chain_of chains v) r
noted_place joined chains owners node v r symmetric irreflexive own later below within =
    least_pair_same (IsChainJoin joined owners node c (length c) v) (IsCrossing joined c d) r to from
  where
    c : List ℕ
    c = chain_of chains node

    d : List ℕ
    d = chain_of chains v

    to : (p : ℕ × ℕ) → IsChainJoin joined owners node c (length c) v p → IsCrossing joined c d p
    to p x =
        let join = x.2.1 in
        rw join.pair (crossing_at joined c d (qubit_at c x.0) x.2.0 (symmetric _ _) (irreflexive _)
        (is_in_at c x.0 _ x.1 refl) (own.owned v x.2.0 below join.below join.owner) join.linked)

    join : (a b : ℕ) (p : ℕ × ℕ) → is_in c a ≡ true → is_in d b ≡ true → joined a b ≡ true
        → p ≡ ordered a b → IsChainJoin joined owners node c (length c) v p
    join a b p in_c in_d linked pair =
        let i = at_of_in c a in_c in
        let k = at_of_in d b in_d in
        let small = within k.0 k.1 in (
          i.0,
          i.1,
          (
            b,
            record {
              below = omega (arith, small, k.2);
              owner = own.inside v b below in_d;
              later = later;
              linked = rw i.2 linked;
              pair = rw i.2 pair;
            },
          ),
        )

    from : (p : ℕ × ℕ) → IsCrossing joined c d p → IsChainJoin joined owners node c (length c) v p
    from p x = elim (or_cases (is_in c p.0 && is_in d p.1) (is_in d p.0 && is_in c p.1) x.between.ends) [
      | inl h ↦
          let e = and_parts _ _ h in
          join p.0 p.1 p e.0 e.1 x.linked (sym (ordered_up p.0 p.1 x.between.upward))
      | inr h ↦
          let e = and_parts _ _ h in
          join p.1 p.0 p e.1 e.0 (symmetric p.1 p.0 ∙ x.linked)
          (sym (ordered_down p.1 p.0 x.between.upward))
    ]

-- ---- marks

abbrev pub no_mark : Mark
no_mark = record { turn = 0; from = 0; to = 0 }

-- a mark of an earlier turn says nothing
pub cleared : (turn : ℕ) (marks : List Mark) (v : ℕ) → v < length marks
    → ((i : ℕ) (d : Mark) → i < length marks → (get_or marks i d).turn < turn)
    → noted_at (map (marked_pair turn) marks) v ≡ None
cleared turn marks v below earlier =
    let before = earlier v no_mark below in
    let is = get_or-map (marked_pair turn) marks v no_mark None below in
    grind (arith, nat_tests)

-- a pair that is not above what was noted takes its place
pub put_new : (turn : ℕ) (marks : List Mark) (node : ℕ) (m : Mark) → node < length marks → m.turn
    ≡ turn → ((p : ℕ × ℕ) → marked_pair turn (get_or marks node no_mark) ≡ Some p
    → IsBefore (m.from, m.to) p) → Notes (λ v p. (v ≡ node) × (p ≡ (m.from, m.to)))
    (map (marked_pair turn) marks) (map (marked_pair turn) (set marks node m))
put_new turn marks node m below now before = record {
  same = length-map (set marks node m) (marked_pair turn) ∙ length-set marks node m
      ∙ sym (length-map marks (marked_pair turn));
  each = λ v low.
      let less : v < length marks = omega (arith, low, length-map marks (marked_pair turn)) in
      let less' : v < length (set marks node m) = omega (arith, less, length-set marks node m) in
      let was = get_or-map (marked_pair turn) marks v no_mark None less in
      let is = get_or-map (marked_pair turn) (set marks node m) v no_mark None less' in
      let here = get_or-set_same marks node m no_mark below in
      let there = get_or-set_other marks node v m no_mark in
      let self = before_self (m.from, m.to) in
      elim (cases_eq v node) [
        | inl e ↦
            let noted : noted_at (map (marked_pair turn) (set marks node m)) v ≡ Some (m.from, m.to) = grind (arith, nat_tests) in
            rw noted (inr (e, refl), λ q w. let low = before q in grind (arith, nat_tests))
        | inr e ↦
            rw (is, there e, ← was)
            (least_pair_same (λ p. noted_at (map (marked_pair turn) marks) v ≡ Some p)
            (λ p. (noted_at (map (marked_pair turn) marks) v ≡ Some p) ⊎ ((v ≡ node) × (p ≡ (m.from, m.to)))) _ (λ p s. inl s)
            (λ p w. grind (arith, nat_tests)) (least_self _))
      ];
}

-- a pair that is not below what was noted changes nothing
pub put_old : (turn : ℕ) (marks : List Mark) (node : ℕ) (p m : ℕ × ℕ) → node < length marks
    → marked_pair turn (get_or marks node no_mark) ≡ Some m → IsBefore m p
    → Notes (λ v q. (v ≡ node) × (q ≡ p)) (map (marked_pair turn) marks) (map (marked_pair turn) marks)
put_old turn marks node p m below noted before = record {
  same = refl;
  each = λ v low. elim (cases_eq v node) [
    | inl e ↦
        let was : noted_at (map (marked_pair turn) marks) v ≡ Some m =
        rw e (get_or-map (marked_pair turn) marks node no_mark None below ∙ noted) in
        let self = before_self m in
        rw was (inl refl, λ q w. grind (arith, nat_tests))
    | inr e ↦ least_pair_same (λ q. noted_at (map (marked_pair turn) marks) v ≡ Some q)
        (λ q. (noted_at (map (marked_pair turn) marks) v ≡ Some q) ⊎ ((v ≡ node) × (q ≡ p))) _
        (λ q s. inl s) (λ q w. grind (arith, nat_tests)) (least_self _)
  ];
}

-- what is noted is not greater than what was new or noted before
least_before : (S : ℕ × ℕ → Type 0) (r : Option (ℕ × ℕ)) (p : ℕ × ℕ) → IsLeastPair S r → S p
    → (q : ℕ × ℕ) × (r ≡ Some q) × IsBefore q p
least_before S None p least s = absurd (least p s)
least_before S (Some q) p least s = (q, refl, least.1 p s)

pub noted_before : (T : ℕ → ℕ × ℕ → Type 0) (xs ys : List (Option (ℕ × ℕ))) (v : ℕ) (p : ℕ × ℕ)
    → Notes T xs ys → v < length xs → (noted_at xs v ≡ Some p) ⊎ T v p
    → (q : ℕ × ℕ) × (noted_at ys v ≡ Some q) × IsBefore q p
noted_before T xs ys v p notes low new =
    least_before (λ r. (noted_at xs v ≡ Some r) ⊎ T v r) (noted_at ys v) p (notes.each v low) new

pub noted_to_more : (T : ℕ → ℕ × ℕ → Type 0) (xs ys : List (Option (ℕ × ℕ))) (owners : List ℕ)
    (node a : ℕ) (Here : ℕ → Type 0) → Notes T xs ys → AreNotedTo xs owners node a Here
    → AreNotedTo ys owners node a Here
noted_to_more T xs ys owners node a Here notes noted = λ c here below later low.
    let low' : _ < length xs = omega (arith, low, notes.same) in
    let x = noted c here below later low' in
    let y = noted_before T xs ys _ x.0 notes low' (inl x.1) in
    (y.0, y.1, before_trans y.0 x.0 (ordered a c) y.2 x.2)

pub noted_from_more : (T : ℕ → ℕ × ℕ → Type 0) (xs ys : List (Option (ℕ × ℕ))) (owners : List ℕ)
    (node a : ℕ) (span : Span) → Notes T xs ys → AreNotedFrom xs owners node a span
    → AreNotedFrom ys owners node a span
noted_from_more T xs ys owners node a span notes noted = λ b after.
    noted_to_more T xs ys owners node b (IsFaced span) notes (noted b after)

pub done_later : (T : ℕ → ℕ × ℕ → Type 0) (owners : List ℕ) (node : ℕ) (xs ys : List (Option (ℕ × ℕ)))
    → Notes T xs ys → (done : Option (ℕ × Span))
    → IfSome done (λ p. AreNotedFrom xs owners node p.0 p.1)
    → IfSome done (λ p. AreNotedFrom ys owners node p.0 p.1)
done_later T owners node xs ys notes None noted = noted
done_later T owners node xs ys notes (Some p) noted =
    noted_from_more T xs ys owners node p.0 p.1 notes noted

-- ---- the pair of two qubits

-- with a greater second qubit, and with a greater first one, it is not less
after_up : (a b c : ℕ) → b ≤ c → (a < b) ⊎ (b ≤ a) → (a < c) ⊎ (c ≤ a)
    → IsBefore (ordered a b) (ordered a c)
after_up a b c more first second = grind (arith, nat_tests)

pub ordered_after : (a b c : ℕ) → b ≤ c → IsBefore (ordered a b) (ordered a c)
ordered_after a b c more = after_up a b c more (cases_lt a b) (cases_lt a c)

pub ordered_later : (a b c : ℕ) → a ≤ b → IsBefore (ordered a c) (ordered b c)
ordered_later a b c more = grind (arith, nat_tests)

-- ---- the joins to a span, run after run

-- the joins to numbers of a span below some number
abbrev pub IsJoinBelow : Joins → List ℕ → ℕ → ℕ → Span → ℕ → ℕ → ℕ × ℕ → Type 0
IsJoinBelow joined owners node a span n v p =
    (b : ℕ) × IsFaced span b × (b < n) × IsJoin joined owners node a b v p

pub span_more : (joined : Joins) (owners : List ℕ) (node a : ℕ) (span : Span) (b end : ℕ)
    (xs ys zs : List (Option (ℕ × ℕ))) → span.start ≤ b → b < end → (end ≤ span.end)
    → Notes (IsJoinBelow joined owners node a span b) xs ys
    → Notes (IsRunJoin joined owners node a b end) ys zs
    → Notes (IsJoinBelow joined owners node a span end) xs zs
span_more joined owners node a span b end xs ys zs from after within old new =
    notes_same
    (λ v p. IsJoinBelow joined owners node a span b v p ⊎ IsRunJoin joined owners node a b end v p)
    (IsJoinBelow joined owners node a span end) xs zs (λ v p low. elim [
      | inl x ↦ (x.0, x.1, omega (arith, x.2, after), x.3)
      | inr x ↦ (x.0, record { from = omega (arith, from, x.1); below = omega (arith, x.2, within) }, x.2, x.3)
    ]) (λ v p low x. elim (cases_lt x.0 b) [
      | inl less ↦ inl (x.0, x.1, less, x.3)
      | inr more ↦ inr (x.0, more, x.2, x.3)
    ]) (notes_both (IsJoinBelow joined owners node a span b) (IsRunJoin joined owners node a b end)
    xs ys zs old new)

-- what is noted goes on from run to run
pub done_more : (T : ℕ → ℕ × ℕ → Type 0) (owners : List ℕ) (node a : ℕ) (span : Span) (b end : ℕ)
    (xs ys : List (Option (ℕ × ℕ))) → Notes T xs ys
    → AreNotedTo xs owners node a (λ c. IsFaced span c × (c < b))
    → AreNotedTo ys owners node a (λ c. (b ≤ c) × (c < end))
    → AreNotedTo ys owners node a (λ c. IsFaced span c × (c < end))
done_more T owners node a span b end xs ys notes old new = λ c here below later low.
    elim (cases_lt c b) [
      | inl less ↦ noted_to_more T xs ys owners node a (λ x. IsFaced span x × (x < b)) notes old c
          (here.0, less) below later low
      | inr more ↦ new c (more, here.1) below later low
    ]

-- once the span is done for a, it is for each later qubit
pub done_all : (owners : List ℕ) (node a : ℕ) (span : Span) (end : ℕ) (xs : List (Option (ℕ × ℕ)))
    (b : ℕ) → a ≤ b → ((c : ℕ) → IsFaced span c → c < length owners → c < end)
    → AreNotedTo xs owners node a (λ c. IsFaced span c × (c < end))
    → AreNotedTo xs owners node b (IsFaced span)
done_all owners node a span end xs b after all noted = λ c here below later low.
    let x = noted c (here, all c here below) below later low in
    (x.0, x.1, before_trans x.0 (ordered a c) (ordered b c) x.2 (ordered_later a b c after))

-- the joins of a qubit to a span that is done for a lesser one are not less than what is noted
pub span_done : (joined : Joins) (owners : List ℕ) (node a b : ℕ) (span : Span)
    (xs : List (Option (ℕ × ℕ))) → a ≤ b → AreNotedFrom xs owners node a span
    → Notes (IsSpanJoin joined owners node b span) xs xs
span_done joined owners node a b span xs after done =
    notes_lesser (λ v p. ⊥) (IsSpanJoin joined owners node b span) xs xs (λ v p low x. absurd x)
    (λ v p low s.
    let owner = s.2.owner in
    let x = done b after s.0 s.1 s.2.below (omega (arith, owner, s.2.later)) (omega (arith, owner, low)) in
    (x.0, inl (subst (λ w. noted_at xs w ≡ Some x.0) owner x.1), rw s.2.pair x.2))
    (notes_none (λ v p. ⊥) xs (λ v p low x. x))
