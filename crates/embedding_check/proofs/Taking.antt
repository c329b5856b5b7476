-- What one qubit and what a level takes: nothing at first, one position more, one qubit more.
use Rattle.embedding_check.proofs.Common.{Others, IsOneOf, waiting}
use Rattle.embedding_check.proofs.Common.{nat_tests, ◌≡◌, ℕ, ◌+◌, ◌<◌, ◌≤◌, inl, inr, Bool, true, false, List, [], ◌∷◌, length, if◌then◌else◌, sym, ap, ◌∙◌, arith, cases_eq, get_or-set_same, get_or-set_other, length-set, length-append, Contains-append_left, Contains-push, Contains-push_cases, sum_by-set, Option, Some, Span, CanBeJoined, Joins, Found, waits_at, parent_at, qubit_at, taken, Moves, Takes, Spreads, IsFirst, LevelTakes, clash, cases_Bool, IsDone, below_more}

-- ---- one position

waits_taken : (s : Found) (i j q : ℕ) → i < length s.waits → j ≡ i → waits_at (taken s i q) j ≡ false
waits_taken s i j q h e = rw e (get_or-set_same s.waits i false false h)

waits_other : (s : Found) (i j q : ℕ) → (j ≡ i → ⊥) → waits_at (taken s i q) j ≡ waits_at s j
waits_other s i j q e = get_or-set_other s.waits i j false false e

moves_taken : (count : ℕ) (s : Found) (i q : ℕ) → i < length s.waits → i < count
    → waits_at s i ≡ true → Moves count s (taken s i q)
moves_taken count s i q h below waits = record {
  waits = length-set s.waits i false;
  parents = length-set s.parents i q;
  listed = λ j in'.
      let place = Contains-push_cases s.next i j in' in
      let here = waits_taken s i j q h in
      grind (arith, nat_tests);
  keeps = λ j in'. Contains-append_left s.next (i ∷ []) j in';
  lists = λ j low is not.
      let there = waits_other s i j q in
      let last = Contains-push s.next i in
      grind (arith, nat_tests);
  counted =
      let sum = sum_by-set (λ (b : Bool). if b then 1 else 0) s.waits i false false h in
      omega (arith, sum, ap {B = ℕ} (λ (b : Bool). if b then 1 else 0) waits, length-append s.next (i ∷ []));
}

pub takes_one : (joined : Joins) (qs : List ℕ) (q : ℕ) (s : Found) (i : ℕ) → i < length qs
    → length s.waits ≡ length qs → length s.parents ≡ length qs → waits_at s i ≡ true
    → joined q (qubit_at qs i) ≡ true → Takes joined qs q s (taken s i q)
takes_one joined qs q s i below waits_len parents_len waits linked =
    let inside : i < length s.waits = omega (arith, below, waits_len) in
    record {
      moves = moves_taken (length qs) s i q inside below waits;
      each = λ j low.
          let here = waits_taken s i j q inside in
          let there = waits_other s i j q in
          let same = get_or-set_same s.parents i q 0 (omega (arith, below, parents_len)) in
          let other = get_or-set_other s.parents i j q 0 in
          grind (arith, nat_tests);
    }

-- ---- one qubit of the level more

moves_both : (count : ℕ) (s t u : Found) → Moves count s t → Moves count t u → ((i : ℕ) → i < count
    → waits_at t i ≡ true → waits_at s i ≡ true) → ((i : ℕ) → i < count → waits_at t i ≡ false
    → waits_at u i ≡ false) → Moves count s u
moves_both count s t u a b down stay = record {
  waits = b.waits ∙ a.waits;
  parents = b.parents ∙ a.parents;
  listed = λ i h.
      let before = a.listed i in
      let last = b.listed i h in
      let up = down i in
      let stays = stay i in
      grind (arith, nat_tests);
  keeps = λ i h. b.keeps i (a.keeps i h);
  lists = λ i h is not. elim (cases_Bool (waits_at t i)) [
    | inl waits ↦ b.lists i h waits not
    | inr gone ↦ b.keeps i (a.lists i h is gone)
  ];
  counted = omega (arith, a.counted, b.counted);
}

first_more : (joined : Joins) (qs level : List ℕ) (n : ℕ) (t u : Found) (i m : ℕ)
    → parent_at u i ≡ parent_at t i → IsFirst joined qs level n t i m → IsFirst joined qs level (n + 1) u i m
first_more joined qs level n t u i m same f = record {
  below = omega (arith, f.below);
  parent = same ∙ f.parent;
  linked = f.linked;
  before = f.before;
}

pub level_more : (joined : Joins) (qs level : List ℕ) (n : ℕ) (s t u : Found)
    → LevelTakes joined qs level n s t → Spreads joined qs (qubit_at qs (qubit_at level n)) t u
    → LevelTakes joined qs level (n + 1) s u
level_more joined qs level n s t u so_far step = record {
  moves = moves_both (length qs) s t u so_far.moves step.takes.moves
      (λ i h is. let old = so_far.each i h in grind (arith, nat_tests))
      (λ i h not. let new = step.takes.each i h in grind (arith, nat_tests));
  each = λ i h. elim (so_far.each i h) [
    | inl rests ↦ elim (step.takes.each i h) [
      | inl stays ↦ inl (record {
        stays = record { waits = stays.waits ∙ rests.stays.waits; parent = stays.parent ∙ rests.stays.parent };
        alone = λ w. below_more (λ m. joined (qubit_at qs (qubit_at level m)) (qubit_at qs i) ≡ false) n
            (rests.alone (sym stays.waits ∙ w)) (step.all i h w);
      })
      | inr took ↦
          let first : IsFirst joined qs level (n + 1) u i n = record { below = omega arith; parent = took.parent; linked = took.linked; before = rests.alone took.waited } in
          inr (record { waited = sym rests.stays.waits ∙ took.waited; reached = took.reached; from = (n, first) })
    ]
    | inr reached ↦ elim (step.takes.each i h) [
      | inl stays ↦
          let first = first_more joined qs level n t u i reached.from.0 stays.parent reached.from.1 in
          inr (record { waited = reached.waited; reached = stays.waits ∙ reached.reached; from = (reached.from.0, first) })
      | inr took ↦ clash _ took.waited reached.reached
    ]
  ];
}

-- ---- two steps

waits_before : (joined : Joins) (qs : List ℕ) (q : ℕ) (s t : Found) (i : ℕ) → Takes joined qs q s t
    → i < length qs → waits_at t i ≡ true → waits_at s i ≡ true
waits_before joined qs q s t i takes h is = let each = takes.each i h in grind (arith, nat_tests)

pub takes_both : (joined : Joins) (qs : List ℕ) (q : ℕ) (s t u : Found) → Takes joined qs q s t
    → Takes joined qs q t u → Takes joined qs q s u
takes_both joined qs q s t u a b = record {
  moves = moves_both (length qs) s t u a.moves b.moves
      (λ i h is. waits_before joined qs q s t i a h is)
      (λ i h not. let new = b.each i h in grind (arith, nat_tests));
  each = λ i h.
      let old = a.each i h in
      let new = b.each i h in
      grind (arith, nat_tests);
}

-- ---- a span

-- what is passed after one more position, up to the next one that waits
pub span_more : (joined : Joins) (qs : List ℕ) (q from at next : ℕ) (t u : Found)
    → ((i : ℕ) → from ≤ i → i < at → waits_at t i ≡ true → joined q (qubit_at qs i) ≡ false)
    → Takes joined qs q t u → (waits_at u at ≡ true → joined q (qubit_at qs at) ≡ false)
    → ((k : ℕ) → at + 1 ≤ k → k < next → waits_at u k ≡ false) → next ≤ length qs
    → (i : ℕ) → from ≤ i → i < next → waits_at u i ≡ true → joined q (qubit_at qs i) ≡ false
span_more joined qs q from at next t u so_far step here quiet end i low high is =
    let old = so_far i low in
    let before = waits_before joined qs q t u i step in
    let past = quiet i in
    grind (arith, nat_tests, cases_eq i at)

-- ---- one number

pub rising_once : (qs : List ℕ) → ((i j : ℕ) → i < j → j < length qs → qubit_at qs i < qubit_at qs j)
    → (i j : ℕ) → i < length qs → j < length qs → qubit_at qs i ≡ qubit_at qs j → i ≡ j
rising_once qs rising i j below_i below_j same =
    let up = rising i j in
    let down = rising j i in
    grind (arith, nat_tests, cases_eq i j)

pub rising_weak : (qs : List ℕ) → ((i j : ℕ) → i < j → j < length qs → qubit_at qs i < qubit_at qs j)
    → (i j : ℕ) → i ≤ j → j < length qs → qubit_at qs i ≤ qubit_at qs j
rising_weak qs rising i j le below = let up = rising i j in grind (arith, nat_tests, cases_eq i j)

-- ---- all that one qubit is joined to

-- what q is done with it stays done with
pub done_stays : (joined : Joins) (qs : List ℕ) (q : ℕ) (s t : Found) (i : ℕ) → Takes joined qs q s t
    → i < length qs → IsDone joined qs q s i → IsDone joined qs q t i
done_stays joined qs q s t i takes h done = λ is. done (waits_before joined qs q s t i takes h is)

-- nothing is taken
pub takes_none : (joined : Joins) (qs : List ℕ) (q : ℕ) (s : Found) → Takes joined qs q s s
takes_none joined qs q s = record {
  moves = record {
    waits = λ i. length s.waits;
    parents = λ i. length s.parents;
    listed = λ i c. inl c;
    keeps = λ i c. c;
    lists = λ i h is not. absurd cc;
    counted = λ i. waiting s + length s.next;
  };
  each = λ i h. inl (record { waits = λ j. waits_at s i; parent = λ j. parent_at s i });
}

pub spreads : (joined : Joins) (qs : List ℕ) (q from : ℕ) (span : Span) (others : Others) (other : ℕ → ℕ) (s t u : Found)
    → ((i : ℕ) → i < from → qubit_at qs i < span.start) → Takes joined qs q s t
    → ((i : ℕ) → from ≤ i → i < length qs → qubit_at qs i < span.end → IsDone joined qs q t i) → Takes joined qs q t u
    → ((i : ℕ) → i < length qs → IsOneOf others other (qubit_at qs i) → IsDone joined qs q u i)
    → ((i : ℕ) → i < length qs → joined q (qubit_at qs i) ≡ true → CanBeJoined span others other (qubit_at qs i))
    → Spreads joined qs q s u
spreads joined qs q from span others other s t u start one span_done two others_done findable = record {
  takes = takes_both joined qs q s t u one two;
  all = λ i h is. elim (cases_Bool (joined q (qubit_at qs i))) [
    | inl linked ↦ elim (findable i h linked) [
      | inl faced ↦
          let is_t = waits_before joined qs q t u i two h is in
          let low = start i in
          span_done i (grind (arith, nat_tests)) h faced.below is_t
      | inr is_one ↦ others_done i h is_one is
    ]
    | inr apart ↦ apart
  ];
}
