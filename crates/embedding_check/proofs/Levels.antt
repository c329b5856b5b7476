-- Levels against walks: the distance of a qubit is its level, and the first of the level before that is
-- joined to it is its parent.
use Rattle.embedding_check.proofs.Common.{nat_tests, ◌≡◌, ℕ, zero, suc, ◌<◌, ◌≤◌, inl, inr, true, false, List, [], ◌∷◌, ◌++◌, length, refl, sym, ap, subst, ◌∙◌, arith, Contains, cases_eq, cases_lt, length-append, get_or_default_zero, Contains-get_or, Joins, is_in, first_of, IsWalk, end_of, WalksTo, HasDistance, IsParent, Found, waits_at, parent_at, qubit_at, NoneJoined, IsFirst, LevelTakes, IsSortedChain, IsSearched, IsWithin, AtLevel, emptied, clash, cases_Bool}
use Rattle.embedding_check.proofs.Taking.{rising_once, rising_weak}
use Rattle.embedding_check.proofs.Checked.{one_distance, nearest}

-- ---- walks and their last join

walk_on : (joined : Joins) (chain : List ℕ) (from q : ℕ) (steps : List ℕ) → IsWalk joined chain from steps
    → is_in chain q ≡ true → joined (end_of from steps) q ≡ true
    → IsWalk joined chain from (steps ++ (q ∷ []))
walk_on joined chain from q [] walk inside linked = (inside, linked, tt)
walk_on joined chain from q (p ∷ ps) walk inside linked =
    (walk.0, walk.1, walk_on joined chain p q ps walk.2 inside linked)

end_on : (from q : ℕ) (steps : List ℕ) → end_of from (steps ++ (q ∷ [])) ≡ q
end_on from q [] = refl
end_on from q (p ∷ ps) = end_on p q ps

-- one more join
pub further : (joined : Joins) (chain : List ℕ) (p q : ℕ) (steps : List ℕ) → WalksTo joined chain p steps
    → is_in chain q ≡ true → joined p q ≡ true → WalksTo joined chain q (steps ++ (q ∷ []))
further joined chain p q steps w inside linked = record {
  walk = walk_on joined chain (first_of chain) q steps w.walk inside (rw w.ends linked);
  ends = end_on (first_of chain) q steps;
}

-- the last join of a walk: the qubit of the chain before it, and the walk to that
record LastJoin (joined : Joins) (chain : List ℕ) (from q n : ℕ) : Type 0 where
  before : ℕ
  steps : List ℕ
  walk : IsWalk joined chain from steps
  ends : end_of from steps ≡ before
  short : length steps ≡ n
  linked : joined before q ≡ true
  inside : is_in chain before ≡ true

last_join : (joined : Joins) (chain : List ℕ) (from q n : ℕ) (steps : List ℕ)
    → is_in chain from ≡ true → IsWalk joined chain from steps → end_of from steps ≡ q
    → length steps ≡ suc n → LastJoin joined chain from q n
last_join joined chain from q n [] first walk ends long = absurd (omega (arith, long))
last_join joined chain from q n (p ∷ []) first walk ends long =
    let linked : joined from q ≡ true = rw (← ends) walk.1 in
    record { before = from; steps = []; walk = tt; ends = refl; short = omega (arith, long); linked = linked; inside = first }
last_join joined chain from q zero (p ∷ r ∷ rs) first walk ends long = absurd (omega (arith, long))
last_join joined chain from q (suc n) (p ∷ r ∷ rs) first walk ends long =
    let last = last_join joined chain p q n (r ∷ rs) walk.0 walk.2 ends (omega (arith, long)) in
    record {
      before = last.before;
      steps = p ∷ last.steps;
      walk = (walk.0, walk.1, last.walk);
      ends = last.ends;
      short = omega (arith, last.short);
      linked = last.linked;
      inside = last.inside;
    }

-- ---- from one level to the next

module _ (joined : Joins) (chain qs level : List ℕ) (d : ℕ) (s : Found)
    (sorted : IsSortedChain chain qs) (at : AtLevel joined chain qs level d s) where
  -- the qubit before a waiting one at d + 1 joins is in the level
  before_in_level : (i : ℕ) → i < length qs → waits_at s i ≡ true
      → (p : LastJoin joined chain (first_of chain) (qubit_at qs i) d)
      → (j : ℕ) × Contains level j × (j < length qs) × (qubit_at qs j ≡ p.before)
  before_in_level i below waits p =
      let here = sorted.found p.before p.inside in
      let inside = sorted.inside i below in
      let distance : HasDistance joined chain p.before d = record {
        reached = (p.steps, record { walk = p.walk; ends = p.ends }, p.short);
        least = λ steps w.
            let longer = at.far i below waits (steps ++ (qubit_at qs i ∷ [])) (further joined chain p.before (qubit_at qs i) steps w inside p.linked) in
            omega (arith, longer, length-append steps (qubit_at qs i ∷ []));
      } in
      (here.0, at.all here.0 here.1 (rw here.2 distance), here.1, here.2)

  -- what still waits after a level is further than d + 1
  far_more : is_in chain (first_of chain) ≡ true → (i : ℕ) → i < length qs → waits_at s i ≡ true
      → NoneJoined joined qs level (length level) i → (steps : List ℕ)
      → WalksTo joined chain (qubit_at qs i) steps → suc d < length steps
  far_more first i below waits alone steps w = elim (cases_eq (length steps) (suc d)) [
    | inr e ↦ omega (arith, at.far i below waits steps w, e)
    | inl e ↦
        let p = last_join joined chain _ (qubit_at qs i) d steps first w.walk w.ends e in
        let here = before_in_level i below waits p in
        let none = alone here.1.0 here.1.1 in
        let at_m = get_or_default_zero level here.1.0 here.0 here.1.1 in
        clash _ p.linked (cc (at_m, here.1.2, here.3, none))
  ]

  near_more : (t : Found) → LevelTakes joined qs level (length level) s t → (i : ℕ) → i < length qs
      → waits_at t i ≡ false → IsWithin joined chain (suc d) (qubit_at qs i)
  near_more t takes i below not = elim (takes.each i below) [
    | inl rests ↦ let w = at.near i below (sym rests.stays.waits ∙ not) in (w.0, w.1, omega (arith, w.2))
    | inr reached ↦
        let f = reached.from.1 in
        let there = at.here (qubit_at level reached.from.0) (Contains-get_or level reached.from.0 0 f.below) in
        let w = there.1.reached in (
          w.0 ++ (qubit_at qs i ∷ []),
          further joined chain (qubit_at qs (qubit_at level reached.from.0)) (qubit_at qs i) w.0 w.1 (sorted.inside i below) f.linked,
          omega (arith, w.2, length-append w.0 (qubit_at qs i ∷ [])),
        )
  ]

  far_next : (t : Found) → is_in chain (first_of chain) ≡ true
      → LevelTakes joined qs level (length level) s t → (i : ℕ) → i < length qs
      → waits_at t i ≡ true → (steps : List ℕ) → WalksTo joined chain (qubit_at qs i) steps
      → suc d < length steps
  far_next t first takes i below is steps w = elim (takes.each i below) [
    | inl rests ↦ far_more first i below (sym rests.stays.waits ∙ is) (rests.alone is) steps w
    | inr reached ↦ absurd (clash _ is reached.reached)
  ]

  -- what was reached in this level has the distance d + 1
  new_distance : (t : Found) → LevelTakes joined qs level (length level) s t → (i : ℕ)
      → i < length qs → waits_at s i ≡ true → waits_at t i ≡ false
      → HasDistance joined chain (qubit_at qs i) (suc d)
  new_distance t takes i below is not =
      let w = near_more t takes i below not in
      record {
        reached = (w.0, w.1, omega (arith, w.2, at.far i below is w.0 w.1));
        least = λ steps walk. omega (arith, at.far i below is steps walk);
      }

  first_is_parent : (t : Found) (i m : ℕ) → ((i j : ℕ) → i ≤ j → j < length level → qubit_at level i
      ≤ qubit_at level j) → i < length qs → HasDistance joined chain (qubit_at qs i) (suc d)
      → IsFirst joined qs level (length level) t i m → IsParent joined chain (qubit_at qs i)
      (parent_at t i)
  first_is_parent t i m rising below distance f =
      let there = at.here (qubit_at level m) (Contains-get_or level m 0 f.below) in
      rw f.parent (record {
        nearer = record {
          inside = sorted.inside (qubit_at level m) there.0;
          linked = f.linked;
          nearer = (d, there.1, distance);
        };
        least = λ r n.
            let e : n.nearer.0 ≡ d =
            omega (arith, one_distance joined chain _ _ _ n.nearer.2 distance) in
            let j = sorted.found r n.inside in
            let k = at.all j.0 j.1 (rw j.2 (rw e at n.nearer.1)) in
            let same : qubit_at level k.0 ≡ j.0 =
            sym (get_or_default_zero level k.0 j.0 k.1) ∙ k.2 in
            let same_qubit : qubit_at qs (qubit_at level k.0) ≡ r = ap (λ x. qubit_at qs x) same ∙ j.2 in
            let weak = rising_weak qs sorted.rising (qubit_at level m) (qubit_at level k.0) in
            let up = rising m k.0 in
            let low = f.before k.0 in
            elim (cases_lt k.0 m) [
              | inl less ↦ absurd (clash _ n.linked (rw same_qubit at (low less)))
              | inr more ↦ omega (arith, same_qubit, weak (up more k.1) (omega (arith, same, j.1)))
            ];
      })

  pub level_next : (next : List ℕ) (t : Found) → is_in chain (first_of chain) ≡ true → s.next ≡ []
      → ((i j : ℕ) → i ≤ j → j < length level → qubit_at level i ≤ qubit_at level j)
      → LevelTakes joined qs level (length level) s t
      → ((i : ℕ) → Contains next i → Contains t.next i)
      → ((i : ℕ) → Contains t.next i → Contains next i)
      → AtLevel joined chain qs next (suc d) (emptied t)
  level_next next t first empty rising takes from to =
      let far = far_next t first takes in
      let near = near_more t takes in
      let new = new_distance t takes in
      record {
        waits = takes.moves.waits ∙ at.waits;
        near = near;
        far = far;
        here = λ i in'. elim (takes.moves.listed i (from i in')) [
          | inl old ↦ absurd (omega (arith, old.1, ap (λ (xs : List ℕ). length xs) empty))
          | inr moved ↦ (moved.0, new i moved.0 moved.1 moved.2)
        ];
        all = λ i below distance.
            let w = at.near i below in
            let reached = distance.reached in
            elim (cases_Bool (waits_at s i)) [
              | inr gone ↦ absurd (omega (arith, (w gone).2, distance.least (w gone).0 (w gone).1))
              | inl is ↦ elim (cases_Bool (waits_at t i)) [
                | inl still ↦
                    absurd (omega (arith, reached.2, far i below still reached.0 reached.1))
                | inr gone ↦ to i (takes.moves.lists i below is gone)
              ]
            ];
        parent = λ i below not later. elim (takes.each i below) [
          | inl rests ↦
              rw rests.stays.parent (at.parent i below (sym rests.stays.waits ∙ not) later)
          | inr reached ↦
              first_is_parent t i reached.from.0 rising below
              (new i below reached.waited reached.reached) reached.from.1
        ];
      }

-- ---- the first level

one_in : (x i : ℕ) → Contains (x ∷ []) i → i ≡ x
one_in x i in' = grind (arith, nat_tests)

pub level_first : (joined : Joins) (chain qs : List ℕ) (s : Found) (at : ℕ) → IsSortedChain chain qs
    → length s.waits ≡ length qs → at < length qs → qubit_at qs at ≡ first_of chain → waits_at s at
    ≡ false → ((i : ℕ) → i < length qs → (i ≡ at → ⊥) → waits_at s i ≡ true)
    → AtLevel joined chain qs (at ∷ []) 0 s
level_first joined chain qs s at sorted len below is gone others =
    let here : (i : ℕ) → i < length qs → waits_at s i ≡ false → i ≡ at =
    λ i low not. let other = others i low in grind (arith, nat_tests, cases_eq i at) in
    record {
      waits = len;
      near = λ i low not. ([], record { walk = tt; ends = sym (rw (here i low not) is) }, omega arith);
      far = λ i low waits steps w. elim (cases_eq (length steps) 0) [
        | inr e ↦ omega (arith, e)
        | inl e ↦
            let e' = rising_once qs sorted.rising i at low below (nearest joined chain (qubit_at qs i) steps w e ∙ sym is) in
            absurd (clash _ waits (rw e' gone))
      ];
      here = λ i in'.
          let e = one_in at i in' in
          (rw e below, record { reached = ([], record { walk = tt; ends = sym (rw e is) }, refl); least = λ steps w. omega arith });
      all = λ i low distance.
          let same = nearest joined chain (qubit_at qs i) distance.reached.0 distance.reached.1 distance.reached.2 in
          (0, omega arith, sym (rising_once qs sorted.rising i at low below (same ∙ sym is)));
      parent = λ i low not later. absurd (later (rw (here i low not) is));
    }

pub one_rising : (x i j : ℕ) → i ≤ j → j < length (x ∷ []) → qubit_at (x ∷ []) i ≤ qubit_at (x ∷ []) j
one_rising x i j le below = grind (arith, nat_tests)

-- ---- the last level

-- what a walk leads to no longer waits once a level is empty
stuck : (joined : Joins) (chain qs : List ℕ) (d : ℕ) (s : Found) → is_in chain (first_of chain) ≡ true
    → IsSortedChain chain qs → AtLevel joined chain qs [] d s
    → (n i : ℕ) → i < length qs → (steps : List ℕ) → WalksTo joined chain (qubit_at qs i) steps
    → length steps ≡ n → waits_at s i ≡ true → ⊥
stuck joined chain qs d s first sorted at zero i below steps w long waits =
    omega (arith, long, at.far i below waits steps w)
stuck joined chain qs d s first sorted at (suc n) i below steps w long waits =
    let p = last_join joined chain _ (qubit_at qs i) n steps first w.walk w.ends long in
    let j = sorted.found p.before p.inside in
    elim (cases_Bool (waits_at s j.0)) [
      | inl is ↦
          stuck joined chain qs d s first sorted at n j.0 j.1 p.steps
          (rw j.2 (record { walk = p.walk; ends = p.ends })) p.short is
      | inr gone ↦
          let near = at.near j.0 j.1 gone in
          let walks = rw j.2 at near.1 in
          let inside = sorted.inside i below in
          let all = at.far i below waits _ (further joined chain p.before (qubit_at qs i) near.0 walks inside p.linked) in
          let here = before_in_level joined chain qs [] d s sorted at i below waits (record {
            before = p.before;
            steps = near.0;
            walk = walks.walk;
            ends = walks.ends;
            short = omega (arith, near.2, all, length-append near.0 (qubit_at qs i ∷ []));
            linked = p.linked;
            inside = p.inside;
          }) in
          omega (arith, here.1.1)
    ]

pub level_last : (joined : Joins) (chain qs level : List ℕ) (d : ℕ) (s : Found) → is_in chain (first_of chain) ≡ true
    → IsSortedChain chain qs → AtLevel joined chain qs level d s → level ≡ [] → length s.parents ≡ length qs
    → IsSearched joined chain qs s
level_last joined chain qs level d s first sorted at empty parents =
    let at' = subst (λ l. AtLevel joined chain qs l d s) empty at in
    record {
      waits = at.waits;
      parents = parents;
      reached = λ i below not. let w = at.near i below not in (w.0, w.1);
      unreached = λ i below is reaches. stuck joined chain qs d s first sorted at' (length reaches.0) i below reaches.0 reaches.1 refl is;
      parent = at.parent;
    }
