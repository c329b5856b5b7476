-- How the order of a chain comes about, walk by walk.
--
-- No walk comes back to a qubit of its own, since steps to the parent lead to the chain's first
-- qubit. So each ends at a qubit that was listed before.
use Rattle.cut_chains.proofs.Common.{◌≡◌, ◌≢◌, ℕ, ◌<◌, Bool, true, false, ◌||◌, List, [], ◌∷◌, ◌++◌, length, drop, get_or, refl, sym, ap, ◌∙◌, arith, ◌==◌, reverse, AllByRecursion, nat_tests, or_right, or_parts, get_or_past, recursion_from_All, is_in, first_of, is_in_at, parent_in, climbed, each_at, IsOrder, IsClimb, IsClimbed, Climbable, not_again}
use Rattle.cut_chains.proofs.Members.{is_in-push, is_in-listed}
use Rattle.cut_chains.proofs.Paths.{climb_listed, IsReached, reached_path}

module _ (up : List ℕ) (before : List Bool) (first : ℕ) (cs : List ℕ)
    (t : Climbable up before first cs) where
  -- the parent that is told of a qubit
  abbrev pub parent_at : ℕ → ℕ
  parent_at q = get_or up q 0

  -- what is listed so far, where the qubits `done` have been walked from
  pub record IsReaching (seen : List Bool) (order done : List ℕ) : Type 0 where
    pub sized : length seen ≡ length before
    pub reached : IsReached first parent_at order
    pub marked : (q : ℕ) → q < length before
        → get_or seen q true ≡ (get_or before q true || is_in (first ∷ order) q)
    pub inside : (q : ℕ) → is_in order q ≡ true → is_in cs q ≡ true
    pub walked : (q : ℕ) → is_in done q ≡ true → is_in (first ∷ order) q ≡ true

  -- ---- one walk

  parent_same : (q : ℕ) → is_in cs q ≡ true → parent_at q ≡ parent_in cs t.ps q
  parent_same q in' = t.parents q in'

  -- a walk from a qubit of the chain that does not pass the first stays in the chain
  path_inside : (order path : List ℕ) (from q : ℕ) → IsClimb parent_at path from q
      → is_in (first ∷ cs) from ≡ true → AllByRecursion (λ p. is_in (first ∷ order) p ≡ false) path
      → AllByRecursion (λ p. is_in cs p ≡ true) path × (is_in (first ∷ cs) q ≡ true)
  path_inside order [] from q climb in' others = (tt, ap (is_in (first ∷ cs)) (sym climb) ∙ in')
  path_inside order (p ∷ ps) from q climb in' others =
      let p_in : is_in cs p ≡ true = let out = others.0 in grind (arith, nat_tests) in
      let rest = path_inside order ps (parent_at p) q climb.1
      (ap (is_in (first ∷ cs)) (parent_same p p_in) ∙ t.closed p p_in) others.1 in
      ((p_in, rest.0), rest.1)

  steps_of : (path : List ℕ) (from q : ℕ) → IsClimb parent_at path from q
      → AllByRecursion (λ p. is_in cs p ≡ true) path → climbed cs t.ps (length path) from ≡ q
  steps_of [] from q climb all = climb
  steps_of (p ∷ ps) from q climb all =
      cc (climb.0, parent_same p all.0, steps_of ps (parent_at p) q climb.1 all.1)

  -- it does not end where it has been
  no_round : (path : List ℕ) (from q : ℕ) → IsClimb parent_at path from q
      → AllByRecursion (λ p. is_in cs p ≡ true) path → is_in path q ≡ true → ⊥
  no_round [] from q climb all in' = absurd cc
  no_round (p ∷ ps) from q climb all in' =
      let later = no_round ps (parent_at p) q climb.1 all.1 in
      let round = not_again first cs t.ps t.root (length ps) p all.0 in
      let steps = steps_of ps (parent_at p) q climb.1 all.1 in
      let up = parent_same p all.0 in grind (arith, nat_tests)

  -- what is not marked is a qubit
  fresh_within : (seen : List Bool) (q : ℕ) → get_or seen q true ≡ false → q < length seen
  fresh_within seen q fresh = let past = get_or_past seen q true in grind (arith, nat_tests)

  -- and is not listed
  fresh_path : (seen : List Bool) (order done path : List ℕ) → IsReaching seen order done
      → AllByRecursion (λ p. get_or seen p true ≡ false) path
      → AllByRecursion (λ p. is_in (first ∷ order) p ≡ false) path
  fresh_path seen order done [] reaching fresh = tt
  fresh_path seen order done (p ∷ ps) reaching fresh =
      let within : p < length before = omega (arith, fresh_within seen p fresh.0, reaching.sized) in
      let parts = or_parts (get_or before p true) (is_in (first ∷ order) p)
      (sym (reaching.marked p within) ∙ fresh.0) in
      (parts.1, fresh_path seen order done ps reaching fresh.1)

  pub reach_more : (seen next : List Bool) (order done path : List ℕ) (from : ℕ)
      → IsReaching seen order done → is_in cs from ≡ true → IsClimbed parent_at seen next from path
      → IsReaching next (order ++ reverse path) (done ++ from ∷ [])
  reach_more seen next order done path from reaching from_in walk =
      let q = walk.walk.0 in
      let climb = walk.walk.1 in
      let fresh = fresh_path seen order done path reaching
      (recursion_from_All (λ p. get_or seen p true ≡ false) path walk.unmarked) in
      let sides = path_inside order path from q climb
      (or_right (first == from) (is_in cs from) from_in) fresh in
      let within : q < length before = omega (arith, walk.walk.2, reaching.sized) in
      let listed : is_in (first ∷ order) q ≡ true = let found = walk.walk.3 in
      let old = reaching.marked q within in
      let none = no_round path from q climb sides.0 in
      let unseen = each_at (λ p. get_or before p true ≡ false) (first ∷ cs) q t.unseen sides.1 in
      grind (arith, nat_tests) in
      record {
        sized = walk.sized ∙ reaching.sized;
        reached = grind (arith, nat_tests, reached_path);
        marked = λ r r_within. grind (arith, nat_tests, is_in-listed);
        inside = λ r in'. grind (arith, nat_tests, is_in-listed, each_at);
        walked = λ r in'. grind (arith, nat_tests, is_in-push, is_in-listed, climb_listed);
      }

  -- ---- the end

  pub reach_end : (seen : List Bool) (order : List ℕ) → IsReaching seen order cs
      → IsOrder first cs t.ps order
  reach_end seen order reaching = record {
    after = λ j within. grind (arith, nat_tests, parent_same, is_in_at);
    once = reaching.reached.once;
    all = λ q. grind (arith, nat_tests);
  }

  pub reach_others : (seen : List Bool) (order done : List ℕ) → IsReaching seen order done → (q : ℕ)
      → q < length before → is_in (first ∷ cs) q ≡ false → get_or seen q true ≡ get_or before q true
  reach_others seen order done reaching q within out =
      let now = reaching.marked q within in
      let inside = reaching.inside q in grind (arith, nat_tests)

-- a chain is its first qubit and the others
pub chain_parts : (chain : List ℕ) → (chain ≢ []) → (first_of chain ∷ drop 1 chain) ≡ chain
chain_parts [] filled = absurd (filled refl)
chain_parts (q ∷ qs) filled = refl
