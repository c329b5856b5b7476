-- The sides of a tie: both ends of every other tie of its chain are on one of them.
-- Nothing here has to be believed.
--
-- Steps to the parent lead from each qubit of a chain to the first one, where they stay. So no
-- qubit is met again, and fewer steps than the chain has qubits are enough.
use Rattle.std.specs.Prelude.{◌≡◌, ◌≢◌, ◌⊎◌, ◌+◌, ◌-◌, ◌*◌, ◌<◌, ◌≤◌, ◌==◌, ◌∷◌}
use Rattle.chain_layer.proofs.Common.{any_of_range, apart_qubits, ℕ, zero, suc, Bool, true, false, not, List, [], length, count_by, list_any, range_with_len, arith, ap, sym, ◌∙◌, refl, inl, inr, nat_tests, cases_eq, eqb-true, eq-eqb, false_from_ne_true, true_from_ne_false, length-range_with_len, get_or-range_with_len, sum_by-cons, count_by-le-length, is_in, parent_in, climbed}
use Rattle.std.proofs.lemmas.List.Folds.{Any-from_list_any}
use Rattle.cut_chains.specs.Sides.{is_below}

-- two tests that each imply the other
pub same_answer : (a b : Bool) → (a ≡ true → b ≡ true) → (b ≡ true → a ≡ true) → a ≡ b
same_answer a b to from = grind arith

-- ---- steps to the parent

-- a qubit without a parent stays where it is, such as the first qubit of a chain
pub parent_outside : (cs ps : List ℕ) (q : ℕ) → is_in cs q ≡ false → parent_in cs ps q ≡ q
parent_outside [] ps q out = refl
parent_outside (c ∷ cs) [] q out = refl
parent_outside (c ∷ cs) (p ∷ ps) q out =
    let rest = parent_outside cs ps q in grind (arith, nat_tests)

-- and steps do not lead it anywhere
pub climbed_outside : (cs ps : List ℕ) (n q : ℕ) → is_in cs q ≡ false → climbed cs ps n q ≡ q
climbed_outside cs ps zero q out = refl
climbed_outside cs ps (suc n) q out =
    ap (climbed cs ps n) (parent_outside cs ps q out) ∙ climbed_outside cs ps n q out

-- some steps, and then more; m steps from where n steps lead are m + n steps.
pub climbed-plus : (cs ps : List ℕ) (m n q : ℕ)
    → climbed cs ps (m + n) q ≡ climbed cs ps m (climbed cs ps n q)
climbed-plus cs ps m zero q = let none : m + 0 ≡ m = omega arith in ap (λ k. climbed cs ps k q) none
climbed-plus cs ps m (suc n) q =
    let moved : m + suc n ≡ suc (m + n) = omega arith in
    ap (λ k. climbed cs ps k q) moved ∙ climbed-plus cs ps m n (parent_in cs ps q)

-- what is known of a chain: its qubits after the first, their parents, and that steps lead to it
pub record IsRooted (first : ℕ) (cs ps : List ℕ) : Type 0 where
  -- the first qubit has no parent among them
  pub apart : is_in cs first ≡ false
  -- from each of the others some number of steps leads to it
  pub leads : (q : ℕ) → is_in cs q ≡ true → (n : ℕ) × (climbed cs ps n q ≡ first)

-- at the first qubit steps stay: where m steps lead to it, all larger numbers of steps do
stays : (first : ℕ) (cs ps : List ℕ) → is_in cs first ≡ false → (m n q : ℕ) → m ≤ n
    → climbed cs ps m q ≡ first → climbed cs ps n q ≡ first
stays first cs ps apart m n q more here =
    let split : n ≡ (n - m) + m = omega arith in
    ap (λ k. climbed cs ps k q) split ∙ climbed-plus cs ps (n - m) m q
    ∙ ap (climbed cs ps (n - m)) here
    ∙ climbed_outside cs ps (n - m) first apart

-- where m steps lead from a qubit back to it, 2 * m, 3 * m and so on do as well: it goes round a
-- circle
turns : (cs ps : List ℕ) (m q : ℕ) → climbed cs ps m q ≡ q → (k : ℕ) → climbed cs ps (k * m) q ≡ q
turns cs ps m q back zero = let none : 0 * m ≡ 0 = omega arith in ap (λ k. climbed cs ps k q) none
turns cs ps m q back (suc k) =
    let split : suc k * m ≡ k * m + m = omega arith in
    ap (λ n. climbed cs ps n q) split ∙ climbed-plus cs ps (k * m) m q
    ∙ ap (climbed cs ps (k * m)) back
    ∙ turns cs ps m q back k

-- steps from a qubit after the first do not lead back to it. Else they went round for ever, but
-- some number of steps leads to the first qubit, where they stay
pub not_again : (first : ℕ) (cs ps : List ℕ) → IsRooted first cs ps → (m q : ℕ) → is_in cs q ≡ true
    → climbed cs ps (suc m) q ≡ q → ⊥
not_again first cs ps root m q in' back =
    let way = root.leads q in' in
    let enough : way.0 ≤ way.0 * suc m = omega arith in
    apart_qubits q first cs root.apart in'
    (sym (stays first cs ps root.apart way.0 (way.0 * suc m) q enough way.1)
    ∙ turns cs ps (suc m) q back way.0)

-- ---- how many steps are enough

-- so many steps do not lead from this qubit to the first
abbrev is_far : (first : ℕ) (cs ps : List ℕ) → ℕ → ℕ → Bool
is_far first cs ps k q = not (climbed cs ps k q == first)

-- How many of these qubits are far. With each further step it falls, until it is 0.
abbrev far_count : (first : ℕ) (cs ps : List ℕ) → ℕ → List ℕ → ℕ
far_count first cs ps k qs = count_by (is_far first cs ps k) qs

-- a qubit that k steps bring to the first is brought there by k + 1 as well, so no more are far
fewer : (first : ℕ) (cs ps : List ℕ) → is_in cs first ≡ false → (k : ℕ) (qs : List ℕ)
    → far_count first cs ps (suc k) qs ≤ far_count first cs ps k qs
fewer first cs ps apart k [] = omega arith
fewer first cs ps apart k (q ∷ qs) =
    let stay = stays first cs ps apart k (suc k) q (omega arith) in
    let rest = fewer first cs ps apart k qs in simp sum_by-cons (grind (arith, nat_tests))

-- and where one stands on the edge of what k steps reach, at least one less is far
fewer_by_one : (first : ℕ) (cs ps : List ℕ) → is_in cs first ≡ false → (k r : ℕ)
    → (climbed cs ps k r ≢ first) → climbed cs ps (suc k) r ≡ first → (qs : List ℕ)
    → is_in qs r ≡ true → far_count first cs ps (suc k) qs < far_count first cs ps k qs
fewer_by_one first cs ps apart k r far near [] in' = absurd cc
fewer_by_one first cs ps apart k r far near (q ∷ qs) in' =
    let stay = stays first cs ps apart k (suc k) q (omega arith) in
    let others = fewer first cs ps apart k qs in
    let rest = fewer_by_one first cs ps apart k r far near qs in
    simp sum_by-cons (grind (arith, nat_tests))

-- where a qubit is far, there is such a one on its way to the first
less_far : (first : ℕ) (cs ps : List ℕ) → is_in cs first ≡ false → (k n q : ℕ)
    → (climbed cs ps k q ≢ first) → climbed cs ps n q ≡ first
    → far_count first cs ps (suc k) cs < far_count first cs ps k cs
less_far first cs ps apart k zero q far here =
    absurd (far (ap (climbed cs ps k) here ∙ climbed_outside cs ps k first apart))
less_far first cs ps apart k (suc n) q far here =
    elim (cases_eq (climbed cs ps (suc k) q) first) [
      | inl near ↦
          fewer_by_one first cs ps apart k q far near cs (true_from_ne_false _ (λ out.
          far (climbed_outside cs ps k q out ∙ sym (climbed_outside cs ps (suc k) q out) ∙ near)))
      | inr further ↦ less_far first cs ps apart k n (parent_in cs ps q) further here
    ]

-- none of these qubits is far
abbrev AreNear : (first : ℕ) (cs ps : List ℕ) → ℕ → Type 0
AreNear first cs ps k = (q : ℕ) → is_in cs q ≡ true → climbed cs ps k q ≡ first

-- with each step that leaves one far, fewer are: so at most as many as the qubits less k
few_far : (first : ℕ) (cs ps : List ℕ) → IsRooted first cs ps → (k q : ℕ) → is_in cs q ≡ true
    → (climbed cs ps k q ≢ first) → far_count first cs ps k cs + k ≤ length cs
few_far first cs ps root zero q in' far =
    omega (arith, count_by-le-length (is_far first cs ps 0) cs)
few_far first cs ps root (suc k) q in' far =
    let way = root.leads q in' in
    let before : climbed cs ps k q ≢ first = λ here.
    far (stays first cs ps root.apart k (suc k) q (omega arith) here) in
    let less = less_far first cs ps root.apart k way.0 q before way.1 in
    omega (arith, less, few_far first cs ps root k q in' before)

-- As many steps as there are qubits after the first are enough. So walks of fewer steps than the
-- chain has qubits reach every qubit that longer ones reach.
pub near_all : (first : ℕ) (cs ps : List ℕ) → IsRooted first cs ps → AreNear first cs ps (length cs)
near_all first cs ps root q in' = elim (cases_eq (climbed cs ps (length cs) q) first) [
  | inl near ↦ near
  | inr far ↦
      let way = root.leads q in' in
      let less = less_far first cs ps root.apart (length cs) way.0 q far way.1 in
      absurd (omega (arith, less, few_far first cs ps root (length cs) q in' far))
]

-- ---- the sides of a tie

-- Some number of a range passes a test. The range has n numbers from a on.
pub found_in_range : (p : ℕ → Bool) (a n : ℕ) → list_any p (range_with_len a n) ≡ true
    → (i : ℕ) × (i < a + n) × (p i ≡ true)
found_in_range p a n h =
    let found = Any-from_list_any p (range_with_len a n) h in
    let within : found.0 < n = omega (arith, found.2, length-range_with_len a n) in
    let at = get_or-range_with_len a n found.0 found.1 within in
    (found.1, omega (arith, found.3, within, at), found.4)

-- a chain from its first qubit on, as a tree
module _ (first : ℕ) (cs ps : List ℕ) (root : IsRooted first cs ps) where
  -- where a qubit is below q, a number of steps leads from it to q
  below_ways : (q r : ℕ) → is_below (first ∷ cs) ps q r ≡ true
      → (n : ℕ) × (n ≤ length cs) × (climbed cs ps n r ≡ q)
  below_ways q r h =
      let found = found_in_range (λ n. climbed cs ps n r == q) 0 (suc (length cs)) h in
      (found.0, omega (arith, found.1), eqb-true (climbed cs ps found.0 r) q found.2)

  -- and where so few steps lead to q, it is below q
  is_below_by : (q r n : ℕ) → n ≤ length cs → climbed cs ps n r ≡ q
      → is_below (first ∷ cs) ps q r ≡ true
  is_below_by q r n few way =
      any_of_range (λ m. climbed cs ps m r == q) n 0 (suc (length cs)) (omega arith) (omega arith)
      (eq-eqb (climbed cs ps n r) q way)

  -- the qubit of a tie is below itself, so the side is not empty
  pub tied_below : (q : ℕ) → is_below (first ∷ cs) ps q q ≡ true
  tied_below q = is_below_by q q 0 (omega arith) refl

  -- its parent is not below it, since steps do not lead back: so the tie has one end on each side
  pub parent_above : (q : ℕ) → is_in cs q ≡ true
      → is_below (first ∷ cs) ps q (parent_in cs ps q) ≡ false
  parent_above q in' = false_from_ne_true _ (λ below.
      let way = below_ways q (parent_in cs ps q) below in
      not_again first cs ps root way.0 q in' way.2)

  -- both ends of another tie are on one side: a step from q to its parent is one step of the walk
  -- that leads from q to c, if there is one
  pub same_side : (c q : ℕ) → is_in cs c ≡ true → is_in cs q ≡ true → (q ≢ c)
      → is_below (first ∷ cs) ps c q ≡ is_below (first ∷ cs) ps c (parent_in cs ps q)
  same_side c q c_in q_in other =
      same_answer (is_below (first ∷ cs) ps c q)
      (is_below (first ∷ cs) ps c (parent_in cs ps q)) up down
    where
      up : is_below (first ∷ cs) ps c q ≡ true
          → is_below (first ∷ cs) ps c (parent_in cs ps q) ≡ true
      up h = shorter (below_ways c q h)
        where
          shorter : ((n : ℕ) × (n ≤ length cs) × (climbed cs ps n q ≡ c))
              → is_below (first ∷ cs) ps c (parent_in cs ps q) ≡ true
          shorter (zero, few, way) = absurd (other way)
          shorter (suc n, few, way) = is_below_by c (parent_in cs ps q) n (omega (arith, few)) way

      down : is_below (first ∷ cs) ps c (parent_in cs ps q) ≡ true
          → is_below (first ∷ cs) ps c q ≡ true
      down h =
          let way = below_ways c (parent_in cs ps q) h in
          let ended : climbed cs ps (suc (length cs)) q ≡ first =
          stays first cs ps root.apart (length cs) (suc (length cs)) q (omega arith)
          (near_all first cs ps root q q_in) in
          elim (cases_eq way.0 (length cs)) [
            | inl all ↦
                absurd (apart_qubits c first cs root.apart c_in
                (sym (sym way.2 ∙ ap (λ n. climbed cs ps n (parent_in cs ps q)) all ∙ ended)))
            | inr fewer ↦ is_below_by c q (suc way.0) (grind (arith, way.1, fewer)) way.2
          ]

-- All qubits of the chain are below the first. So the sum below the first qubit is that of the
-- whole chain.
pub is_below_first : (first : ℕ) (cs ps : List ℕ) → IsRooted first cs ps → (r : ℕ)
    → (r ≡ first) ⊎ (is_in cs r ≡ true) → is_below (first ∷ cs) ps first r ≡ true
is_below_first first cs ps root r (inl same) =
    is_below_by first cs ps root first r 0 (omega arith) same
is_below_first first cs ps root r (inr in') =
    is_below_by first cs ps root first r (length cs) (omega arith) (near_all first cs ps root r in')
