-- What an energy changes by when some spins are flipped. Nothing here has to be believed.
--
-- A term of the energy (a field or a coupling) changes its sign at most when spins are flipped, so
-- it gives back at most twice its size. What is summed here is exactly that: twice the sizes of the
-- fields and placed couplings at flipped qubits, and the ties, of which just the broken one
-- changes.
use Rattle.std.specs.Prelude.{◌≡◌, ◌≢◌, ◌*◌, ◌<◌, ◌==◌, ◌+ℤ◌, ◌≤ℤ◌, ◌&&◌, ◌∷◌}
use Rattle.chain_layer.proofs.Common.{zip_weaker, apart_qubits, coupling_energy, ℕ, ℤ, pos, neg_ℤ, unsigned_abs, Bool, true, false, not, cond, List, [], AllByRecursion, AllZip, range_with_len, arith, ap, sym, ◌∙◌, refl, inl, inr, ints, nat_tests, cases_eq, eq-eqb, or_left, or_right, and_cases, sum_by-cons, total_by, if_so, total_by-plus, Entry, times_spin, is_in, IsCoupler, couplings_at, coupling_entry, ties, pair_energy, range-le, range-zero, hit, marked_ends, are_same, is_whole, Once}
use Rattle.cut_chains.specs.Sides.{side_weight}

-- The spins with those of a side turned over. A side is a test of qubits. Bits are spins: 1 is up,
-- 0 is down.
abbrev pub flipped : (side s : ℕ → Bool) → ℕ → Bool
flipped side s q = cond (side q) (not (s q)) (s q)

-- ---- fields

-- a field gives back at most twice its size when its spin is flipped, and nothing otherwise
field_flip : (t b : Bool) (w : ℤ)
    → times_spin (cond t (not b) b) w ≤ℤ (times_spin b w +ℤ if_so t (pos (2 * unsigned_abs w)))
field_flip t b w = grind (arith, ints)

-- and all of those on the side together twice the sum of their sizes. The sums go over all n qubits
-- of the graph, and those not on the side count 0
pub fields_flip : (side s : ℕ → Bool) (f : ℕ → ℤ) (n : ℕ)
    → total_by (λ q. times_spin (flipped side s q) (f q)) (range_with_len 0 n)
    ≤ℤ (total_by (λ q. times_spin (s q) (f q)) (range_with_len 0 n)
    +ℤ total_by (λ q. if_so (side q) (pos (2 * unsigned_abs (f q)))) (range_with_len 0 n))
fields_flip side s f n =
    let before : ℕ → ℤ = λ q. times_spin (s q) (f q) in
    let due : ℕ → ℤ = λ q. if_so (side q) (pos (2 * unsigned_abs (f q))) in
    let each =
    range-le (λ q. times_spin (flipped side s q) (f q)) (λ q. before q +ℤ due q) 0 n
    (λ q l. field_flip (side q) (s q) (f q)) in
    omega (arith, ints, each, total_by-plus before due (range_with_len 0 n))

-- ---- placed couplings

-- a coupling between two qubits gives back at most twice its size for each end that is flipped.
-- Where both are flipped it stays the same, which is even less
pair_flip : (t u a b : Bool) (w : ℤ)
    → times_spin (cond t (not a) a) (times_spin (cond u (not b) b) w)
    ≤ℤ (times_spin a (times_spin b w)
    +ℤ (if_so t (pos (2 * unsigned_abs w)) +ℤ if_so u (pos (2 * unsigned_abs w))))
pair_flip t u a b w = grind (arith, ints)

-- What couplings give back for their ends on the side. A coupling with both ends on the side counts
-- twice, which is more than is needed.
abbrev ends_due : (ℕ → Bool) → Entry → ℤ
ends_due side c =
    if_so (side c.first) (pos (2 * unsigned_abs c.weight))
    +ℤ if_so (side c.second) (pos (2 * unsigned_abs c.weight))

-- so all couplings together give back at most what their ends on the side are due
pairs_flip : (side s : ℕ → Bool) (cs : List Entry) → total_by (pair_energy (flipped side s)) cs
    ≤ℤ (total_by (pair_energy s) cs +ℤ total_by (ends_due side) cs)
pairs_flip side s [] = omega (arith, ints)
pairs_flip side s (c ∷ cs) =
    let here = pair_flip (side c.first) (side c.second) (s c.first) (s c.second) c.weight in
    omega (arith, ints, here, pairs_flip side s cs)

-- The same, counted by qubits in place of couplings: twice the sizes of the couplings at the qubits
-- of the side. So the bound is a sum over qubits, like the weight of a side.
pub couplings_flip : (side s : ℕ → Bool) (n : ℕ) (cs : List Entry) → AllByRecursion (IsCoupler n) cs
    → total_by (pair_energy (flipped side s)) cs ≤ℤ (total_by (pair_energy s) cs
    +ℤ total_by (λ q. if_so (side q) (pos (2 * couplings_at q cs))) (range_with_len 0 n))
couplings_flip side s n cs couplers =
    omega (arith, ints, pairs_flip side s cs, marked_ends side n cs couplers)

-- ---- the weight of a side

-- of a chain's qubits on the side, each is one of all: twice their weights, summed over the qubits
-- of the graph, is at most twice the weight of the side. A qubit that the chain had twice would
-- count twice on the right alone
pub side_counted : (weight : ℕ → ℕ) (is_on : ℕ → Bool) (n : ℕ) (chain : List ℕ)
    → AllByRecursion (λ q. q < n) chain
    → total_by (λ q. if_so (is_in chain q && is_on q) (pos (2 * weight q))) (range_with_len 0 n)
    ≤ℤ pos (2 * side_weight weight chain is_on)
side_counted weight is_on n [] within = omega (arith, ints, range-zero 0 n)
side_counted weight is_on n (c ∷ cs) within =
    let here : ℕ → ℤ = λ q. if_so (q == c) (pos (2 * cond (is_on q) (weight q) 0)) in
    let rest : ℕ → ℤ = λ q. if_so (is_in cs q && is_on q) (pos (2 * weight q)) in
    let each_is =
    range-le (λ q. if_so (is_in (c ∷ cs) q && is_on q) (pos (2 * weight q)))
    (λ q. here q +ℤ rest q) 0 n
    (λ q l. grind (arith, ints, nat_tests)) in
    let parts = total_by-plus here rest (range_with_len 0 n) in
    let found =
    hit (λ q. pos (2 * cond (is_on q) (weight q) 0)) c 0 n (omega arith)
    (omega (arith, within.0)) in
    let sum = sum_by-cons (λ r. cond (is_on r) (weight r) 0) c cs in
    omega (arith, ints, each_is, parts, found, side_counted weight is_on n cs within.1, sum)

-- ---- ties

-- a tie with both ends on the side, or none of them, costs what it cost
kept_flip : (side s : ℕ → Bool) (q p : ℕ) (w : ℤ) → side q ≡ side p
    → pair_energy (flipped side s) (coupling_entry q p w) ≡ pair_energy s (coupling_entry q p w)
kept_flip side s q p w same =
    let now = coupling_energy (flipped side s) q p w in
    let before = coupling_energy s q p w in grind (arith, ints)

-- a broken tie of strength n with one end on the side becomes whole, and costs 2 * n less: n
-- before, -n after
mended_flip : (side s : ℕ → Bool) (q p n : ℕ) → side p ≡ not (side q) → are_same (s q) (s p) ≡ false
    → pair_energy (flipped side s) (coupling_entry q p (neg_ℤ (pos n))) +ℤ pos (2 * n)
    ≡ pair_energy s (coupling_entry q p (neg_ℤ (pos n)))
mended_flip side s q p n other broken =
    let now = coupling_energy (flipped side s) q p (neg_ℤ (pos n)) in
    let before = coupling_energy s q p (neg_ℤ (pos n)) in grind (arith, ints)

-- The ends of these ties are on one side. A tie is a qubit of the first list with the parent at the
-- same place of the second.
abbrev pub AreKept : (ℕ → Bool) → List ℕ → List ℕ → Type 0
AreKept side qs ps = AllZip (λ q p. side q ≡ side p) qs ps

-- then the ties cost what they cost before the side was flipped
pub ties_kept : (side s : ℕ → Bool) (strong : ℕ → ℕ) (qs ps : List ℕ) → AreKept side qs ps
    → total_by (pair_energy (flipped side s)) (ties strong qs ps)
    ≡ total_by (pair_energy s) (ties strong qs ps)
ties_kept side s strong [] ps kept = refl
ties_kept side s strong (q ∷ qs) [] kept = refl
ties_kept side s strong (q ∷ qs) (p ∷ ps) kept =
    let here = kept_flip side s q p (neg_ℤ (pos (strong q))) kept.0 in
    omega (arith, ints, here, ties_kept side s strong qs ps kept.1)

-- What is known of the ties when one of them is broken, and a side of it is turned over. It is said
-- of each tie, from q to its parent p, where c is the qubit of the broken one.
pub record IsCut (side s : ℕ → Bool) (c q p : ℕ) : Type 0 where
  -- each other tie has both ends on the side or none
  pub same : (q ≢ c) → side q ≡ side p
  -- of the broken tie one end is on the side, and one is not
  pub cut : q ≡ c → side p ≡ not (side q)
  -- its ends have different bits
  pub broken : q ≡ c → are_same (s q) (s p) ≡ false

-- among ties without the broken one, all are kept
kept_of_cut : (side s : ℕ → Bool) (c : ℕ) (qs ps : List ℕ) → is_in qs c ≡ false
    → AllZip (IsCut side s c) qs ps → AreKept side qs ps
kept_of_cut side s c qs ps out cuts =
    zip_weaker (IsCut side s c) (λ q p. side q ≡ side p) qs ps
    (λ q p in' cut. cut.same (λ e. apart_qubits q c qs out in' (sym e))) cuts

-- the broken tie is mended, and all others stay: the energy of the ties falls by twice the strength
-- of the broken one
pub ties_mended : (side s : ℕ → Bool) (strong : ℕ → ℕ) (c : ℕ) (qs ps : List ℕ) → Once qs
    → is_in qs c ≡ true → AllZip (IsCut side s c) qs ps
    → total_by (pair_energy (flipped side s)) (ties strong qs ps) +ℤ pos (2 * strong c)
    ≡ total_by (pair_energy s) (ties strong qs ps)
ties_mended side s strong c [] ps once in' cuts = absurd cc
ties_mended side s strong c (q ∷ qs) [] once in' cuts = absurd cuts
ties_mended side s strong c (q ∷ qs) (p ∷ ps) once in' cuts = elim (cases_eq q c) [
  | inl same ↦
      let mended_here = mended_flip side s q p (strong q) (cuts.0.cut same) (cuts.0.broken same) in
      let others =
      ties_kept side s strong qs ps
      (kept_of_cut side s c qs ps (sym (ap (is_in qs) same) ∙ once.0) cuts.1) in
      omega (arith, ints, mended_here, ap strong same, others)
  | inr other ↦
      let here = kept_flip side s q p (neg_ℤ (pos (strong q))) (cuts.0.same other) in
      let later = ties_mended side s strong c qs ps once.1 (grind (arith, nat_tests)) cuts.1 in
      omega (arith, ints, here, later)
]

-- ---- broken ties

-- where ties are not whole, one of them is broken: some qubit of the chain has a bit other than its
-- parent's
pub broken_tie : (s : ℕ → Bool) (up : ℕ → ℕ) (qs ps : List ℕ) → AllZip (λ q p. up q ≡ p) qs ps
    → is_whole s qs ps ≡ false → (c : ℕ) × (is_in qs c ≡ true) × (are_same (s c) (s (up c)) ≡ false)
broken_tie s up [] ps owns h = absurd cc
broken_tie s up (q ∷ qs) [] owns h = absurd cc
broken_tie s up (q ∷ qs) (p ∷ ps) owns h =
    elim (and_cases (are_same (s q) (s p)) (is_whole s qs ps) h) [
      | inl here ↦ (
        q,
        or_left (q == q) (is_in qs q) (eq-eqb q q refl),
        ap (λ r. are_same (s q) (s r)) owns.0 ∙ here,
      )
      | inr later ↦
          let found = broken_tie s up qs ps owns.1 later in
          (found.0, or_right (q == found.0) (is_in qs found.0) found.1, found.2)
    ]
