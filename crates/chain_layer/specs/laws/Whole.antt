-- Chains on which no tie is broken: they have one bit, which is their majority.
-- Nothing here has to be believed.
--
-- Each qubit has the bit of its parent, and steps to the parent lead to the first qubit; so all
-- have its bit, and the majority of a chain of one bit is that bit.
use Rattle.std.specs.Prelude.{◌≡◌, ◌≢◌, ◌&&◌, ◌∷◌, ◌==◌}
use Rattle.bits_model.proofs.Common.{ℕ, zero, suc, Bool, true, false, cond, List, [], length, drop, AllByRecursion, arith, ap, sym, ◌∙◌, refl, nat_tests, sum_by-cons, bit_at, ones_in, majority}
use Rattle.chain_map.proofs.Common.{not, is_in, first_of}
use Rattle.std.proofs.lemmas.Bool.{eq-eqb, and_parts, or_left, or_right}
use Rattle.embedding_check.specs.Embeddings.{parent_in, climbed, IsTree}

-- two equal bits, as a test
abbrev pub are_same : Bool → Bool → Bool
are_same a b = cond a b (not b)

-- Each of these qubits has the bit of its parent. The qubits are those after the first, with their
-- parents in the same order.
abbrev pub is_whole : (ℕ → Bool) → List ℕ → List ℕ → Bool
is_whole s (q ∷ qs) (p ∷ ps) = are_same (s q) (s p) && is_whole s qs ps
is_whole s (q ∷ qs) [] = true
is_whole s [] ps = true

-- All qubits of the chain have this bit. Such a chain stands for a node with that bit.
abbrev pub HasBit : (ℕ → Bool) → List ℕ → Bool → Type 0
HasBit s chain b = (q : ℕ) → is_in chain q ≡ true → s q ≡ b

-- ---- the qubits of a chain

-- the first qubit of a list is in it
pub in_first : (q : ℕ) (qs : List ℕ) → is_in (q ∷ qs) q ≡ true
in_first q qs = or_left (q == q) (is_in qs q) (eq-eqb q q refl)

-- what is in a list is still in it behind one qubit more
pub in_rest : (q p : ℕ) (qs : List ℕ) → is_in qs p ≡ true → is_in (q ∷ qs) p ≡ true
in_rest q p qs h = or_right (q == p) (is_in qs p) h

-- what is true of each qubit; it is enough to know it of every number that is in the list
pub each_in : (P : ℕ → Type 0) (qs : List ℕ) → ((q : ℕ) → is_in qs q ≡ true → P q)
    → AllByRecursion P qs
each_in P [] h = tt
each_in P (q ∷ qs) h = (h q (in_first q qs), each_in P qs (λ p in'. h p (in_rest q p qs in')))

-- ---- one bit on a tree

-- bits that pass the test are equal
same_bits : (a b : Bool) → are_same a b ≡ true → b ≡ a
same_bits a b h = grind arith

-- on such ties a qubit's parent has its bit
parent_same : (s : ℕ → Bool) (cs ps : List ℕ) (q : ℕ) → is_whole s cs ps ≡ true
    → s (parent_in cs ps q) ≡ s q
parent_same s [] ps q h = refl
parent_same s (c ∷ cs) [] q h = refl
parent_same s (c ∷ cs) (p ∷ ps) q h =
    let parts = and_parts (are_same (s c) (s p)) (is_whole s cs ps) h in
    let here = same_bits (s c) (s p) parts.0 in
    let rest = parent_same s cs ps q parts.1 in grind (arith, nat_tests)

-- and so has the qubit that any number of steps leads to
climbed_same : (s : ℕ → Bool) (cs ps : List ℕ) (n q : ℕ) → is_whole s cs ps ≡ true
    → s (climbed cs ps n q) ≡ s q
climbed_same s cs ps zero q h = refl
climbed_same s cs ps (suc n) q h =
    climbed_same s cs ps n (parent_in cs ps q) h ∙ parent_same s cs ps q h

-- Where no tie is broken all have the first qubit's bit. So a chain of an embedding has one bit
-- wherever it is whole.
pub one_bit : (s : ℕ → Bool) (chain parents : List ℕ) → IsTree chain parents
    → is_whole s (drop 1 chain) parents ≡ true → HasBit s chain (s (first_of chain))
one_bit s chain parents tree whole q in' =
    let root = tree.rooted q in' in
    sym (climbed_same s (drop 1 chain) parents root.0 q whole) ∙ ap s root.1

-- ---- the majority of one bit

-- of qubits of one bit all count or none
ones_of : (y : List Bool) (qs : List ℕ) (b : Bool) → AllByRecursion (λ q. bit_at y q ≡ b) qs
    → ones_in y qs ≡ cond b (length qs) 0
ones_of y [] true h = refl
ones_of y [] false h = refl
ones_of y (q ∷ qs) b h = let rest = ones_of y qs b h.1 in simp sum_by-cons (grind arith)

-- the majority of a chain that is not empty is the bit that all of its qubits have
pub majority_of : (y : List Bool) (chain : List ℕ) (b : Bool) → (chain ≢ []) → HasBit (bit_at y) chain b
    → majority y chain ≡ b
majority_of y [] b filled h = absurd (filled refl)
majority_of y (q ∷ qs) b filled h =
    let ones = ones_of y (q ∷ qs) b (each_in (λ p. bit_at y p ≡ b) (q ∷ qs) h) in
    grind (arith, nat_tests)
