-- Marks and numbers stand for the parts themselves.
use Rattle.working_graph.proofs.Common.{exists_below, nat_tests, ◌≡◌, ℕ, suc, ◌^◌, ◌<◌, ◌==◌, true, ◌&&◌, ◌||◌, List, [], ◌∷◌, All, min, max, refl, ◌∙◌, arith, list_any, IsPermutation, eqb-true, list_any-append, list_any-IsPermutation, Chimera, qubits_of, Part, is_qubit, is_coupler, pair_number, has_pair, coupler_number, numbers_of, IsPartOf, Bool, false}
use Rattle.part_lists.specs.declared.parts.Part.TheVariants.{Qubit, Coupler}

-- ---- one part more

-- a dead qubit is one of the graph
pub dead_below : (graph : Chimera) (part : Part) → IsPartOf graph part → (q : ℕ)
    → is_qubit q part ≡ true → q < qubits_of graph
dead_below graph (Qubit a) below q test =
    omega (arith, exists_below a (qubits_of graph) below, eqb-true a q test)
dead_below graph (Coupler a b) below q test = absurd cc

or_none : (b : Bool) → (b || false) ≡ b
or_none b = grind (arith, nat_tests)

-- ---- numbers

-- the lesser and the greater of two are those of two others exactly where they are the same two
pairs_same : (a b p q : ℕ) → a < 2 ^ 32 → b < 2 ^ 32 → p < 2 ^ 32 → q < 2 ^ 32
    → (pair_number (min a b) (max a b) == pair_number (min p q) (max p q))
    ≡ (((a == p) && (b == q)) || ((a == q) && (b == p)))
pairs_same a b p q low_a low_b low_p low_q = grind (arith, nat_tests)

-- the number of a part tells whether it is the coupler of these two
numbered_is : (graph : Chimera) (p q : ℕ) → p < 2 ^ 32 → q < 2 ^ 32 → (part : Part)
    → IsPartOf graph part → has_pair (coupler_number part) p q ≡ is_coupler p q part
numbered_is graph p q low_p low_q (Qubit a) below = refl
numbered_is graph p q low_p low_q (Coupler a b) below =
    or_none _ ∙ pairs_same a b p q (omega (arith, exists_below a (qubits_of graph) below.0, graph.shape.few))
    (omega (arith, exists_below b (qubits_of graph) below.1, graph.shape.few)) low_p low_q

pub any_numbered : (graph : Chimera) (p q : ℕ) → p < 2 ^ 32 → q < 2 ^ 32 → (parts : List Part)
    → All (IsPartOf graph) parts → has_pair (numbers_of parts) p q ≡ list_any (is_coupler p q) parts
any_numbered graph p q low_p low_q [] all = refl
any_numbered graph p q low_p low_q (part ∷ parts) all =
    let first = numbered_is graph p q low_p low_q part (all 0 part (omega arith)) in
    let rest = any_numbered graph p q low_p low_q parts (λ k d low. all (suc k) d (omega (arith, low))) in
    rw (list_any-append, first, rest) refl

-- the same numbers in another order
pub any_moved : (graph : Chimera) (parts : List Part) (from to : List ℕ)
    → All (IsPartOf graph) parts → from ≡ numbers_of parts → IsPermutation from to
    → (p q : ℕ) → p < 2 ^ 32 → q < 2 ^ 32 → has_pair to p q ≡ list_any (is_coupler p q) parts
any_moved graph parts from to all is moved p q low_p low_q =
    let same = list_any-IsPermutation (λ n. n == pair_number (min p q) (max p q)) from to moved in
    cc (is, any_numbered graph p q low_p low_q parts all)
