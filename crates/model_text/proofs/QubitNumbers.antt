-- The qubits of chains in a well-formed model are nodes of it: on a graph each of them has an
-- entry, and other models have no chains.
use Rattle.model_text.proofs.Common.{◌≡◌, ℕ, ◌≤◌, ◌<◌, ◌^◌, true, List, [], ◌∷◌, All, arith, ◌==◌, AllByRecursion, list_any, or-true, nat_tests, All-from_recursion, recursion_from_All, Entry, Kind, Written, IsPlaced, FitsKind, IsWellFormed, has_node, is_chained}
use Rattle.bits_model.specs.declared.output.Kind.TheVariants.{Qubo, Ising, Qubits}

-- a node that has an entry is one of the model
entry_within : (n q : ℕ) (es : List Entry) → AllByRecursion (IsPlaced n) es
    → has_node es q ≡ true → q < n
entry_within n q [] h found = absurd cc
entry_within n q (e ∷ es) h found = grind (arith, nat_tests, entry_within n q es h.1)

-- where each number of a list passes a test, it is below n
each_below : (n : ℕ) (ps : List ℕ) → ((q : ℕ) → list_any (λ p. p == q) ps ≡ true → q < n)
    → AllByRecursion (λ q. q < n) ps
each_below n [] h = tt
each_below n (p ∷ ps) h =
    let first = h p in let each = each_below n ps in grind (arith, nat_tests)

chains_below : (n : ℕ) (chains : List (List ℕ)) → ((q : ℕ) → is_chained chains q ≡ true → q < n)
    → AllByRecursion (λ chain. All (λ q. q < n) chain) chains
chains_below n [] h = tt
chains_below n (c ∷ cs) h =
    let first = each_below n c in
    let each = chains_below n cs in
    grind (arith, nat_tests, All-from_recursion, or-true)

no_chains : (n : ℕ) (chains : List (List ℕ)) → chains ≡ []
    → All (λ chain. All (λ q. q < n) chain) chains
no_chains n chains none = grind (arith, nat_tests)

chains_within : (kind : Kind) (n : ℕ) (m : Written) → m.nodes ≤ n → FitsKind kind m
    → All (IsPlaced m.nodes) m.entries → All (λ chain. All (λ q. q < n) chain) m.chains
chains_within Qubo n m few h placed = no_chains n m.chains h.unchained
chains_within Ising n m few h placed = no_chains n m.chains h.unchained
chains_within (Qubits graph) n m few h placed =
    let each = recursion_from_All (IsPlaced m.nodes) m.entries placed in
    let listed = h.listed in
    All-from_recursion _ m.chains (chains_below n m.chains (λ q found. grind (arith, nat_tests, entry_within)))

-- the qubits fit their fields where the nodes do
pub qubits_fit : (m : Written) → IsWellFormed m → m.nodes < 2 ^ 32
    → All (λ chain. All (λ q. q < 2 ^ 32) chain) m.chains
qubits_fit m formed narrow = chains_within m.kind (2 ^ 32) m (omega arith) formed.kind formed.placed
