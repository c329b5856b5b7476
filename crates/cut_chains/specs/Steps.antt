-- Steps of the layer: what the walks over a chain and the sums over its order take, and the
-- strength that a tie has by its sum.
use Rattle.std.specs.Prelude.{◌≡◌, ℕ, ◌+◌, ◌-◌, ◌<◌, ◌^◌, min, Bool, true, false, List, ◌∷◌, length, sum_by}
use Rattle.std.specs.List.{AllByRecursion, slice_index_or}
use Rattle.bits_model.specs.Walks.{is_in}
use Rattle.embedding_check.specs.Embeddings.{parent_in}
use Rattle.chain_layer.specs.laws.OnceChains.{Once}
use Rattle.cut_chains.specs.Sides.{is_below, side_weight}
use Rattle.cut_chains.specs.Orders.{IsOrder}
use Rattle.cut_chains.specs.laws.Trees.{IsRooted}

-- The qubits of a chain, none of them marked, whose parents `up` tells. The marks and parents are
-- arrays over all qubits of the graph, used again for each chain.
pub record Climbable (up : List ℕ) (seen : List Bool) (first : ℕ) (cs : List ℕ) : Type 0 where
  -- the parents of the qubits after the first, in their order
  pub ps : List ℕ
  -- steps to the parent lead from each qubit to the first one
  pub root : IsRooted first cs ps
  pub different : Once cs
  -- all of them have a place among the marks
  pub inside : AllByRecursion (λ q. q < length seen) (first ∷ cs)
  -- no walk has met any of them yet
  pub unseen : AllByRecursion (λ q. slice_index_or seen q true ≡ false) (first ∷ cs)
  -- the array tells of each qubit the parent that the list has for it
  pub parents : (q : ℕ) → is_in cs q ≡ true → slice_index_or up q 0 ≡ parent_in cs ps q
  -- no parent is outside the chain
  pub closed : (q : ℕ) → is_in cs q ≡ true → is_in (first ∷ cs) (parent_in cs ps q) ≡ true

-- A tree whose parents `up` tells, and an order of its qubits; what all of them hold is small.
-- Before the sums run, a place of `sums` has its qubit's own weight; afterwards it has that of the
-- qubit and all that hangs on it.
pub record Sinkable (up sums order : List ℕ) : Type 0 where
  pub first : ℕ
  pub cs : List ℕ
  pub ps : List ℕ
  -- steps to the parent lead from each qubit to the first one
  pub root : IsRooted first cs ps
  -- each qubit stands after its parent, so going backwards all that hangs on a qubit is added first
  pub ordered : IsOrder first cs ps order
  pub different : Once cs
  -- each qubit has a place among the sums
  pub inside : AllByRecursion (λ q. q < length sums) (first ∷ cs)
  pub parents : (q : ℕ) → is_in cs q ≡ true → slice_index_or up q 0 ≡ parent_in cs ps q
  -- and one among the parents
  pub known : AllByRecursion (λ q. q < length up) cs
  -- the sum of all stays below 2^127, so no addition passes what a number of 128 bits holds
  pub small : sum_by (λ q. slice_index_or sums q 0) (first ∷ cs) < 2 ^ 127

-- what the qubits of a chain from which steps lead to q hold together: the weight of the side of
-- q's tie that is below it, of the sums as they were before any was added to another
abbrev pub sum_below : (sums chain parents : List ℕ) → ℕ → ℕ
sum_below sums chain parents q =
    side_weight (λ r. slice_index_or sums r 0) chain (is_below chain parents q)

-- what the qubits of the tree below q hold together
abbrev pub held_below : {up sums order : List ℕ} → Sinkable up sums order → ℕ → ℕ
held_below {up} {sums} {order} t q = sum_below sums (t.first ∷ t.cs) t.ps q

-- One more than the lesser of what is held below a qubit, and what the others of the chain hold.
-- Here the sums are those afterwards: at q stands the weight of the side below it, and at the first
-- qubit that of the whole chain, so their difference is the weight of the other side.
abbrev pub strength_in : List ℕ → ℕ → ℕ → ℕ
strength_in sums first q =
    min (slice_index_or sums q 0) (slice_index_or sums first 0 - slice_index_or sums q 0) + 1
