-- What the search of one chain answers.
use Rattle.std.specs.Prelude.{ℕ, ◌<◌, List, length, All}
use Rattle.std.specs.List.{slice_index_or}
use Rattle.embedding_check.specs.declared.search.Parents.{Parents}
use Rattle.embedding_check.specs.declared.search.Parents.TheVariants.{All as AllOf, Unreached}
use Rattle.chain_map.specs.Chains.{Joins}
use Rattle.bits_model.specs.Walks.{IsReached}
use Rattle.embedding_check.specs.Distances.{AreParents}

-- the least number below `count` that is not good
pub record IsFirstBad (count : ℕ) (Good : ℕ → Type 0) (k : ℕ) : Type 0 where
  pub below : k < count
  pub bad : Good k → ⊥
  pub before : (j : ℕ) → j < k → Good j

-- the parents of a chain whose qubits are all reached, or the first that is not
abbrev pub AreFound : Joins → List ℕ → Parents → Type 0
AreFound joined chain (AllOf parents) = AreParents joined chain parents.items × All (IsReached joined chain) chain
AreFound joined chain (Unreached k) =
    IsFirstBad (length chain) (λ j. IsReached joined chain (slice_index_or chain j 0)) k
