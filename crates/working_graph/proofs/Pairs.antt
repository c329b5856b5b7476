-- Numbers of pairs.
use Rattle.working_graph.proofs.Common.{◌≡◌, ℕ, ◌≤◌, min, max, arith, nat_tests, pair_number}

-- the number of two that are in order
pub number_of_ordered : (a b : ℕ) → a ≤ b → pair_number (min a b) (max a b) ≡ pair_number a b
number_of_ordered a b le = grind (arith, nat_tests)
