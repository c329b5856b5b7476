use Rattle.pair_sums.proofs.Common.{rules, IsNonDecreasingBy-from_sort_by_key, pair_number}
use Rattle.pair_sums.proofs.pairs.sorted_wide.Goals as goal

pub returns-clause-ordered : goal.returns-clause-ordered
returns-clause-ordered c =
    IsNonDecreasingBy-from_sort_by_key pair_number _ c.sort_unstable_by_key.ensures.sorted (λ a r f k. search rules)
