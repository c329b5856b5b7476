use Rattle.embedding_check.proofs.Common.{rules, IsNonDecreasingBy-from_sort}
use Rattle.embedding_check.proofs.Sorting.{sorted_is}
use Rattle.embedding_check.proofs.search.sort_chain.Goals as goal

pub returns : goal.returns
returns c =
    sorted_is c.args.chain.now c.sort_unstable.new.self.items c.requires (search rules)
    (IsNonDecreasingBy-from_sort (λ x. x) _ c.sort_unstable.ensures.sorted)
