use Rattle.rosenberg_layer.proofs.Common.{◌≡◌, fold, take, with_product}
use Rattle.rosenberg_layer.proofs.pair_list.PairList.push_products.Given as goal

-- the products of the pairs so far were appended
abbrev pub invariant-loop-index : goal.invariant-loop-index
invariant-loop-index l = l.bits.items ≡ fold with_product l.fn.bits.items (take l.index l.self)
