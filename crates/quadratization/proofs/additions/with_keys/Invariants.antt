use Rattle.quadratization.proofs.Common.{◌≡◌, ◌<◌, map, take, length, All, Keyed, key_for, addition_at, additions_at, product_term}
use Rattle.quadratization.proofs.additions.with_keys.Given as goal

-- the additions so far have their keys
abbrev pub invariant-loop-index : goal.invariant-loop-index
invariant-loop-index l = record {
  within : All (λ (k : Keyed). k.index < length l.additions) l.order.items;
  keys : All (λ (k : Keyed). k.key ≡ key_for l.length (addition_at l.additions k.index).0) l.order.items;
  whole : additions_at l.additions l.order.items ≡ map product_term (take l.index l.additions);
}
