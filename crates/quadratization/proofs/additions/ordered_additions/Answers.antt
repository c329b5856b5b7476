use Rattle.quadratization.proofs.Common.{◌≡◌, ◌<◌, List, length, subst, rules, All, is_lt, IsPermutation, always_returns_same, All-weaker, All-from_recursion, ranks_by, All-permutation, IsPermutation-map, Literal, Product, Term, Keyed, IsCoded, key_for, addition_at, additions_at}
use Rattle.quadratization.proofs.SortedAdditions.{IsAddition, are_additions, sets_sorted, keyed_cmp, keyed_total}
use Rattle.quadratization.proofs.additions.ordered_additions.Goals as goal

pub with_keys-requires : goal.with_keys-requires
with_keys-requires c =
    let n = c.key_length.result in
    All-weaker (IsAddition n) (λ (p : Product). All (λ (l : Literal). IsCoded n l.variable) p.literals)
    (λ (p : Product) h. All-from_recursion (λ (l : Literal). IsCoded n l.variable) p.literals h.low) c.args.additions.now
    (are_additions n c.args.width c.args.additions.now c.requires.additions.sets c.requires.long c.key_length.ensures)

pub returns-clause-indices : goal.returns-clause-indices
returns-clause-indices c =
    All-permutation (λ (k : Keyed). k.index < length c.args.additions.now) _ _ c.sort_unstable_by.ensures.permutation c.in_ok-order.ensures.within

pub returns-clause-permuted : goal.returns-clause-permuted
returns-clause-permuted c =
    subst (λ (ts : List Term). IsPermutation ts (additions_at c.args.additions.now c.sort_unstable_by.new.self.items)) c.in_ok-order.ensures.whole
    (IsPermutation-map (λ (k : Keyed). addition_at c.args.additions.now k.index) _ _ c.sort_unstable_by.ensures.permutation)

pub returns-clause-ordered : goal.returns-clause-ordered
returns-clause-ordered c =
    let ps = c.args.additions.now in
    let n = c.key_length.result in
    let moved = c.sort_unstable_by.ensures.permutation in
    let sorted = c.sort_unstable_by.ensures.sorted (λ a b. is_lt (keyed_cmp ps a b)) (ranks_by (keyed_total ps) (λ (k : Keyed). k))
    (always_returns_same _ (λ a r. is_lt r ≡ is_lt (keyed_cmp ps a.0.now a.1.0.now)) _ (λ a r f k. (search rules, search rules))) in
    sets_sorted n ps _
    (are_additions n c.args.width ps c.requires.additions.sets c.requires.long c.key_length.ensures)
    (All-permutation (λ (k : Keyed). k.index < length ps) _ _ moved c.in_ok-order.ensures.within)
    (All-permutation (λ (k : Keyed). k.key ≡ key_for n (addition_at ps k.index).0) _ _ moved c.in_ok-order.ensures.keys)
    sorted

pub returns-clause-keys : goal.returns-clause-keys
returns-clause-keys c =
    let n = c.key_length.result in
    record {
      literals = n;
      keys = All-permutation (λ (k : Keyed). k.key ≡ key_for n (addition_at c.args.additions.now k.index).0) _ _ c.sort_unstable_by.ensures.permutation c.in_ok-order.ensures.keys;
    }
