use Rattle.local_penalties.proofs.Common.{◌≡◌, ℕ, rules, descending, is_lt, nat_cmp, nat_cmp_total, sym, ◌∙◌, sum_by-IsPermutation, ranks_by, IsStrictWeakOrder-flip, always_returns_same}
use Rattle.local_penalties.proofs.Descending.{descending-falls, sum-descending, one-order, sorted-falls}
use Rattle.local_penalties.proofs.greatest.sort_down.Goals as goal

pub returns : goal.returns
returns c =
    let ns = c.args.numbers.now.items in
    let ms = c.sort_unstable_by.new.self.items in
    let sorted = c.sort_unstable_by.ensures.sorted (λ (m n : ℕ). is_lt (nat_cmp n m))
    (IsStrictWeakOrder-flip (λ (m n : ℕ). is_lt (nat_cmp m n)) (ranks_by nat_cmp_total (λ (n : ℕ). n)))
    (always_returns_same _ (λ a r. is_lt r ≡ is_lt (nat_cmp a.1.0.now a.0.now)) _ (λ a r f k. (search rules, search rules))) in
    one-order ms (descending ns) (sorted-falls ms sorted) (descending-falls ns)
    (λ f. sum_by-IsPermutation f ns ms c.sort_unstable_by.ensures.permutation ∙ sym (sum-descending f ns))
