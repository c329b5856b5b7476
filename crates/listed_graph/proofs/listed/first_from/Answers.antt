use Rattle.listed_graph.proofs.Common.{rules, of_calls, nat_lt, always_returns_same, get_or, arith, nat_tests, sym}
use Rattle.std.specs.Prelude.{nat_le}
use Rattle.std.proofs.lemmas.List.Sums.{position_or_len_is}
use Rattle.part_lists.proofs.Rising.{rising_parted}
use Rattle.listed_graph.proofs.listed.first_from.Goals as goal

pub returns : goal.returns
returns c =
    let from = c.args.from in
    let point = c.partition_point.ensures.partitioned (λ n. nat_lt n from)
    (always_returns_same _ _ _ (λ a r f k. search (rules, of_calls)))
    (rising_parted c.args.numbers.now from c.requires) in
    sym (position_or_len_is (nat_le from) c.args.numbers.now c.partition_point.result 0 (omega arith)
    (λ k low. let before = point.0 k 0 (omega arith) low in grind (arith, nat_tests))
    (λ low. let after = point.1 c.partition_point.result 0 (omega arith) low in grind (arith, nat_tests)))
