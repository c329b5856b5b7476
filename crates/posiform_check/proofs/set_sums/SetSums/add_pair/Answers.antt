use Rattle.posiform_check.proofs.Common.{rules, to_z, of_z, w64, pair_set}
use Rattle.posiform_check.specs.declared.set_sums.PairTerm.{PairTerm}
use Rattle.posiform_check.proofs.Sums.{sums_pair}
use Rattle.posiform_check.proofs.set_sums.SetSums.add_pair.Goals as goal

pub returns-in_ok-push_pair-in-Ok-Ok-Ok : goal.returns-in_ok-push_pair-in-Ok-Ok-Ok
returns-in_ok-push_pair-in-Ok-Ok-Ok c =
    let parts = c.self.inside in
    let p : PairTerm = record {
      first = c.in-Ok-Ok-Ok.first;
      second = c.in-Ok-Ok-Ok.second;
      coefficient = to_z w64 (of_z w64 c.in-Ok-Ok-Ok.coefficient);
    } in
    sums_pair parts.constant parts.nodes.items parts.pairs.items c.push_pair.new.pairs.items p
    (pair_set c.args.first c.args.second, c.args.coefficient) c.args.self.now (search rules)
    (search rules) c.self.view_is
