use Rattle.cut_chains.proofs.Common.{ap, arith, ints, ising_total, ising_size}
use Rattle.cut_chains.proofs.CutSizes.{cut_cost-le, cut_total_grows, cut_size_grows}
use Rattle.cut_chains.proofs.cut_chains.lowered.Goals as goal

pub overflow_cast-result : goal.overflow_cast-result
overflow_cast-result c =
    let made = c.in_ok-target.ensures in omega (arith, ints, made.cost, cut_cost-le _ made.kept)

pub overflow_sub-result : goal.overflow_sub-result
overflow_sub-result c =
    let made = c.in_ok-target.ensures in omega (arith, ints, made.cost, cut_cost-le _ made.kept)

pub returns : goal.returns
returns c =
    let e = c.args.source.now in
    let made = c.in_ok-target.ensures in record {
      image = made.image;
      offset = omega (arith, ints, made.cost, cut_cost-le e made.kept);
      kept = made.kept;
      total = omega (arith, ap ising_total made.image, cut_total_grows e made.kept);
      size = omega (arith, ap ising_size made.image, cut_size_grows e made.kept);
    }
