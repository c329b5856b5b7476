use Rattle.std.proofs.Common.{◌+◌, ◌-◌, arith}
use Rattle.rosenberg_layer.specs.Rosenberg.{image, excess}
use Rattle.rosenberg_layer.specs.laws.Kept.{width-run-le}
use Rattle.rosenberg_layer.proofs.Finish.{width-le}
use Rattle.layer_tests.proofs.substitutions.have_the_same_pairs.Goals as goal

pub overflow_sub-turns : goal.overflow_sub-turns
overflow_sub-turns c =
    let t = c.args.table.now.content in
    omega (arith, c.requires.source, c.requires.target, width-run-le (excess t.terms) t)

pub pairs_of-requires-clause-narrow : goal.pairs_of-requires-clause-narrow
pairs_of-requires-clause-narrow c =
    let t = c.args.table.now.content in
    omega (
      arith,
      c.requires.source,
      c.requires.target,
      width-run-le (excess t.terms) t,
      width-le (c.args.bits - c.args.variables) t,
    )

pub wide_pairs-requires-clause-narrow : goal.wide_pairs-requires-clause-narrow
wide_pairs-requires-clause-narrow c =
    let t = c.args.table.now.content in
    omega (
      arith,
      c.requires.source,
      c.requires.target,
      width-run-le (excess t.terms) t,
      width-le (c.args.bits - c.args.variables) t,
    )
