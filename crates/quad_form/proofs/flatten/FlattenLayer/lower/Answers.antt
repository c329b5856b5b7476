use Rattle.quad_form.proofs.Common.{nat_tests, ap, arith, BitsLink, quad_total, quad_size, Fits, flat_keeps}
use Rattle.quad_form.proofs.FlatForms.{quad_total-image, quad_size-image}
use Rattle.quad_form.proofs.SummedForms.{table_of-table}
use Rattle.quad_form.proofs.flatten.FlattenLayer.lower.Goals as goal

pub returns-clause-image : goal.returns-clause-image
returns-clause-image c = grind (arith, nat_tests, table_of-table)

pub returns-clause-keeps : goal.returns-clause-keeps
returns-clause-keeps c =
    let link : BitsLink = record { source_width = c.width-width.result; target_width = c.width-width.result } in
    let fits : Fits link c.args.source.now.content = record {
      source = c.width-width.ensures;
      target = c.width-width.ensures;
      table = c.sums_of.ensures.kept;
      low = c.sums_of.ensures.low;
    } in
    rw (returns-clause-image c) (flat_keeps link c.args.source.now.content fits)

pub returns-clause-total : goal.returns-clause-total
returns-clause-total c =
    omega (arith, ap quad_total (returns-clause-image c), quad_total-image c.args.source.now.content c.sums_of.ensures.low)

pub returns-clause-size : goal.returns-clause-size
returns-clause-size c =
    omega (arith, ap quad_size (returns-clause-image c), quad_size-image c.args.source.now.content c.sums_of.ensures.low)
