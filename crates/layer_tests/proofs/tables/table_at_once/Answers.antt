use Rattle.std.proofs.Common.{arith, ap}
use Rattle.term_table.specs.Tables.{KeptTable}
use Rattle.term_table.specs.Terms.{terms_total}
use Rattle.term_table.proofs.Additions.{terms_total-with_additions}
use Rattle.layer_tests.proofs.tables.table_at_once.Goals as goal

pub returns-clause-total : goal.returns-clause-total
returns-clause-total c =
    omega (
      arith,
      ap (λ (t : KeptTable). terms_total t.content.terms) c.into_table.ensures,
      terms_total-with_additions c.loop-literals.gathered.terms,
      c.loop-literals.invariant.total,
      c.requires,
    )
