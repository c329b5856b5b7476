-- The text of a model is read again, and costs what the model's energies are.
use Rattle.entry_reader.proofs.Common.{nat_tests, arith, refl, ap, total_by-map, total_by-same, told_by, TextsKeepEnergies}
use Rattle.base.specs.declared.costs.Cost.TheVariants.{Whole}
use Rattle.entry_reader.proofs.TextsAgain.{texts_are_read_again}

pub texts_keep_energies : TextsKeepEnergies
texts_keep_energies m h = (
  told_by m,
  texts_are_read_again m h,
  record { width = refl; costs = λ x. ap Whole (grind (arith, nat_tests, total_by-map, total_by-same)) },
)
