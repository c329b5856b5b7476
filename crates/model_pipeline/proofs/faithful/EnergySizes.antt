-- Energies are no greater than all weights together.
use Rattle.model_pipeline.proofs.faithful.Common.{arith, size-energy, EnergiesAreBounded}

pub energies_bounded : EnergiesAreBounded
energies_bounded m bounded y = omega (arith, size-energy m.kind y m.entries, bounded.weights)
