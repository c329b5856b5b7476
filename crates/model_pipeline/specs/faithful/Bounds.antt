-- How great the numbers of a written model are.
use Rattle.std.specs.Prelude.{◌<◌, ◌^◌, unsigned_abs}
use Rattle.base.specs.declared.costs.Figures.{Figures}
use Rattle.bits_model.specs.Output.{Written, weight_total}

-- no figure is 2 ^ 124 in size
pub record AreBounded (n : Figures) : Type 0 where
  pub scale : unsigned_abs n.scale < 2 ^ 124
  pub offset : unsigned_abs n.offset < 2 ^ 124
  pub threshold : unsigned_abs n.threshold < 2 ^ 124

-- the sizes of the weights sum to less than 2 ^ 121, and the unit and the figures are below 2 ^ 124
-- in size
pub record IsBounded (m : Written) : Type 0 where
  pub weights : weight_total m.entries < 2 ^ 121
  pub unit : unsigned_abs m.unit < 2 ^ 124
  pub figures : AreBounded m.figures
