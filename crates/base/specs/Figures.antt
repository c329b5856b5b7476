-- Figures after a step.
use Rattle.std.specs.Prelude.{ℤ, ◌+ℤ◌, ◌*ℤ◌}
use Rattle.base.specs.declared.costs.Figures.{Figures}

-- the figures after a step of this scale and offset
abbrev pub figures_after : Figures → ℤ → ℤ → Figures
figures_after n a b = record {
  scale = n.scale *ℤ a;
  offset = a *ℤ n.offset +ℤ b;
  threshold = a *ℤ n.threshold +ℤ b;
}

-- the figures where every energy is moved by b
abbrev pub figures_moved : Figures → ℤ → Figures
figures_moved n b = record n { offset = n.offset +ℤ b; threshold = n.threshold +ℤ b }
