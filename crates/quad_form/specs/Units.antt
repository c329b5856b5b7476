-- The greatest unit that all weights can be counted in, and weights that are counted in a unit.
use Rattle.std.specs.Prelude.{ℕ, zero, suc, ◌%◌, ◌==◌, ℤ, pos, int_div, unsigned_abs, Bool, List, ◌++◌, map, All, if◌then◌else◌}
use Rattle.std.specs.Int.{◌∣◌}
use Rattle.std.specs.List.{list_all, sum_by}
use Rattle.bits_model.specs.declared.output.Entry.{Entry}
use Rattle.base.specs.declared.costs.Figures.{Figures}
use Rattle.bits_model.specs.Units.{IsReduced}
use Rattle.quad_form.specs.Quads.{QuadContent, written_of}

-- the weight is a multiple of d
abbrev pub is_multiple : ℕ → ℤ → Bool
is_multiple d w = (unsigned_abs w % d) == 0

-- the weight of an entry
abbrev pub weight_of : Entry → ℤ
weight_of e = e.weight

-- the greatest common divisor of another number and the sizes of weights
pub record IsCommonDivisor (start : ℕ) (ws : List ℤ) (d : ℕ) : Type 0 where
  pub first : d ∣ start
  pub weights : All (λ w. d ∣ unsigned_abs w) ws
  pub greatest : (k : ℕ) → k ∣ start → All (λ w. k ∣ unsigned_abs w) ws → k ∣ d

-- the greatest of the first n whole numbers that divides all weights, and 1 where there is none
abbrev pub greatest_within : ℕ → List ℤ → ℕ
greatest_within zero ws = 1
greatest_within (suc n) ws = if list_all (is_multiple (suc n)) ws then suc n else greatest_within n ws

-- The greatest whole number that divides all weights, which is 1 where all are 0: no divisor of a
-- weight that is not 0 is above the sum of the sizes. Of 6, -4 and 0 it is 2.
abbrev pub unit_of : List ℤ → ℤ
unit_of ws = pos (greatest_within (sum_by unsigned_abs ws) ws)

-- the weights of nodes, and then those of couplers
abbrev pub weights_of : List ℤ → List Entry → List ℤ
weights_of diagonal couplers = diagonal ++ map weight_of couplers

-- A weight, counted in a unit. Where the unit divides the weight nothing is lost.
abbrev pub counted_in : ℤ → ℤ → ℤ
counted_in unit w = int_div w unit

-- an entry whose weight is counted in a unit
abbrev pub entry_in : ℤ → Entry → Entry
entry_in unit e = record e { weight = counted_in unit e.weight }

-- ---- of a form

-- the greatest unit of its weights, whatever the constant is
abbrev pub quad_unit : QuadContent → ℤ
quad_unit q = unit_of (weights_of q.diagonal q.couplers)

-- Its weights, counted in their greatest unit, and no constant. The constant is not divided: it is
-- taken off the offset and the threshold before.
abbrev pub reduced : QuadContent → QuadContent
reduced q = record {
  constant = pos 0;
  diagonal = map (counted_in (quad_unit q)) q.diagonal;
  couplers = map (entry_in (quad_unit q)) q.couplers;
}

-- whatever its model says besides, the unit of the model is the greatest
abbrev pub IsReducedAsWritten : QuadContent → ℤ → Type 0
IsReducedAsWritten q unit =
    (variables : ℕ) (figures : Figures) → IsReduced (written_of q variables figures unit)
