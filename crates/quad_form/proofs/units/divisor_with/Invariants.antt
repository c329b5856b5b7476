use Rattle.quad_form.proofs.Common.{ℕ, map, IsCommonDivisor, weight_of}
use Rattle.quad_form.proofs.units.divisor_with.Given as goal

-- with the couplers that are left it makes up that of all
abbrev pub invariant-loop-coupler : goal.invariant-loop-coupler
invariant-loop-coupler l = (d : ℕ) → IsCommonDivisor l.divisor (map weight_of l.coupler-iterator) d
    → IsCommonDivisor l.start (map weight_of l.couplers) d
