use Rattle.quad_form.proofs.Divisors.{gcd_of_multiple}
use Rattle.quad_form.proofs.units.divisor_after.Goals as goal

pub returns-then-is_narrow_multiple : goal.returns-then-is_narrow_multiple
returns-then-is_narrow_multiple c =
    gcd_of_multiple c.args.divisor c.args.number (c.is_narrow_multiple.ensures c.if-is_narrow_multiple.true)
