-- What the proofs of this crate stand on, of std and of the crates below.
pub use Rattle.std.proofs.Common.{◌≡◌, ℤ, Bool, List, ap, sym, ◌∙◌, length, ◌+◌, ◌^◌, arith, ◌-◌, ◌<ℤ◌, false, ◌++◌, take, replicate, refl, subst, rules, inl, inr}
pub use Rattle.base.specs.declared.costs.Cost.{Cost}
pub use Rattle.base.specs.declared.costs.Figures.{Figures}
pub use Rattle.base.specs.Costs.{Form, IsOf, energy}
pub use Rattle.form_steps.specs.Relations.{Decoding, Relaxes, RelaxesAtLeast, RelaxesBy, StandsAt, StaysAbove, ReachesIn, Rewrites, first_decoded}
pub use Rattle.form_steps.specs.Stated.{HasSameCosts, DecodesAlike}
pub use Rattle.std.specs.Prelude.{ℕ, pos, ◌*◌, ◌≤◌, ◌+ℤ◌, ◌*ℤ◌, ◌≤ℤ◌, FitsSigned, unsigned_abs}
pub use Rattle.std.specs.Int.{w128}
pub use Rattle.std.proofs.Math.Nat.{mul-le-mul, mul-le-mul_left, mul-le-mul_right}
pub use Rattle.std.proofs.lemmas.Nat.{pow-add, pow_pos}
pub use Rattle.std.proofs.Math.Pow.{pow_mono}
pub use Rattle.std.proofs.lemmas.Int.{ints, unsigned_abs-mul, fits_signed_from_abs, to_z-of_z}
pub use Rattle.std.proofs.Math.Seq.{take-append_seam}
pub use Rattle.std.proofs.lemmas.List.{length-append, length-replicate, length-take-le}
pub use Rattle.base.proofs.Products.{times-le, one_le_times}
pub use Rattle.std.proofs.lemmas.Result.{IfOk-weaker}
pub use Rattle.form_steps.specs.laws.Composed.{least-trans, keeps_after_relaxes, Reaches-trans, keeps_after_keeps}
pub use Rattle.form_steps.specs.laws.AtLeast.{relaxes_at_least, relaxes_stays_above, by_at_least, keeps_after_by, keeps_stays_above, reduces_after_by, reduces_stays_above}
pub use Rattle.std.proofs.lemmas.Bool.Decides.{nat_tests}
