-- What the proofs of this crate stand on, of std and of the crates below.
pub use Rattle.std.proofs.Common.{arith, ◌≡◌, ℕ, zero, suc, ℤ, pos, ◌+ℤ◌, ◌*ℤ◌, ◌≤ℤ◌, ◌<ℤ◌, Bool, true, false, List, [], ◌∷◌, length, refl, ap, subst, sym, ◌∙◌, take, inl, inr}
pub use Rattle.bits_model.proofs.Energies.{size-energy}
pub use Rattle.model_pipeline.specs.faithful.Stated.{EnergiesAreBounded, LeastStatesTell}
pub use Rattle.std.proofs.lemmas.Int.{ints, by_lt_z}
pub use Rattle.base.proofs.Products.{times-le, times-lt, scaled_twice}
pub use Rattle.base.specs.declared.costs.Figures.{Figures}
pub use Rattle.base.specs.Costs.{Form, Source, IsOf, energy}
pub use Rattle.form_steps.specs.Relations.{Decoding, RelaxesAtLeast, RelaxesBy, ReachesIn, Reaches, Reduces, decoding_after, Rewrites, first_decoded}
pub use Rattle.form_steps.specs.declared.scope.PenaltyScope.{PenaltyScope}
pub use Rattle.form_steps.specs.laws.AtLeast.{by_at_least}
pub use Rattle.form_steps.proofs.Rewritten.{first_is_of}
pub use Rattle.form_steps.specs.Least.{HasCost, IsFeasible, IsLeast, IsLeastAt, IsLeastState, KeepsLeast}
pub use Rattle.bits_model.specs.Output.{Written, IsWellFormed, form_of, decoding_of, FitsKind, read_off}
pub use Rattle.model_pipeline.specs.faithful.AtLeast.{StandsAtLeast}
pub use Rattle.model_pipeline.specs.faithful.Faithful.{Demand, Faithful, IsStated}
pub use Rattle.base.specs.Figures.{figures_after, figures_moved}
pub use Rattle.std.proofs.lemmas.List.{length-take-le, length-map}
pub use Rattle.base.specs.declared.costs.Cost.{Cost}
pub use Rattle.bits_model.specs.declared.output.Kind.{Kind}
pub use Rattle.model_pipeline.specs.faithful.Told.{whole_energy, TellsOptimum}
pub use Rattle.std.proofs.lemmas.Bool.Decides.{nat_tests}
