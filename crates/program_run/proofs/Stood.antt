-- A model of the problem that a source is read into stands for the source.
use Rattle.program_run.proofs.Common.{nat_tests, ◌≡◌, ◌≤◌, ℕ, ℤ, Option, ◌+ℤ◌, ◌*ℤ◌, Bool, List, take, None, refl, sym, ap, ◌∙◌, subst, arith, take-take, take-map, Kind, Form, IsOf, Source, Figures, Decoding, RelaxesBy, StaysAbove, first_decoded, rewritten_by, Written, IsWellFormed, form_of, decoding_of, read_off, IsBounded, HasUnit, HasChains, scale_of, DecodesAlike, by_alike, stays_above_alike, StandsAtLeast, IsLeast, relaxed_stands, standing_is_faithful, rewritten_stands, UnitChoice, FitsFields, upper, Read, CostsAs, StandsFor, bounded, stays_stood_for, ChainStrength, Format, Command, PenaltyScope, decoding_to, StandsBy, StaysBy, ModelTarget, ties_of, demand_of, EveryStateStands, EveryStateStays, IsModelFor, Choi, Cut, Global, Local}
use Rattle.model_pipeline.specs.Targets.{kind_of}
use Rattle.problem_form.specs.Problems as problems
use Rattle.command_words.specs.declared.commands.Format.TheVariants.{Wbo}
use Rattle.program_run.proofs.Wanted.{HasSoft}

-- the first variables of what a state is read as are what it is read as for them
take-read_off : (kind : Kind) (a b : ℕ) (chains : List (List ℕ)) (y : List Bool) → a ≤ b
    → take a (read_off kind b chains y) ≡ read_off kind a chains y
take-read_off kind a b chains y few = grind (arith, nat_tests, take-take, take-map)

-- what stands at least does so by any decoding that agrees on the states
stands_alike : (f g : Form) (d d' : Decoding) (u : ℤ) (n : Figures) → DecodesAlike g d d'
    → StandsAtLeast f g d u n → StandsAtLeast f g d' u n
stands_alike f g d d' u n alike p = record {
  exact = λ feasible x. (
    λ least.
        let y = (p.exact feasible x).0 least in (y.0, y.1, alike y.0 y.1.width ∙ y.2),
    λ e. (p.exact feasible x).1 (e.0, e.1, sym (alike e.0 e.1.width) ∙ e.2),
  );
  decodes = λ feasible y l. subst (IsLeast f) (sym (alike y l.width)) (p.decodes feasible y l);
  least_energy = p.least_energy;
  infeasible = p.infeasible;
}

-- what a model of a problem has, wherever it stands
pub record IsMade (scope : PenaltyScope) (r : Read) (choice : UnitChoice) (ties : ChainStrength)
    (m : Written) : Type 0 where
  pub fits : FitsFields m
  pub bounded : IsBounded m
  pub well_formed : IsWellFormed m
  pub variables : m.variables ≡ r.variables
  pub scale : m.figures.scale ≡ scale_of m.kind
  pub threshold : m.figures.threshold ≡ m.figures.scale *ℤ upper r.problem +ℤ m.figures.offset
  pub unit : HasUnit choice m
  pub stands : StandsBy ties scope (problems.form_of r.problem) (form_of m)
      (decoding_to r.problem.variables m) m.unit m.figures

every_by : (ties : ChainStrength) (scope : PenaltyScope) (s : Source) (m : Written)
    → (ties ≡ Choi → RelaxesBy scope s.form (form_of m) (decoding_of m) m.unit m.figures)
    → EveryStateStands ties scope s m
every_by Choi Global s m relaxed = relaxed refl
every_by Choi Local s m relaxed = relaxed refl
every_by Cut scope s m relaxed = tt

relaxes_width : (scope : PenaltyScope) (f g : Form) (d : Decoding) (u : ℤ) (n : Figures)
    → RelaxesBy scope f g d u n → (y : List Bool) → IsOf g y → IsOf f (d.decoded y)
relaxes_width Global f g d u n relaxes y w = relaxes.width y w
relaxes_width Local f g d u n relaxes y w = relaxes.width y w

module _ (scope : PenaltyScope) (s : Source) (r : Read) (m : Written) (stands : StandsFor scope s r)
    (variables : m.variables ≡ r.variables) where
  bits : m.variables ≡ s.form.bits
  bits = variables ∙ stands.variables

  pub alike : DecodesAlike (form_of m) (first_decoded s.form.bits (decoding_to r.problem.variables m))
      (decoding_of m)
  alike y w = grind (arith, nat_tests, bits, take-read_off)

  source_relaxed : RelaxesBy scope (problems.form_of r.problem) (form_of m)
      (decoding_to r.problem.variables m) m.unit m.figures
      → RelaxesBy scope s.form (form_of m) (decoding_of m) m.unit m.figures
  source_relaxed relaxes =
      by_alike scope s.form s.form (form_of m)
      (first_decoded s.form.bits (decoding_to r.problem.variables m)) (decoding_of m)
      m.unit m.figures (record { width = refl; costs = λ x. refl }) alike
      (rewritten_by scope s.form (problems.form_of r.problem) (form_of m)
      (decoding_to r.problem.variables m) m.unit m.figures stands.rewrites relaxes)

  source_stands : StandsAtLeast (problems.form_of r.problem) (form_of m)
      (decoding_to r.problem.variables m) m.unit m.figures
      → StandsAtLeast s.form (form_of m) (decoding_of m) m.unit m.figures
  source_stands at_least =
      stands_alike s.form (form_of m)
      (first_decoded s.form.bits (decoding_to r.problem.variables m)) (decoding_of m)
      m.unit m.figures alike (rewritten_stands s.form (problems.form_of r.problem) (form_of m)
      (decoding_to r.problem.variables m) m.unit m.figures stands.rewrites at_least)

  -- as its ties allow
  every : (ties : ChainStrength)
      → StandsBy ties scope (problems.form_of r.problem) (form_of m) (decoding_to r.problem.variables m)
      m.unit m.figures → EveryStateStands ties scope s m
  every Choi relaxes = every_by Choi scope s m (λ choi. source_relaxed relaxes)
  every Cut standing = tt

  at_least : (ties : ChainStrength)
      → StandsBy ties scope (problems.form_of r.problem) (form_of m) (decoding_to r.problem.variables m)
      m.unit m.figures → StandsAtLeast s.form (form_of m) (decoding_of m) m.unit m.figures
  at_least Choi relaxes =
      relaxed_stands scope s.form (form_of m) (decoding_of m) m.unit m.figures (source_relaxed relaxes)
  at_least Cut standing = source_stands standing

-- what is made stands for the source, where it has the chains that are asked for
pub model_stands : (command : Command) (s : Source) (r : Read) (m : Written)
    → StandsFor command.penalty s r → (base : ModelTarget) (nodes : ℕ)
    → IsMade command.penalty r command.unit (ties_of base) m → m.kind ≡ kind_of base
    → (demand_of command.unit base nodes).unit ≡ command.unit
    → HasChains m.kind (demand_of command.unit base nodes) m → IsModelFor base command nodes s m
model_stands command s r m stands base nodes made kind same chains =
    let scope = command.penalty in
    record {
      kind = kind;
      fits = made.fits;
      bounded = made.bounded;
      every = every scope s r m stands made.variables (ties_of base) made.stands;
      faithful = standing_is_faithful s (demand_of command.unit base nodes) m made.well_formed (record {
        variables = bits scope s r m stands made.variables;
        scale = made.scale;
        threshold = made.threshold
            ∙ ap (λ upper. m.figures.scale *ℤ upper +ℤ m.figures.offset) stands.upper;
        unit = subst (λ u. HasUnit u m) (sym same) made.unit;
        chains = chains;
      }) (at_least scope s r m stands made.variables (ties_of base) made.stands);
    }

-- ---- what no state lies below

module _ (scope : PenaltyScope) (most : Option ℤ) (s : Source) (r : Read) (m : Written)
    (stands : StandsFor scope (bounded most s) r) (costs : CostsAs most s r)
    (variables : m.variables ≡ r.variables) where
  plain_stays : r.soft ≡ None → RelaxesBy scope (problems.form_of r.problem) (form_of m)
      (decoding_to r.problem.variables m) m.unit m.figures
      → StaysAbove (problems.form_of r.problem) (form_of m) (decoding_to r.problem.variables m) m.unit
      m.figures → StaysAbove (bounded most s).form (form_of m) (decoding_of m) m.unit m.figures
  plain_stays none relaxes stays =
      let f = (bounded most s).form in
      let d = decoding_to r.problem.variables m in
      stays_above_alike f f (form_of m) (first_decoded s.form.bits d) (decoding_of m) m.unit m.figures
      (record { width = refl; costs = λ x. refl }) (alike scope (bounded most s) r m stands variables)
      (stays_stood_for most s r costs none (form_of m) d m.unit m.figures
      (relaxes_width scope (problems.form_of r.problem) (form_of m) d m.unit m.figures relaxes) stays)

  -- as its ties and its format allow
  pub state_stays : (ties : ChainStrength) (format : Format) → HasSoft format r.soft
      → StandsBy ties scope (problems.form_of r.problem) (form_of m) (decoding_to r.problem.variables m)
      m.unit m.figures
      → StaysBy ties (problems.form_of r.problem) (form_of m) (decoding_to r.problem.variables m)
      m.unit m.figures → EveryStateStays ties format (bounded most s) m
  state_stays Cut format soft stand stay = tt
  state_stays Choi Wbo soft stand stay = tt
  state_stays Choi format soft stand stay = plain_stays soft stand stay
