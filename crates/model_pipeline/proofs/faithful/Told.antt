-- What a least state tells of the source.
--
-- The cost of the assignment that it decodes to is whole or infinite. Where it is whole the source
-- is feasible, and so least states decode to least assignments. Where it is infinite the source is
-- not feasible, since a least state would decode to a least assignment; so some least state lies
-- above the threshold, and all least states have one energy.
use Rattle.model_pipeline.proofs.faithful.Common.{nat_tests, ◌≡◌, ℤ, ◌*ℤ◌, ◌≤ℤ◌, ◌<ℤ◌, Bool, List, length, refl, arith, ap, ◌∙◌, ints, length-take-le, length-map, Cost, Kind, Form, Source, energy, IsFeasible, IsLeastState, Written, FitsKind, form_of, decoding_of, read_off, Demand, Faithful, whole_energy, TellsOptimum, LeastStatesTell}
use Rattle.base.specs.declared.costs.Cost.TheVariants.{Whole, Infinite}

-- a state decodes to as many bits as the model has variables
pub length-read_off : (m : Written) (y : List Bool) → (k : Kind) → FitsKind k m → length y ≡ m.nodes
    → length (read_off k m.variables m.chains y) ≡ m.variables
length-read_off m y k f w = grind (arith, nat_tests, length-take-le, length-map)

-- two least states have one energy
same_energy : (g : Form) (y y' : List Bool) → IsLeastState g y → IsLeastState g y'
    → energy g y ≡ energy g y'
same_energy g y y' l l' = omega (arith, ints, l.least y' l'.width, l'.least y l.width)

no_whole : {v : ℤ} (c : Cost) → c ≡ Infinite → c ≡ Whole v → ⊥
no_whole c e w = cc

module _ {source : Source} {demand : Demand} {m : Written} where
  -- where the source is feasible, a least state tells its optimum
  optimum : Faithful source demand m → (y : List Bool) → IsLeastState (form_of m) y
      → IsFeasible source.form → TellsOptimum source m y
  optimum f y l feasible =
      let least = f.stands.decodes feasible y l in
      record {
        cost = least.0;
        least = least.1;
        energy = f.stands.least_energy _ least.0 y least.1 l;
      }

  -- where some least state lies above the threshold, the source is infeasible
  pub above : Faithful source demand m → (y : List Bool) → IsLeastState (form_of m) y
      → m.figures.threshold <ℤ whole_energy m y → ¬ (IsFeasible source.form)
  above f y l over = f.stands.infeasible.1 (y, l, over)

  pub below : Faithful source demand m → (y : List Bool) → IsLeastState (form_of m) y
      → whole_energy m y ≤ℤ m.figures.threshold → TellsOptimum source m y
  below f y l under = go (source.form.cost ((decoding_of m).decoded y)) refl
    where
      go : (c : Cost) → source.form.cost ((decoding_of m).decoded y) ≡ c → TellsOptimum source m y
      go (Whole v) e =
          optimum f y l (
            (decoding_of m).decoded y,
            v,
            record {
              width = length-read_off m y m.kind f.well_formed.kind l.width ∙ f.stated.variables;
              whole = e;
            },
          )
      go Infinite e =
          let never : ¬ (IsFeasible source.form) = λ feasible.
          let least = f.stands.decodes feasible y l in no_whole _ e least.1.has.whole
          in
          let over = f.stands.infeasible.0 never in
          absurd (omega (
            arith,
            ints,
            under,
            over.2,
            ap (λ n. m.unit *ℤ n) (same_energy (form_of m) y over.0 l over.1),
          ))

-- a least state tells the optimum of the source, or that it is infeasible
pub least_states_tell : LeastStatesTell
least_states_tell source demand m y f l = (below f y l, above f y l)
