-- What is made of a problem, on the nodes of its form and on the qubits of a graph.
use Rattle.model_pipeline.proofs.Common.{◌≡◌, ◌≤◌, ℕ, Bool, ap, sym, subst, ◌∙◌, inl, Written, Figures, UnitChoice, NodeModel, QuadContent, IsQuad, IsingContent, IsIsing, image, Choices, ProblemContent, form_of, PenaltyScope, StandsAtLeast, relaxed_stands, Site, ising_of, quad_of, form_model, ising_figures, decoding_to, IsQuadratized, IsIsingOf, IsModelOf, IsMadeOf, IsFormAt, CanStandBy}
use Rattle.bits_model.specs.Output as outputs
use Rattle.penalty_layer.specs.Penalty.{Allows}
use Rattle.model_pipeline.specs.GraphModels.{StandsForForm}
use Rattle.model_pipeline.specs.Kept.{AreKept}
use Rattle.model_pipeline.specs.Targets.{ties_of, IsModelOn, StandsOn, CanStandOn}
use Rattle.model_pipeline.specs.Compiled.{IsCompiled}
use Rattle.model_pipeline.specs.declared.made.Made.{Made}
use Rattle.model_pipeline.specs.declared.options.ModelTarget.{ModelTarget}
use Rattle.model_pipeline.specs.declared.options.ModelTarget.TheVariants.{Nodes, Qubits}
use Rattle.model_pipeline.proofs.GraphModels.{form_at_site, made_at_site, spun_as}
use Rattle.model_pipeline.proofs.Standing.{formed_model}
use Rattle.model_pipeline.proofs.Tied.{least_stand_by}

module _ (choices : Choices) (unit : UnitChoice) (own : ℕ) (p : ProblemContent) where
  -- the least states of a model that stands for the problem are its least assignments
  stands_least : (target : ModelTarget) (m : Written) → StandsOn target choices unit own p m
      → (scope : PenaltyScope) → Allows scope p
      → StandsAtLeast (form_of p) (outputs.form_of m) (decoding_to p.variables m) m.unit m.figures
  stands_least (Nodes target) m stands scope allowed =
      relaxed_stands scope _ _ _ _ _ (stands.relaxes scope allowed)
  stands_least (Qubits site) m stands scope allowed =
      least_stand_by site.ties scope _ _ _ _ _ (stands.stands scope allowed)

  module _ (keep : Bool) (made : Made) (few : own ≤ p.variables)
      (steps : AreKept keep choices p made.steps) where
    -- what is made on a target
    abbrev CompiledOn : ModelTarget → Type 0
    CompiledOn target =
        IsCompiled
        (record { choices = choices; unit = unit; target = target; keep_steps = keep }) own p made

    compiled : (target : ModelTarget) → IsModelOn target choices unit own p made.model
        → CanStandOn target (ising_of choices p) → StandsOn target choices unit own p made.model
        → IsMadeOf (ties_of target) own choices p made.model → CompiledOn target
    compiled target by can stands built = record {
      by = by;
      can_stand = can;
      stands = stands;
      built = built;
      least = stands_least target made.model stands;
      steps = steps;
    }

    module _ (q : QuadContent) (n : Figures) (kept : IsQuad q) (same : q ≡ quad_of choices p)
        (formed : IsQuadratized p q n) where
      pub compiled_on_nodes : (target : NodeModel) → made.model ≡ form_model target unit q own n
          → CompiledOn (Nodes target)
      compiled_on_nodes target is =
          let by = is ∙ (λ i. form_model target unit (same i) own (formed.figures i)) in
          compiled (Nodes target) by tt
          (subst (λ m. IsModelOf p own target unit m) (sym is)
          (formed_model target unit p own q n kept formed few)) (few, inl (target, unit, by))

      -- its Ising form
      module _ (f : IsingContent) (r : Figures) (form : f ≡ image q) (figured : r ≡ ising_figures n) where
        pub spun : IsIsingOf p f r
        spun = spun_as p q n f r kept formed form figured

        pub compiled_on_qubits : (site : Site) → IsFormAt site unit f own r made.model
            → StandsForForm site unit f own r made.model → CanStandBy site f
            → CompiledOn (Qubits site)
        compiled_on_qubits site by stands can =
            let all = form ∙ ap image same in
            let there = form_at_site site choices unit own p made.model f r all spun by stands in
            let can_stand = subst (CanStandBy site) all can in
            compiled (Qubits site) there.0 can_stand there.1
            (made_at_site site choices unit own p made.model (subst IsIsing all spun.kept) few can_stand
            there.0)
