-- The model of an Ising form on the qubits of a graph, built of the images of the steps.
use Rattle.std.specs.Prelude.{ℕ, ℤ, pos, neg_ℤ, List}
use Rattle.base.specs.declared.costs.Figures.{Figures}
use Rattle.bits_model.specs.declared.output.Kind.{Kind}
use Rattle.base.specs.declared.unit.UnitChoice.{UnitChoice}
use Rattle.base.specs.declared.unit.UnitChoice.TheVariants.{One, Reduce}
use Rattle.base.specs.Figures.{figures_after, figures_moved}
use Rattle.bits_model.specs.Output.{Written}
use Rattle.command_words.specs.declared.commands.ChainStrength.{ChainStrength}
use Rattle.command_words.specs.declared.commands.ChainStrength.TheVariants.{Choi, Cut}
use Rattle.ising_form.specs.Isings.{IsingContent}
use Rattle.ising_form.specs.Outputs as isings
use Rattle.ising_form.specs.Reduction as reduction
use Rattle.embedding_check.specs.Embeddings.{Embedding}
use Rattle.chain_layer.specs.Image as chains
use Rattle.cut_chains.specs.Sides.{cut_strength}

-- ---- the ties

-- how strong the tie of a node's qubit is: so strong that no broken tie pays, or as strong as its
-- lighter side asks
abbrev pub strength_by : ChainStrength → Embedding → ℕ → ℕ → ℕ
strength_by Choi e = λ node q. chains.strength e node
strength_by Cut e = cut_strength e

-- an embedded form on the qubits, with these ties
abbrev pub image_tied : ChainStrength → Embedding → IsingContent
image_tied ties e = chains.image_by (strength_by ties e) e

-- what the ties give where none is broken
abbrev pub offset_tied : ChainStrength → Embedding → ℤ
offset_tied ties e = chains.offset_by (strength_by ties e) e

-- how the energies on chains stand for costs: as those of the embedded form do, but lower by what
-- the ties give
abbrev pub chained_figures : ChainStrength → Embedding → Figures → Figures
chained_figures ties e figures = figures_after figures (pos 1) (offset_tied ties e)

-- ---- a model

-- the model of a form on chains of qubits: as it is, or counted in its greatest unit without the
-- constant
abbrev pub chained_model : UnitChoice → IsingContent → ℕ → Figures → Kind → List (List ℕ) → Written
chained_model One f variables figures kind chains =
    isings.written_of f variables figures (pos 1) kind chains
chained_model Reduce f variables figures kind chains =
    isings.written_of (reduction.reduced f) variables
    (figures_moved figures (neg_ℤ f.constant)) (reduction.ising_unit f) kind chains

-- the model of an embedded Ising form on the qubits of a graph: its energies are lower than those of
-- the embedded form by what the ties give
abbrev pub qubit_model : UnitChoice → ChainStrength → Embedding → ℕ → Figures → Kind → Written
qubit_model unit ties e variables figures kind =
    chained_model unit (chains.image_by (strength_by ties e) e) variables
    (figures_after figures (pos 1) (chains.offset_by (strength_by ties e) e)) kind e.chains
