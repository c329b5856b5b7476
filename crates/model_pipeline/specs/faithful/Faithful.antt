-- What the written model promises of the source.
use Rattle.std.specs.Prelude.{◌≡◌, ◌≢◌, ℕ, ◌≤◌, ◌==◌, ℤ, pos, ◌+ℤ◌, ◌*ℤ◌, true, List, [], All, count_by, Bool, ⊤}
use Rattle.std.specs.List.{concat}
use Rattle.bits_model.specs.declared.output.Kind.{Kind}
use Rattle.bits_model.specs.declared.output.Kind.TheVariants.{Qubo, Ising, Qubits}
use Rattle.base.specs.declared.unit.UnitChoice.{UnitChoice}
use Rattle.base.specs.declared.unit.UnitChoice.TheVariants.{One, Reduce}
use Rattle.base.specs.Costs.{Source}
use Rattle.model_pipeline.specs.faithful.AtLeast.{StandsAtLeast}
use Rattle.bits_model.specs.Walks.{IsConnected}
use Rattle.bits_model.specs.Output.{Written, IsWellFormed, is_coupler, form_of, decoding_of}
use Rattle.bits_model.specs.Units.{IsReduced}

-- what a command asks of a model: how its unit is chosen and, on the qubits of a graph, the chains,
-- which qubits there are and which two of them are joined
pub record Demand : Type 0 where
  pub unit : UnitChoice
  pub chains : List (List ℕ)
  pub exists : ℕ → Bool
  pub joined : ℕ → ℕ → Bool

-- ---- the stated figures

-- the scale of each kind: energies of spins are four times those of bits
abbrev pub scale_of : Kind → ℤ
scale_of Qubo = pos 1
scale_of Ising = pos 4
scale_of (Qubits graph) = pos 4

-- the unit is the one that was chosen
abbrev pub HasUnit : UnitChoice → Written → Type 0
HasUnit One m = m.unit ≡ pos 1
HasUnit Reduce m = IsReduced m

-- the chains are those that were asked for, none of them empty, of qubits that there are, each
-- connected by joins inside it and no qubit twice, and couplers stand on joined qubits
pub record IsEmbedded (demand : Demand) (m : Written) : Type 0 where
  pub chains : m.chains ≡ demand.chains
  pub filled : All (λ chain. chain ≢ []) m.chains
  pub alive : All (λ chain. All (λ q. demand.exists q ≡ true) chain) m.chains
  pub connected : All (IsConnected demand.joined) m.chains
  pub apart : (q : ℕ) → count_by (λ p. p == q) (concat m.chains) ≤ 1
  pub joined : All (λ e. is_coupler e ≡ true → demand.joined e.first e.second ≡ true) m.entries

-- what is asked of the chains of each kind
abbrev pub HasChains : Kind → Demand → Written → Type 0
HasChains Qubo demand m = ⊤
HasChains Ising demand m = ⊤
HasChains (Qubits graph) demand m = IsEmbedded demand m

-- the figures of the source, the unit and the chains that were asked for
pub record IsStated (source : Source) (demand : Demand) (m : Written) : Type 0 where
  pub variables : m.variables ≡ source.form.bits
  pub scale : m.figures.scale ≡ scale_of m.kind
  pub threshold : m.figures.threshold ≡ m.figures.scale *ℤ source.upper +ℤ m.figures.offset
  pub unit : HasUnit demand.unit m
  pub chains : HasChains m.kind demand m

-- ---- the promise

-- the least states of the model are the least assignments of the source
pub record Faithful (source : Source) (demand : Demand) (m : Written) : Type 0 where
  pub well_formed : IsWellFormed m
  pub stands : StandsAtLeast source.form (form_of m) (decoding_of m) m.unit m.figures
  pub stated : IsStated source demand m
