-- The decoders of the steps in a row: how a state of a model is taken back, step by step.
use Rattle.std.specs.Prelude.{◌≡◌, ◌≤◌, Bool, List, take}
use Rattle.form_steps.specs.declared.layer.BitsLink.{BitsLink}
use Rattle.bits_model.specs.declared.output.Kind.{Kind}
use Rattle.bits_model.specs.declared.output.Kind.TheVariants.{Qubo, Ising, Qubits}
use Rattle.form_steps.specs.Links.{first_bits}
use Rattle.bits_model.specs.Output.{Written, decoding_of}
use Rattle.form_steps.specs.Relations.{Decoding, decoding_after}
use Rattle.problem_form.specs.declared.limits.Choices.{Choices}
use Rattle.problem_form.specs.declared.limits.High.{High}
use Rattle.problem_form.specs.declared.limits.High.TheVariants.{Monomial, Rosenberg}
use Rattle.problem_form.specs.Problems.{ProblemContent}
use Rattle.term_table.specs.Tables.{TableContent}
use Rattle.penalty_layer.specs.Penalty as penalty
use Rattle.monomial_layer.specs.Monomials as monomials
use Rattle.rosenberg_layer.specs.Rosenberg as rosenberg
use Rattle.quad_form.specs.Flat.{same_bits}
use Rattle.quad_form.specs.Flat as flat
use Rattle.ising_form.specs.Spins as spins
use Rattle.chain_layer.specs.declared.link.ChainLink.{ChainLink}
use Rattle.chain_layer.specs.Image as chains
use Rattle.model_pipeline.specs.Models.{low_terms_of, quad_of, terms_of}

-- ---- the links of the steps

-- one link a step: to terms, to terms of degree 2, to a quadratic form, to spins and to chains
pub record StepLinks : Type 0 where
  pub terms : BitsLink
  pub low : BitsLink
  pub quad : BitsLink
  pub spins : BitsLink
  pub chains : ChainLink

-- a link between terms and what stands for those of degree 3 or more
abbrev pub LowFits : High → BitsLink → TableContent → Type 0
LowFits Monomial b t = monomials.Fits b t
LowFits Rosenberg b t = rosenberg.Fits b t

-- each link is between what a step gets of a problem and what it makes of that; the last has the
-- chains of the model
pub record AreLinks (choices : Choices) (p : ProblemContent) (m : Written) (links : StepLinks)
    : Type 0 where
  pub terms : penalty.Fits links.terms p
  pub low : LowFits choices.high links.low (terms_of choices.normal p)
  pub quad : flat.Fits links.quad (low_terms_of choices.high (terms_of choices.normal p))
  pub spins : spins.Fits links.spins (quad_of choices p)
  pub chains : links.chains.chains ≡ m.chains

-- ---- their decoders, the last step's first

-- of a quadratic form: the same bits, then the first ones, and the first ones of these
abbrev pub quad_decoding : StepLinks → Decoding
quad_decoding links =
    decoding_after (decoding_after (first_bits links.terms) (first_bits links.low))
    (same_bits links.quad)

-- of its Ising form: the same bits, and then as there
abbrev pub spins_decoding : StepLinks → Decoding
spins_decoding links = decoding_after (quad_decoding links) (same_bits links.spins)

-- on chains: the majority of each chain, and then as there
abbrev pub chains_decoding : StepLinks → Decoding
chains_decoding links = decoding_after (spins_decoding links) (chains.decoding links.chains)

-- of a model of each kind
abbrev pub steps_decoding : Kind → StepLinks → Decoding
steps_decoding Qubo links = quad_decoding links
steps_decoding Ising links = spins_decoding links
steps_decoding (Qubits graph) links = chains_decoding links

-- ---- the law

-- what is read off a state of a model, by the model alone, is the first bits of what the decoders
-- of the steps give in a row
abbrev pub ReadOffIsDecoded : Type 0
ReadOffIsDecoded = (choices : Choices) (p : ProblemContent) (m : Written) (links : StepLinks)
    → m.variables ≤ p.variables → AreLinks choices p m links → (y : List Bool)
    → (decoding_of m).decoded y ≡ take m.variables ((steps_decoding m.kind links).decoded y)
