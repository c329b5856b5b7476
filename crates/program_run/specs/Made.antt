-- What is answered once the model of a plan is made, in terms of the problem that was read.
use Rattle.std.specs.Prelude.{◌≡◌, ◌<◌, ◌^◌, ℕ, ℤ, pos, Bool, List, [], length, reverse, Ok, Some, None, Contains, ⊤}
use Rattle.std.specs.List.{slice_index_or}
use Rattle.base.specs.declared.costs.Cost.{Cost}
use Rattle.base.specs.Costs.{energy}
use Rattle.bits_model.specs.declared.output.Kind.TheVariants.{Qubo}
use Rattle.bits_model.specs.Output.{Written, form_of, decoding_of}
use Rattle.problem_form.specs.declared.limits.Choices.{Choices}
use Rattle.problem_form.specs.declared.limits.Normal.{Normal}
use Rattle.problem_form.specs.Problems.{ProblemContent, cut_off}
use Rattle.problem_form.specs.Problems as problems
use Rattle.problem_form.specs.Limits.{limit_fault}
use Rattle.batch_costs.specs.Assigned.{IsPlain}
use Rattle.model_text.specs.Rows.{model_text}
use Rattle.model_text.specs.Summary.{summary_text}
use Rattle.answer_text.specs.Answers.{decoding_text, extension_text, proof_text, solution_text}
use Rattle.answer_text.specs.Sizes.{size_text}
use Rattle.model_pipeline.specs.Extensions.{extension_of, state_on, ExtendsTo, IsLeastTo, IsMadeOf}
use Rattle.model_pipeline.specs.Compiled.{IsCompiled}
use Rattle.model_pipeline.specs.declared.made.Made.{Made}
use Rattle.command_words.specs.declared.commands.ChainStrength.TheVariants.{Choi}
use Rattle.command_words.specs.declared.commands.Ask.{Ask}
use Rattle.command_words.specs.declared.commands.Ask.TheVariants.{Make, Solve, Evaluate, State}
use Rattle.command_words.specs.declared.commands.Make as makes
use Rattle.command_words.specs.declared.commands.Make.TheVariants.{Model, Summary, Size}
use Rattle.command_words.specs.declared.commands.OfState.{OfState}
use Rattle.command_words.specs.declared.commands.OfState.TheVariants.{Decode, Extend, Prove}
use Rattle.source_texts.specs.declared.reading.Read.{Read}
use Rattle.source_texts.specs.Sources.{KeepsSoft, carried, said_cost}
use Rattle.state_scores.specs.Scores.{Judgement}
use Rattle.run_steps.specs.declared.plans.Plan.{Plan}
use Rattle.run_steps.specs.declared.status.Status.{Status}
use Rattle.run_steps.specs.declared.status.Status.TheVariants.{Done, ReadFault, WriteFault, NoMemory}
use Rattle.model_pipeline.specs.Targets.{ties_of}
use Rattle.run_steps.specs.Plans.{CanStand, IsModelBy, Stands}
use Rattle.run_steps.specs.Steps.{Steps, Last, Bits, InOrder, Several, last_step}
use Rattle.program_run.specs.Outcome.{OfModel, IsEndOf}
use Rattle.elimination_order.specs.Renumbered.{IsFirstLeastBy}
use Rattle.program_run.specs.Answers.{IsScored}
use Rattle.edge_io.specs.Held.{NamedFiles}

-- the model is that of the plan, which can stand, and stands for its problem, of which it was made
pub record IsModelled (plan : Plan) (m : Written) : Type 0 where
  pub can_stand : CanStand plan
  pub by : IsModelBy plan m
  pub stands : Stands plan m
  pub made : IsMadeOf (ties_of plan.options.target) plan.read.variables plan.options.choices plan.read.problem m

-- this is what is made of the plan
abbrev pub IsMadeBy : Plan → Made → Type 0
IsMadeBy plan made = IsCompiled plan.options plan.read.variables plan.read.problem made

-- what an assignment of the source costs, and infinite above the most that it may cost
abbrev pub bounded_cost : Read → List Bool → Cost
bounded_cost read x = cut_off read.problem.most (said_cost read x)

-- the text is a state of the model that extends an assignment of the problem, with this cost, and the
-- energy of the state; where ties are those that no state should break, it is a least such state
pub record IsStateText (choices : Choices) (p : ProblemContent) (m : Written) (x : List Bool)
    (cost : Cost) (text : List ℕ) : Type 0 where
  pub state : List Bool
  pub exact : state ≡ state_on m (extension_of choices p x)
  pub extends : ExtendsTo p.variables (problems.form_of p) m x state
  pub least : (own : ℕ) → IsMadeOf Choi own choices p m → IsLeastTo p.variables m x state
  pub said : text ≡ extension_text state cost (energy (form_of m) state)

-- the text is a state of the model that extends an assignment of the source, with its cost
abbrev pub IsExtendedBy : Choices → Read → Written → List Bool → List ℕ → Type 0
IsExtendedBy choices read m x text =
    IsStateText choices read.problem m (carried read.soft x) (said_cost read x) text

-- the text is the first least state of the model, its energy, and what it decodes to with what that
-- costs the problem, infinite above its most
pub record IsSolvedBy (order : List ℕ) (read : Read) (m : Written) (text : List ℕ) : Type 0 where
  pub state : List Bool
  pub first : IsFirstLeastBy (reverse order) (form_of m) state
  pub said : text ≡ solution_text state (energy (form_of m) state)
      ((decoding_of m).decoded state) read.names
      (bounded_cost read ((decoding_of m).decoded state))

-- what is written for a state of a model: the assignment that it decodes to, with these names of the
-- variables, what that costs the source, and the energy of the state
abbrev pub state_text : Read → Written → List Bool → List ℕ
state_text read m bits =
    decoding_text ((decoding_of m).decoded bits) read.names
    (said_cost read ((decoding_of m).decoded bits)) (energy (form_of m) bits)

-- what is written for a state that is proved to be least: the same, with the energy first, and with a
-- cost that is infinite above the most
abbrev pub least_text : Read → Written → List Bool → List ℕ
least_text read m bits =
    proof_text (energy (form_of m) bits) ((decoding_of m).decoded bits) read.names
    (bounded_cost read ((decoding_of m).decoded bits))

-- how the states of a model are judged: by the costs of what they decode to, and by their energies
abbrev pub judgement_by : Read → Written → Judgement
judgement_by read m = record {
  width = m.nodes;
  cost = λ y. said_cost read ((decoding_of m).decoded y);
  energy = energy (form_of m);
}

-- the problem is within the limits of some normal form
abbrev pub IsWithin : ProblemContent → Type 0
IsWithin p = (normal : Normal) × (limit_fault normal p ≡ None)

-- a model whose states are judged, and what was read of its source
pub record Judged : Type 0 where
  pub read : Read
  pub model : Written

-- states of the model can be judged, with this room for what they decode to
pub record CanJudge (read : Read) (m : Written) (x : List Bool) : Type 0 where
  pub within : IsWithin read.problem
  pub kept : KeepsSoft read
  pub variables : m.variables ≡ read.variables
  pub room : length x ≡ m.variables
  pub narrow : m.variables < 2 ^ 32

-- what assignments of the source cost can be added up together, with a word for each variable: there
-- are no soft constraints, and all that the problem says is its constant and its products
pub record CanAddUp (read : Read) (words : List ℕ) : Type 0 where
  pub own : read.soft ≡ None
  pub plain : IsPlain read.problem
  pub width : length words ≡ read.variables

-- the energies are those of these states of the model
abbrev pub AreEnergiesOf : Written → List (List Bool) → List ℤ → Type 0
AreEnergiesOf m states energies =
    (k : ℕ) → k < length states
    → slice_index_or energies k (pos 0) ≡ energy (form_of m) (slice_index_or states k [])

-- the energies of states can be added up together, with a word for each node
pub record CanAddStates (m : Written) (words : List ℕ) : Type 0 where
  pub bits : m.kind ≡ Qubo
  pub width : length words ≡ m.nodes

-- the text of a model, its summary, or its size
abbrev pub IsModelText : makes.Make → Written → List ℕ → Type 0
IsModelText Model m text = text ≡ model_text m
IsModelText Summary m text = text ≡ summary_text m
IsModelText Size m text = text ≡ size_text m

-- the text is what is asked of a state of the model, or of an assignment of its source
abbrev pub IsToldOf : OfState → Read → Choices → Written → List Bool → List ℕ → Type 0
IsToldOf Decode read choices m bits text = text ≡ state_text read m bits
IsToldOf Extend read choices m bits text = IsExtendedBy choices read m bits text
IsToldOf (Prove certificate) read choices m bits text = text ≡ least_text read m bits

-- the text is what is asked of the model, with what is read last
abbrev pub IsTold : Ask → Read → Choices → Written → Last → List ℕ → Type 0
IsTold (Make make) read choices m last text = IsModelText make m text
IsTold (Solve name) read choices m (InOrder order) text = IsSolvedBy order read m text
IsTold (Evaluate name) read choices m (Several states) text =
    IsScored (judgement_by read m) read.names m states text
IsTold (State name of) read choices m (Bits bits) text = IsToldOf of read choices m bits text
IsTold ask read choices m last text = ⊥

-- the text is what is asked of the plan's model alone
pub record IsTextOfModelled (make : makes.Make) (plan : Plan) (text : List ℕ) : Type 0 where
  pub model : Written
  pub made : IsModelled plan model
  pub told : IsModelText make model text

-- the text is what is asked of the plan's model, with what is read last
pub record IsMadeText (ask : Ask) (plan : Plan) (steps : Written → Steps Last)
    (text : List ℕ) : Type 0 where
  pub model : Written
  pub made : IsModelled plan model
  pub last : Last
  pub read : (steps model).end ≡ Some (Ok last)
  pub told : IsTold ask plan.read plan.options.choices model last text

-- the same, with what a command reads once the model of its plan stands
abbrev pub IsMadeTextOf : NamedFiles → Ask → Plan → List ℕ → Type 0
IsMadeTextOf held ask plan text = IsMadeText ask plan (last_step held ask plan.read.variables) text

-- the status is how a plan ends, unless it is a fault or want of memory
abbrev pub EndsOf : Status → Plan → (Written → Steps Last) → Type 0
EndsOf (ReadFault which) plan last = OfModel plan (λ m. Contains (last m).taken which)
EndsOf NoMemory plan last = ⊤
EndsOf WriteFault plan last = IsEndOf plan last Done
EndsOf status plan last = IsEndOf plan last status
