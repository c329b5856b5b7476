-- What a command answers of the held files, and how the answer is delivered.
use Rattle.std.specs.Prelude.{◌≡◌, ◌≢◌, ℕ, ◌+◌, ◌≤◌, ℤ, ◌+ℤ◌, ◌*ℤ◌, ◌≤ℤ◌, ◌<ℤ◌, Bool, List, [], length, map, reverse, Ok, Err, Some, Result, ⊤}
use Rattle.std.specs.declared.option.Option.{Option}
use Rattle.edge_io.specs.Held.{NamedFiles, find_file}
use Rattle.edge_io.specs.Sinks.{Taken, Takes, TakesFront}
use Rattle.base.specs.Costs.{IsOf, Source, energy}
use Rattle.base.specs.declared.costs.Cost.TheVariants.{Whole}
use Rattle.form_steps.specs.declared.scope.PenaltyScope.{PenaltyScope}
use Rattle.form_steps.specs.declared.scope.PenaltyScope.TheVariants.{Global, Local}
use Rattle.form_steps.specs.Relations.{Relaxes, RelaxesAtLeast, StaysAbove}
use Rattle.bits_model.specs.Output.{Written, form_of, decoding_of}
use Rattle.model_pipeline.specs.faithful.Bounds.{IsBounded}
use Rattle.model_pipeline.specs.faithful.Faithful.{Faithful}
use Rattle.form_steps.specs.Least.{IsFeasible, IsLeastState}
use Rattle.problem_form.specs.Limits.{auxiliary_bits}
use Rattle.sample_text.specs.Sample.{sample_text}
use Rattle.model_text.specs.Rows.{FitsFields, model_text}
use Rattle.model_text.specs.Summary.{summary_text}
use Rattle.model_text.specs.Told.{IsTextOf}
use Rattle.command_words.specs.declared.commands.ChainStrength.{ChainStrength}
use Rattle.command_words.specs.declared.commands.ChainStrength.TheVariants.{Choi, Cut}
use Rattle.command_words.specs.declared.commands.Format.{Format}
use Rattle.command_words.specs.declared.commands.Format.TheVariants.{Wbo}
use Rattle.command_words.specs.declared.commands.Origin.{Origin}
use Rattle.command_words.specs.declared.commands.Origin.TheVariants.{File, Drawn}
use Rattle.command_words.specs.declared.commands.Ask.{Ask}
use Rattle.command_words.specs.declared.commands.Ask.TheVariants as asks
use Rattle.command_words.specs.declared.commands.Make.TheVariants as makes
use Rattle.command_words.specs.declared.commands.OfState.TheVariants.{Decode, Extend, Prove}
use Rattle.command_words.specs.declared.commands.Command.{Command}
use Rattle.command_words.specs.declared.commands.Request.{Request}
use Rattle.command_words.specs.declared.commands.Request.TheVariants as requests
use Rattle.command_words.specs.Notices.{notice_text}
use Rattle.command_words.specs.Bounds.{most_of}
use Rattle.command_words.specs.Names.{files_of}
use Rattle.command_words.specs.declared.names.Which.{Which}
use Rattle.source_texts.specs.Sources.{source_of, names_of, bounded, carried}
use Rattle.answer_text.specs.Answers.{decoding_text, extension_text, proof_text, solution_text}
use Rattle.answer_text.specs.Sizes.{size_text}
use Rattle.state_file.specs.States.{StateLine}
use Rattle.state_scores.specs.Scores.{IsSmall, Judgement, best_of, score_of}
use Rattle.state_scores.specs.Texts.{evaluation_text}
use Rattle.elimination_order.specs.Renumbered.{IsFirstLeastBy}
use Rattle.model_pipeline.specs.faithful.Told.{TellsOptimum, whole_energy}
use Rattle.model_pipeline.specs.Extensions.{form_nodes_by, extension_of, state_by}
use Rattle.model_pipeline.specs.declared.options.ModelTarget.{ModelTarget}
use Rattle.run_steps.specs.declared.plans.Plan.{Plan}
use Rattle.model_pipeline.specs.Targets.{kind_of, ties_of, demand_of}
use Rattle.run_steps.specs.Plans.{form_in, IsModelBy}
use Rattle.run_steps.specs.Steps.{Last, Bits, InOrder, Several, format_in, planning, last_step}
use Rattle.program_run.specs.declared.answer.Answer.{Answer}
use Rattle.program_run.specs.declared.answer.Answer.TheVariants.{Model, Scores, Text}
use Rattle.run_steps.specs.declared.status.Status.{Status}
use Rattle.run_steps.specs.declared.status.Status.TheVariants.{Done, WriteFault}
use Rattle.run_steps.specs.Causes.{WhereHeld}
use Rattle.run_steps.specs.Statuses.{IsDoneOrFault}
use Rattle.program_run.specs.Outcome.{MeetsOutcome}

-- ---- a source and its model

-- the text of a source: that of the held file, or the one that is drawn
abbrev pub IsTextIn : NamedFiles → Origin → List ℕ → Type 0
IsTextIn held (File format name) text = find_file held name ≡ Some text
IsTextIn held (Drawn number clauses) text = text ≡ sample_text number clauses

-- the source's text says this source
pub record IsSaidBy (held : NamedFiles) (command : Command) (source : Source) : Type 0 where
  pub text : List ℕ
  pub found : IsTextIn held command.origin text
  pub says : source_of command.slack (format_in command.origin) text ≡ Ok source

-- every state of a model stands for the source or, with a penalty for each part, does so at least,
-- unless its ties are only as strong as least states ask
abbrev pub EveryStateStands : ChainStrength → PenaltyScope → Source → Written → Type 0
EveryStateStands Choi Global source m =
    Relaxes source.form (form_of m) (decoding_of m) m.unit m.figures
EveryStateStands Choi Local source m =
    RelaxesAtLeast source.form (form_of m) (decoding_of m) m.unit m.figures
EveryStateStands Cut scope source m = ⊤

-- no state of a model lies below the whole cost that it decodes to; it may where soft constraints are
-- rewritten, with a penalty for each part, and where ties are only as strong as least states ask
abbrev pub EveryStateStays : ChainStrength → Format → Source → Written → Type 0
EveryStateStays Cut format source m = ⊤
EveryStateStays Choi Wbo source m = ⊤
EveryStateStays Choi format source m =
    StaysAbove source.form (form_of m) (decoding_of m) m.unit m.figures

-- a model that stands there with so many nodes, as a command asks, every state of which stands for the
-- source as its ties and the scope of its penalties allow, and whose least states are the least
-- assignments of the source; its energies are below 2 ^ 121 in size, and all numbers that are written
-- below 2 ^ 124
pub record IsModelFor (base : ModelTarget) (command : Command) (nodes : ℕ) (source : Source)
    (model : Written) : Type 0 where
  pub kind : model.kind ≡ kind_of base
  pub fits : FitsFields model
  pub bounded : IsBounded model
  pub every : EveryStateStands (ties_of base) command.penalty source model
  pub faithful : Faithful source (demand_of command.unit base nodes) model

-- ---- what is said of it

-- the text says what a state of the model decodes to, with these names of the variables, what that
-- costs the source, and the energy of the state
abbrev pub IsDecoded : Source → Option (List (List ℕ)) → Written → List Bool → List ℕ → Type 0
IsDecoded source names model state text =
    text ≡ decoding_text ((decoding_of model).decoded state) names
    (source.form.cost ((decoding_of model).decoded state)) (energy (form_of model) state)

-- the state decodes to the assignment, and where the cost of this is whole, unit times the energy is
-- scale times the cost, and offset
pub record Extends (source : Source) (model : Written) (x state : List Bool) : Type 0 where
  pub width : length state ≡ model.nodes
  pub decodes : (decoding_of model).decoded state ≡ x
  pub scaled : (v : ℤ) → source.form.cost x ≡ Whole v
      → whole_energy model state ≡ model.figures.scale *ℤ v +ℤ model.figures.offset

-- no state that decodes to the assignment has a lesser energy
abbrev pub IsLeastExtension : Written → List Bool → List Bool → Type 0
IsLeastExtension model x state =
    (other : List Bool) → length other ≡ model.nodes → (decoding_of model).decoded other ≡ x
    → energy (form_of model) state ≤ℤ energy (form_of model) other

-- the same, where the cost of the assignment is whole
abbrev pub IsLeastWhereWhole : Source → Written → List Bool → List Bool → Type 0
IsLeastWhereWhole source model x state =
    (v : ℤ) → source.form.cost x ≡ Whole v → IsLeastExtension model x state

-- the state is a least one that decodes to the assignment: always, with soft constraints where the
-- cost is whole, and not promised with these and penalties for each part, nor where ties are only as
-- strong as least states ask
abbrev pub IsLeastAsked : ChainStrength → PenaltyScope → Format → Source → Written
    → List Bool → List Bool → Type 0
IsLeastAsked Cut scope format source model x state = ⊤
IsLeastAsked Choi Local Wbo source model x state = ⊤
IsLeastAsked Choi scope Wbo source model x state = IsLeastWhereWhole source model x state
IsLeastAsked Choi scope format source model x state = IsLeastExtension model x state

-- the text is a state of the model that extends an assignment of the source, with what the assignment
-- costs the source, and the energy of the state; the state extends it where the bounded cost is whole
pub record IsExtension (ties : ChainStrength) (command : Command) (source : Source) (model : Written)
    (x : List Bool) (text : List ℕ) : Type 0 where
  pub state : List Bool
  pub extends : Extends (bounded (most_of command.bound) source) model x state
  pub least : IsLeastAsked ties command.penalty (format_in command.origin)
      (bounded (most_of command.bound) source) model x state
  pub said : text ≡ extension_text state (source.form.cost x) (energy (form_of model) state)

-- and the state is the one that the steps of the plan make of the assignment
pub record IsExtended (command : Command) (source : Source) (plan : Plan) (model : Written)
    (x : List Bool) (text : List ℕ) : Type 0 where
  pub extension : IsExtension (ties_of plan.options.target) command source model x text
  pub exact : extension.state ≡ state_by model.kind model
      (extension_of plan.options.choices plan.read.problem (carried plan.read.soft x))

-- what a least state of a model tells of the source: where it is not above the threshold, it decodes
-- to a least assignment, whose cost its energy tells; else the source is infeasible
pub record TellsSource (source : Source) (model : Written) (state : List Bool) : Type 0 where
  pub optimum : whole_energy model state ≤ℤ model.figures.threshold
      → TellsOptimum source model state
  pub infeasible : model.figures.threshold <ℤ whole_energy model state
      → ¬ (IsFeasible source.form)

-- the text is the first least state of the model, where states are compared from the node on that is
-- eliminated last in this order, its energy, and what it decodes to with what that
-- costs the bounded source, of which the state tells
pub record IsSolved (order : List ℕ) (source : Source) (most : Option ℤ)
    (names : Option (List (List ℕ))) (model : Written) (text : List ℕ) : Type 0 where
  pub state : List Bool
  pub first : IsFirstLeastBy (reverse order) (form_of model) state
  pub tells : TellsSource (bounded most source) model state
  pub said : text ≡ solution_text state (energy (form_of model) state)
      ((decoding_of model).decoded state) names
      ((bounded most source).form.cost ((decoding_of model).decoded state))

-- the text is the energy of a least state of the model, and what the state decodes to with what that
-- costs the bounded source, of which the state tells
pub record IsProved (source : Source) (most : Option ℤ) (names : Option (List (List ℕ)))
    (model : Written) (state : List Bool) (text : List ℕ) : Type 0 where
  pub least : IsLeastState (form_of model) state
  pub tells : TellsSource (bounded most source) model state
  pub said : text ≡ proof_text (energy (form_of model) state)
      ((decoding_of model).decoded state) names
      ((bounded most source).form.cost ((decoding_of model).decoded state))

-- how the states of a model are judged: by what they cost the source, and by their energies
abbrev pub judgement_of : Source → Written → Judgement
judgement_of source model = record {
  width = model.nodes;
  cost = λ y. source.form.cost ((decoding_of model).decoded y);
  energy = energy (form_of model);
}

-- the text says what each state of the model is worth, which is the best of them, and what that one
-- decodes to, with these names of the variables
pub record IsScored (j : Judgement) (names : Option (List (List ℕ))) (model : Written)
    (states : List StateLine) (text : List ℕ) : Type 0 where
  pub best : StateLine
  pub first : best_of j states ≡ Some best
  pub said : text ≡ evaluation_text (map (score_of j) states) (score_of j best)
      ((decoding_of model).decoded best.1) names

-- the text is what is asked: the model's own, its summary, its size, its first least state, what a
-- state decodes to, what states are worth, what an assignment extends to, as P says it, or what a state
-- that is proved to be least tells; the costs of what is decoded or extended are the source's own, and
-- all else is said of the source with the bound
abbrev pub IsAskedOf : Ask → Source → Option ℤ → Option (List (List ℕ))
    → (List Bool → List ℕ → Type 0) → Written → Last → List ℕ → Type 0
IsAskedOf (asks.Make makes.Model) source most names P model last text = IsTextOf model text
IsAskedOf (asks.Make makes.Summary) source most names P model last text = text ≡ summary_text model
IsAskedOf (asks.Make makes.Size) source most names P model last text = text ≡ size_text model
IsAskedOf (asks.Solve name) source most names P model (InOrder order) text =
    IsSolved order source most names model text
IsAskedOf (asks.State name Decode) source most names P model (Bits bits) text =
    IsDecoded source names model bits text
IsAskedOf (asks.Evaluate name) source most names P model (Several states) text =
    IsScored (judgement_of source model) names model states text
IsAskedOf (asks.State name Extend) source most names P model (Bits bits) text = P bits text
IsAskedOf (asks.State name (Prove certificate)) source most names P model (Bits bits) text =
    IsProved source most names model bits text
IsAskedOf ask source most names P model last text = ⊥

-- the text is what a command asks of a model, for a source of this text, with what is read once the
-- model stands; what an assignment extends to is as P says it
pub record IsAsked (held : NamedFiles) (command : Command) (P : List Bool → List ℕ → Type 0)
    (written : List ℕ) (source : Source) (model : Written) (text : List ℕ) : Type 0 where
  pub last : Last
  pub read : (last_step held command.ask source.form.bits model).end ≡ Some (Ok last)
  pub said : IsAskedOf command.ask source (most_of command.bound)
      (names_of (format_in command.origin) written) P model last text

-- ---- the answer

-- the text answers the command: it is what is asked of the model that the command's plan makes of
-- its source, with what is read once the model stands; the model stands for the source whose
-- assignments may cost at most the command's bound, its states lie at or above whole costs where that
-- is promised, whole costs of the source are below 2 ^ 64 in size, and the model's nodes are at most the
-- problem's variables and the auxiliary bits
pub record IsAnswer (held : NamedFiles) (command : Command) (text : List ℕ) : Type 0 where
  pub source : Source
  pub from : IsSaidBy held command source
  pub plan : Plan
  pub planned : (planning held command).end ≡ Some (Ok plan)
  pub model : Written
  pub by : IsModelBy plan model
  pub stands : IsModelFor plan.options.target command (length (form_in plan).fields)
      (bounded (most_of command.bound) source) model
  pub stays : EveryStateStays (ties_of plan.options.target) (format_in command.origin)
      (bounded (most_of command.bound) source) model
  pub small : (x : List Bool) → IsOf source.form x → IsSmall (source.form.cost x)
  pub few : form_nodes_by model.kind model
      ≤ plan.read.problem.variables + auxiliary_bits plan.options.choices.normal plan.read.problem
  pub asked : IsAsked held command (IsExtended command source plan model) from.text source model text

-- the text is what is asked for: what a notice says, or one of which P holds for a command
abbrev pub IsSaidTo : Result Request ℕ → (Command → List ℕ → Type 0) → List ℕ → Type 0
IsSaidTo (Ok (requests.Notice notice)) P text = text ≡ notice_text notice
IsSaidTo (Ok (requests.Command command)) P text = P command text
IsSaidTo (Err position) P text = ⊥

-- the files that what is asked takes
abbrev pub files_asked : Result Request ℕ → List Which
files_asked (Ok (requests.Notice notice)) = []
files_asked (Ok (requests.Command command)) = files_of command
files_asked (Err position) = []

-- ---- its delivery

-- the text of an answer
abbrev pub text_of : Answer → List ℕ
text_of (Model m) = model_text m
text_of (Scores text) = text
text_of (Text bytes) = bytes.items

-- how a text is delivered to a sink: the whole of it, or a front of it where there was a fault
abbrev pub IsDelivered : Status → Taken → Taken → List ℕ → Type 0
IsDelivered Done old new text = Takes old new text
IsDelivered WriteFault old new text = TakesFront old new text
IsDelivered status old new text = ⊥

-- some text was delivered to a sink, and it is what is asked for, of which P holds for a command,
-- whatever files may be held
abbrev pub Delivers : (NamedFiles → Command → List ℕ → Type 0) → Result Request ℕ
    → Option NamedFiles → Status → (old new : Taken) → Type 0
Delivers P asked told status old new =
    (text : List ℕ) × IsDelivered status old new text
    × WhereHeld told (files_asked asked) (λ held. IsSaidTo asked (P held) text)

-- a text went to a sink, and not an empty one
abbrev pub WritesText : (old new : Taken) → Type 0
WritesText old new = (text : List ℕ) × (text ≢ []) × Takes old new text

-- whatever files may be held, where the outcome of what is asked is Done, so is the status, unless a
-- call failed or memory was wanting
abbrev pub Completes : Result Request ℕ → Option NamedFiles → Status → Type 0
Completes asked told status =
    WhereHeld told (files_asked asked) (λ held. MeetsOutcome held asked Done → IsDoneOrFault status)
