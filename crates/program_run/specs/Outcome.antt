-- The outcome of a run: the first step that refuses ends it.
use Rattle.std.specs.Prelude.{◌≡◌, ◌⊎◌, ℕ, Ok, Err, Some, None, Result, Contains, ⊤}
use Rattle.std.specs.declared.option.Option.{Option}
use Rattle.edge_io.specs.Held.{NamedFiles}
use Rattle.bits_model.specs.Output.{Written}
use Rattle.command_words.specs.declared.names.Which.{Which}
use Rattle.command_words.specs.declared.commands.Request.{Request}
use Rattle.command_words.specs.declared.commands.Request.TheVariants as requests
use Rattle.run_steps.specs.Causes.{AreFiles}
use Rattle.run_steps.specs.Statuses.{IsWriting}
use Rattle.run_steps.specs.Steps.{Steps, Last, planning, last_step}
use Rattle.run_steps.specs.declared.plans.Plan.{Plan}
use Rattle.model_pipeline.specs.Targets.{IsFaultOn}
use Rattle.run_steps.specs.Plans.{CanStand, IsModelBy, form_in}
use Rattle.run_steps.specs.declared.status.Status.{Status}
use Rattle.run_steps.specs.declared.status.Status.TheVariants.{Done, Usage, ReadFault, WriteFault, NotEmbedded, NoMemory}
use Rattle.edge_io.specs.Counts.{Counts}

-- the plan can stand, and of its model this holds
abbrev pub OfModel : Plan → (Written → Type 0) → Type 0
OfModel plan P = CanStand plan × ((m : Written) × IsModelBy plan m × P m)

-- how a plan ends: its model cannot be embedded, or the last step refuses, or all is done
abbrev pub IsEndOf : Plan → (Written → Steps Last) → Status → Type 0
IsEndOf plan last Done = OfModel plan (λ m. (x : Last) × ((last m).end ≡ Some (Ok x)))
IsEndOf plan last (NotEmbedded fault) = IsFaultOn plan.options.target (form_in plan) fault × ¬ (CanStand plan)
IsEndOf plan last status = OfModel plan (λ m. (last m).end ≡ Some (Err status))

-- how all steps end: with the status of the first one that refuses, and else as the plan does; they
-- have no end where a file isn't held
abbrev pub IsEnd : Option (Result Plan Status) → (ℕ → Written → Steps Last) → Status
    → Type 0
IsEnd None last status = ⊥
IsEnd (Some (Err refusal)) last status = status ≡ refusal
IsEnd (Some (Ok plan)) last status = IsEndOf plan (last plan.read.variables) status

-- a file is taken once the model stands
abbrev pub IsTakenLast : Option (Result Plan Status) → (ℕ → Written → Steps Last) → Which
    → Type 0
IsTakenLast None last which = ⊥
IsTakenLast (Some (Err refusal)) last which = ⊥
IsTakenLast (Some (Ok plan)) last which = OfModel plan (λ m. Contains (last plan.read.variables m).taken which)

-- each step before the taking of a file gave a value
abbrev pub IsComeTo : Steps Plan → (ℕ → Written → Steps Last) → Which → Type 0
IsComeTo plans last which = Contains plans.taken which ⊎ IsTakenLast plans.end last which

-- the status is how the steps end, unless it is a fault or want of memory: a file that cannot be read
-- is one that they come to, and what cannot be written comes only where all is done
abbrev pub Ends : Status → Steps Plan → (ℕ → Written → Steps Last) → Type 0
Ends (ReadFault which) plans last = IsComeTo plans last which
Ends NoMemory plans last = ⊤
Ends WriteFault plans last = IsEnd plans.end last Done
Ends status plans last = IsEnd plans.end last status

-- the status of what is asked is its outcome, but for faults and want of memory; words that ask for
-- nothing are a usage fault
abbrev pub MeetsOutcome : NamedFiles → Result Request ℕ → Status → Type 0
MeetsOutcome held (Err position) status = status ≡ Usage position
MeetsOutcome held (Ok (requests.Notice notice)) status = IsWriting status
MeetsOutcome held (Ok (requests.Command command)) status =
    Ends status (planning held command) (last_step held command.ask)

-- what the store of files counted at a status of what is asked; a notice takes no file
abbrev pub AreFilesAsked : Request → Status → Counts → Counts → Type 0
AreFilesAsked (requests.Notice notice) status old new = new ≡ old
AreFilesAsked (requests.Command command) status old new = AreFiles command status old new
