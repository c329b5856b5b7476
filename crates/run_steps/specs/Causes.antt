-- Which files were begun, how far the last of them was read, and why one could not be read: by what
-- the store of files counted before and after.
use Rattle.std.specs.Prelude.{◌≡◌, ◌⊎◌, ℕ, zero, suc, List, [], ◌∷◌, ◌++◌, length, Result, None, Some, ⊤}
use Rattle.std.specs.declared.option.Option.{Option}
use Rattle.edge_io.specs.Counts.{Counts, Rose, count_after}
use Rattle.edge_io.specs.Held.{NamedFiles}
use Rattle.problem_form.specs.declared.limits.LimitKind.{LimitKind}
use Rattle.problem_form.specs.declared.limits.LimitKind.TheVariants.{Bytes}
use Rattle.command_words.specs.declared.names.Which.{Which}
use Rattle.command_words.specs.declared.names.Which.TheVariants.{Certificate, Dead, Graph, Map, State}
use Rattle.command_words.specs.declared.commands.Command.{Command}
use Rattle.command_words.specs.Names.{name_of, if_named, model_files, last_files}
use Rattle.run_steps.specs.Steps.{Steps, Meets}
use Rattle.run_steps.specs.declared.status.Status.{Status}
use Rattle.run_steps.specs.declared.status.Status.TheVariants.{Done, Usage, ReadFault, WriteFault, BadText, Limit, NotEmbedded, TooWide, NotProved, NoState, NoMemory}

-- the files that say which qubits there are: what they are and how they are joined, and what of a
-- Chimera graph is dead
abbrev pub qubit_files : Command → List Which
qubit_files command = if_named command Graph ++ if_named command Dead

-- the files that a command names for a graph: which qubits there are, and where chains stand
abbrev pub board_files : Command → List Which
board_files command = qubit_files command ++ if_named command Map

-- the files that a command takes once the model stands, but for an order: of a state or an assignment,
-- and of a certificate
abbrev pub state_files : Command → List Which
state_files command = if_named command State ++ if_named command Certificate

-- ---- one file

-- so many files were begun
abbrev pub AreBegun : ℕ → Counts → Counts → Type 0
AreBegun zero old new = new.begun ≡ old.begun
AreBegun (suc n) old new = new.begun ≡ count_after old.begun (suc n)

-- so many files were begun, the last of them by this name, and no call failed
pub record IsBegun (name : List ℕ) (count : ℕ) (old new : Counts) : Type 0 where
  pub begun : AreBegun count old new
  pub named : new.name ≡ name
  pub calm : new.faults ≡ old.faults

-- so many files were begun, and the last of them, of this name, was read to its end and no further: one
-- read gave nothing; no call failed
pub record IsReadTo (name : List ℕ) (count : ℕ) (old new : Counts) : Type 0 where
  pub begun : IsBegun name count old new
  pub ended : new.empty_reads ≡ 1

-- so many files were begun, and of the last of them, of this name, one byte more than is accepted was
-- taken and nothing else; no call failed
pub record IsTooLong (name : List ℕ) (count : ℕ) (old new : Counts) : Type 0 where
  pub begun : IsBegun name count old new
  pub taken : new.taken ≡ 16777217
  pub filled : new.empty_reads ≡ 0

-- so many files were begun, the last of them by this name, and the count of faults rose since, and not
-- before
pub record IsCause (name : List ℕ) (count : ℕ) (old new : Counts) : Type 0 where
  pub rose : Rose new.faults_at_begin new.faults
  pub calm : new.faults_at_begin ≡ old.faults
  pub named : new.name ≡ name
  pub begun : AreBegun count old new

-- a file passes a limit: it is too long, as the number says, or what was read passes another
abbrev pub IsLimited : LimitKind → ℕ → List ℕ → ℕ → Counts → Counts → Type 0
IsLimited Bytes number name count old new = (number ≡ 16777217) × IsTooLong name count old new
IsLimited kind number name count old new = IsReadTo name count old new

-- ---- files in a row

-- the last of files
abbrev pub last_of : Which → List Which → Which
last_of file [] = file
last_of file (next ∷ files) = last_of next files

-- the files of this list were begun and read to their ends, one after another, and no other
abbrev pub AreRead : (Which → List ℕ) → List Which → Counts → Counts → Type 0
AreRead name [] old new = new ≡ old
AreRead name (file ∷ files) old new =
    IsReadTo (name (last_of file files)) (suc (length files)) old new

-- the file stands in the list, and of its number there, counted from 1, this holds
abbrev pub IsAt : List Which → Which → (ℕ → Type 0) → Type 0
IsAt files which P =
    (before after : List Which) × (files ≡ before ++ which ∷ after) × P (suc (length before))

-- nothing was called, or one of these files was the last that was begun
abbrev pub AreWanting : (Which → List ℕ) → List Which → Counts → Counts → Type 0
AreWanting name files old new =
    (new ≡ old)
    ⊎ ((which : Which) × IsAt files which (λ count. IsBegun (name which) count old new))

-- one of these files was the last that was begun, and refused with this status, or memory was
-- wanting
abbrev pub AreRefused : (Which → List ℕ) → List Which → Status → Counts → Counts → Type 0
AreRefused name files (ReadFault which) old new =
    IsAt files which (λ count. IsCause (name which) count old new)
AreRefused name files (Limit which kind number) old new =
    IsAt files which (λ count. IsLimited kind number (name which) count old new)
AreRefused name files (BadText which kind line) old new =
    IsAt files which (λ count. IsReadTo (name which) count old new)
AreRefused name files (NoState width) old new =
    IsAt files State (λ count. IsReadTo (name State) count old new)
AreRefused name files NoMemory old new = AreWanting name files old new
AreRefused name files status old new = ⊥

-- what files tell at a status, where these are taken for a model, and those after it: one refused, or
-- those of the model were read where it is not embedded, and else all
abbrev pub AreFilesOf : (Which → List ℕ) → List Which → List Which → Status → Counts → Counts → Type 0
AreFilesOf name made last Done old new = AreRead name (made ++ last) old new
AreFilesOf name made last WriteFault old new = AreRead name (made ++ last) old new
AreFilesOf name made last (NotEmbedded fault) old new = AreRead name made old new
AreFilesOf name made last (TooWide node width) old new = AreRead name (made ++ last) old new
AreFilesOf name made last (NotProved fault) old new = AreRead name (made ++ last) old new
AreFilesOf name made last (Usage position) old new = ⊤
AreFilesOf name made last status old new = AreRefused name (made ++ last) status old new

-- what files tell at a status of a command
abbrev pub AreFiles : Command → Status → Counts → Counts → Type 0
AreFiles command status old new =
    AreFilesOf (name_of command) (model_files command) (last_files command) status old new

-- ---- what they hold

-- these files are held where a store tells them; where it tells nothing and none of them is taken,
-- whatever files may be held
abbrev pub MayHold : Option NamedFiles → List Which → NamedFiles → Type 0
MayHold (Some told) files held = told ≡ held
MayHold None [] held = ⊤
MayHold None (file ∷ files) held = ⊥

-- where these files are taken, P holds of what may be held
abbrev pub WhereHeld : Option NamedFiles → List Which → (NamedFiles → Type 0) → Type 0
WhereHeld told files P = (held : NamedFiles) → MayHold told files held → P held

-- where these files are taken, what a function returned, seen by view, is what the steps give of what
-- may be held
abbrev pub MeetsHeld : {X A : Type 0} → Option NamedFiles → List Which → (X → A) → Result X Status
    → (NamedFiles → Steps A) → Type 0
MeetsHeld told files view result steps =
    WhereHeld told files (λ held. Meets view result (steps held))

-- what a step leaves that takes a file of this name alone, and then refuses
abbrev pub IsRefusedBy : Which → List ℕ → Status → Counts → Counts → Type 0
IsRefusedBy which name (ReadFault other) old new = (other ≡ which) × IsCause name 1 old new
IsRefusedBy which name (Limit other kind number) old new =
    (other ≡ which) × IsLimited kind number name 1 old new
IsRefusedBy which name (BadText other kind line) old new = (other ≡ which) × IsReadTo name 1 old new
IsRefusedBy which name (NoState width) old new = (which ≡ State) × IsReadTo name 1 old new
IsRefusedBy which name NoMemory old new = (new ≡ old) ⊎ IsBegun name 1 old new
IsRefusedBy which name status old new = ⊥
