-- What holds at one status.
use Rattle.std.specs.Prelude.{◌≡◌, ℕ, Ok, Err, Result, ⊤}
use Rattle.edge_io.specs.Counts.{Rose}
use Rattle.command_words.specs.declared.commands.Request.{Request}
use Rattle.command_words.specs.declared.names.Which.{Which}
use Rattle.chain_map.specs.declared.faults.CheckAnswer.{CheckAnswer}
use Rattle.chain_map.specs.declared.faults.CheckAnswer.TheVariants as checks
use Rattle.run_steps.specs.declared.status.Status.{Status}
use Rattle.run_steps.specs.declared.status.Status.TheVariants.{Done, Usage, ReadFault, WriteFault, BadText, Limit, NotEmbedded, TooWide, NotProved, NoState, NoMemory}

-- `Usage` comes exactly where the words ask for nothing, and has the position
abbrev pub IsUsageOf : Status → Result Request ℕ → Type 0
IsUsageOf (Usage position) (Ok request) = ⊥
IsUsageOf (Usage position) (Err at) = position ≡ at
IsUsageOf status (Ok request) = ⊤
IsUsageOf status (Err at) = ⊥

-- what holds at a usage fault
abbrev pub OnUsage : Status → Type 0 → Type 0
OnUsage (Usage position) P = P
OnUsage _ P = ⊤

-- what holds where all was written
abbrev pub OnDone : Status → Type 0 → Type 0
OnDone Done P = P
OnDone _ P = ⊤

-- what holds once the writing has begun
abbrev pub OnWriting : Status → Type 0 → Type 0
OnWriting Done P = P
OnWriting WriteFault P = P
OnWriting _ P = ⊤

-- what holds at every status that comes before the writing
abbrev pub OnRefusal : Status → Type 0 → Type 0
OnRefusal Done P = ⊤
OnRefusal WriteFault P = ⊤
OnRefusal _ P = P

-- a status that a command has before it writes
abbrev pub IsRefusal : Status → Type 0
IsRefusal Done = ⊥
IsRefusal WriteFault = ⊥
IsRefusal (Usage position) = ⊥
IsRefusal _ = ⊤

-- the writing has begun
abbrev pub IsWriting : Status → Type 0
IsWriting Done = ⊤
IsWriting WriteFault = ⊤
IsWriting _ = ⊥

-- the whole text was written, a call of a file or of the output failed, or memory was refused
abbrev pub IsDoneOrFault : Status → Type 0
IsDoneOrFault Done = ⊤
IsDoneOrFault (ReadFault which) = ⊤
IsDoneOrFault WriteFault = ⊤
IsDoneOrFault NoMemory = ⊤
IsDoneOrFault _ = ⊥

-- the files' count of faults rose at `ReadFault`, and at each other status is what it was
abbrev pub CountsReadFault : Status → ℕ → ℕ → Type 0
CountsReadFault (ReadFault which) before now = Rose before now
CountsReadFault status before now = now ≡ before

-- the output's count of faults rose at `WriteFault`, and at each other status is what it was
abbrev pub CountsWriteFault : Status → ℕ → ℕ → Type 0
CountsWriteFault WriteFault before now = Rose before now
CountsWriteFault status before now = now ≡ before

-- the status of what a command answers
abbrev pub ended : {A : Type 0} → Result A Status → Status
ended (Ok answer) = Done
ended (Err status) = status

-- the exit status of the program
abbrev pub exit_number : Status → ℕ
exit_number Done = 0
exit_number (Usage position) = 2
exit_number (ReadFault which) = 3
exit_number WriteFault = 4
exit_number (BadText which kind line) = 5
exit_number (Limit which kind number) = 6
exit_number (NotEmbedded fault) = 7
exit_number (NoState length) = 8
exit_number NoMemory = 9
exit_number (NotProved fault) = 10
exit_number (TooWide node width) = 11

-- a number that the program may exit with: that of some status
abbrev pub IsExitNumber : ℕ → Type 0
IsExitNumber n = (status : Status) × (n ≡ exit_number status)

-- the words of the command line cannot be taken: memory is refused, or a word, of no position, is no
-- text
abbrev pub IsUntaken : Status → Type 0
IsUntaken NoMemory = ⊤
IsUntaken (Usage position) = position ≡ 0
IsUntaken _ = ⊥

-- a status of a model that is not solved: it is not embedded, too wide, or memory was wanting
abbrev pub IsUnsolved : Status → Type 0
IsUnsolved (NotEmbedded fault) = ⊤
IsUnsolved (TooWide node width) = ⊤
IsUnsolved NoMemory = ⊤
IsUnsolved status = ⊥

-- a status of the taking or reading of files, or of what is read
abbrev pub IsReading : Status → Type 0
IsReading (NotEmbedded fault) = ⊥
IsReading (TooWide node width) = ⊥
IsReading status = IsRefusal status

-- a status of a state that is not proved: the proof has a fault, or memory was wanting
abbrev pub IsUnproved : Status → Type 0
IsUnproved (NotProved fault) = ⊤
IsUnproved NoMemory = ⊤
IsUnproved status = ⊥

-- a status of the text of a file: it is bad, or memory was wanting
abbrev pub IsTextRefusal : Which → Status → Type 0
IsTextRefusal which (BadText other kind line) = other ≡ which
IsTextRefusal which NoMemory = ⊤
IsTextRefusal which status = ⊥

-- a status of the text of a state: it has none, or memory was wanting
abbrev pub IsStateRefusal : Status → Type 0
IsStateRefusal (NoState width) = ⊤
IsStateRefusal NoMemory = ⊤
IsStateRefusal status = ⊥

-- the status where a check refuses
abbrev pub unembedded : CheckAnswer → Status
unembedded (checks.Fault fault) = NotEmbedded fault
unembedded checks.NoMemory = NoMemory
