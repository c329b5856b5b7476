-- The line that is written to the error output for each status but Done.
use Rattle.std.specs.Prelude.{ℕ, List, [], ◌∷◌, codes, decimal, Ok, Result}
use Rattle.std.specs.List.{concat}
use Rattle.std.specs.Fmt.{signed_decimal}
use Rattle.edge_io.specs.Counts.{Rose}
use Rattle.edge_io.specs.Sinks.{Taken, Takes, TakesFront}
use Rattle.whole_text.specs.declared.faults.TextKind.{TextKind}
use Rattle.whole_text.specs.declared.faults.TextKind.TheVariants.{Word, Number, Range, End, Extra}
use Rattle.chain_map.specs.declared.faults.EmbedFault.{EmbedFault}
use Rattle.chain_map.specs.declared.faults.EmbedFault.TheVariants.{ChainCount, EmptyChain, NoSuchQubit, Repeated, Disconnected, NoCoupler, TooManyNodes}
use Rattle.problem_form.specs.declared.limits.LimitKind.{LimitKind}
use Rattle.problem_form.specs.declared.limits.LimitKind.TheVariants.{Bytes, Variables, Degree, Negations, Pairs, Weight}
use Rattle.command_words.specs.declared.names.Which.{Which}
use Rattle.command_words.specs.declared.names.Which.TheVariants.{Source, State}
use Rattle.command_words.specs.declared.commands.Request.{Request}
use Rattle.command_words.specs.declared.commands.Request.TheVariants as requests
use Rattle.posiform_check.specs.declared.faults.ProofFault.{ProofFault}
use Rattle.posiform_check.specs.declared.faults.ProofFault.TheVariants.{Negative, Differs, NotZero}
use Rattle.command_words.specs.Names.{name_of}
use Rattle.run_steps.specs.declared.status.Status.{Status}
use Rattle.run_steps.specs.declared.status.Status.TheVariants.{Done, Usage, ReadFault, WriteFault, BadText, Limit, NotEmbedded, TooWide, NotProved, NoState, NoMemory}

-- the file that a status speaks of
abbrev pub file_in : Status → Which
file_in (ReadFault which) = which
file_in (BadText which kind line) = which
file_in (Limit which kind number) = which
file_in (NoState length) = State
file_in _ = Source

-- the file's name in the line for a status of what is asked
abbrev pub name_in : Result Request ℕ → Status → List ℕ
name_in (Ok (requests.Command command)) status = name_of command (file_in status)
name_in asked status = []

-- the end of the line for a bad text
abbrev pub kind_end : TextKind → List ℕ
kind_end Word = codes ": word\n"
kind_end Number = codes ": number\n"
kind_end Range = codes ": range\n"
kind_end End = codes ": end\n"
kind_end Extra = codes ": extra\n"

-- what stands between the file's name and the number that passes a limit
abbrev pub limit_words : LimitKind → List ℕ
limit_words Bytes = codes ": limit bytes "
limit_words Variables = codes ": limit variables "
limit_words Degree = codes ": limit degree "
limit_words Negations = codes ": limit negations "
limit_words Pairs = codes ": limit pairs "
limit_words Weight = codes ": limit weight "

-- the line for an embedding in words round a number, piece by piece
abbrev pub with_number : List ℕ → ℕ → List ℕ → List (List ℕ)
with_number before number after = codes "not embedded: " ∷ before ∷ decimal number ∷ after ∷ []

-- the same, in words round two numbers
abbrev pub with_numbers : List ℕ → ℕ → List ℕ → ℕ → List ℕ → List (List ℕ)
with_numbers before first between second after =
    codes "not embedded: " ∷ before ∷ decimal first ∷ between ∷ decimal second ∷ after ∷ []

-- the line for a model that is too wide, piece by piece
abbrev pub wide_pieces : ℕ → ℕ → List (List ℕ)
wide_pieces node width =
    codes "too wide: node " ∷ decimal node ∷ codes " has " ∷ decimal width
    ∷ codes " neighbours\n" ∷ []

-- what the line for an embedding says after its first words
abbrev pub fault_pieces : EmbedFault → List (List ℕ)
fault_pieces (ChainCount count) = decimal count ∷ codes " chains\n" ∷ []
fault_pieces (EmptyChain node) = codes "chain " ∷ decimal node ∷ codes " is empty\n" ∷ []
fault_pieces (NoSuchQubit node qubit) =
    codes "chain " ∷ decimal node ∷ codes " names qubit " ∷ decimal qubit ∷ codes "\n" ∷ []
fault_pieces (Repeated qubit) = codes "qubit " ∷ decimal qubit ∷ codes " is repeated\n" ∷ []
fault_pieces (Disconnected node qubit) =
    codes "chain " ∷ decimal node ∷ codes " does not reach qubit " ∷ decimal qubit
    ∷ codes "\n" ∷ []
fault_pieces (NoCoupler first second) =
    codes "no coupler between " ∷ decimal first ∷ codes " and " ∷ decimal second
    ∷ codes "\n" ∷ []
fault_pieces (TooManyNodes nodes places) =
    decimal nodes ∷ codes " nodes for " ∷ decimal places ∷ codes " places\n" ∷ []

-- what the line for a proof says after its first words
abbrev pub proof_pieces : ProofFault → List (List ℕ)
proof_pieces (Negative line) = codes "line " ∷ decimal line ∷ codes " is negative\n" ∷ []
proof_pieces (Differs ours theirs) =
    codes "coefficients " ∷ signed_decimal ours ∷ codes " and " ∷ signed_decimal theirs
    ∷ codes "\n" ∷ []
proof_pieces (NotZero above) = signed_decimal above ∷ codes " above the bound\n" ∷ []

-- the line, piece by piece, of the file's name
abbrev pub error_pieces : Status → List ℕ → List (List ℕ)
error_pieces Done name = []
error_pieces (Usage position) name = codes "usage: word " ∷ decimal position ∷ codes "\n" ∷ []
error_pieces (ReadFault which) name = codes "cannot read " ∷ name ∷ codes "\n" ∷ []
error_pieces WriteFault name = codes "cannot write\n" ∷ []
error_pieces (BadText which kind line) name = name ∷ codes ":" ∷ decimal line ∷ kind_end kind ∷ []
error_pieces (Limit which kind number) name =
    name ∷ limit_words kind ∷ decimal number ∷ codes "\n" ∷ []
error_pieces (NotEmbedded fault) name = codes "not embedded: " ∷ fault_pieces fault
error_pieces (NoState length) name =
    name ∷ codes ": no state of " ∷ decimal length ∷ codes " characters\n" ∷ []
error_pieces (TooWide node width) name = wide_pieces node width
error_pieces (NotProved fault) name = codes "not proved: " ∷ proof_pieces fault
error_pieces NoMemory name = codes "out of memory\n" ∷ []

-- the line as a whole
abbrev pub error_line : Status → List ℕ → List ℕ
error_line status name = concat (error_pieces status name)

-- a front of the line was written, and the whole of it where the count of faults did not rise
pub record IsSaid (old new : Taken) (before now : ℕ) (line : List ℕ) : Type 0 where
  pub front : TakesFront old new line
  pub whole : ¬ (Rose before now) → Takes old new line

-- the same, for a line that is given piece by piece
abbrev pub AreSaid : (old new : Taken) → (before now : ℕ) → List (List ℕ) → Type 0
AreSaid old new before now pieces = IsSaid old new before now (concat pieces)
