-- The steps of a command: a line each, and the first one that refuses ends them.
use Rattle.std.specs.Prelude.{◌≡◌, ℕ, ◌+◌, Bool, List, [], ◌∷◌, ◌++◌, length, nat_lt, Ok, Err, Some, None, Result, Contains, ⊤, IfOk, IsErrOf, if◌then◌else◌, true, false}
use Rattle.std.specs.declared.option.Option.{Option}
use Rattle.std.specs.Option.{option_map_or}
use Rattle.edge_io.specs.Held.{NamedFiles, find_file}
use Rattle.bits_model.specs.Output.{Written}
use Rattle.whole_text.specs.declared.faults.TextFault.{TextFault}
use Rattle.whole_text.specs.declared.token.Style.TheVariants.{Plain}
use Rattle.whole_text.specs.Tokens.{tokens_of}
use Rattle.problem_form.specs.declared.limits.LimitFault.{LimitFault}
use Rattle.problem_form.specs.declared.limits.LimitKind.TheVariants.{Bytes}
use Rattle.problem_form.specs.Limits.{limit_fault, most_bytes}
use Rattle.command_words.specs.declared.names.Which.{Which}
use Rattle.command_words.specs.declared.names.Which.TheVariants.{Source, Graph, Dead, Map, State, Certificate, Order}
use Rattle.command_words.specs.declared.commands.Format.{Format}
use Rattle.command_words.specs.declared.commands.Format.TheVariants.{Wcnf}
use Rattle.command_words.specs.declared.commands.Origin.{Origin}
use Rattle.command_words.specs.declared.commands.Origin.TheVariants.{File, Drawn}
use Rattle.command_words.specs.declared.commands.Board.{Board}
use Rattle.command_words.specs.declared.commands.Ground.{Ground}
use Rattle.command_words.specs.declared.commands.Ground.TheVariants as grounds
use Rattle.command_words.specs.declared.commands.Target.{Target}
use Rattle.command_words.specs.declared.commands.Target.TheVariants as targets
use Rattle.command_words.specs.declared.commands.Ask.{Ask}
use Rattle.command_words.specs.declared.commands.Ask.TheVariants as asks
use Rattle.command_words.specs.declared.commands.OfState.{OfState}
use Rattle.command_words.specs.declared.commands.OfState.TheVariants.{Extend, Prove}
use Rattle.command_words.specs.declared.commands.Slack.{Slack}
use Rattle.command_words.specs.declared.commands.Command.{Command}
use Rattle.command_words.specs.Bounds.{most_of}
use Rattle.command_words.specs.Names.{ground_file}
use Rattle.sample_text.specs.Sample.{sample_text}
use Rattle.chimera_graph.specs.declared.chimera.Chimera.{Chimera}
use Rattle.chain_map.specs.Maps as maps
use Rattle.working_graph.specs.Working.{WorkingGraph}
use Rattle.working_graph.specs.DeadLists.{working_of}
use Rattle.part_lists.specs.declared.parts.Part.{Part}
use Rattle.listed_graph.specs.Complete.{listed_parts}
use Rattle.source_texts.specs.declared.reading.Read.{Read}
use Rattle.source_texts.specs.Sources.{bounded_read, penalized, problem_of, slacked}
use Rattle.state_file.specs.States.{StateLine, state_of, states_of}
use Rattle.elimination_order.specs.Orders.{order_of}
use Rattle.elimination_order.specs.Widths.{first_wide, from_last}
use Rattle.posiform_check.specs.declared.faults.ProofFault.{ProofFault}
use Rattle.posiform_check.specs.BitForms.{CertificateContent}
use Rattle.posiform_check.specs.Certificates.{certificate_fault}
use Rattle.posiform_check.specs.FirstFaults.{proof_fault}
use Rattle.posiform_check.specs.Texts as certificates
use Rattle.model_pipeline.specs.declared.site.Qubits.{Qubits}
use Rattle.model_pipeline.specs.declared.site.Qubits.TheVariants as which
use Rattle.model_pipeline.specs.declared.site.ChainSource.{ChainSource}
use Rattle.model_pipeline.specs.declared.site.ChainSource.TheVariants as chain_sources
use Rattle.model_pipeline.specs.declared.site.Site.{Site}
use Rattle.model_pipeline.specs.declared.options.ModelTarget.{ModelTarget}
use Rattle.model_pipeline.specs.declared.options.ModelTarget.TheVariants as placements
use Rattle.model_pipeline.specs.declared.options.Options.{Options}
use Rattle.run_steps.specs.declared.plans.Plan.{Plan}
use Rattle.run_steps.specs.declared.status.Status.{Status}
use Rattle.run_steps.specs.declared.status.Status.TheVariants.{ReadFault, BadText, Limit, TooWide, NotProved, NoState, NoMemory}
use Rattle.state_file.specs.declared.answer.StateAnswer.{StateAnswer}
use Rattle.state_file.specs.declared.answer.StateAnswer.TheVariants as answers

-- ---- steps

-- the files that steps took, one after another, and how they end: with a value, with the status that
-- refuses, or not at all where the last of those files isn't held
pub record Steps (A : Type 0) : Type 0 where
  pub taken : List Which
  pub end : Option (Result A Status)

-- no file is taken
abbrev pub ends : {A : Type 0} → Result A Status → Steps A
ends result = record { taken = []; end = Some result }

-- a value, and no file is taken
abbrev pub gives : {A : Type 0} → A → Steps A
gives x = ends (Ok x)

-- steps, and the next ones with their value
abbrev pub go_on : {A B : Type 0} → List Which → Option (Result A Status) → (A → Steps B) → Steps B
go_on taken None f = record { taken = taken; end = None }
go_on taken (Some (Ok x)) f = record { taken = taken ++ (f x).taken; end = (f x).end }
go_on taken (Some (Err status)) f = record { taken = taken; end = Some (Err status) }

-- a step, and the next one with its value; a status that refuses ends them
infixl 10 ◌>>=◌
abbrev pub ◌>>=◌ : {A B : Type 0} → Steps A → (A → Steps B) → Steps B
m >>= f = go_on m.taken m.end f

-- the bytes of a file, unless it is too long
abbrev pub not_too_long : Which → List ℕ → Result (List ℕ) Status
not_too_long which bytes =
    if nat_lt most_bytes (length bytes)
    then Err (Limit which Bytes (most_bytes + 1))
    else Ok bytes

-- taking the bytes of a file of this name
abbrev pub taking : NamedFiles → Which → List ℕ → Steps (List ℕ)
taking held which name = record {
  taken = which ∷ [];
  end = option_map_or (λ bytes. Some (not_too_long which bytes)) (find_file held name) None;
}

-- what a text is read into, or its fault
abbrev pub text_end : {A : Type 0} → Which → Result A TextFault → Result A Status
text_end which (Ok x) = Ok x
text_end which (Err fault) = Err (BadText which fault.kind fault.line)

-- what is within the limits, or the one that it passes
abbrev pub limits_end : {A : Type 0} → Which → A → Option LimitFault → Result A Status
limits_end which x None = Ok x
limits_end which x (Some fault) = Err (Limit which fault.kind fault.number)

-- so many bits, or that a text has no such state
abbrev pub state_end : ℕ → Option (List Bool) → Result (List Bool) Status
state_end width (Some bits) = Ok bits
state_end width None = Err (NoState width)

-- ---- of a command

-- the format of a source
abbrev pub format_in : Origin → Format
format_in (File format at) = format
format_in (Drawn number clauses) = Wcnf

-- taking the text of a source: that of a file, or the one that is drawn
unfoldable pub sourcing : NamedFiles → Origin → Steps (List ℕ)
sourcing held (File format name) = taking held Source name
sourcing held (Drawn number clauses) = gives (sample_text number clauses)

-- and then reading it
unfoldable pub reading_source : NamedFiles → Slack → Origin → Steps Read
reading_source held slack origin = do
  text ← sourcing held origin
  ends (text_end Source (problem_of slack (format_in origin) text))

-- what is read, where its constraints get their slack as a command says, and with the command's bound
abbrev pub prepared : Command → Read → Read
prepared command read = bounded_read (most_of command.bound) (slacked command.slack read)

-- what is read as a command wants it: the same, with penalties in the command's scope
abbrev pub wanted : Command → Read → Read
wanted command read = penalized command.penalty (prepared command read)

-- the same, within the limits
abbrev pub limited : Command → Read → Result Read Status
limited command read =
    limits_end Source (wanted command read)
    (limit_fault command.choices.normal (wanted command read).problem)

-- and then making it what the command wants, and checking its limits
unfoldable pub checking : NamedFiles → Command → Steps Read
checking held command = do
  read ← reading_source held command.slack command.origin
  ends (limited command read)

-- what a dead list leaves of a graph, read from the file of this name
unfoldable pub working : NamedFiles → List ℕ → Chimera → Steps WorkingGraph
working held name graph = do
  bytes ← taking held Dead name
  ends (text_end Dead (working_of graph bytes))

-- the qubits of a Chimera graph that chains may stand on: all, or those that the dead list leaves
-- that is named
unfoldable pub working_step : NamedFiles → Chimera → Option (List ℕ) → Steps Qubits
working_step held graph None = gives (which.All graph)
working_step held graph (Some name) = do
  w ← working held name graph
  gives (which.Working w)

-- the parts of a graph, read from the file of this name
unfoldable pub listing : NamedFiles → List ℕ → Steps (List Part)
listing held name = do
  bytes ← taking held Graph name
  ends (text_end Graph (listed_parts bytes))

-- the qubits that chains may stand on: those of a Chimera graph, or those of the graph that is named
unfoldable pub surveying : NamedFiles → Ground → Steps Qubits
surveying held (grounds.Chimera graph dead map) = working_step held graph dead
surveying held (grounds.Listed graph map) = do
  parts ← listing held graph
  gives (which.Listed parts)

-- the chains of a map, read from the file of this name
unfoldable pub mapping : NamedFiles → List ℕ → Steps (List (List ℕ))
mapping held name = do
  bytes ← taking held Map name
  ends (text_end Map (maps.reading bytes))

-- where the chains come from: those of a clique, or of the map that is named
unfoldable pub chains_step : NamedFiles → Option (List ℕ) → Steps ChainSource
chains_step held None = gives chain_sources.Clique
chains_step held (Some name) = do
  map ← mapping held name
  gives (chain_sources.Map map)

-- where chains stand, and how they are tied
unfoldable pub siting : NamedFiles → Board → Steps Site
siting held board = do
  qubits ← surveying held board.ground
  chain_source ← chains_step held (ground_file board.ground Map)
  gives (record { qubits = qubits; chain_source = chain_source; ties = board.ties })

-- what the model stands on
unfoldable pub placing : NamedFiles → Target → Steps ModelTarget
placing held (targets.Nodes target) = gives (placements.Nodes target)
placing held (targets.Qubits board) = do
  site ← siting held board
  gives (placements.Qubits site)

-- the steps to the form are kept where an assignment is to be extended
abbrev pub keeps_steps : Ask → Bool
keeps_steps (asks.State name Extend) = true
keeps_steps ask = false

-- how the model of a command is made on what it stands on
abbrev pub options_of : Command → ModelTarget → Options
options_of command target = record {
  choices = command.choices;
  unit = command.unit;
  target = target;
  keep_steps = keeps_steps command.ask;
}

-- what the model of a command is made of
unfoldable pub planning : NamedFiles → Command → Steps Plan
planning held command = do
  read ← checking held command
  target ← placing held command.target
  gives (record { read = read; options = options_of command target })

-- so many bits, read from the file of this name
unfoldable pub stating : NamedFiles → List ℕ → ℕ → Steps (List Bool)
stating held name width = do
  bytes ← taking held State name
  ends (state_end width (state_of width bytes))

-- a certificate within its limits, for a model of so many nodes, read from the file of this name
unfoldable pub certifying : NamedFiles → List ℕ → ℕ → Steps CertificateContent
certifying held name nodes = do
  bytes ← taking held Certificate name
  certificate ← ends (text_end Certificate (certificates.reading nodes bytes))
  ends (limits_end Certificate certificate (certificate_fault certificate))

-- the bits that are proved, or the first fault of the proof
abbrev pub proof_end : List Bool → Option ProofFault → Result (List Bool) Status
proof_end bits None = Ok bits
proof_end bits (Some fault) = Err (NotProved fault)

-- a state of a model, where the certificate in the file of this name proves it
unfoldable pub certified : NamedFiles → List ℕ → Written → List Bool → Steps (List Bool)
certified held name m bits = do
  certificate ← certifying held name m.nodes
  ends (proof_end bits (proof_fault m certificate bits))

-- how many bits are read of a state of a model, or of an assignment of its source's so many variables
abbrev pub asked_width : OfState → ℕ → Written → ℕ
asked_width Extend variables m = variables
asked_width of variables m = m.nodes

-- the bits that were read, where the certificate proves them that is asked for
abbrev pub proving : NamedFiles → OfState → Written → List Bool → Steps (List Bool)
proving held (Prove certificate) m bits = certified held certificate m bits
proving held of m bits = gives bits

-- an order of so many nodes, read from the file of this name
unfoldable pub ordered : NamedFiles → List ℕ → ℕ → Steps (List ℕ)
ordered held name nodes = do
  bytes ← taking held Order name
  ends (text_end Order (order_of nodes (tokens_of Plain bytes)))

-- the order in which so many nodes are eliminated: from the last to the first, or that of the file that
-- is named
abbrev pub ordering : NamedFiles → Option (List ℕ) → ℕ → Steps (List ℕ)
ordering held None nodes = gives (from_last nodes)
ordering held (Some name) nodes = ordered held name nodes

-- what is read once the model stands: nothing, bits, an order of its nodes, or states with the numbers
-- of their lines
pub data Last : Type 0 where
  Nothing : Last
  Bits : List Bool → Last
  InOrder : List ℕ → Last
  Several : List StateLine → Last

-- the order, where no node is too wide in it, or the first one that is
abbrev pub width_end : List ℕ → Option (ℕ × ℕ) → Result Last Status
width_end order None = Ok (InOrder order)
width_end order (Some node) = Err (TooWide node.0 node.1)

-- a model to be solved is not too wide in the order of its nodes
abbrev pub solving : NamedFiles → Option (List ℕ) → Written → Steps Last
solving held name m = do
  order ← ordering held name m.nodes
  ends (width_end order (first_wide 16 m [] order))

-- all states that a text has, or that it has none
abbrev pub states_end : ℕ → List StateLine → Result Last Status
states_end width [] = Err (NoState width)
states_end width (state ∷ states) = Ok (Several (state ∷ states))

-- all states of so many bits, read from the file of this name
unfoldable pub scanning : NamedFiles → List ℕ → ℕ → Steps Last
scanning held name width = do
  bytes ← taking held State name
  ends (states_end width (states_of width bytes))

-- what is read once the model of a source of so many variables stands
abbrev pub last_step : NamedFiles → Ask → ℕ → Written → Steps Last
last_step held (asks.Make make) variables m = gives Nothing
last_step held (asks.Solve order) variables m = solving held order m
last_step held (asks.Evaluate name) variables m = scanning held name m.nodes
last_step held (asks.State name of) variables m = do
  read ← stating held name (asked_width of variables m)
  bits ← proving held of m read
  gives (Bits bits)

-- ---- what functions return of it

-- steps refuse as a status says: a file that cannot be read was taken by them
abbrev pub Refuses : {A : Type 0} → Status → Steps A → Type 0
Refuses (ReadFault which) steps = Contains steps.taken which
Refuses NoMemory steps = ⊤
Refuses status steps = steps.end ≡ Some (Err status)

-- what a function returned, seen by view, is what the steps give
abbrev pub Meets : {X A : Type 0} → (X → A) → Result X Status → Steps A → Type 0
Meets view (Ok x) steps = steps.end ≡ Some (Ok (view x))
Meets view (Err status) steps = Refuses status steps

-- what a function returned for a text that was read, seen by view, is how a state of so many bits
-- ends, where the text says bits or none
abbrev pub EndsState : {X : Type 0} → (X → List Bool) → Result X StateAnswer → ℕ → Result X Status
    → Type 0
EndsState view read width result =
    (said : Option (List Bool)) → IfOk read (λ x. said ≡ Some (view x))
    → (IsErrOf read answers.NoState → said ≡ None)
    → Meets view result (ends (state_end width said))
