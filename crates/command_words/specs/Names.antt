-- The files that a command names.
--
-- A name is a whole word, as that of the source, or the value of a key, as in `map=chains.txt`. An
-- empty name is lawful, and names a file that cannot be read.
use Rattle.std.specs.Prelude.{ℕ, List, [], ◌∷◌, ◌++◌, Some, None, Option, unwrap_or}
use Rattle.std.specs.Option.{option_map_or}
use Rattle.command_words.specs.declared.commands.Target.{Target}
use Rattle.command_words.specs.declared.commands.Target.TheVariants as targets
use Rattle.command_words.specs.declared.commands.Ground.{Ground}
use Rattle.command_words.specs.declared.commands.Ground.TheVariants as grounds
use Rattle.command_words.specs.declared.commands.Origin.{Origin}
use Rattle.command_words.specs.declared.commands.Origin.TheVariants.{File, Drawn}
use Rattle.command_words.specs.declared.commands.OfState.TheVariants.{Prove}
use Rattle.command_words.specs.declared.commands.Ask.{Ask}
use Rattle.command_words.specs.declared.commands.Ask.TheVariants as asks
use Rattle.command_words.specs.declared.commands.Command.{Command}
use Rattle.command_words.specs.declared.names.Which.{Which}
use Rattle.command_words.specs.declared.names.Which.TheVariants.{Source, Graph, Dead, Map, State, Certificate, Order}

-- the name of the source; one that is drawn has no file
abbrev pub source_file : Origin → Option (List ℕ)
source_file (File format name) = Some name
source_file (Drawn number clauses) = None

-- the name of a file that says which qubits there are, or which chains they form
abbrev pub ground_file : Ground → Which → Option (List ℕ)
ground_file (grounds.Chimera graph dead map) Dead = dead
ground_file (grounds.Chimera graph dead map) Map = map
ground_file (grounds.Listed graph map) Graph = Some graph
ground_file (grounds.Listed graph map) Map = Some map
ground_file at which = None

-- the name of such a file that a target has; a model on nodes has none
abbrev pub target_file : Target → Which → Option (List ℕ)
target_file (targets.Nodes model) which = None
target_file (targets.Qubits board) which = ground_file board.ground which

-- The name of a file that is taken once the model stands. Decoding, evaluating and proving take states
-- of the model, and extending an assignment of the source.
abbrev pub ask_file : Ask → Which → Option (List ℕ)
ask_file (asks.Solve order) Order = order
ask_file (asks.Evaluate states) State = Some states
ask_file (asks.State state of) State = Some state
ask_file (asks.State state (Prove certificate)) Certificate = Some certificate
ask_file ask which = None

-- the name of a file, where a command has such a file
abbrev pub named : Command → Which → Option (List ℕ)
named command Source = source_file command.origin
named command Graph = target_file command.target Graph
named command Dead = target_file command.target Dead
named command Map = target_file command.target Map
named command which = ask_file command.ask which

-- the name of a file of a command, empty where the command has no such file
abbrev pub name_of : Command → Which → List ℕ
name_of command which = unwrap_or (named command which) []

-- a file, where a command has a name for it
abbrev pub if_named : Command → Which → List Which
if_named command which = option_map_or (λ name. which ∷ []) (named command which) []

-- The files that the model of a command is made of, in the order in which they are taken. At most
-- three: the source, the graph or the list of dead parts, and the map.
abbrev pub model_files : Command → List Which
model_files command =
    if_named command Source ++ if_named command Graph ++ if_named command Dead ++ if_named command Map

-- The files that are taken once the model stands. The source is read first, so a fault in it is
-- told before one in these.
abbrev pub last_files : Command → List Which
last_files command =
    if_named command State ++ if_named command Certificate ++ if_named command Order

-- the files that a command takes, in the order in which it takes them
abbrev pub files_of : Command → List Which
files_of command = model_files command ++ last_files command
