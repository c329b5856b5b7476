-- What the program tells of itself.
use Rattle.std.specs.Prelude.{ℕ, List, [], ◌∷◌, ◌++◌, codes, flat_map}
use Rattle.command_words.specs.declared.commands.Notice.{Notice}
use Rattle.command_words.specs.declared.commands.Notice.TheVariants.{Help, Version}

-- the version of the program
abbrev pub version : List ℕ
version = codes "1.0.0"

-- the line for the version
abbrev pub version_line : List ℕ
version_line = codes "compile_program " ++ version ++ codes "\n"

-- what the program does
abbrev pub purpose : List (List ℕ)
purpose =
    codes "compile_program: 0-1 optimization problems as QUBO and Ising models, each translation proved right."
    ∷ []

-- the commands, each with its words
abbrev pub commands : List (List ℕ)
commands =
    codes "Commands. KEYS are words NAME=VALUE, in any order, each at most once; they may be left out."
    ∷ codes "  compile FORMAT TARGET FILE KEYS                  writes the model of FILE"
    ∷ codes "  size FORMAT TARGET FILE KEYS                     writes how large that model and its weights are"
    ∷ codes "  decode FORMAT TARGET FILE STATE KEYS             writes what a state of it stands for in FILE"
    ∷ codes "  evaluate FORMAT TARGET FILE STATES KEYS          writes cost and energy of each state; the best"
    ∷ codes "  extend FORMAT TARGET FILE ASSIGNMENT KEYS        writes a state that stands for an assignment"
    ∷ codes "  solve FORMAT TARGET FILE KEYS                    writes the first least state, and the optimum"
    ∷ codes "  prove FORMAT TARGET FILE STATE CERTIFICATE KEYS  writes the optimum that a certificate proves"
    ∷ codes "  sample NUMBER CLAUSES TARGET KEYS                writes how large a model of random clauses is"
    ∷ codes "  --help, -h                                       writes this text"
    ∷ codes "  --version, -V                                    writes the version"
    ∷ []

-- the words of the commands
abbrev pub words : List (List ℕ)
words =
    codes "FORMAT is wcnf, wbo, opb, poly, qubo or ising, and FILE is a file in it."
    ∷ codes "TARGET is qubo (bits), ising (spins), chimera (spins on the qubits of a Chimera graph) or graph"
    ∷ codes "(spins on the qubits of a graph in a file)."
    ∷ codes "STATE, STATES and ASSIGNMENT are files with lines of 0 and 1, or of - and +."
    ∷ codes "NUMBER is below 2^64 and chooses the clauses; CLAUSES, their count, is at most 100000."
    ∷ []

-- the keys of every command and target
abbrev pub usual_keys : List (List ℕ)
usual_keys =
    codes "Keys of every command and target, with the usual value first:"
    ∷ codes "  normal=literal|multilinear  keep products of literals, or multiply them out over variables"
    ∷ codes "  high=monomial|rosenberg     replace each long term by itself, or pairs of literals in all of them"
    ∷ codes "  unit=one|reduce             keep the weights, or divide them by what divides them all"
    ∷ codes "  slack=bits|pairs|clauses    slack bits in each constraint, or pairs in those like at-most-one, or"
    ∷ codes "                              these pairs, and clauses in those like at-least-one"
    ∷ codes "  penalty=global|local        one penalty for all hard parts, or a lesser one for each of them"
    ∷ codes "  bound=N                     what costs more than N is infeasible; usually there is no bound"
    ∷ []

-- the key of an order of elimination
abbrev pub order_keys : List (List ℕ)
order_keys =
    codes "Key of solve, with every target:"
    ∷ codes "  order=NAME                  a file: the nodes as they are eliminated; usually from the last one"
    ∷ []

-- the keys of graphs
abbrev pub graph_keys : List (List ℕ)
graph_keys =
    codes "Keys of the targets chimera and graph, with every command:"
    ∷ codes "  map=NAME                    a file: chains, on each line a node and its qubits"
    ∷ codes "  chain=choi|cut              tie chains so that no break pays, or so that no least state breaks"
    ∷ codes "Keys of the target chimera, with every command:"
    ∷ codes "  rows=N cols=N shore=N       rows and columns of cells, qubits on a side of a cell; all needed"
    ∷ codes "  embed=clique                the chains of a clique; exactly one of embed and map is needed"
    ∷ codes "  dead=NAME                   a file: qubits and couplers to leave out; usually there are none"
    ∷ codes "Key of the target graph, with every command; it is needed, and map is:"
    ∷ codes "  graph=NAME                  a file: on each line a qubit or the two of a coupler, which work"
    ∷ []

-- the statuses, each with its number
abbrev pub statuses : List (List ℕ)
statuses =
    codes "Statuses. For each but 0 a line on the error output tells more."
    ∷ codes "  0  done                          6  a file is beyond a limit"
    ∷ codes "  2  a word is wrong or missing    7  the model is not embedded in the graph"
    ∷ codes "  3  a file can't be read          8  a file has no state of the right length"
    ∷ codes "  4  the output can't be written   9  out of memory"
    ∷ codes "  5  a file is not in its format  10  the certificate does not prove the state"
    ∷ codes "                                  11  the model is too wide to be solved"
    ∷ []

-- examples of commands
abbrev pub examples : List (List ℕ)
examples =
    codes "Examples:"
    ∷ codes "  compile_program compile wcnf qubo problem.wcnf >problem.qubo"
    ∷ codes "  compile_program decode opb ising knapsack.opb state unit=reduce"
    ∷ codes "  compile_program solve poly chimera cost.poly rows=2 cols=2 shore=4 embed=clique"
    ∷ []

-- the lines of the help: its parts, with an empty line between each two
abbrev pub help_lines : List (List ℕ)
help_lines =
    purpose ++ [] ∷ commands ++ [] ∷ words ++ [] ∷ usual_keys ++ order_keys ++ graph_keys
    ++ [] ∷ statuses ++ [] ∷ examples

-- the text of lines, with a line feed behind each
abbrev pub text_of : List (List ℕ) → List ℕ
text_of lines = flat_map (λ line. line ++ codes "\n") lines

-- the whole text of a notice
abbrev pub notice_text : Notice → List ℕ
notice_text Help = text_of help_lines
notice_text Version = version_line
