-- Which lists of words ask for a command or a notice.
--
-- The definition of a request goes along the words. Here it is said from the other side: which
-- words ask for a given command or notice, that each can be asked for, and that no other words ask
-- for any.
use Rattle.std.specs.Prelude.{◌≡◌, ◌<◌, ◌≤◌, ◌≢◌, ◌+◌, ◌*◌, ◌^◌, ◌⊎◌, true, false, List, [], ◌∷◌, ◌++◌, ℕ, codes, length, map, drop, IfOk, Ok, Err, Option, Some, None}
use Rattle.std.specs.Option.{ok_or, option_map}
use Rattle.base.specs.declared.unit.UnitChoice.{UnitChoice}
use Rattle.base.specs.declared.unit.UnitChoice.TheVariants.{One, Reduce}
use Rattle.form_steps.specs.declared.scope.PenaltyScope.{PenaltyScope}
use Rattle.form_steps.specs.declared.scope.PenaltyScope.TheVariants.{Global, Local}
use Rattle.problem_form.specs.declared.limits.Normal.{Normal}
use Rattle.problem_form.specs.declared.limits.Normal.TheVariants.{Literal, Multilinear}
use Rattle.problem_form.specs.declared.limits.High.{High}
use Rattle.problem_form.specs.declared.limits.High.TheVariants.{Monomial, Rosenberg}
use Rattle.whole_text.specs.Numbers.{digits_number}
use Rattle.chimera_graph.specs.declared.chimera.Chimera as graphs
use Rattle.command_words.specs.declared.keys.Keys.{Keys}
use Rattle.command_words.specs.declared.commands.Format.{Format}
use Rattle.command_words.specs.declared.commands.Format.TheVariants as formats
use Rattle.command_words.specs.declared.commands.Ground.{Ground}
use Rattle.command_words.specs.declared.commands.Ground.TheVariants as grounds
use Rattle.command_words.specs.declared.commands.Target.{Target}
use Rattle.command_words.specs.declared.commands.Target.TheVariants as targets
use Rattle.command_words.specs.declared.commands.NodeModel.{NodeModel}
use Rattle.command_words.specs.declared.commands.NodeModel.TheVariants.{Qubo, Ising}
use Rattle.command_words.specs.declared.commands.TargetWord.{TargetWord}
use Rattle.command_words.specs.declared.commands.TargetWord.TheVariants.{Nodes, Chimera, Graph}
use Rattle.command_words.specs.declared.commands.Chaining.{Chaining}
use Rattle.command_words.specs.declared.commands.Chaining.TheVariants.{Clique}
use Rattle.command_words.specs.declared.commands.ChainStrength.{ChainStrength}
use Rattle.command_words.specs.declared.commands.ChainStrength.TheVariants.{Choi, Cut}
use Rattle.command_words.specs.declared.commands.Slack.{Slack}
use Rattle.command_words.specs.declared.commands.Slack.TheVariants.{Bits, Pairs, Clauses}
use Rattle.command_words.specs.declared.commands.Verb.{Verb}
use Rattle.command_words.specs.declared.commands.Verb.TheVariants as verbs
use Rattle.command_words.specs.declared.commands.Notice.{Notice}
use Rattle.command_words.specs.declared.commands.Notice.TheVariants.{Help, Version}
use Rattle.command_words.specs.declared.commands.Request.{Request}
use Rattle.command_words.specs.declared.commands.Request.TheVariants as requests
use Rattle.command_words.specs.declared.commands.Origin.{Origin}
use Rattle.command_words.specs.declared.commands.Origin.TheVariants.{File, Drawn}
use Rattle.command_words.specs.declared.commands.Ask.{Ask}
use Rattle.command_words.specs.declared.commands.Ask.TheVariants as asks
use Rattle.command_words.specs.declared.commands.Make.TheVariants as makes
use Rattle.command_words.specs.declared.commands.OfState.TheVariants as of_states
use Rattle.command_words.specs.declared.commands.Command.{Command}
use Rattle.command_words.specs.Commands.{◌>>=◌, ask_by, clauses_of, command_of, commanding, first_key, first_notice, request_of, source_words, valued, verb_of}
use Rattle.command_words.specs.Keys.{Key, bound_of, cut, embed_of, high_of, key_table, keys_from, listed, no_keys, normal_of, on_ground, penalty_of, side_of, slack_of, takes, target_by, ties_of, unit_of, with_word}

-- ---- words

-- the word of a verb
abbrev pub verb_word : Verb → List ℕ
verb_word verbs.Compile = codes "compile"
verb_word verbs.Size = codes "size"
verb_word verbs.Decode = codes "decode"
verb_word verbs.Evaluate = codes "evaluate"
verb_word verbs.Extend = codes "extend"
verb_word verbs.Sample = codes "sample"
verb_word verbs.Solve = codes "solve"
verb_word verbs.Prove = codes "prove"

-- the word of a format
abbrev pub format_word : Format → List ℕ
format_word formats.Wcnf = codes "wcnf"
format_word formats.Wbo = codes "wbo"
format_word formats.Opb = codes "opb"
format_word formats.Poly = codes "poly"
format_word formats.Ising = codes "ising"
format_word formats.Qubo = codes "qubo"

-- the word of a target
abbrev pub target_word : TargetWord → List ℕ
target_word (Nodes Qubo) = codes "qubo"
target_word (Nodes Ising) = codes "ising"
target_word Chimera = codes "chimera"
target_word Graph = codes "graph"

-- what the word of a ground says
abbrev pub ground_word : Ground → TargetWord
ground_word (grounds.Chimera graph dead map) = Chimera
ground_word (grounds.Listed graph map) = Graph

-- what the word of a target says
abbrev pub word_of : Target → TargetWord
word_of (targets.Nodes model) = Nodes model
word_of (targets.Qubits board) = ground_word board.ground

-- The words of a command on a file: a verb, format, target and file, the files that the verb has
-- besides, and keys. Every verb but `sample` has such words.
abbrev pub file_command : Verb → Format → TargetWord → List ℕ → List (List ℕ) → List (List ℕ)
    → List (List ℕ)
file_command verb format target file files keys =
    verb_word verb ∷ format_word format ∷ target_word target ∷ file ∷ files ++ keys

-- The words that ask for the model of a sample, with keys. Two numbers stand in place of a format
-- and a file.
abbrev pub sample_words : List ℕ → List ℕ → TargetWord → List (List ℕ) → List (List ℕ)
sample_words number clauses target keys =
    codes "sample" ∷ number ∷ clauses ∷ target_word target ∷ keys

-- the words say a verb, a source and the word of a target, and then these keys
pub record SayKeys (words : List (List ℕ)) (verb : Verb) (origin : Origin) (word : TargetWord)
    (keys : Keys) : Type 0 where
  pub first : valued verb_of words 0 ≡ Ok verb
  pub source : source_words verb words ≡ Ok (origin, word)
  pub given : keys_from verb word no_keys (first_key verb) (drop (first_key verb) words) ≡ Ok keys

-- the word of a key with a value, as in `rows=16`
abbrev pub key_word : List ℕ → List ℕ → List ℕ
key_word name value = name ++ (codes "=" ++ value)

-- the word of a normal form
abbrev pub normal_word : Normal → List ℕ
normal_word Literal = codes "literal"
normal_word Multilinear = codes "multilinear"

-- the word of what stands for terms of degree 3 or more
abbrev pub high_word : High → List ℕ
high_word Monomial = codes "monomial"
high_word Rosenberg = codes "rosenberg"

-- the word of a way to choose the unit
abbrev pub unit_word : UnitChoice → List ℕ
unit_word One = codes "one"
unit_word Reduce = codes "reduce"

-- the word of a way of conflicts and covers into the model
abbrev pub slack_word : Slack → List ℕ
slack_word Bits = codes "bits"
slack_word Pairs = codes "pairs"
slack_word Clauses = codes "clauses"

-- the word of a scope of penalties
abbrev pub penalty_word : PenaltyScope → List ℕ
penalty_word Global = codes "global"
penalty_word Local = codes "local"

-- the word of a tie of chains
abbrev pub ties_word : ChainStrength → List ℕ
ties_word Choi = codes "choi"
ties_word Cut = codes "cut"

-- ---- commands

-- Every verb but `sample` can be said with every format, target and file, with the files that it has
-- besides, and with what the keys after them choose; where these choose no target, the position after
-- all words is told. So no format and no target is left out.
abbrev pub EachJobIsAskedFor : Type 0
EachJobIsAskedFor = (verb : Verb) (format : Format) (word : TargetWord) (file : List ℕ)
    (files keys : List (List ℕ)) → verb ≢ verbs.Sample → length files + 4 ≡ first_key verb
    → command_of (file_command verb format word file files keys)
    ≡ (keys_from verb word no_keys (first_key verb) keys
    >>= λ given. ok_or (target_by word given)
    (length (file_command verb format word file files keys) + 1)
    >>= λ target. Ok (commanding (File format file) target given (ask_by verb (files ++ keys) given.order)))

-- every sample can be asked for, with any words for its numbers, and with what the keys after them
-- choose
abbrev pub EachSampleIsAskedFor : Type 0
EachSampleIsAskedFor = (number clauses : ℕ) (first second : List ℕ) (word : TargetWord)
    (keys : List (List ℕ)) → digits_number first ≡ Some number → clauses_of second ≡ Some clauses
    → command_of (sample_words first second word keys)
    ≡ (keys_from verbs.Sample word no_keys 4 keys
    >>= λ given. ok_or (target_by word given) (length (sample_words first second word keys) + 1)
    >>= λ target. Ok (commanding (Drawn number clauses) target given (asks.Make makes.Summary)))

-- each key that can stand can be asked for alone, with every verb but `sample`, every format, file
-- and model on nodes
abbrev pub EachKeyIsAskedFor : Type 0
EachKeyIsAskedFor = (verb : Verb) (format : Format) (model : NodeModel) (file : List ℕ)
    (files : List (List ℕ)) (key : List ℕ) (given : Keys) → verb ≢ verbs.Sample
    → length files + 4 ≡ first_key verb
    → with_word verb (Nodes model) no_keys key ≡ Some given
    → command_of (file_command verb format (Nodes model) file files (key ∷ []))
    ≡ Ok (commanding (File format file) (targets.Nodes model) given (ask_by verb files given.order))

-- the word of a key, where there is a value for it
abbrev pub optional : List ℕ → Option (List ℕ) → List (List ℕ)
optional name None = []
optional name (Some value) = key_word name value ∷ []

-- the word of the chains of a clique or of those of a map, where one is named
abbrev pub chains_key : Option (List ℕ) → List ℕ
chains_key None = codes "embed=clique"
chains_key (Some name) = key_word (codes "map") name

-- the model of a file on the qubits of a ground, with ties as usual where none are given
abbrev pub on_qubits : Format → List ℕ → Ground → Option ChainStrength → Command
on_qubits format file g ties =
    commanding (File format file) (on_ground g ties) no_keys (asks.Make makes.Model)

-- Each graph can be asked for, with every format and file: a Chimera graph with any words for its
-- numbers, the chains of a clique or of any map, and with or without any list of dead qubits, and a
-- graph in any file with any map; both with each tie or with none.
pub record EachGraphIsAskedFor : Type 0 where
  pub in_words : (format : Format) (file first second third : List ℕ) (map dead : Option (List ℕ))
      (ties : Option ChainStrength) (graph : graphs.Chimera)
      → digits_number first ≡ Some graph.rows → digits_number second ≡ Some graph.cols
      → digits_number third ≡ Some graph.shore
      → command_of (file_command verbs.Compile format Chimera file []
      (key_word (codes "rows") first ∷ key_word (codes "cols") second
      ∷ key_word (codes "shore") third ∷ chains_key map
      ∷ optional (codes "dead") dead ++ optional (codes "chain") (option_map ties_word ties)))
      ≡ Ok (on_qubits format file (grounds.Chimera graph dead map) ties)
  pub in_a_file : (format : Format) (file name map : List ℕ) (ties : Option ChainStrength)
      → command_of (file_command verbs.Compile format Graph file []
      (key_word (codes "graph") name ∷ key_word (codes "map") map
      ∷ optional (codes "chain") (option_map ties_word ties)))
      ≡ Ok (on_qubits format file (grounds.Listed name map) ties)

-- ---- keys

-- No word of this name can stand. Whatever its value is, the word is refused at its position.
abbrev pub CannotStand : Verb → TargetWord → Keys → List ℕ → Type 0
CannotStand verb target keys name =
    (word value : List ℕ) → cut word ≡ Some (name, value)
    → with_word verb target keys word ≡ None

-- A key of this name stands once. With each of its values it can stand where the verb and the
-- target take it and it is not given yet, whatever others are; it is given then.
pub record StandsOnce (name : List ℕ) (key : Key) : Type 0 where
  pub stands : (verb : Verb) (target : TargetWord) (keys : Keys) (value : List ℕ)
      (put : Keys → Keys) → takes key.takers verb target ≡ true → key.is_free keys ≡ true
      → key.put value ≡ Some put
      → with_word verb target keys (key_word name value) ≡ Some (put keys)
  pub is_given : (keys : Keys) (value : List ℕ) (put : Keys → Keys)
      → key.put value ≡ Some put → key.is_free (put keys) ≡ false
  -- no key stands twice
  pub once : (verb : Verb) (target : TargetWord) (keys : Keys)
      → key.is_free keys ≡ false → CannotStand verb target keys name
  -- it stands with no verb and target that do not take it, so it is refused and not passed over
  pub elsewhere : (verb : Verb) (target : TargetWord) (keys : Keys)
      → takes key.takers verb target ≡ false → CannotStand verb target keys name
  -- it stands with no other value
  pub valued : (verb : Verb) (target : TargetWord) (keys : Keys) (value : List ℕ)
      → key.put value ≡ None
      → with_word verb target keys (key_word name value) ≡ None

-- Each key of the table stands once, and no other name of a key stands. The table says for each key
-- who takes it, which texts are its values, and what each of them makes of the keys.
pub record EachKeyStands : Type 0 where
  pub each : (name : List ℕ) (key : Key) → listed key_table name ≡ Some key → StandsOnce name key
  pub others : (name : List ℕ) → listed key_table name ≡ None → (verb : Verb)
      (target : TargetWord) (keys : Keys) → CannotStand verb target keys name

-- with the chains of a clique no map can stand, nor the other way round: both choose the chains
pub record NoChainsStandTwice : Type 0 where
  pub embed : (verb : Verb) (target : TargetWord) (keys : Keys) (first : Chaining)
      → keys.chains ≡ Some first → CannotStand verb target keys (codes "embed")
  pub map : (verb : Verb) (target : TargetWord) (keys : Keys) (first : Chaining)
      → keys.chains ≡ Some first → CannotStand verb target keys (codes "map")

-- each value of a key has its word, and a number any digits
pub record EachValueIsSaid : Type 0 where
  pub normal : (normal : Normal) → normal_of (normal_word normal) ≡ Some normal
  pub high : (high : High) → high_of (high_word high) ≡ Some high
  pub unit : (unit : UnitChoice) → unit_of (unit_word unit) ≡ Some unit
  pub bound : (value : List ℕ) (size : ℕ) → digits_number value ≡ Some size
      → bound_of value ≡ Some (record { negative = false; size = size })
  pub bound_below : (value : List ℕ) (size : ℕ) → digits_number value ≡ Some size
      → bound_of (codes "-" ++ value) ≡ Some (record { negative = true; size = size })
  pub slack : (slack : Slack) → slack_of (slack_word slack) ≡ Some slack
  pub penalty : (scope : PenaltyScope) → penalty_of (penalty_word scope) ≡ Some scope
  pub side : (value : List ℕ) (side : ℕ) → digits_number value ≡ Some side → 0 < side
      → side ≤ 2 ^ 20 → side_of value ≡ Some side
  pub clique : embed_of (codes "clique") ≡ Some Clique
  pub ties : (ties : ChainStrength) → ties_of (ties_word ties) ≡ Some ties

-- ---- keys that are missing

-- with these keys the words of a model on a graph are refused, at the number of words and one,
-- whatever the verb is
abbrev pub IsRefusedAfterAll : TargetWord → Keys → Type 0
IsRefusedAfterAll word keys = (words : List (List ℕ)) (verb : Verb) (origin : Origin)
    → SayKeys words verb origin word keys → command_of words ≡ Err (length words + 1)

-- No graph stands without one of its keys. A key that is missing is told after the last word, where
-- it might have stood.
pub record NoGraphWithout : Type 0 where
  pub rows : (keys : Keys) → keys.rows ≡ None → IsRefusedAfterAll Chimera keys
  pub cols : (keys : Keys) → keys.cols ≡ None → IsRefusedAfterAll Chimera keys
  pub shore : (keys : Keys) → keys.shore ≡ None → IsRefusedAfterAll Chimera keys
  pub chains : (keys : Keys) → keys.chains ≡ None → IsRefusedAfterAll Chimera keys
  pub graph : (keys : Keys) → keys.graph ≡ None → IsRefusedAfterAll Graph keys
  pub map : (keys : Keys) → keys.chains ≡ None → IsRefusedAfterAll Graph keys

-- no Chimera graph has more than 2^20 qubits
abbrev pub NoLargerGraph : Type 0
NoLargerGraph = (keys : Keys) (rows cols shore : ℕ) → keys.rows ≡ Some rows
    → keys.cols ≡ Some cols → keys.shore ≡ Some shore → 2 ^ 20 < 2 * rows * cols * shore
    → IsRefusedAfterAll Chimera keys

-- ---- what words say

-- The words say a sample of these numbers, before keys. Many words say one number, as 7 and 007.
pub record SaySample (words : List (List ℕ)) (number clauses : ℕ) (target : TargetWord)
    (keys : List (List ℕ)) : Type 0 where
  pub first : List ℕ
  pub second : List ℕ
  pub number_said : digits_number first ≡ Some number
  pub clauses_said : clauses_of second ≡ Some clauses
  pub all : words ≡ sample_words first second target keys

-- the verb that asks this, and the files that it has besides FILE
abbrev pub verb_for : Ask → Verb × List (List ℕ)
verb_for (asks.Make makes.Model) = (verbs.Compile, [])
verb_for (asks.Make makes.Summary) = (verbs.Sample, [])
verb_for (asks.Make makes.Size) = (verbs.Size, [])
verb_for (asks.Solve order) = (verbs.Solve, [])
verb_for (asks.Evaluate states) = (verbs.Evaluate, states ∷ [])
verb_for (asks.State state of_states.Decode) = (verbs.Decode, state ∷ [])
verb_for (asks.State assignment of_states.Extend) = (verbs.Extend, assignment ∷ [])
verb_for (asks.State state (of_states.Prove certificate)) =
    (verbs.Prove, state ∷ certificate ∷ [])

-- the words say what is asked of a source, before keys; a summary is asked of a sample alone, and
-- of a sample nothing else
abbrev pub SayOf : List (List ℕ) → Origin → Ask → TargetWord → List (List ℕ) → Type 0
SayOf words (File format file) (asks.Make makes.Summary) target keys = ⊥
SayOf words (File format file) ask target keys =
    words ≡ file_command (verb_for ask).0 format target file (verb_for ask).1 keys
SayOf words (Drawn number clauses) (asks.Make makes.Summary) target keys =
    SaySample words number clauses target keys
SayOf words (Drawn number clauses) ask target keys = ⊥

-- the words say this command, before keys
abbrev pub Say : List (List ℕ) → Command → List (List ℕ) → Type 0
Say words command keys = SayOf words command.origin command.ask (word_of command.target) keys

-- the long word of a notice
abbrev pub long_word : Notice → List ℕ
long_word Help = codes "--help"
long_word Version = codes "--version"

-- the short word of a notice
abbrev pub short_word : Notice → List ℕ
short_word Help = codes "-h"
short_word Version = codes "-V"

-- each notice can be asked for by both its words, and neither takes a further word
pub record EachNoticeIsAskedFor : Type 0 where
  pub long : (notice : Notice) → request_of (long_word notice ∷ []) ≡ Ok (requests.Notice notice)
  pub short : (notice : Notice) → request_of (short_word notice ∷ []) ≡ Ok (requests.Notice notice)
  pub long_alone : (notice : Notice) (word : List ℕ) (words : List (List ℕ))
      → request_of (long_word notice ∷ word ∷ words) ≡ Err 2
  pub short_alone : (notice : Notice) (word : List ℕ) (words : List (List ℕ))
      → request_of (short_word notice ∷ word ∷ words) ≡ Err 2

-- The words of a command ask for it, so none begins as a notice does. Words that begin as no notice
-- does are refused where they say no command.
pub record EachCommandIsAskedFor : Type 0 where
  pub asked : (words : List (List ℕ)) (command : Command) → command_of words ≡ Ok command
      → request_of words ≡ Ok (requests.Command command)
  pub refused : (words : List (List ℕ)) (position : ℕ) → first_notice words ≡ None
      → command_of words ≡ Err position → request_of words ≡ Err position

-- the words say this request: one of a notice's two words alone, or a command and then keys
abbrev pub SayRequest : List (List ℕ) → Request → Type 0
SayRequest words (requests.Notice notice) =
    (words ≡ long_word notice ∷ []) ⊎ (words ≡ short_word notice ∷ [])
SayRequest words (requests.Command command) = (keys : List (List ℕ)) × Say words command keys

-- Words that ask for something say it. This is the other half of what a request is: nothing is
-- taken for a command or a notice by mistake.
abbrev pub NoOtherWordsAsk : Type 0
NoOtherWordsAsk = (words : List (List ℕ)) → IfOk (request_of words) (SayRequest words)
