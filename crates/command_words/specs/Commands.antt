-- What a list of words asks for, or the position of the first word that cannot stand, counted from
-- 1; where no word is wrong but one is missing, or the graph were too large, it is the number of
-- words and one.
--
-- So `compile wcnf qubo clash.wcnf unit=reduce` asks for a model, `compile wcnf qubo` is refused at
-- position 4, where the file is missing, and `compile wcnf pegasus clash.wcnf` at position 3.
-- `--help` asks for a notice, and `--help compile` is refused at position 2.
use Rattle.std.specs.Prelude.{ℕ, ◌+◌, ◌≤◌, ◌==◌, ◌||◌, ⊤, List, [], ◌∷◌, length, drop, String, string_bytes, map, bytes_eq, codes, nat_le, nat_lt, if◌then◌else◌, option_and_then, Ok, Err, Some, None, Result, Option, slice_get, unwrap_or}
use Rattle.std.specs.Option.{option_map_or, ok_or}
use Rattle.base.specs.declared.unit.UnitChoice.TheVariants.{One}
use Rattle.form_steps.specs.declared.scope.PenaltyScope.TheVariants.{Global}
use Rattle.problem_form.specs.declared.limits.Normal.TheVariants.{Literal}
use Rattle.problem_form.specs.declared.limits.High.TheVariants.{Monomial}
use Rattle.whole_text.specs.Numbers.{digits_number}
use Rattle.command_words.specs.declared.commands.Format.{Format}
use Rattle.command_words.specs.declared.commands.Format.TheVariants as formats
use Rattle.command_words.specs.declared.commands.Slack.TheVariants.{Bits}
use Rattle.command_words.specs.declared.commands.Target.{Target}
use Rattle.command_words.specs.declared.commands.NodeModel.TheVariants.{Qubo, Ising}
use Rattle.command_words.specs.declared.commands.TargetWord.{TargetWord}
use Rattle.command_words.specs.declared.commands.TargetWord.TheVariants.{Nodes, Chimera, Graph}
use Rattle.command_words.specs.declared.commands.Origin.{Origin}
use Rattle.command_words.specs.declared.commands.Origin.TheVariants.{File, Drawn}
use Rattle.command_words.specs.declared.commands.Ask.{Ask}
use Rattle.command_words.specs.declared.commands.Ask.TheVariants.{Make, Solve, Evaluate, State}
use Rattle.command_words.specs.declared.commands.Make.TheVariants.{Model, Summary, Size}
use Rattle.command_words.specs.declared.commands.OfState.TheVariants.{Decode, Extend, Prove}
use Rattle.command_words.specs.declared.commands.Command.{Command}
use Rattle.command_words.specs.declared.commands.Verb.{Verb}
use Rattle.command_words.specs.declared.commands.Verb.TheVariants as verbs
use Rattle.command_words.specs.declared.commands.Notice.{Notice}
use Rattle.command_words.specs.declared.commands.Notice.TheVariants.{Help, Version}
use Rattle.command_words.specs.declared.commands.Request.{Request}
use Rattle.command_words.specs.declared.commands.Request.TheVariants as requests
use Rattle.command_words.specs.declared.keys.Keys.{Keys}
use Rattle.command_words.specs.Keys.{keys_from, listed, no_keys, target_by}

-- a step on the words, and the next one with its value; a word that cannot stand ends it, so the
-- first such word is the one that is told
infixl 10 ◌>>=◌
abbrev pub ◌>>=◌ : {A B : Type 0} → Result A ℕ → (A → Result B ℕ) → Result B ℕ
(Ok x) >>= f = f x
(Err position) >>= f = Err position

-- The value of the word at an index, or its position where it is missing or has none. Indices count
-- from 0, and positions from 1.
abbrev pub valued : {A : Type 0} → (List ℕ → Option A) → List (List ℕ) → ℕ → Result A ℕ
valued value words i =
    option_map_or (λ word. ok_or (value word) (i + 1)) (slice_get words i) (Err (i + 1))

-- The name that is the whole word at an index, or its position where it is missing. Every word can
-- be the name of a file, also an empty one.
abbrev pub named : List (List ℕ) → ℕ → Result (List ℕ) ℕ
named words i = ok_or (slice_get words i) (i + 1)

-- the words of the formats
abbrev pub format_of : List ℕ → Option Format
format_of = listed
    ((codes "wcnf", formats.Wcnf)
    ∷ (codes "wbo", formats.Wbo)
    ∷ (codes "opb", formats.Opb)
    ∷ (codes "poly", formats.Poly)
    ∷ (codes "ising", formats.Ising)
    ∷ (codes "qubo", formats.Qubo)
    ∷ [])

-- the words of the targets
abbrev pub target_of : List ℕ → Option TargetWord
target_of = listed
    ((codes "qubo", Nodes Qubo)
    ∷ (codes "ising", Nodes Ising)
    ∷ (codes "chimera", Chimera)
    ∷ (codes "graph", Graph)
    ∷ [])

-- The index of the first key of a verb. The keys stand behind what the verb has besides: a state,
-- states or an assignment, and to prove a certificate as well.
abbrev pub first_key : Verb → ℕ
first_key verbs.Decode = 5
first_key verbs.Evaluate = 5
first_key verbs.Extend = 5
first_key verbs.Prove = 6
first_key verb = 4

-- The target that a word and the keys choose, or the position after all words. What is missing there
-- is a word behind FILE, or a key that the target needs, which might have stood after the last word.
abbrev pub chosen_target : Verb → List (List ℕ) → TargetWord → Keys → Result Target ℕ
chosen_target verb words target keys =
    ok_or (if nat_lt (length words) (first_key verb) then None else target_by target keys)
    (length words + 1)

-- the words FORMAT TARGET FILE: a source in a file, and the word of its target
abbrev pub file_words : List (List ℕ) → Result (Origin × TargetWord) ℕ
file_words words = do
  format ← valued format_of words 1
  target ← valued target_of words 2
  file ← named words 3
  Ok (File format file, target)

-- A count of clauses in digits, of at most 100,000. More than that would make a text that the
-- limits refuse.
abbrev pub clauses_of : List ℕ → Option ℕ
clauses_of word =
    option_map_or (λ clauses. if nat_le clauses 100000 then Some clauses else None)
    (digits_number word) None

-- The words NUMBER CLAUSES TARGET: a source that is drawn from the two numbers, and the word of its
-- target. It has no file.
abbrev pub drawn_words : List (List ℕ) → Result (Origin × TargetWord) ℕ
drawn_words words = do
  number ← valued digits_number words 1
  clauses ← valued clauses_of words 2
  target ← valued target_of words 3
  Ok (Drawn number clauses, target)

-- the three words after a verb
abbrev pub source_words : Verb → List (List ℕ) → Result (Origin × TargetWord) ℕ
source_words verbs.Sample words = drawn_words words
source_words verb words = file_words words

-- the words of the verbs
abbrev pub verb_of : List ℕ → Option Verb
verb_of = listed
    ((codes "compile", verbs.Compile)
    ∷ (codes "size", verbs.Size)
    ∷ (codes "decode", verbs.Decode)
    ∷ (codes "evaluate", verbs.Evaluate)
    ∷ (codes "extend", verbs.Extend)
    ∷ (codes "sample", verbs.Sample)
    ∷ (codes "solve", verbs.Solve)
    ∷ (codes "prove", verbs.Prove)
    ∷ [])

-- what is asked of a source, with what the keys choose, and the usual choice for each that is not
-- given: the usual normal form and the usual steps are those of a command without keys
abbrev pub commanding : Origin → Target → Keys → Ask → Command
commanding origin target keys ask = record {
  origin = origin;
  target = target;
  choices = record { normal = unwrap_or keys.normal Literal; high = unwrap_or keys.high Monomial };
  unit = unwrap_or keys.unit One;
  bound = keys.bound;
  slack = unwrap_or keys.slack Bits;
  penalty = unwrap_or keys.penalty Global;
  ask = ask;
}

-- the name that is the word at an index, empty where it is missing
abbrev pub file_at : List (List ℕ) → ℕ → List ℕ
file_at words i = unwrap_or (slice_get words i) []

-- What a verb asks of the model of a source, with the names that stand behind FILE. `solve` takes
-- an order of elimination, where a key names one.
abbrev pub ask_by : Verb → List (List ℕ) → Option (List ℕ) → Ask
ask_by verbs.Compile files order = Make Model
ask_by verbs.Size files order = Make Size
ask_by verbs.Sample files order = Make Summary
ask_by verbs.Solve files order = Solve order
ask_by verbs.Evaluate files order = Evaluate (file_at files 0)
ask_by verbs.Decode files order = State (file_at files 0) Decode
ask_by verbs.Extend files order = State (file_at files 0) Extend
ask_by verbs.Prove files order = State (file_at files 0) (Prove (file_at files 1))

-- all words of a command: a verb, its source and target, the files that it has besides, and keys
abbrev pub command_of : List (List ℕ) → Result Command ℕ
command_of words = do
  verb ← valued verb_of words 0
  source ← source_words verb words
  keys ← keys_from verb source.1 no_keys (first_key verb) (drop (first_key verb) words)
  target ← chosen_target verb words source.1 keys
  Ok (commanding source.0 target keys (ask_by verb (drop 4 words) keys.order))

-- the words of the notices, each long or short
abbrev pub notice_of : List ℕ → Option Notice
notice_of word =
    if bytes_eq word (codes "--help") || bytes_eq word (codes "-h")
    then Some Help
    else if bytes_eq word (codes "--version") || bytes_eq word (codes "-V")
    then Some Version
    else None

-- the notice that the first word names, where it names one
abbrev pub first_notice : List (List ℕ) → Option Notice
first_notice words = option_and_then notice_of (slice_get words 0)

-- A notice that the first word names. A further word cannot stand, so the second is told.
abbrev pub alone : List (List ℕ) → Notice → Result Request ℕ
alone words notice = if length words == 1 then Ok (requests.Notice notice) else Err 2

-- all words of a request: a notice where the first names one, and else a command
abbrev pub request_of : List (List ℕ) → Result Request ℕ
request_of words =
    option_map_or (alone words) (first_notice words)
    (command_of words >>= λ command. Ok (requests.Command command))

-- A source with at most 100,000 clauses, where it is drawn. It keeps the text of a drawn source
-- within its limit.
abbrev pub HasFewClauses : Origin → Type 0
HasFewClauses (File format at) = ⊤
HasFewClauses (Drawn number clauses) = clauses ≤ 100000

-- a request for a source with at most 100,000 clauses, where it asks for one that is drawn
abbrev pub AsksForFewClauses : Request → Type 0
AsksForFewClauses (requests.Notice notice) = ⊤
AsksForFewClauses (requests.Command command) = HasFewClauses command.origin

-- a command is asked for
abbrev pub by_command : Command → Result Request ℕ
by_command command = Ok (requests.Command command)

-- what the given words ask for
abbrev pub asked : {A : Type 0} → List (String A) → Result Request ℕ
asked words = request_of (map string_bytes words)
