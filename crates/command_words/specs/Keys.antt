-- The keys of a command, in any order, each at most once: words of the form `NAME=VALUE`.
--
-- A word is cut at its first `=`, so a name may have another one. A key that stands twice, and a
-- key that a target or a verb does not take, are words that cannot stand.
use Rattle.std.specs.Prelude.{◌≡◌, refl, ℕ, ◌+◌, ◌*◌, ◌^◌, ◌==◌, nat_lt, nat_le, ◌&&◌, List, [], ◌∷◌, take, drop, Bool, true, false, codes, bytes_eq, if◌then◌else◌, Ok, Err, Some, None, Result, Option, option_and_then, unwrap_or, is_none}
use Rattle.std.specs.List.{position}
use Rattle.std.specs.Option.{option_map, option_map_or}
use Rattle.std.proofs.lemmas.Bool.{leb-true, ltb-true}
use Rattle.base.specs.declared.unit.UnitChoice.{UnitChoice}
use Rattle.base.specs.declared.unit.UnitChoice.TheVariants.{One, Reduce}
use Rattle.form_steps.specs.declared.scope.PenaltyScope.{PenaltyScope}
use Rattle.form_steps.specs.declared.scope.PenaltyScope.TheVariants.{Global, Local}
use Rattle.problem_form.specs.declared.limits.Normal.{Normal}
use Rattle.problem_form.specs.declared.limits.Normal.TheVariants.{Literal, Multilinear}
use Rattle.problem_form.specs.declared.limits.High.{High}
use Rattle.problem_form.specs.declared.limits.High.TheVariants.{Monomial, Rosenberg}
use Rattle.whole_text.specs.Numbers.{digits_number}
use Rattle.chimera_graph.specs.declared.chimera.Chimera as graphs
use Rattle.command_words.specs.declared.commands.Bound.{Bound}
use Rattle.command_words.specs.declared.commands.Slack.{Slack}
use Rattle.command_words.specs.declared.commands.Slack.TheVariants.{Bits, Pairs, Clauses}
use Rattle.command_words.specs.declared.commands.Verb.{Verb}
use Rattle.command_words.specs.declared.commands.Verb.TheVariants as verbs
use Rattle.command_words.specs.declared.commands.Chaining.{Chaining}
use Rattle.command_words.specs.declared.commands.Chaining.TheVariants.{Clique, Map}
use Rattle.command_words.specs.declared.commands.ChainStrength.{ChainStrength}
use Rattle.command_words.specs.declared.commands.ChainStrength.TheVariants.{Choi, Cut}
use Rattle.command_words.specs.declared.commands.Ground.{Ground}
use Rattle.command_words.specs.declared.commands.Ground.TheVariants as grounds
use Rattle.command_words.specs.declared.commands.TargetWord.{TargetWord}
use Rattle.command_words.specs.declared.commands.TargetWord.TheVariants.{Nodes, Chimera, Graph}
use Rattle.command_words.specs.declared.commands.Target.{Target}
use Rattle.command_words.specs.declared.commands.Target.TheVariants as targets
use Rattle.command_words.specs.declared.keys.Takers.{Takers}
use Rattle.command_words.specs.declared.keys.Takers.TheVariants.{All, Solver, OnChimera, OnQubits, OnGraph}
use Rattle.command_words.specs.declared.keys.Keys.{Keys}

-- what stands beside a word in a table, or none where the table doesn't have the word
abbrev pub listed : {A : Type 0} → List (List ℕ × A) → List ℕ → Option A
listed [] word = None
listed (row ∷ rows) word = if bytes_eq word row.0 then Some row.1 else listed rows word

-- no key is given
abbrev pub no_keys : Keys
no_keys = record {
  normal = None;
  high = None;
  unit = None;
  bound = None;
  slack = None;
  penalty = None;
  order = None;
  rows = None;
  cols = None;
  shore = None;
  dead = None;
  chains = None;
  ties = None;
  graph = None;
}

-- what goes on where a test passes, and else nothing
abbrev pub passing : {A : Type 0} (test : Bool) → (test ≡ true → Option A) → Option A
passing true next = next refl
passing false next = None

-- The graph of these numbers, or none where one of them is 0 or it had more than 2^20 qubits. The
-- largest graph that may stand has 2^20 qubits, such as 256 rows and columns with a shore of 8.
abbrev pub graph_with : ℕ → ℕ → ℕ → Option graphs.Chimera
graph_with rows cols shore =
    passing (nat_lt 0 rows) (λ r.
    passing (nat_lt 0 cols) (λ c.
    passing (nat_lt 0 shore) (λ s.
    passing (nat_le (2 * rows * cols * shore) (2 ^ 20)) (λ q.
    Some (record {
      rows = rows;
      cols = cols;
      shore = shore;
      shape = record {
        some_rows = ltb-true 0 rows r;
        some_cols = ltb-true 0 cols c;
        some_shore = ltb-true 0 shore s;
        few = leb-true (2 * rows * cols * shore) (2 ^ 20) q;
      };
    })))))

-- a value that is given, and what it gives
abbrev pub given : {A B : Type 0} → Option A → (A → Option B) → Option B
given value next = option_and_then next value

-- the graph that the keys choose, or none where a number is missing or it were too large
abbrev pub graph_of : Keys → Option graphs.Chimera
graph_of keys =
    given keys.rows (λ rows. given keys.cols (λ cols. given keys.shore (graph_with rows cols)))

-- the name of a map of chains, unless they are those of a clique
abbrev pub map_of : Chaining → Option (List ℕ)
map_of Clique = None
map_of (Map name) = Some name

-- The ground that a word and the keys choose, or none where a key is missing that it needs, or the
-- graph were too large. A Chimera graph needs its rows, its columns, its shore, and chains, and a
-- graph in a file needs the file and a map.
abbrev pub ground_by : TargetWord → Keys → Option Ground
ground_by (Nodes model) keys = None
ground_by Chimera keys =
    given (graph_of keys) (λ graph.
    given keys.chains (λ chains. Some (grounds.Chimera graph keys.dead (map_of chains))))
ground_by Graph keys =
    given keys.graph (λ graph.
    given (given keys.chains map_of) (λ map. Some (grounds.Listed graph map)))

-- the target on a ground, with ties by the simple bound where none are given
abbrev pub on_ground : (ground : Ground) → Option ChainStrength → Target
on_ground ground ties = targets.Qubits (record { ground = ground; ties = unwrap_or ties Choi })

-- The target that a word and the keys choose, or none where its ground is. A model on nodes needs
-- no key.
abbrev pub target_by : TargetWord → Keys → Option Target
target_by (Nodes model) keys = Some (targets.Nodes model)
target_by word keys = given (ground_by word keys) (λ g. Some (on_ground g keys.ties))

-- the byte `=`
abbrev pub is_equals : ℕ → Bool
is_equals byte = byte == 61

-- what stands before the first `=` of a word and what after it, or none where there is no `=`
abbrev pub cut : List ℕ → Option (List ℕ × List ℕ)
cut word = option_map (λ i. (take i word, drop (i + 1) word)) (position is_equals word)

-- ---- the values of keys

-- the words of the normal forms
abbrev pub normal_of : List ℕ → Option Normal
normal_of = listed ((codes "literal", Literal) ∷ (codes "multilinear", Multilinear) ∷ [])

-- the words of the steps for terms of degree 3 or more
abbrev pub high_of : List ℕ → Option High
high_of = listed ((codes "monomial", Monomial) ∷ (codes "rosenberg", Rosenberg) ∷ [])

-- the words of the ways to choose the unit
abbrev pub unit_of : List ℕ → Option UnitChoice
unit_of = listed ((codes "one", One) ∷ (codes "reduce", Reduce) ∷ [])

-- the words of the ways of conflicts and covers into the model
abbrev pub slack_of : List ℕ → Option Slack
slack_of = listed ((codes "bits", Bits) ∷ (codes "pairs", Pairs) ∷ (codes "clauses", Clauses) ∷ [])

-- the words of the scopes of penalties
abbrev pub penalty_of : List ℕ → Option PenaltyScope
penalty_of = listed ((codes "global", Global) ∷ (codes "local", Local) ∷ [])

-- A bound of the cost: an optional `-` (45), and digits.
abbrev pub bound_of : List ℕ → Option Bound
bound_of [] = None
bound_of (c ∷ cs) =
    if c == 45
    then option_map (λ size. record { negative = true; size = size }) (digits_number cs)
    else option_map (λ size. record { negative = false; size = size }) (digits_number (c ∷ cs))

-- A number of rows, columns or qubits on a side, in digits: from 1 to 2^20. Digits may have zeros
-- in front of them.
abbrev pub side_of : List ℕ → Option ℕ
side_of value =
    option_map_or (λ side. if nat_lt 0 side && nat_le side (2 ^ 20) then Some side else None)
    (digits_number value) None

-- the words of the chains that need no map
abbrev pub embed_of : List ℕ → Option Chaining
embed_of = listed ((codes "clique", Clique) ∷ [])

-- the chains of the map in a file, whose name is any text
abbrev pub map_named : List ℕ → Option Chaining
map_named name = Some (Map name)

-- the words of the ties of chains
abbrev pub ties_of : List ℕ → Option ChainStrength
ties_of = listed ((codes "choi", Choi) ∷ (codes "cut", Cut) ∷ [])

-- ---- the table of keys

-- whether a verb and a target are among those that take a key
abbrev pub takes : Takers → Verb → TargetWord → Bool
takes All verb target = true
takes Solver verbs.Solve target = true
takes OnChimera verb Chimera = true
takes OnQubits verb Chimera = true
takes OnQubits verb Graph = true
takes OnGraph verb Graph = true
takes takers verb target = false

-- a key: who takes it, whether keys do not have it yet, and what keys become with a value of it, where
-- it is one
pub record Key : Type 0 where
  pub takers : Takers
  pub is_free : Keys → Bool
  pub put : List ℕ → Option (Keys → Keys)

-- the key that chooses a field of keys by a value of its own
abbrev pub key : {A B : Type 0} → Takers → (Keys → Option A) → (List ℕ → Option B)
    → (B → Keys → Keys) → Key
key takers field value put = record {
  takers = takers;
  is_free = λ keys. is_none (field keys);
  put = λ text. option_map put (value text);
}

-- the name of a file, which is any text
abbrev pub file_of : List ℕ → Option (List ℕ)
file_of = Some

-- The keys, each with its name. `embed` and `map` both choose the chains, so one of them keeps out
-- the other.
abbrev pub key_table : List (List ℕ × Key)
key_table =
    (codes "normal", key All (λ k. k.normal) normal_of (λ x k. record k { normal = Some x }))
    ∷ (codes "high", key All (λ k. k.high) high_of (λ x k. record k { high = Some x }))
    ∷ (codes "unit", key All (λ k. k.unit) unit_of (λ x k. record k { unit = Some x }))
    ∷ (codes "bound", key All (λ k. k.bound) bound_of (λ x k. record k { bound = Some x }))
    ∷ (codes "slack", key All (λ k. k.slack) slack_of (λ x k. record k { slack = Some x }))
    ∷ (codes "penalty", key All (λ k. k.penalty) penalty_of (λ x k. record k { penalty = Some x }))
    ∷ (codes "order", key Solver (λ k. k.order) file_of (λ x k. record k { order = Some x }))
    ∷ (codes "rows", key OnChimera (λ k. k.rows) side_of (λ x k. record k { rows = Some x }))
    ∷ (codes "cols", key OnChimera (λ k. k.cols) side_of (λ x k. record k { cols = Some x }))
    ∷ (codes "shore", key OnChimera (λ k. k.shore) side_of (λ x k. record k { shore = Some x }))
    ∷ (codes "dead", key OnChimera (λ k. k.dead) file_of (λ x k. record k { dead = Some x }))
    ∷ (codes "embed", key OnChimera (λ k. k.chains) embed_of (λ x k. record k { chains = Some x }))
    ∷ (codes "map", key OnQubits (λ k. k.chains) map_named (λ x k. record k { chains = Some x }))
    ∷ (codes "chain", key OnQubits (λ k. k.ties) ties_of (λ x k. record k { ties = Some x }))
    ∷ (codes "graph", key OnGraph (λ k. k.graph) file_of (λ x k. record k { graph = Some x }))
    ∷ []

-- The keys with a value of a key more, or none where verb or target do not take the key, it is given
-- already, or the value is none of it. So the second word of a key is the one that cannot stand.
abbrev pub with_key : Verb → TargetWord → Keys → List ℕ → Key → Option Keys
with_key verb target keys value key =
    if takes key.takers verb target && key.is_free keys
    then option_map (λ put. put keys) (key.put value)
    else None

-- the keys with that of one name and value more, or none where there is no such key
abbrev pub with_pair : Verb → TargetWord → Keys → List ℕ → List ℕ → Option Keys
with_pair verb target keys name value =
    option_and_then (with_key verb target keys value) (listed key_table name)

-- the keys with that of one word more, or none where the word cannot stand
abbrev pub with_word : Verb → TargetWord → Keys → List ℕ → Option Keys
with_word verb target keys word =
    option_and_then (λ parts. with_pair verb target keys parts.0 parts.1) (cut word)

-- the keys of words from an index on, or the position of the first word that cannot stand
abbrev pub keys_from : Verb → TargetWord → Keys → ℕ → List (List ℕ) → Result Keys ℕ
keys_from verb target keys at [] = Ok keys
keys_from verb target keys at (word ∷ words) =
    option_map_or (λ more. keys_from verb target more (at + 1) words)
    (with_word verb target keys word) (Err (at + 1))
