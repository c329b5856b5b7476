-- Where keys stop, how words go on, and what is told behind all words.
use Rattle.command_words.proofs.Common.{nat_tests, ◌≡◌, ◌<◌, ℕ, zero, suc, ◌+◌, List, [], ◌∷◌, ◌++◌, length, take, drop, Option, Some, None, Result, Ok, Err, refl, ap, sym, subst, ◌∙◌, ◌⊎◌, arith, unwrap_or, ⊤, ◌≤◌, codes, option_map_or, take_all, digits_number, Chaining, Command, Target, TargetWord, Verb, Keys, Origin, graph_with, keys_from, map_of, side_of, target_by, with_word, key_word, ◌>>=◌, request_of, AskForTooLarge, CanGoOn, Choi, Clique, Map}
use Rattle.command_words.specs.declared.commands.Request.TheVariants as requests
use Rattle.command_words.specs.declared.commands.Ground.TheVariants as grounds
use Rattle.command_words.specs.declared.commands.Target.TheVariants as targets
use Rattle.command_words.specs.declared.commands.TargetWord.TheVariants.{Nodes, Chimera, Graph}
use Rattle.chimera_graph.specs.declared.chimera.Chimera as graphs
use Rattle.command_words.proofs.KeyTable.{NoClique, clique_stands, cols_stand, graph_stands, map_stands, rows_stand, shore_stands, side_of-digits}
use Rattle.command_words.proofs.SaidWords.{with_chosen, with_keys}

-- ---- keys

-- where keys stop at a word
pub record Stop (verb : Verb) (target : TargetWord) (keys : Keys) (at p : ℕ) (words : List (List ℕ))
    : Type 0 where
  pub j : ℕ
  pub position : p ≡ at + j + 1
  pub within : j < length words
  pub so_far : Keys
  pub before : keys_from verb target keys at (take j words) ≡ Ok so_far
  pub wrong : (more : List (List ℕ))
      → keys_from verb target keys at (take (suc j) words ++ more) ≡ Err p

module _ (verb : Verb) (target : TargetWord) where
  -- keys behind keys
  pub keys_behind : (keys more : Keys) (at : ℕ) (a b : List (List ℕ))
      → keys_from verb target keys at a ≡ Ok more
      → keys_from verb target keys at (a ++ b) ≡ keys_from verb target more (length a + at) b
  keys_behind keys more at [] b e = grind (arith, nat_tests)
  keys_behind keys more at (word ∷ a) b e =
      go (λ next f. keys_behind next more (at + 1) a b f) (with_word verb target keys word) e
    where
      go : ((next : Keys) → keys_from verb target next (at + 1) a ≡ Ok more
          → keys_from verb target next (at + 1) (a ++ b)
          ≡ keys_from verb target more (length a + (at + 1)) b) → (o : Option Keys)
          → option_map_or (λ next. keys_from verb target next (at + 1) a) o (Err (at + 1)) ≡ Ok more
          → option_map_or (λ next. keys_from verb target next (at + 1) (a ++ b)) o (Err (at + 1))
          ≡ keys_from verb target more (length (word ∷ a) + at) b
      go rest None f = absurd cc
      go rest (Some next) f =
          let same : length a + (at + 1) ≡ length (word ∷ a) + at = omega arith in
          rest next f ∙ ap (λ n. keys_from verb target more n b) same

  pub stop : (keys : Keys) (at p : ℕ) (words : List (List ℕ))
      → keys_from verb target keys at words ≡ Err p → Stop verb target keys at p words
  stop keys at p [] e = absurd cc
  stop keys at p (word ∷ words) e =
      go (λ next f. stop next (at + 1) p words f) (with_word verb target keys word) refl e
    where
      go : ((next : Keys) → keys_from verb target next (at + 1) words ≡ Err p
          → Stop verb target next (at + 1) p words)
          → (o : Option Keys) → with_word verb target keys word ≡ o
          → option_map_or (λ next. keys_from verb target next (at + 1) words) o (Err (at + 1)) ≡ Err p
          → Stop verb target keys at p (word ∷ words)
      go each None f g =
          let same : at + 1 ≡ p = cc in
          record {
            j = 0;
            position = omega (arith, same);
            within = omega arith;
            so_far = keys;
            before = refl;
            wrong = λ more. rw f (ap Err same);
          }
      go each (Some next) f g =
          let rest = each next g in
          record {
            j = suc rest.j;
            position = omega (arith, rest.position);
            within = omega (arith, rest.within);
            so_far = rest.so_far;
            before = rw f rest.before;
            wrong = λ more. rw f (rest.wrong more);
          }

-- ---- the keys of a graph that are missing

-- keys that go on to others
pub record Fill (verb : Verb) (target : TargetWord) (keys result : Keys) (at : ℕ) : Type 0 where
  pub words : List (List ℕ)
  pub filled : keys_from verb target keys at words ≡ Ok result

-- one is a number of a graph
side_one : side_of (codes "1") ≡ Some 1
unfolding digits_number
side_one = side_of-digits (codes "1") 1 refl (omega arith) (omega arith)

module _ (verb : Verb) (target : TargetWord) where
  -- a key is added where it is missing
  fill : {A : Type 0} (keys : Keys) (at : ℕ) (put : Option A → Keys) (given : Option A) (one : A)
      (word : List ℕ) → keys ≡ put given
      → (given ≡ None → with_word verb target keys word ≡ Some (put (Some one)))
      → Fill verb target keys (put (Some (unwrap_or given one))) at
  fill keys at put None one word same next = record { words = word ∷ []; filled = rw (next refl) refl }
  fill keys at put (Some value) one word same next = record { words = []; filled = ap Ok same }

  join : {keys next last : Keys} {at : ℕ} (a : Fill verb target keys next at)
      → Fill verb target next last (length a.words + at) → Fill verb target keys last at
  join {keys} {next} {last} {at} a b = record {
    words = a.words ++ b.words;
    filled = keys_behind verb target keys next at a.words b.words a.filled ∙ b.filled;
  }

module _ (verb : Verb) where
  -- the keys with all that a Chimera graph needs
  abbrev filled_keys : Keys → Keys
  filled_keys keys = record keys {
    rows = Some (unwrap_or keys.rows 1);
    cols = Some (unwrap_or keys.cols 1);
    shore = Some (unwrap_or keys.shore 1);
    chains = Some (unwrap_or keys.chains Clique);
  }

  fill_graph : (keys : Keys) (at : ℕ) → Fill verb Chimera keys (filled_keys keys) at
  fill_graph keys at =
      let one = codes "1" in
      let rows = fill verb Chimera keys at (λ given. record keys { rows = given }) keys.rows 1
      (key_word (codes "rows") one) refl (λ none. rows_stand verb keys one 1 none side_one) in
      let second = record keys { rows = Some (unwrap_or keys.rows 1) } in
      let cols = fill verb Chimera second (length rows.words + at)
      (λ given. record second { cols = given }) keys.cols 1 (key_word (codes "cols") one) refl
      (λ none. cols_stand verb second one 1 none side_one) in
      let third = record second { cols = Some (unwrap_or keys.cols 1) } in
      let shore = fill verb Chimera third (length cols.words + (length rows.words + at))
      (λ given. record third { shore = given }) keys.shore 1 (key_word (codes "shore") one) refl
      (λ none. shore_stands verb third one 1 none side_one) in
      let fourth = record third { shore = Some (unwrap_or keys.shore 1) } in
      let last = length shore.words + (length cols.words + (length rows.words + at)) in
      let chains = fill verb Chimera fourth last (λ given. record fourth { chains = given })
      keys.chains Clique (codes "embed=clique") refl (clique_stands verb fourth) in
      join verb Chimera rows (join verb Chimera cols (join verb Chimera shore chains))

-- whether keys leave room for a graph: a Chimera graph with 1 for each number that is missing, or a
-- graph in a file with a map
abbrev pub room_of : TargetWord → Keys → Option graphs.Chimera → Type 0
room_of (Nodes model) keys graph = ⊤
room_of Chimera keys graph =
    graph_with (unwrap_or keys.rows 1) (unwrap_or keys.cols 1) (unwrap_or keys.shore 1) ≡ graph
room_of Graph keys graph = NoClique keys.chains

-- keys that go on to those of a target
pub record Filled (verb : Verb) (target : TargetWord) (keys : Keys) (at : ℕ) : Type 0 where
  pub words : List (List ℕ)
  pub given : Keys
  pub filled : keys_from verb target keys at words ≡ Ok given
  pub chosen : Target
  pub by : target_by target given ≡ Some chosen

-- chains that are those of no clique are those of a map
named_map : (chains : Option Chaining) → NoClique chains
    → (name : List ℕ) × (map_of (unwrap_or chains (Map [])) ≡ Some name)
named_map None safe = ([], refl)
named_map (Some (Map name)) safe = (name, refl)
named_map (Some Clique) safe = absurd safe

pub whole : (verb : Verb) (target : TargetWord) (keys : Keys) (at : ℕ) (graph : graphs.Chimera)
    → room_of target keys (Some graph) → Filled verb target keys at
whole verb (Nodes model) keys at graph room =
    record { words = []; given = keys; filled = refl; chosen = targets.Nodes model; by = refl }
whole verb Chimera keys at graph room =
    let more = fill_graph verb keys at in
    record {
      words = more.words;
      given = filled_keys verb keys;
      filled = more.filled;
      chosen = targets.Qubits (record {
        ground = grounds.Chimera graph keys.dead (map_of (unwrap_or keys.chains Clique));
        ties = unwrap_or keys.ties Choi;
      });
      by = rw room refl;
    }
whole verb Graph keys at graph room =
    let named = fill verb Graph keys at (λ given. record keys { graph = given }) keys.graph []
    (key_word (codes "graph") []) refl (graph_stands verb keys []) in
    let second = record keys { graph = Some (unwrap_or keys.graph []) } in
    let next = length named.words + at in
    let mapped = fill verb Graph second next (λ given. record second { chains = given })
    keys.chains (Map []) (key_word (codes "map") []) refl
    (map_stands verb second Graph refl []) in
    let more = join verb Graph named mapped in
    let map = named_map keys.chains room in
    record {
      words = more.words;
      given = record second { chains = Some (unwrap_or keys.chains (Map [])) };
      filled = more.filled;
      chosen = targets.Qubits (record {
        ground = grounds.Listed (unwrap_or keys.graph []) map.0;
        ties = unwrap_or keys.ties Choi;
      });
      by = rw map.1 refl;
    }

-- ---- words

-- no words
abbrev pub the_none : List (List ℕ)
the_none = []

abbrev pub the_err : {A : Type 0} → ℕ → Result A ℕ
the_err p = Err p

-- the word at an index is the first that cannot stand
pub record Told (words : List (List ℕ)) (i : ℕ) : Type 0 where
  pub before : CanGoOn (take i words) ⊎ AskForTooLarge (take i words)
  pub wrong : i < length words → (more : List (List ℕ))
      → request_of (take (suc i) words ++ more) ≡ Err (suc i)

-- words that are refused at an index
pub at_index : {A : Type 0} (words : List (List ℕ)) (j i : ℕ)
    → the_err {A = A} (suc j) ≡ Err (i + 1) → Told words j → Told words i
at_index words j i e first = let same : suc j ≡ i + 1 = cc in subst (Told words) (omega (arith, same)) first

-- words of which none is wrong
pub late : (words : List (List ℕ)) (i : ℕ) → length words ≤ i → CanGoOn words ⊎ AskForTooLarge words
    → Told words i
late words i few right = record {
  before = subst (λ ws. CanGoOn ws ⊎ AskForTooLarge ws) (sym (take_all i words few)) right;
  wrong = λ less. absurd (omega (arith, few, less));
}

-- as many words as are missing
abbrev pub pad : ℕ → List (List ℕ) → List (List ℕ)
pad zero words = []
pad (suc n) [] = [] ∷ pad n []
pad (suc n) (word ∷ words) = pad n words

pub drop-nil : (n : ℕ) → drop n (the_none) ≡ []
drop-nil zero = refl
drop-nil (suc n) = refl

pub drop-pad : (n : ℕ) (words more : List (List ℕ))
    → drop n (words ++ (pad n words ++ more)) ≡ drop n words ++ more
drop-pad zero [] more = refl
drop-pad zero (word ∷ words) more = ap (λ ws. word ∷ ws) (drop-pad zero words more)
drop-pad (suc n) [] more = drop-pad n [] more ∙ ap (λ ws. ws ++ more) (drop-nil n)
drop-pad (suc n) (word ∷ words) more = drop-pad n words more

pub length-pad : (n : ℕ) (words more : List (List ℕ)) → n ≤ length (words ++ (pad n words ++ more))
length-pad zero words more = omega arith
length-pad (suc n) [] more = grind (arith, nat_tests, length-pad n)
length-pad (suc n) (word ∷ words) more = let rest = length-pad n words more in omega (arith, rest)

pub from_command : (r : Result Command ℕ) (p : ℕ)
    → (r >>= λ command. Ok (requests.Command command)) ≡ Err p → r ≡ Err p
from_command r p e = grind (arith, nat_tests)

-- what is missing of a command is told behind all words
pub late_end : (verb : Verb) (words : List (List ℕ)) (origin : Origin) (target : TargetWord)
    (keys : Keys) (p : ℕ) → with_keys verb words origin target keys ≡ Err p → length words < p
late_end verb words origin target keys p e = grind (arith, nat_tests, with_chosen)

-- the part of a list behind its first few, and more
pub drop-take-append : (n m : ℕ) (words more : List (List ℕ)) → n ≤ length words
    → drop n (take (n + m) words ++ more) ≡ take m (drop n words) ++ more
drop-take-append zero m words more few = grind (arith, nat_tests)
drop-take-append (suc n) m [] more few = absurd (omega (arith, few))
drop-take-append (suc n) m (word ∷ words) more few =
    let same : suc n + m ≡ suc (n + m) = omega arith in
    ap (λ k. drop (suc n) (take k (word ∷ words) ++ more)) same
    ∙ drop-take-append n m words more (omega (arith, few))
