-- Words that ask for a command, by the words at their places.
use Rattle.command_words.proofs.Common.{nat_tests, arith, nat_lt, true, ◌≡◌, ◌≢◌, ◌≤◌, ◌+◌, ◌^◌, ℕ, List, [], ◌∷◌, ◌++◌, length, Option, Some, None, Result, Ok, Err, refl, ap, ◌∙◌, codes, ok_or, option_map, Format, Target, TargetWord, Chaining, ChainStrength, Ask, Origin, digits_number, Keys, Verb, EachJobIsAskedFor, EachSampleIsAskedFor, EachKeyIsAskedFor, EachGraphIsAskedFor, NoGraphWithout, NoLargerGraph, IsRefusedAfterAll, chains_key, file_command, format_word, key_word, optional, sample_words, target_word, ties_word, ◌>>=◌, ask_by, chosen_target, command_of, commanding, first_key, format_of, target_of, keys_from, map_of, no_keys, takes, target_by, with_word, File, Drawn, Clique, Map, suc, drop, length-append, drop-append_seam, source_words, file_words, verb_word, verb_of}
use Rattle.command_words.specs.declared.commands.Target.TheVariants as targets
use Rattle.command_words.specs.declared.commands.TargetWord.TheVariants.{Nodes, Chimera, Graph}
use Rattle.chimera_graph.specs.declared.chimera.Chimera as graphs
use Rattle.command_words.specs.declared.commands.Verb.TheVariants as verbs
use Rattle.command_words.specs.declared.keys.Takers.TheVariants.{OnQubits}
use Rattle.command_words.proofs.KeyTable.{clique_stands, cols_stand, dead_stands, graph_stands, map_stands, or_none, rows_stand, shore_stands, side_of-digits, ties_stand}
use Rattle.command_words.proofs.Graphs.{graph_with-its, graph_with-larger}

-- ---- the words of a job

format_of-format_word : (format : Format) → format_of (format_word format) ≡ Some format
format_of-format_word format = grind (arith, nat_tests)

target_of-target_word : (word : TargetWord) → target_of (target_word word) ≡ Some word
target_of-target_word word = grind (arith, nat_tests)

verb_of-verb_word : (verb : Verb) → verb_of (verb_word verb) ≡ Some verb
verb_of-verb_word verb = grind (arith, nat_tests)

-- where no word behind FILE is missing, the keys choose the target
pub all_there : (verb : Verb) (words : List (List ℕ)) (word : TargetWord) (keys : Keys)
    → first_key verb ≤ length words
    → chosen_target verb words word keys ≡ ok_or (target_by word keys) (length words + 1)
all_there verb words word keys enough = grind (arith, nat_tests)

-- what is asked with the keys of such words
after_keys : (verb : Verb) (words : List (List ℕ)) (word : TargetWord) (origin : Origin)
    (ask : Option (List ℕ) → Ask) (r : Result Keys ℕ) → first_key verb ≤ length words
    → (r >>= λ given. chosen_target verb words word given
    >>= λ target. Ok (commanding origin target given (ask given.order)))
    ≡ (r >>= λ given. ok_or (target_by word given) (length words + 1)
    >>= λ target. Ok (commanding origin target given (ask given.order)))
after_keys verb words word origin ask (Ok keys) enough = rw (all_there verb words word keys enough) refl
after_keys verb words word origin ask (Err p) enough = refl

-- every verb but `sample` has a source in a file
pub file_source : (verb : Verb) → verb ≢ verbs.Sample → (words : List (List ℕ))
    → source_words verb words ≡ file_words words
file_source verbs.Sample other words = absurd (other refl)
file_source verb other words = refl

pub each_job : EachJobIsAskedFor
each_job verb format word file files keys other long =
    let words = file_command verb format word file files keys in
    let behind = length-append files keys in
    let count : first_key verb ≡ suc (suc (suc (suc (length files)))) = omega (arith, long) in
    let left : drop (first_key verb) words ≡ keys =
    ap (λ k. drop k words) count ∙ drop-append_seam files keys in
    rw (
      verb_of-verb_word verb,
      file_source verb other words,
      format_of-format_word format,
      target_of-target_word word,
      left,
    ) (after_keys verb words word (File format file) (ask_by verb (files ++ keys))
    (keys_from verb word no_keys (first_key verb) keys) (omega (arith, long, behind)))

pub each_sample : EachSampleIsAskedFor
each_sample number clauses first second word keys one two =
    rw (one, two, target_of-target_word word)
    (after_keys verbs.Sample (sample_words first second word keys) word (Drawn number clauses)
    (ask_by verbs.Sample keys) (keys_from verbs.Sample word no_keys 4 keys) (omega arith))

-- what is asked with keys that choose a target
job_given : (verb : Verb) (format : Format) (word : TargetWord) (file : List ℕ)
    (files keys : List (List ℕ)) (given : Keys) (target : Target) → verb ≢ verbs.Sample
    → length files + 4 ≡ first_key verb
    → keys_from verb word no_keys (first_key verb) keys ≡ Ok given
    → target_by word given ≡ Some target
    → command_of (file_command verb format word file files keys)
    ≡ Ok (commanding (File format file) target given (ask_by verb (files ++ keys) given.order))
job_given verb format word file files keys given target other long good chosen =
    each_job verb format word file files keys other long ∙ rw (good, chosen) refl

-- what a verb asks goes by the files behind FILE, whatever keys come behind them
behind_files : (verb : Verb) (files keys : List (List ℕ)) (order : Option (List ℕ))
    → length files + 4 ≡ first_key verb → ask_by verb (files ++ keys) order ≡ ask_by verb files order
behind_files verbs.Compile files keys order long = refl
behind_files verbs.Size files keys order long = refl
behind_files verbs.Sample files keys order long = refl
behind_files verbs.Solve files keys order long = refl
behind_files verbs.Decode (a ∷ files) keys order long = refl
behind_files verbs.Evaluate (a ∷ files) keys order long = refl
behind_files verbs.Extend (a ∷ files) keys order long = refl
behind_files verbs.Prove (a ∷ b ∷ files) keys order long = refl
behind_files verb files keys order long = absurd (omega (arith, long))

pub each_alone : EachKeyIsAskedFor
each_alone verb format model file files key given other long stands =
    job_given verb format (Nodes model) file files (key ∷ []) given (targets.Nodes model) other long
    (rw stands refl) refl
    ∙ ap (λ ask. Ok (commanding (File format file) (targets.Nodes model) given ask))
    (behind_files verb files (key ∷ []) given.order long)

-- ---- graphs

-- a key more, and those behind it
step : (verb : Verb) (word : TargetWord) (keys more : Keys) (at : ℕ) (key : List ℕ)
    (others : List (List ℕ)) (end : Result Keys ℕ) → with_word verb word keys key ≡ Some more
    → keys_from verb word more (at + 1) others ≡ end
    → keys_from verb word keys at (key ∷ others) ≡ end
step verb word keys more at key others end stands rest = rw stands rest

-- a number of a graph is at most 2^20
rows_few : (graph : graphs.Chimera) → graph.rows ≤ 2 ^ 20
rows_few graph =
    let some_cols = graph.shape.some_cols in
    let some_shore = graph.shape.some_shore in
    let few = graph.shape.few in
    grind (arith, nat_tests)

cols_few : (graph : graphs.Chimera) → graph.cols ≤ 2 ^ 20
cols_few graph =
    let some_rows = graph.shape.some_rows in
    let some_shore = graph.shape.some_shore in
    let few = graph.shape.few in
    grind (arith, nat_tests)

shore_few : (graph : graphs.Chimera) → graph.shore ≤ 2 ^ 20
shore_few graph =
    let some_rows = graph.shape.some_rows in
    let some_cols = graph.shape.some_cols in
    let few = graph.shape.few in
    grind (arith, nat_tests)

-- the keys of a tie, where it is given, after others
ties_last : (word : TargetWord) (keys : Keys) (at : ℕ) (ties : Option ChainStrength)
    → takes OnQubits verbs.Compile word ≡ true → keys.ties ≡ None
    → keys_from verbs.Compile word keys at (optional (codes "chain") (option_map ties_word ties))
    ≡ Ok (record keys { ties = ties })
ties_last word keys at None taken free = ap (λ o. Ok (record keys { ties = o })) free
ties_last word keys at (Some ties) taken free =
    step verbs.Compile word keys _ at (key_word (codes "chain") (ties_word ties)) [] _
    (ties_stand verbs.Compile keys word taken ties free) refl

-- the numbers and the chains of a graph
abbrev graph_given : graphs.Chimera → Chaining → Keys
graph_given graph chains = record no_keys {
  rows = Some graph.rows;
  cols = Some graph.cols;
  shore = Some graph.shore;
  chains = Some chains;
}

-- the chains that a key says: those of a clique, or those of a map, where one is named
abbrev chains_of : Option (List ℕ) → Chaining
chains_of None = Clique
chains_of (Some name) = Map name

map_of-chains_of : (map : Option (List ℕ)) → map_of (chains_of map) ≡ map
map_of-chains_of None = refl
map_of-chains_of (Some name) = refl

chains_stand : (keys : Keys) (map : Option (List ℕ)) → keys.chains ≡ None
    → with_word verbs.Compile Chimera keys (chains_key map)
    ≡ Some (record keys { chains = Some (chains_of map) })
chains_stand keys None free = clique_stands verbs.Compile keys free
chains_stand keys (Some name) free = map_stands verbs.Compile keys Chimera refl name free

dead_ties : (keys : Keys) (at : ℕ) (dead : Option (List ℕ)) (ties : Option ChainStrength)
    → keys.dead ≡ None → keys.ties ≡ None
    → keys_from verbs.Compile Chimera keys at
    (optional (codes "dead") dead ++ optional (codes "chain") (option_map ties_word ties))
    ≡ Ok (record keys { dead = dead; ties = ties })
dead_ties keys at None ties d t =
    ties_last Chimera keys at ties refl t ∙ ap (λ o. Ok (record keys { dead = o; ties = ties })) d
dead_ties keys at (Some name) ties d t =
    step verbs.Compile Chimera keys _ at (key_word (codes "dead") name)
    (optional (codes "chain") (option_map ties_word ties)) _ (dead_stands verbs.Compile keys name d)
    (ties_last Chimera (record keys { dead = Some name }) (at + 1) ties refl t)

-- the keys of a Chimera graph
abbrev chimera_words : (first second third : List ℕ) (map dead : Option (List ℕ))
    → Option ChainStrength → List (List ℕ)
chimera_words first second third map dead ties =
    key_word (codes "rows") first ∷ key_word (codes "cols") second
    ∷ key_word (codes "shore") third ∷ chains_key map
    ∷ optional (codes "dead") dead ++ optional (codes "chain") (option_map ties_word ties)

chimera_keys : (first second third : List ℕ) (map dead : Option (List ℕ))
    (ties : Option ChainStrength) (graph : graphs.Chimera) → digits_number first ≡ Some graph.rows
    → digits_number second ≡ Some graph.cols → digits_number third ≡ Some graph.shore
    → keys_from verbs.Compile Chimera no_keys 4 (chimera_words first second third map dead ties)
    ≡ Ok (record (graph_given graph (chains_of map)) { dead = dead; ties = ties })
chimera_keys first second third map dead ties graph r c s =
    let rows = side_of-digits first graph.rows r graph.shape.some_rows (rows_few graph) in
    let cols = side_of-digits second graph.cols c graph.shape.some_cols (cols_few graph) in
    let shore = side_of-digits third graph.shore s graph.shape.some_shore (shore_few graph) in
    let one = record no_keys { rows = Some graph.rows } in
    let two = record one { cols = Some graph.cols } in
    let three = record two { shore = Some graph.shore } in
    let fifth = optional (codes "dead") dead ++ optional (codes "chain") (option_map ties_word ties) in
    let fourth = chains_key map ∷ fifth in
    let shores = key_word (codes "shore") third ∷ fourth in
    let both = key_word (codes "cols") second ∷ shores in
    step verbs.Compile Chimera no_keys one 4 (key_word (codes "rows") first) both _
    (rows_stand verbs.Compile no_keys first graph.rows refl rows)
    (step verbs.Compile Chimera one two 5 (key_word (codes "cols") second) shores _
    (cols_stand verbs.Compile one second graph.cols refl cols)
    (step verbs.Compile Chimera two three 6 (key_word (codes "shore") third) fourth _
    (shore_stands verbs.Compile two third graph.shore refl shore)
    (step verbs.Compile Chimera three (graph_given graph (chains_of map)) 7 (chains_key map) fifth _
    (chains_stand three map refl)
    (dead_ties (graph_given graph (chains_of map)) 8 dead ties refl refl))))

pub each_graph : EachGraphIsAskedFor
each_graph = record {
  in_words = λ format file first second third map dead ties graph r c s.
      job_given verbs.Compile format Chimera file [] (chimera_words first second third map dead ties)
      _ _ (λ e. absurd cc) refl
      (chimera_keys first second third map dead ties graph r c s)
      (rw (graph_with-its graph, map_of-chains_of map) refl);
  in_a_file = λ format file name map ties.
      let one = record no_keys { graph = Some name } in
      let two = record one { chains = Some (Map map) } in
      let last = optional (codes "chain") (option_map ties_word ties) in
      let mapped = key_word (codes "map") map ∷ last in
      job_given verbs.Compile format Graph file [] (key_word (codes "graph") name ∷ mapped) _ _
      (λ e. absurd cc) refl
      (step verbs.Compile Graph no_keys one 4 (key_word (codes "graph") name)
      mapped _ (graph_stands verbs.Compile no_keys name refl)
      (step verbs.Compile Graph one two 5 (key_word (codes "map") map) last _ (map_stands verbs.Compile one Graph refl map refl)
      (ties_last Graph two 6 ties refl refl))) refl;
}

-- ---- keys that are missing

-- keys that choose no target are refused after all words
refused : (word : TargetWord) (keys : Keys) → target_by word keys ≡ None
    → IsRefusedAfterAll word keys
refused word keys none words verb origin say =
    rw (
      say.first,
      say.source,
      say.given,
      or_none (nat_lt (length words) (first_key verb)) (target_by word keys) none,
    ) refl

pub no_graph_without : NoGraphWithout
no_graph_without = record {
  rows = λ keys none. refused Chimera keys (grind (arith, nat_tests));
  cols = λ keys none. refused Chimera keys (grind (arith, nat_tests));
  shore = λ keys none. refused Chimera keys (grind (arith, nat_tests));
  chains = λ keys none. refused Chimera keys (grind (arith, nat_tests));
  graph = λ keys none. refused Graph keys (grind (arith, nat_tests));
  map = λ keys none. refused Graph keys (grind (arith, nat_tests));
}

pub no_larger_graph : NoLargerGraph
no_larger_graph keys rows cols shore r c s larger =
    refused Chimera keys (rw (r, c, s, graph_with-larger rows cols shore larger) refl)
