-- The position that is told is that of the first word that cannot stand.
use Rattle.command_words.proofs.Common.{◌<◌, ◌≡◌, ℕ, suc, ◌+◌, List, [], ◌∷◌, ◌++◌, length, take, drop, Option, Some, None, Result, Ok, Err, refl, ap, sym, subst, ◌∙◌, ◌⊎◌, inl, inr, arith, ◌≤◌, codes, unwrap_or, option_map_or, ok_or, drop-take, length-drop, digits_number, Format, Notice, Origin, TargetWord, Verb, Keys, graph_with, keys_from, no_keys, ◌>>=◌, alone, ask_by, clauses_of, command_of, commanding, drawn_words, file_words, first_key, format_of, notice_of, request_of, source_words, target_of, verb_of, AskForTooLarge, CanGoOn, PositionsTellTheFirst, File, Drawn}
use Rattle.command_words.specs.declared.commands.Format.TheVariants as formats
use Rattle.command_words.specs.declared.commands.NodeModel.TheVariants.{Qubo}
use Rattle.command_words.specs.declared.commands.Notice.TheVariants as notices
use Rattle.command_words.specs.declared.commands.Request.TheVariants as requests
use Rattle.command_words.specs.declared.commands.TargetWord.TheVariants.{Nodes, Chimera, Graph}
use Rattle.command_words.specs.declared.commands.Verb.TheVariants as verbs
use Rattle.chimera_graph.specs.declared.chimera.Chimera as graphs
use Rattle.command_words.proofs.AskedWords.{all_there}
use Rattle.command_words.proofs.Graphs.{graph_with-its}
use Rattle.command_words.proofs.KeyTable.{no_clique}
use Rattle.command_words.proofs.SaidWords.{two_are_not_one, with_clauses, with_format, with_keys, with_number, with_source, with_target}
use Rattle.command_words.proofs.Stops.{the_err, Stop, Told, at_index, drop-nil, drop-pad, drop-take-append, from_command, keys_behind, late, late_end, length-pad, pad, room_of, stop, whole}

-- the smallest graph
small_graph : graphs.Chimera
small_graph = record {
  rows = 1;
  cols = 1;
  shore = 1;
  shape = record {
    some_rows = omega arith;
    some_cols = omega arith;
    some_shore = omega arith;
    few = omega arith;
  };
}

-- no key leaves no room for a graph
room_at_first : (target : TargetWord) → room_of target no_keys (Some small_graph)
unfolding small_graph
room_at_first (Nodes model) = tt
room_at_first Chimera = graph_with-its small_graph
room_at_first Graph = tt

-- a word that cannot stand behind words that go on
told_at : {A : Type 0} (words : List (List ℕ)) (j i : ℕ) → the_err {A = A} (suc j) ≡ Err (i + 1)
    → CanGoOn (take j words) → (j < length words → (more : List (List ℕ))
    → request_of (take (suc j) words ++ more) ≡ Err (suc j)) → Told words i
told_at words j i e before wrong =
    at_index words j i e (record { before = inl before; wrong = wrong })

-- ---- words that say a source and its target

module _ (verb : Verb) (n : ℕ) (first : List ℕ) (no_notice : notice_of first ≡ None)
    (is_verb : verb_of first ≡ Some verb) (behind : first_key verb ≡ suc (suc (suc (suc n)))) where
  -- four words, with any behind them, say the source and the word of its target
  abbrev Say : List ℕ → List ℕ → List ℕ → Origin → TargetWord → Type 0
  Say second third fourth origin target = (rest : List (List ℕ))
      → source_words verb (first ∷ second ∷ third ∷ fourth ∷ rest) ≡ Ok (origin, target)

  module _ (second third fourth : List ℕ) (origin : Origin) (target : TargetWord)
      (say : Say second third fourth origin target) where
    -- words with good keys go on, where there is room for a graph
    go_on : (rest : List (List ℕ)) (keys : Keys) (graph : graphs.Chimera)
        → keys_from verb target no_keys (first_key verb) (drop n rest) ≡ Ok keys
        → room_of target keys (Some graph) → CanGoOn (first ∷ second ∷ third ∷ fourth ∷ rest)
    go_on rest keys graph good room =
        let ks = drop n rest in
        let more = whole verb target keys (length ks + first_key verb) graph room in
        let words = first ∷ second ∷ third ∷ fourth ∷ rest ++ (pad n rest ++ more.words) in
        let long = length-pad n rest more.words in
        let enough : first_key verb ≤ length words = omega (arith, behind, long) in
        let kept : drop (first_key verb) words ≡ ks ++ more.words =
        ap (λ k. drop k words) behind ∙ drop-pad n rest more.words in
        let filled : keys_from verb target no_keys (first_key verb) (drop (first_key verb) words)
        ≡ Ok more.given =
        ap (keys_from verb target no_keys (first_key verb)) kept
        ∙ keys_behind verb target no_keys keys (first_key verb) ks more.words good
        ∙ more.filled in (
          pad n rest ++ more.words,
          requests.Command (commanding origin more.chosen more.given
              (ask_by verb (rest ++ (pad n rest ++ more.words)) more.given.order)),
          rw (
            no_notice,
            is_verb,
            say (rest ++ (pad n rest ++ more.words)),
            filled,
            all_there verb words target more.given enough,
            more.by,
          ) refl,
        )

  module _ (second third fourth : List ℕ) (origin : Origin) (target : TargetWord)
      (say : Say second third fourth origin target) where
    -- words with good keys go on, or ask for too large a graph
    right : (rest : List (List ℕ)) (keys : Keys)
        → keys_from verb target no_keys (first_key verb) (drop n rest) ≡ Ok keys
        → CanGoOn (first ∷ second ∷ third ∷ fourth ∷ rest)
        ⊎ AskForTooLarge (first ∷ second ∷ third ∷ fourth ∷ rest)
    right rest keys good = go target say good
      where
        by_graph : Say second third fourth origin Chimera
            → keys_from verb Chimera no_keys (first_key verb) (drop n rest) ≡ Ok keys
            → (graph : Option graphs.Chimera)
            → graph_with (unwrap_or keys.rows 1) (unwrap_or keys.cols 1) (unwrap_or keys.shore 1)
            ≡ graph → CanGoOn (first ∷ second ∷ third ∷ fourth ∷ rest)
            ⊎ AskForTooLarge (first ∷ second ∷ third ∷ fourth ∷ rest)
        by_graph s g (Some graph) e = inl (go_on second third fourth origin Chimera s rest keys graph g e)
        by_graph s g None e = inr (record {
          verb = verb;
          origin = origin;
          keys = keys;
          say = record {
            first = rw is_verb refl;
            source = s rest;
            given = rw behind
                (subst (λ k. keys_from verb Chimera no_keys k (drop n rest) ≡ Ok keys) behind g);
          };
          large = e;
        })

        go : (t : TargetWord) → Say second third fourth origin t
            → keys_from verb t no_keys (first_key verb) (drop n rest) ≡ Ok keys
            → CanGoOn (first ∷ second ∷ third ∷ fourth ∷ rest)
            ⊎ AskForTooLarge (first ∷ second ∷ third ∷ fourth ∷ rest)
        go (Nodes model) s g =
            inl (go_on second third fourth origin (Nodes model) s rest keys small_graph g tt)
        go Chimera s g = by_graph s g _ refl
        go Graph s g =
            inl (go_on second third fourth origin Graph s rest keys small_graph g
            (no_clique verb no_keys keys (first_key verb) (drop n rest) g tt))

    -- where keys stop
    at_key : (rest : List (List ℕ)) (i q : ℕ)
        → Stop verb target no_keys (first_key verb) q (drop n rest) → q ≡ i + 1
        → Told (first ∷ second ∷ third ∷ fourth ∷ rest) i
    at_key rest i q stopped same =
        let j = stopped.j in
        let next : suc (n + j) ≡ n + suc j = omega arith in
        let index : suc (suc (suc (suc (n + j)))) ≡ i = omega (arith, stopped.position, behind, same) in
        subst (Told (first ∷ second ∷ third ∷ fourth ∷ rest)) index (record {
          before = right (take (n + j) rest) stopped.so_far
              (ap (keys_from verb target no_keys (first_key verb)) (drop-take n j rest)
              ∙ stopped.before);
          wrong = λ less more.
              let kept : drop n (take (suc (n + j)) rest ++ more)
              ≡ take (suc j) (drop n rest) ++ more =
              ap (λ k. drop n (take k rest ++ more)) next ∙ drop-take-append n (suc j) rest more
              (omega (arith, stopped.within, length-drop n rest)) in
              let position : q ≡ suc (suc (suc (suc (suc (n + j))))) = omega (arith, same, index) in
              let stops = subst (λ k. keys_from verb target no_keys k (take (suc j) (drop n rest) ++ more)
              ≡ Err q) behind (stopped.wrong more) in
              rw (no_notice, is_verb, say (take (suc (n + j)) rest ++ more), behind, kept)
              (rw stops (ap Err position));
        })

    -- where the keys end
    by_keys : (rest : List (List ℕ)) (i : ℕ) (r : Result Keys ℕ)
        → keys_from verb target no_keys (first_key verb)
        (drop (first_key verb) (first ∷ second ∷ third ∷ fourth ∷ rest)) ≡ r
        → (r >>= with_keys verb (first ∷ second ∷ third ∷ fourth ∷ rest) origin target) ≡ Err (i + 1)
        → Told (first ∷ second ∷ third ∷ fourth ∷ rest) i
    by_keys rest i (Ok keys) e f =
        let words = first ∷ second ∷ third ∷ fourth ∷ rest in
        late words i (omega (arith, late_end verb words origin target keys (i + 1) f))
        (right rest keys
        (ap (λ k. keys_from verb target no_keys (first_key verb) (drop k words)) (sym behind) ∙ e))
    by_keys rest i (Err q) e f =
        let words = first ∷ second ∷ third ∷ fourth ∷ rest in
        at_key rest i q (stop verb target no_keys (first_key verb) q (drop n rest)
        (ap (λ k. keys_from verb target no_keys (first_key verb) (drop k words)) (sym behind) ∙ e)) cc

    -- four words go on by themselves
    goes_on : CanGoOn (first ∷ second ∷ third ∷ fourth ∷ [])
    goes_on =
        go_on second third fourth origin target say [] no_keys small_graph
        (ap (keys_from verb target no_keys (first_key verb)) (drop-nil n)) (room_at_first target)

-- ---- the words of a source in a file

module _ (verb : Verb) (n : ℕ) (first : List ℕ) (no_notice : notice_of first ≡ None)
    (is_verb : verb_of first ≡ Some verb) (behind : first_key verb ≡ suc (suc (suc (suc n))))
    (of_file : (words : List (List ℕ)) → source_words verb words ≡ file_words words) where
  says_file : (second third fourth : List ℕ) (format : Format) (target : TargetWord)
      → format_of second ≡ Some format → target_of third ≡ Some target
      → Say verb n first no_notice is_verb behind second third fourth (File format fourth) target
  says_file second third fourth format target e f rest =
      rw (of_file (first ∷ second ∷ third ∷ fourth ∷ rest), e, f) refl

  third_goes_on : (second third : List ℕ) (format : Format) (target : TargetWord)
      → format_of second ≡ Some format → target_of third ≡ Some target
      → CanGoOn (first ∷ second ∷ third ∷ [])
  third_goes_on second third format target e f =
      let all = goes_on verb n first no_notice is_verb behind second third [] (File format [])
      target (says_file second third [] format target e f) in
      ([] ∷ all.0, all.1, all.2)

  second_goes_on : (second : List ℕ) (format : Format) → format_of second ≡ Some format
      → CanGoOn (first ∷ second ∷ [])
  second_goes_on second format e =
      let all = third_goes_on second (codes "qubo") format (Nodes Qubo) e refl in
      (codes "qubo" ∷ all.0, all.1, all.2)

  first_goes_on : CanGoOn (first ∷ [])
  first_goes_on =
      let all = second_goes_on (codes "wcnf") formats.Wcnf refl in (codes "wcnf" ∷ all.0, all.1, all.2)

  on_target : (second third : List ℕ) (rest : List (List ℕ)) (format : Format)
      (target : TargetWord) (i : ℕ) → format_of second ≡ Some format → target_of third ≡ Some target
      → (with_target (first ∷ second ∷ third ∷ rest) format target
      >>= λ source. with_source verb (first ∷ second ∷ third ∷ rest) source.0 source.1) ≡ Err (i + 1)
      → Told (first ∷ second ∷ third ∷ rest) i
  on_target second third [] format target i e f g =
      at_index _ 3 i g (late _ 3 (omega arith) (inl (third_goes_on second third format target e f)))
  on_target second third (fourth ∷ rest) format target i e f g =
      by_keys verb n first no_notice is_verb behind second third fourth (File format fourth) target
      (says_file second third fourth format target e f) rest i _ refl g

  by_target : (second third : List ℕ) (rest : List (List ℕ)) (format : Format) (i : ℕ)
      → format_of second ≡ Some format → (o : Option TargetWord) → target_of third ≡ o
      → ((ok_or o 3 >>= with_target (first ∷ second ∷ third ∷ rest) format)
      >>= λ source. with_source verb (first ∷ second ∷ third ∷ rest) source.0 source.1) ≡ Err (i + 1)
      → Told (first ∷ second ∷ third ∷ rest) i
  by_target second third rest format i is_format None e f =
      told_at _ 2 i f (second_goes_on second format is_format)
      (λ less more. rw (no_notice, is_verb, of_file (first ∷ second ∷ third ∷ more), is_format, e) refl)
  by_target second third rest format i is_format (Some target) e f =
      on_target second third rest format target i is_format e f

  by_format : (second : List ℕ) (rest : List (List ℕ)) (i : ℕ) (o : Option Format)
      → format_of second ≡ o → ((ok_or o 2 >>= with_format (first ∷ second ∷ rest))
      >>= λ source. with_source verb (first ∷ second ∷ rest) source.0 source.1) ≡ Err (i + 1)
      → Told (first ∷ second ∷ rest) i
  by_format second rest i None e f =
      told_at _ 1 i f first_goes_on
      (λ less more. rw (no_notice, is_verb, of_file (first ∷ second ∷ more), e) refl)
  by_format second [] i (Some format) e f =
      at_index _ 2 i f (late _ 2 (omega arith) (inl (second_goes_on second format e)))
  by_format second (third ∷ rest) i (Some format) e f =
      by_target second third rest format i e (target_of third) refl f

  on_file_words : (rest : List (List ℕ)) (i : ℕ)
      → (file_words (first ∷ rest) >>= λ source. with_source verb (first ∷ rest) source.0 source.1)
      ≡ Err (i + 1) → Told (first ∷ rest) i
  on_file_words [] i e = at_index _ 1 i e (late _ 1 (omega arith) (inl first_goes_on))
  on_file_words (second ∷ rest) i e = by_format second rest i (format_of second) refl e

-- ---- the words of a source that is drawn

abbrev drawn_on : ℕ → ℕ → TargetWord → Result (Origin × TargetWord) ℕ
drawn_on number clauses target = Ok (Drawn number clauses, target)

module _ (first : List ℕ) (no_notice : notice_of first ≡ None)
    (is_verb : verb_of first ≡ Some verbs.Sample) where
  says_drawn : (second third fourth : List ℕ) (number clauses : ℕ) (target : TargetWord)
      → digits_number second ≡ Some number → clauses_of third ≡ Some clauses
      → target_of fourth ≡ Some target
      → Say verbs.Sample 0 first no_notice is_verb refl second third fourth (Drawn number clauses) target
  says_drawn second third fourth number clauses target a b c rest = rw (a, b, c) refl

  third_is_drawn : (second third : List ℕ) (number clauses : ℕ) → digits_number second ≡ Some number
      → clauses_of third ≡ Some clauses → CanGoOn (first ∷ second ∷ third ∷ [])
  third_is_drawn second third number clauses a b =
      let all = goes_on verbs.Sample 0 first no_notice is_verb refl second third (codes "qubo")
      (Drawn number clauses) (Nodes Qubo)
      (says_drawn second third (codes "qubo") number clauses (Nodes Qubo) a b refl) in
      (codes "qubo" ∷ all.0, all.1, all.2)

  second_is_drawn : (second : List ℕ) (number : ℕ) → digits_number second ≡ Some number
      → CanGoOn (first ∷ second ∷ [])
  unfolding digits_number
  second_is_drawn second number a =
      let all = third_is_drawn second (codes "0") number 0 a refl in (codes "0" ∷ all.0, all.1, all.2)

  first_is_drawn : CanGoOn (first ∷ [])
  unfolding digits_number
  first_is_drawn = let all = second_is_drawn (codes "0") 0 refl in (codes "0" ∷ all.0, all.1, all.2)

  by_drawn_target : (second third fourth : List ℕ) (rest : List (List ℕ)) (number clauses i : ℕ)
      → digits_number second ≡ Some number → clauses_of third ≡ Some clauses
      → (o : Option TargetWord) → target_of fourth ≡ o → ((ok_or o 4 >>= drawn_on number clauses)
      >>= λ source. with_source verbs.Sample (first ∷ second ∷ third ∷ fourth ∷ rest) source.0 source.1)
      ≡ Err (i + 1) → Told (first ∷ second ∷ third ∷ fourth ∷ rest) i
  by_drawn_target second third fourth rest number clauses i a b None e f =
      told_at _ 3 i f (third_is_drawn second third number clauses a b)
      (λ less more. rw (no_notice, is_verb, a, b, e) refl)
  by_drawn_target second third fourth rest number clauses i a b (Some target) e f =
      by_keys verbs.Sample 0 first no_notice is_verb refl second third fourth (Drawn number clauses)
      target (says_drawn second third fourth number clauses target a b e) rest i _ refl f

  by_clauses : (second third : List ℕ) (rest : List (List ℕ)) (number i : ℕ)
      → digits_number second ≡ Some number → (o : Option ℕ) → clauses_of third ≡ o
      → ((ok_or o 3 >>= with_clauses (first ∷ second ∷ third ∷ rest) number)
      >>= λ source. with_source verbs.Sample (first ∷ second ∷ third ∷ rest) source.0 source.1)
      ≡ Err (i + 1) → Told (first ∷ second ∷ third ∷ rest) i
  by_clauses second third rest number i a None e f =
      told_at _ 2 i f (second_is_drawn second number a)
      (λ less more. rw (no_notice, is_verb, a, e) refl)
  by_clauses second third [] number i a (Some clauses) e f =
      at_index _ 3 i f (late _ 3 (omega arith) (inl (third_is_drawn second third number clauses a e)))
  by_clauses second third (fourth ∷ rest) number i a (Some clauses) e f =
      by_drawn_target second third fourth rest number clauses i a e (target_of fourth) refl f

  by_number : (second : List ℕ) (rest : List (List ℕ)) (i : ℕ) (o : Option ℕ)
      → digits_number second ≡ o → ((ok_or o 2 >>= with_number (first ∷ second ∷ rest))
      >>= λ source. with_source verbs.Sample (first ∷ second ∷ rest) source.0 source.1) ≡ Err (i + 1)
      → Told (first ∷ second ∷ rest) i
  by_number second rest i None e f =
      told_at _ 1 i f first_is_drawn (λ less more. rw (no_notice, is_verb, e) refl)
  by_number second [] i (Some number) e f =
      at_index _ 2 i f (late _ 2 (omega arith) (inl (second_is_drawn second number e)))
  by_number second (third ∷ rest) i (Some number) e f =
      by_clauses second third rest number i e (clauses_of third) refl f

  on_drawn_words : (rest : List (List ℕ)) (i : ℕ) → (drawn_words (first ∷ rest)
      >>= λ source. with_source verbs.Sample (first ∷ rest) source.0 source.1) ≡ Err (i + 1)
      → Told (first ∷ rest) i
  on_drawn_words [] i e = at_index _ 1 i e (late _ 1 (omega arith) (inl first_is_drawn))
  on_drawn_words (second ∷ rest) i e = by_number second rest i (digits_number second) refl e

-- ---- all words

module _ (first : List ℕ) (no_notice : notice_of first ≡ None) where
  after : (verb : Verb) → verb_of first ≡ Some verb → (rest : List (List ℕ)) (i : ℕ)
      → (source_words verb (first ∷ rest)
      >>= λ source. with_source verb (first ∷ rest) source.0 source.1) ≡ Err (i + 1)
      → Told (first ∷ rest) i
  after verbs.Compile v = on_file_words verbs.Compile 0 first no_notice v refl (λ w. refl)
  after verbs.Size v = on_file_words verbs.Size 0 first no_notice v refl (λ w. refl)
  after verbs.Solve v = on_file_words verbs.Solve 0 first no_notice v refl (λ w. refl)
  after verbs.Decode v = on_file_words verbs.Decode 1 first no_notice v refl (λ w. refl)
  after verbs.Evaluate v = on_file_words verbs.Evaluate 1 first no_notice v refl (λ w. refl)
  after verbs.Extend v = on_file_words verbs.Extend 1 first no_notice v refl (λ w. refl)
  after verbs.Prove v = on_file_words verbs.Prove 2 first no_notice v refl (λ w. refl)
  after verbs.Sample v = on_drawn_words first no_notice v

  by_verb : (o : Option Verb) → verb_of first ≡ o → (rest : List (List ℕ)) (i : ℕ)
      → (ok_or o 1 >>= λ verb. source_words verb (first ∷ rest)
      >>= λ source. with_source verb (first ∷ rest) source.0 source.1) ≡ Err (i + 1)
      → Told (first ∷ rest) i
  by_verb None v rest i e =
      told_at _ 0 i e (codes "--help" ∷ [], requests.Notice notices.Help, refl)
      (λ less more. rw (no_notice, v) refl)
  by_verb (Some verb) v rest i e = after verb v rest i e

not_alone : (first second : List ℕ) (rest : List (List ℕ)) (notice : Notice)
    → alone (first ∷ second ∷ rest) notice ≡ Err 2
not_alone first second rest notice = rw (two_are_not_one (length rest)) refl

-- a notice with more words
with_notice : (first : List ℕ) (notice : Notice) → notice_of first ≡ Some notice
    → (rest : List (List ℕ)) (i : ℕ) → alone (first ∷ rest) notice ≡ Err (i + 1)
    → Told (first ∷ rest) i
with_notice first notice is [] i e = absurd cc
with_notice first notice is (second ∷ rest) i e =
    told_at _ 1 i (sym (not_alone first second rest notice) ∙ e) ([], requests.Notice notice, rw is refl)
    (λ less more. rw is (not_alone first second more notice))

by_notice : (first : List ℕ) (rest : List (List ℕ)) (i : ℕ) (o : Option Notice)
    → notice_of first ≡ o → option_map_or (alone (first ∷ rest)) o
    (command_of (first ∷ rest) >>= λ command. Ok (requests.Command command)) ≡ Err (i + 1)
    → Told (first ∷ rest) i
by_notice first rest i (Some notice) is e = with_notice first notice is rest i e
by_notice first rest i None is e =
    by_verb first is (verb_of first) refl rest i (from_command _ (i + 1) e)

told_first : (words : List (List ℕ)) (i : ℕ) → request_of words ≡ Err (i + 1) → Told words i
told_first [] i e =
    at_index [] 0 i e (record {
      before = inl (codes "--help" ∷ [], requests.Notice notices.Help, refl);
      wrong = λ less. absurd (omega (arith, less));
    })
told_first (first ∷ rest) i e = by_notice first rest i (notice_of first) refl e

pub tell_the_first : PositionsTellTheFirst
tell_the_first words i e =
    let told = told_first words i e in
    let next : suc i ≡ i + 1 = omega arith in
    record {
      before = told.before;
      wrong = λ less more. subst (λ k. request_of (take k words ++ more) ≡ Err k) next (told.wrong less more);
    }
