-- Words that ask for a command or a notice say it.
use Rattle.command_words.proofs.Common.{nat_tests, ◌≡◌, ◌≢◌, ◌≤◌, ℕ, suc, ◌+◌, false, List, [], ◌∷◌, ◌++◌, length, drop, Option, Some, None, Result, Ok, Err, refl, ap, sym, subst, ◌∙◌, ◌⊎◌, arith, IfOk, IfSome, ◌==◌, ◌||◌, bytes_eq, codes, slice_get, if◌then◌else◌, ⊤, option_map_or, drop_more, slice_get_within, get_or_from_slice_get, ne_eqb, bytes_eq-Decides, Format, Target, TargetWord, Command, Origin, digits_number, Keys, Verb, Notice, Request, EachNoticeIsAskedFor, EachCommandIsAskedFor, NoOtherWordsAsk, Say, SayRequest, file_command, format_word, ground_word, long_word, short_word, target_word, verb_for, verb_word, word_of, ◌>>=◌, alone, ask_by, chosen_target, clauses_of, command_of, commanding, drawn_words, file_words, first_key, first_notice, format_of, named, notice_of, source_words, target_of, valued, verb_of, ground_by, keys_from, no_keys, target_by, File, Drawn}
use Rattle.command_words.specs.declared.commands.Verb.TheVariants as verbs
use Rattle.command_words.specs.declared.commands.Notice.TheVariants.{Help, Version}
use Rattle.command_words.specs.declared.commands.Request.TheVariants as requests

-- ---- a step, and the next one

next : {A B : Type 0} (r : Result A ℕ) (f : A → Result B ℕ) (Q : A → Type 0) (P : B → Type 0)
    → IfOk r Q → ((x : A) → Q x → IfOk (f x) P) → IfOk (r >>= f) P
next r f Q P q each = grind (arith, nat_tests)

nothing : {A : Type 0} (r : Result A ℕ) → IfOk r (λ _. ⊤)
nothing r = grind (arith, nat_tests)

-- ---- a value has its own word

format_of-word : (word : List ℕ) → IfSome (format_of word) (λ format. word ≡ format_word format)
format_of-word word = grind (arith, nat_tests, bytes_eq-Decides)

target_of-word : (word : List ℕ) → IfSome (target_of word) (λ target. word ≡ target_word target)
target_of-word word = grind (arith, nat_tests, bytes_eq-Decides)

-- the ground that is chosen has the word that was said
ground_has_word : (word : TargetWord) (keys : Keys)
    → IfSome (ground_by word keys) (λ ground. ground_word ground ≡ word)
ground_has_word word keys = grind (arith, nat_tests)

-- so has the target
target_has_word : (word : TargetWord) (keys : Keys)
    → IfSome (target_by word keys) (λ target. word_of target ≡ word)
target_has_word word keys = grind (arith, nat_tests, ground_has_word)

-- so has the target that is chosen behind all words that the verb needs
chosen_has_word : (verb : Verb) (words : List (List ℕ)) (word : TargetWord) (keys : Keys)
    → IfOk (chosen_target verb words word keys)
    (λ target. (word_of target ≡ word) × (first_key verb ≤ length words))
chosen_has_word verb words word keys = grind (arith, nat_tests, target_has_word)

verb_of-word : (word : List ℕ) → IfSome (verb_of word) (λ verb. word ≡ verb_word verb)
verb_of-word word = grind (arith, nat_tests, bytes_eq-Decides)

-- ---- a word at its place

-- the word stands at the index
abbrev StandsAt : List (List ℕ) → ℕ → List ℕ → Type 0
StandsAt words i word = drop i words ≡ word ∷ drop (i + 1) words

slice_get-StandsAt : (words : List (List ℕ)) (i : ℕ) (word : List ℕ) → slice_get words i ≡ Some word
    → StandsAt words i word
slice_get-StandsAt words i word e =
    drop_more words i [] (slice_get_within words i word e)
    ∙ ap (λ w. w ∷ drop (i + 1) words) (get_or_from_slice_get words i word [] e)

-- a word at its place, with its value
pub record HasValue {A : Type 0} (value : List ℕ → Option A) (words : List (List ℕ)) (i : ℕ) (x : A)
    : Type 0 where
  pub word : List ℕ
  pub stands : StandsAt words i word
  pub valued : value word ≡ Some x

valued-HasValue : {A : Type 0} (value : List ℕ → Option A) (words : List (List ℕ)) (i : ℕ)
    → IfOk (valued value words i) (HasValue value words i)
valued-HasValue value words i = grind (arith, nat_tests, slice_get-StandsAt)

valued-word : {A : Type 0} (value : List ℕ → Option A) (word_of : A → List ℕ)
    → ((word : List ℕ) → IfSome (value word) (λ x. word ≡ word_of x))
    → (words : List (List ℕ)) (i : ℕ)
    → IfOk (valued value words i) (λ x. StandsAt words i (word_of x))
valued-word {A} value word_of each words i = go (valued value words i) (valued-HasValue value words i)
  where
    go : (r : Result A ℕ) → IfOk r (HasValue value words i)
        → IfOk r (λ x. StandsAt words i (word_of x))
    go (Err p) h = tt
    go (Ok x) h =
        let same = subst (λ o. IfSome o (λ x. h.word ≡ word_of x)) h.valued (each h.word) in
        h.stands ∙ ap (λ w. w ∷ drop (i + 1) words) same

named-word : (words : List (List ℕ)) (i : ℕ)
    → IfOk (named words i) (StandsAt words i)
named-word words i = grind (arith, nat_tests, slice_get-StandsAt)

-- ---- the words in a row

-- the words after the first one say this source and target
abbrev SaysSource : List (List ℕ) → Origin → TargetWord → Type 0
SaysSource words (File format file) target =
    drop 1 words ≡ format_word format ∷ target_word target ∷ file ∷ drop 4 words
SaysSource words (Drawn number clauses) target = (first second : List ℕ)
    × (digits_number first ≡ Some number) × (clauses_of second ≡ Some clauses)
    × (drop 1 words ≡ first ∷ second ∷ target_word target ∷ drop 4 words)

module _ (words : List (List ℕ)) where
  -- the steps of a source, each with those after it
  abbrev pub with_target : Format → TargetWord → Result (Origin × TargetWord) ℕ
  with_target format target = named words 3 >>= λ file. Ok (File format file, target)

  abbrev pub with_format : Format → Result (Origin × TargetWord) ℕ
  with_format format = valued target_of words 2 >>= with_target format

  abbrev pub with_clauses : ℕ → ℕ → Result (Origin × TargetWord) ℕ
  with_clauses number clauses = valued target_of words 3 >>= λ target. Ok (Drawn number clauses, target)

  abbrev pub with_number : ℕ → Result (Origin × TargetWord) ℕ
  with_number number = valued clauses_of words 2 >>= with_clauses number

  -- a source in a file, with this word of its target, is said
  pub record IsFileSaid (source : Origin × TargetWord) : Type 0 where
    pub format : Format
    pub file : List ℕ
    pub is : source ≡ (File format file, source.1)
    pub says : SaysSource words (File format file) source.1

  file_words-said : IfOk (file_words words) IsFileSaid
  file_words-said =
      next (valued format_of words 1) with_format _ _
      (valued-word format_of format_word format_of-word words 1) (λ format second.
      next (valued target_of words 2) (with_target format) _ _
      (valued-word target_of target_word target_of-word words 2) (λ target third.
      next (named words 3) (λ file. Ok (File format file, target)) _ _ (named-word words 3)
      (λ file fourth. record {
        format = format;
        file = file;
        is = refl;
        says = grind (arith, nat_tests);
      })))

  -- a source that is drawn, with this word of its target, is said
  pub record IsDrawnSaid (source : Origin × TargetWord) : Type 0 where
    pub number : ℕ
    pub clauses : ℕ
    pub is : source ≡ (Drawn number clauses, source.1)
    pub says : SaysSource words (Drawn number clauses) source.1

  drawn_words-said : IfOk (drawn_words words) IsDrawnSaid
  drawn_words-said =
      next (valued digits_number words 1) with_number _ _ (valued-HasValue digits_number words 1)
      (λ number second.
      next (valued clauses_of words 2) (with_clauses number) _ _ (valued-HasValue clauses_of words 2)
      (λ clauses third.
      next (valued target_of words 3) (λ target. Ok (Drawn number clauses, target)) _ _
      (valued-word target_of target_word target_of-word words 3) (λ target fourth. record {
        number = number;
        clauses = clauses;
        is = refl;
        says = grind (arith, nat_tests);
      })))

-- the words say a command, and then keys
abbrev IsAsked : List (List ℕ) → Command → Type 0
IsAsked words command = (keys : List (List ℕ)) × Say words command keys

-- ---- what a verb asks for

module _ (verb : Verb) (words : List (List ℕ)) (origin : Origin) (word : TargetWord) where
  -- the steps after the three words, each with those after it
  abbrev pub with_chosen : Keys → Target → Result Command ℕ
  with_chosen keys target = Ok (commanding origin target keys (ask_by verb (drop 4 words) keys.order))

  abbrev pub with_keys : Keys → Result Command ℕ
  with_keys keys = chosen_target verb words word keys >>= with_chosen keys

  abbrev pub with_source : Result Command ℕ
  with_source =
      keys_from verb word no_keys (first_key verb) (drop (first_key verb) words) >>= with_keys

  -- it is asked for where the words say what is asked of this target
  with_source-asked : ((keys : Keys) (target : Target) → word_of target ≡ word
      → first_key verb ≤ length words
      → IsAsked words (commanding origin target keys (ask_by verb (drop 4 words) keys.order)))
      → IfOk with_source (IsAsked words)
  with_source-asked asked =
      next (keys_from verb word no_keys (first_key verb) (drop (first_key verb) words)) with_keys
      (λ _. ⊤) _ (nothing _) (λ keys _.
      next (chosen_target verb words word keys) (with_chosen keys) _ _
      (chosen_has_word verb words word keys)
      (λ target chosen. asked keys target chosen.0 chosen.1))

-- the files that a verb has behind FILE
abbrev files : Verb → List (List ℕ) → Option (List ℕ) → List (List ℕ)
files verb words order = (verb_for (ask_by verb (drop 4 words) order)).1

-- the words behind FILE are these, and keys
files_behind : (verb : Verb) (order : Option (List ℕ)) (words : List (List ℕ))
    → first_key verb ≤ length words
    → drop 4 words ≡ files verb words order ++ drop (first_key verb) words
files_behind verbs.Compile order words enough = refl
files_behind verbs.Size order words enough = refl
files_behind verbs.Sample order words enough = refl
files_behind verbs.Solve order words enough = refl
files_behind verbs.Decode order (a ∷ b ∷ c ∷ d ∷ e ∷ words) enough = refl
files_behind verbs.Evaluate order (a ∷ b ∷ c ∷ d ∷ e ∷ words) enough = refl
files_behind verbs.Extend order (a ∷ b ∷ c ∷ d ∷ e ∷ words) enough = refl
files_behind verbs.Prove order (a ∷ b ∷ c ∷ d ∷ e ∷ f ∷ words) enough = refl
files_behind verb order words enough = absurd (omega (arith, enough))

-- the words of a job and of the files behind it are those of a command on a file
file_said : (verb : Verb) (words : List (List ℕ)) (format : Format) (file : List ℕ)
    (target : TargetWord) (order : Option (List ℕ)) → words ≡ verb_word verb ∷ drop 1 words
    → SaysSource words (File format file) target → first_key verb ≤ length words
    → words ≡ file_command verb format target file (files verb words order)
    (drop (first_key verb) words)
file_said verb words format file target order first says enough =
    first ∙ ap (λ rest. verb_word verb ∷ rest) says
    ∙ ap (λ rest. verb_word verb ∷ format_word format ∷ target_word target ∷ file ∷ rest)
    (files_behind verb order words enough)

file_asked : (verb : Verb) → verb ≢ verbs.Sample → (words : List (List ℕ)) (format : Format)
    (file : List ℕ) (target : Target) (keys : Keys) → words ≡ verb_word verb ∷ drop 1 words
    → SaysSource words (File format file) (word_of target) → first_key verb ≤ length words
    → IsAsked words (commanding (File format file) target keys (ask_by verb (drop 4 words) keys.order))
file_asked verbs.Sample other words format file target keys first says enough = absurd (other refl)
file_asked verb other words format file target keys first says enough =
    (_, file_said verb words format file (word_of target) keys.order first says enough)

-- words of a file say what is asked of it
on_file : (verb : Verb) → verb ≢ verbs.Sample → (words : List (List ℕ))
    → words ≡ verb_word verb ∷ drop 1 words
    → IfOk (file_words words >>= λ source. with_source verb words source.0 source.1) (IsAsked words)
on_file verb other words first =
    next (file_words words) (λ source. with_source verb words source.0 source.1) (IsFileSaid words)
    (IsAsked words) (file_words-said words) (λ source h.
    let Asks : Origin × TargetWord → Type 0 =
    λ s. IfOk (with_source verb words s.0 s.1) (IsAsked words) in
    subst Asks (sym h.is) (with_source-asked verb words (File h.format h.file) source.1
    (λ keys target same enough.
    file_asked verb other words h.format h.file target keys first
    (subst (SaysSource words (File h.format h.file)) (sym same) h.says) enough)))

after_verb-words : (words : List (List ℕ)) (verb : Verb) → words ≡ verb_word verb ∷ drop 1 words
    → IfOk (source_words verb words >>= λ source. with_source verb words source.0 source.1)
    (IsAsked words)
after_verb-words words verbs.Sample = λ first.
    next (drawn_words words) (λ source. with_source verbs.Sample words source.0 source.1)
    (IsDrawnSaid words) (IsAsked words) (drawn_words-said words) (λ source h.
    let Asks : Origin × TargetWord → Type 0 =
    λ s. IfOk (with_source verbs.Sample words s.0 s.1) (IsAsked words) in
    subst Asks (sym h.is) (with_source-asked verbs.Sample words (Drawn h.number h.clauses) source.1
    (λ keys target same enough.
    let says = subst (SaysSource words (Drawn h.number h.clauses)) (sym same) h.says in (
      drop 4 words,
      record {
        first = says.0;
        second = says.1;
        number_said = says.2;
        clauses_said = says.3;
        all = first ∙ ap (λ rest. codes "sample" ∷ rest) says.4;
      },
    ))))
after_verb-words words verb = on_file verb (λ e. absurd cc) words

-- words of a command say it
command_of-words : (words : List (List ℕ)) → IfOk (command_of words) (IsAsked words)
command_of-words words =
    next (valued verb_of words 0)
    (λ verb. source_words verb words >>= λ source. with_source verb words source.0 source.1)
    (λ verb. words ≡ verb_word verb ∷ drop 1 words) (IsAsked words)
    (valued-word verb_of verb_word verb_of-word words 0) (after_verb-words words)

-- ---- notices

-- the word is one of a notice's two
abbrev IsWordOf : List ℕ → Notice → Type 0
IsWordOf word notice = (word ≡ long_word notice) ⊎ (word ≡ short_word notice)

-- one line of the table of notices, with those below it
two_words : (word : List ℕ) (notice : Notice) (below : Option Notice) → IfSome below (IsWordOf word)
    → IfSome (if bytes_eq word (long_word notice) || bytes_eq word (short_word notice)
    then Some notice else below) (IsWordOf word)
two_words word notice below others = grind (arith, nat_tests, bytes_eq-Decides)

notice_of-word : (word : List ℕ) (notice : Notice) → notice_of word ≡ Some notice
    → IsWordOf word notice
notice_of-word word notice e =
    grind (arith, nat_tests, two_words word Help _ (two_words word Version None tt), two_words word Version None tt)

-- words that begin as a notice does are no command
notices_are_no_commands : (words : List (List ℕ)) (notice : Notice)
    → first_notice words ≡ Some notice → command_of words ≡ Err 1
notices_are_no_commands [] notice e = absurd cc
notices_are_no_commands (word ∷ words) notice e =
    grind (arith, nat_tests, notice_of-word word notice e)

-- two words or more are not one
pub two_are_not_one : (n : ℕ) → (suc (suc n) == 1) ≡ false
two_are_not_one n = ne_eqb (suc (suc n)) 1 (λ e. omega (arith, e))

pub each_notice : EachNoticeIsAskedFor
each_notice = record {
  long = λ notice. grind (arith, nat_tests);
  short = λ notice. grind (arith, nat_tests);
  long_alone = λ notice word words. grind (arith, nat_tests, two_are_not_one);
  short_alone = λ notice word words. grind (arith, nat_tests, two_are_not_one);
}

-- what words ask for that begin with a notice, or with none
abbrev request_with : List (List ℕ) → Option Notice → Result Request ℕ
request_with words first =
    option_map_or (alone words) first
    (command_of words >>= λ command. Ok (requests.Command command))

pub each_command : EachCommandIsAskedFor
each_command = record {
  asked = λ words command e. go words command e (first_notice words) refl;
  refused = λ words position none e. rw (none, e) refl;
} where
  go : (words : List (List ℕ)) (command : Command) → command_of words ≡ Ok command
      → (first : Option Notice) → first_notice words ≡ first
      → request_with words first ≡ Ok (requests.Command command)
  go words command e None f = rw e refl
  go words command e (Some notice) f =
      let refused = notices_are_no_commands words notice f in absurd cc

-- a notice that is asked for is said, alone
alone-says : (words : List (List ℕ)) (notice : Notice) → first_notice words ≡ Some notice
    → IfOk (alone words notice) (SayRequest words)
alone-says [] notice e = absurd cc
alone-says (word ∷ []) notice e = grind (arith, nat_tests, notice_of-word)
alone-says (word ∷ other ∷ words) notice e = rw (two_are_not_one (length words)) tt

pub no_others : NoOtherWordsAsk
no_others words = go (first_notice words) refl
  where
    go : (first : Option Notice) → first_notice words ≡ first
        → IfOk (request_with words first) (SayRequest words)
    go None f =
        next (command_of words) (λ command. Ok (requests.Command command)) (IsAsked words)
        (SayRequest words) (command_of-words words) (λ command said. said)
    go (Some notice) f = alone-says words notice f
