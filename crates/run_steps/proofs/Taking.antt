-- What functions do that take files, one after another.
use Rattle.run_steps.proofs.Common.{nat_tests, arith, subst, ◌≡◌, ℕ, List, [], ◌∷◌, ◌++◌, Ok, Err, Some, Result, refl, OnOk, IfErr, IsErrAnd, IfErr-weaker, err_from_is_err_and, Option, NamedFiles, Counts, Which, Command, name_of, if_named, named, model_files, Status, Steps, ends, gives, text_end, ◌>>=◌, Meets, IsReading, IsRefusal, IsReadTo, IsRefusedBy, board_files, TextFault, TextAnswer, Gives, judged, Takes, TakesOne, Source}
use Rattle.run_steps.proofs.FilesRead.{read_then, refused_alone, refused_first, refused_then}
use Rattle.run_steps.proofs.Holding.{may_first, may_next, of_model_files}
use Rattle.run_steps.proofs.Stepping.{meets_next, next_end, refuses_on}

-- ---- a text

-- what a text is read into, or its fault, is how the step ends that reads it
pub judged_meets : {X A : Type 0} (view : X → A) (which : Which) (read : Result X TextAnswer)
    (said : Result A TextFault) → Gives view read said
    → Meets view (judged which read) (ends (text_end which said))
judged_meets view which read said gives = grind (arith, nat_tests)

-- its file was read to its end, and a fault is one of its text
pub judged_passes : {X : Type 0} (which : Which) (read : Result X TextAnswer) (name : List ℕ)
    (a b : Counts) → IsReadTo name 1 a b → OnOk (judged which read) (IsReadTo name 1 a b)
    × IfErr (judged which read) (λ status. IsRefusedBy which name status a b)
judged_passes which read name a b is = grind (arith, nat_tests)

-- ---- a file alone

-- a file alone that a command takes
pub takes_alone : {X A : Type 0} (told later : Option NamedFiles) (name : Which → List ℕ)
    (files : List Which) (which : Which) (own called : List ℕ) (view : X → A)
    (result : Result X Status) (steps : NamedFiles → List ℕ → Steps A) (a b : Counts)
    → files ≡ which ∷ [] → own ≡ name which → called ≡ own
    → TakesOne told later which called view result (λ held. steps held called) a b
    → Takes told later name files view result (λ held. steps held own) a b
takes_alone told later name files which own called view result steps a b alone its named one =
    grind (arith, nat_tests, refused_alone, IfErr-weaker)

-- the same, of a command that names it
pub takes_named : {X A : Type 0} (told later : Option NamedFiles) (command : Command)
    (which : Which) (own called : List ℕ) (view : X → A) (result : Result X Status)
    (steps : NamedFiles → List ℕ → Steps A) (a b : Counts) → named command which ≡ Some own
    → called ≡ own → TakesOne told later which called view result (λ held. steps held called) a b
    → Takes told later (name_of command) (if_named command which) view result
    (λ held. steps held own) a b
takes_named told later command which own called view result steps a b is same one =
    takes_alone _ _ _ _ which _ _ _ _ steps _ _ (rw is refl) (rw is refl) same one

-- no file is taken
pub takes_none : {Y B : Type 0} {told : Option NamedFiles} {name : Which → List ℕ}
    {files : List Which} {other : Y → B} {y : Y} {m : NamedFiles → Steps B} {a : Counts}
    → files ≡ [] → ((held : NamedFiles) → (m held).end ≡ Some (Ok (other y)))
    → Takes told told name files other (Ok y) m a a
takes_none none e = grind (arith, nat_tests)

-- ---- files after others

-- what a refusal returns
pub returned : {Y : Type 0} {status : Status} {result : Result Y Status}
    → IsErrAnd result (λ e. e ≡ status) → result ≡ Err status
returned is = grind (arith, nat_tests, err_from_is_err_and)

-- the first ones refuse
pub first_refuses : {X Y A B : Type 0} {told mid : Option NamedFiles} {name : Which → List ℕ}
    {first : List Which} {view : X → A} {other : Y → B} {status : Status} {result : Result Y Status}
    {m : NamedFiles → Steps A} {a b : Counts} (next : List Which) (f : NamedFiles → A → Steps B)
    → IsErrAnd result (λ e. e ≡ status) → Takes told mid name first view (Err status) m a b
    → Takes told mid name (first ++ next) other result (λ held. m held >>= f held) a b
first_refuses next f is took =
    grind (arith, nat_tests, returned, refuses_on, may_first, refused_first)

-- the first ones give a value, and then come others
pub then_takes : {X Y A B : Type 0} {told mid later : Option NamedFiles} {name : Which → List ℕ}
    {first next : List Which} {view : X → A} {other : Y → B} {x : X} {result : Result Y Status}
    {m : NamedFiles → Steps A} {a b c : Counts} (f : NamedFiles → A → Steps B)
    → Takes told mid name first view (Ok x) m a b
    → Takes mid later name next other result (λ held. f held (view x)) b c
    → Takes told later name (first ++ next) other result (λ held. m held >>= f held) a c
then_takes f took more =
    grind (arith, nat_tests, meets_next, may_first, may_next, IfErr-weaker, refused_then, read_then)

-- what they give is made into something else
pub takes_given : {X Y A B : Type 0} {told later : Option NamedFiles} {name : Which → List ℕ}
    {files : List Which} {view : X → A} {other : Y → B} {x : X} {y : Y}
    {m : NamedFiles → Steps A} {a b : Counts} (k : A → B) → k (view x) ≡ other y
    → Takes told later name files view (Ok x) m a b
    → Takes told later name files other (Ok y) (λ held. m held >>= λ z. gives (k z)) a b
takes_given k same took = grind (arith, nat_tests, next_end)

-- and where they refuse
pub still_refuses : {X Y A B : Type 0} {told later : Option NamedFiles} {name : Which → List ℕ}
    {files : List Which} {view : X → A} {other : Y → B} {status : Status} {result : Result Y Status}
    {m : NamedFiles → Steps A} {a b : Counts} (f : NamedFiles → A → Steps B)
    → IsErrAnd result (λ e. e ≡ status) → Takes told later name files view (Err status) m a b
    → Takes told later name files other result (λ held. m held >>= f held) a b
still_refuses f is took = grind (arith, nat_tests, returned, refuses_on)

-- ---- the files of a model: the source, and those of the board

pub source_refuses : {X Y A B : Type 0} {told mid : Option NamedFiles} {name : Which → List ℕ}
    {view : X → A} {status : Status} {result : Result Y Status} {m : NamedFiles → Steps A}
    {a b : Counts} (command : Command) (other : Y → B) (f : NamedFiles → A → Steps B)
    → IsErrAnd result (λ e. e ≡ status)
    → Takes told mid name (if_named command Source) view (Err status) m a b
    → Takes told mid name (model_files command) other result (λ held. m held >>= f held) a b
source_refuses {told = told} {mid = mid} {name = name} {result = result} {m = m} {a = a} {b = b} command other f is took =
    of_model_files command
    (λ files. Takes told mid name files other result (λ held. m held >>= f held) a b)
    (first_refuses (board_files command) f is took)

pub source_then : {X Y A B : Type 0} {told mid later : Option NamedFiles} {name : Which → List ℕ}
    {view : X → A} {x : X} {result : Result Y Status} {m : NamedFiles → Steps A} {a b c : Counts}
    (command : Command) (other : Y → B) (f : NamedFiles → A → Steps B)
    → Takes told mid name (if_named command Source) view (Ok x) m a b
    → Takes mid later name (board_files command) other result (λ held. f held (view x)) b c
    → Takes told later name (model_files command) other result (λ held. m held >>= f held) a c
source_then {told = told} {later = later} {name = name} {result = result} {m = m} {a = a} {c = c} command other f took more =
    of_model_files command
    (λ files. Takes told later name files other result (λ held. m held >>= f held) a c)
    (then_takes f took more)

-- ---- statuses

-- and so a refusal
reading_refuses : (status : Status) → IsReading status → IsRefusal status
reading_refuses status is = grind (arith, nat_tests)

module _ {X A : Type 0} {told later : Option NamedFiles} {name : Which → List ℕ} {files : List Which}
    {view : X → A} {result : Result X Status} {m : NamedFiles → Steps A} {a b : Counts} where
  -- what files that are taken return is a status of their reading
  pub reads : Takes told later name files view result m a b → IfErr result IsReading
  reads took = grind (arith, nat_tests, IfErr-weaker)

  pub refuses : Takes told later name files view result m a b → IfErr result IsRefusal
  refuses took = IfErr-weaker result _ _ reading_refuses (reads took)

  -- the same files
  pub takes_files : {others : List Which} → files ≡ others
      → Takes told later name files view result m a b → Takes told later name others view result m a b
  takes_files same took = subst (λ fs. Takes told later name fs view result m a b) same took

  -- other steps that are the same
  pub takes_same : {n : NamedFiles → Steps A} → ((held : NamedFiles) → m held ≡ n held)
      → Takes told later name files view result m a b → Takes told later name files view result n a b
  takes_same same took = grind (arith, nat_tests)
