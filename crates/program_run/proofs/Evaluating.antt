-- The states of a file, where it has some or none, and the order of one.
use Rattle.program_run.proofs.Common.{nat_tests, arith, ◌≡◌, ℕ, Bool, List, [], ◌∷◌, reverse, Ok, Err, Some, None, refl, sym, subst, Form, Written, IsFirstLeastBy, EndsOf, Counts, NamedFiles, Which, Ask, Command, if_named, last_files, StateLine, states_of, Judgement, best_of, Plan, Status, AreFilesOf, AreRead, Last, Several, Steps, Refuses, ends, last_step, scanning, solving, states_end, taking, refuses_on, Order, State, NoState, ended, IfErr, IsUnsolved, Result}
use Rattle.command_words.specs.declared.commands.Ask.TheVariants as asks
use Rattle.command_words.specs.declared.names.Which.TheVariants.{Order, State}
use Rattle.run_steps.specs.declared.status.Status.TheVariants.{NoState}

-- ---- states

module _ (held : NamedFiles) (name : List ℕ) (width : ℕ) where
  abbrev rest : List ℕ → Steps Last
  rest bytes = ends (states_end width (states_of width bytes))

  pub scan_refuses : (status : Status) → Refuses status (taking held State name)
      → Refuses status (scanning held name width)
  unfolding scanning
  scan_refuses status refused = refuses_on status (taking held State name) rest refused

  -- there are none
  pub scan_finds_none : (bytes : List ℕ) → (taking held State name).end ≡ Some (Ok bytes)
      → states_of width bytes ≡ [] → (scanning held name width).end ≡ Some (Err (NoState width))
  unfolding scanning
  scan_finds_none bytes e none = grind (arith, nat_tests)

  -- there is a best one
  pub scan_gives : (bytes : List ℕ) (j : Judgement) (best : StateLine)
      → (taking held State name).end ≡ Some (Ok bytes)
      → best_of j (states_of width bytes) ≡ Some best
      → (scanning held name width).end ≡ Some (Ok (Several (states_of width bytes)))
  unfolding scanning
  scan_gives bytes j best e first = grind (arith, nat_tests)

-- ---- the last step of a command

module _ (held : NamedFiles) (command : Command) (plan : Plan) (m : Written) (name : List ℕ) where
  pub scans : command.ask ≡ asks.Evaluate name
      → scanning held name m.nodes ≡ last_step held command.ask plan.read.variables m
  scans is = rw is refl

  pub solves : command.ask ≡ asks.Solve (Some name)
      → solving held (Some name) m ≡ last_step held command.ask plan.read.variables m
  solves is = rw is refl

-- without an order the last step takes nothing
pub usual_end : (held : NamedFiles) (ask : Ask) (plan : Plan) (status : Status)
    → ask ≡ asks.Solve None → EndsOf status plan (solving [] None)
    → EndsOf status plan (last_step held ask plan.read.variables)
usual_end held ask plan status is ends = rw is ends

-- ---- files

pub states_alone : (command : Command) (own : List ℕ) → command.ask ≡ asks.Evaluate own
    → State ∷ [] ≡ last_files command
states_alone command own is = rw is refl

pub order_alone : (command : Command) (own : List ℕ) → command.ask ≡ asks.Solve (Some own)
    → if_named command Order ≡ last_files command
order_alone command own is = rw is refl

-- without an order no file is taken
pub usual_files : {X : Type 0} (result : Result X Status) (name : Which → List ℕ) (command : Command)
    (a : Counts) → command.ask ≡ asks.Solve None → IfErr result IsUnsolved
    → AreFilesOf name [] (last_files command) (ended result) a a
usual_files result name command a is unsolved = rw is (grind (arith, nat_tests))

-- the file of an order was read
pub order_read : (name : Which → List ℕ) (command : Command) (own : List ℕ) (a b : Counts)
    → command.ask ≡ asks.Solve (Some own) → AreRead name (if_named command Order) a b
    → AreRead name (last_files command) a b
order_read name command own a b is read = rw (← order_alone command own is) read

-- the file of states was read, and has none
pub none_read : (name : Which → List ℕ) (command : Command) (own : List ℕ) (width : ℕ) (a b : Counts)
    → command.ask ≡ asks.Evaluate own → AreRead name (last_files command) a b
    → AreFilesOf name [] (last_files command) (NoState width) a b
none_read name command own width a b is read =
    subst (λ files. AreFilesOf name [] files (NoState width) a b) (states_alone command own is) (
      [],
      [],
      refl,
      subst (λ files. AreRead name files a b) (sym (states_alone command own is)) read,
    )

-- ---- a first least state

pub first_in : (g : Form) (given order : List ℕ) (state seen : List Bool) → given ≡ order
    → seen ≡ state → IsFirstLeastBy (reverse given) g state → IsFirstLeastBy (reverse order) g seen
first_in g given order state seen same is first = grind (arith, nat_tests)
