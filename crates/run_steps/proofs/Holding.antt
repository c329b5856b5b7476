-- Which files a store may hold.
use Rattle.run_steps.proofs.Common.{nat_tests, arith, ◌≡◌, ℕ, List, [], ◌∷◌, ◌++◌, Some, None, refl, Option, NamedFiles, WhereTold, Which, Command, OfState, ask_file, name_of, if_named, model_files, last_files, MayHold, board_files, state_files, Source, State, Certificate}
use Rattle.command_words.specs.declared.commands.Ask.TheVariants as asks

-- what may be held where all files are taken may be where the first ones are
pub may_first : (told : Option NamedFiles) (first files : List Which) (held : NamedFiles)
    → MayHold told (first ++ files) held → MayHold told first held
may_first told first files held may = grind (arith, nat_tests)

-- and where the others are, of a store that holds the same
pub may_next : (told later : Option NamedFiles) (first files : List Which) (held : NamedFiles)
    → later ≡ told → MayHold told (first ++ files) held → MayHold later files held
may_next (Some t) later first files held same may = rw same may
may_next None later [] files held same may = rw same may
may_next None later (file ∷ first) files held same may = absurd may

-- ---- the files of a model: the source, and those of the board

-- what holds of the source's file and then the board's holds of the model's
pub of_model_files : (command : Command) (P : List Which → Type 0)
    → P (if_named command Source ++ board_files command) → P (model_files command)
of_model_files command P is = grind (arith, nat_tests)

-- ---- a file alone

-- the states of a command that evaluates them are its last file
pub has_states : (command : Command) (name : List ℕ) → command.ask ≡ asks.Evaluate name
    → (last_files command ≡ State ∷ []) × (name ≡ name_of command State)
has_states command name is = (rw is refl, rw is refl)

-- a command that reads bits last takes their file, that of a certificate, and no order
pub state_files_are : (command : Command) (name : List ℕ) (of : OfState)
    → command.ask ≡ asks.State name of → state_files command ≡ last_files command
state_files_are command name of is = grind (arith, nat_tests)

-- what may be held where the last files are taken may be where their own is, and where a certificate's is
pub may_state : (told : Option NamedFiles) (command : Command) (name : List ℕ) (of : OfState)
    (held : NamedFiles) → command.ask ≡ asks.State name of → MayHold told (last_files command) held
    → MayHold told (if_named command State) held
may_state told command name of held is may = grind (arith, nat_tests)

pub may_certificate : (told later : Option NamedFiles) (command : Command) (name : List ℕ)
    (of : OfState) (held : NamedFiles) → command.ask ≡ asks.State name of → later ≡ told
    → MayHold told (last_files command) held → MayHold later (if_named command Certificate) held
may_certificate told later command name of held is same may = grind (arith, nat_tests)

-- and where no certificate is asked for it takes their file alone
pub state_alone : (command : Command) (name : List ℕ) (of : OfState)
    → command.ask ≡ asks.State name of → ask_file (asks.State name of) Certificate ≡ None
    → if_named command State ≡ last_files command
state_alone command name of is none = grind (arith, nat_tests)

-- what a store tells holds of more where it holds of less
pub told_then : (told : Option NamedFiles) (P Q : NamedFiles → Type 0)
    → ((held : NamedFiles) → P held → Q held) → WhereTold told P → WhereTold told Q
told_then told P Q more is = grind (arith, nat_tests)
