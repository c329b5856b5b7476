-- The words of a file that was cut as it came.
use Rattle.std.specs.Prelude.{◌≡◌, ℕ, ◌+◌, ◌≤◌, List, length, Option, IsSomeAnd, Result, Ok, Err}
use Rattle.edge_io.specs.declared.whole.ReadAnswer.{ReadAnswer}
use Rattle.edge_io.specs.declared.whole.ReadAnswer.TheVariants.{ReadFault, TooLong, NoMemory}
use Rattle.edge_io.specs.Counts.{Counts, Rose}
use Rattle.edge_io.specs.Held.{NamedFiles, IsFront}
use Rattle.whole_text.specs.declared.token.Style.{Style}
use Rattle.whole_text.specs.Tokens.{Word, tokens_of}
use Rattle.whole_text.specs.Lexing.{LexerState, StandsFor}
use Rattle.command_words.specs.declared.names.Which.{Which}
use Rattle.command_words.specs.declared.names.Which.TheVariants.{Source}
use Rattle.command_words.specs.declared.commands.Format.{Format}
use Rattle.command_words.specs.declared.commands.Slack.{Slack}
use Rattle.command_words.specs.declared.commands.Command.{Command}
use Rattle.source_texts.specs.declared.reading.Read.{Read}
use Rattle.source_texts.specs.Sources.{problem_of}
use Rattle.run_steps.specs.Steps.{Steps, ◌>>=◌, ends, gives, limited, text_end, taking}

-- the file is held, is no longer than this, and has these words in this style
abbrev pub AreWordsOf : Option (List ℕ) → ℕ → Style → List Word → Type 0
AreWordsOf file limit style words =
    IsSomeAnd file (λ bytes. (length bytes ≤ limit) × (words ≡ tokens_of style bytes))

-- the lexer stands for the bytes that were taken of the file, of which the rest is left
pub record IsCut (held : Option NamedFiles) (name : List ℕ) (taken : ℕ) (rest : Option (List ℕ))
    (lexer : LexerState) : Type 0 where
  pub text : List ℕ
  pub stands : StandsFor lexer text
  pub counted : length text ≡ taken
  pub front : IsFront held name text rest

-- how the taking of a begun file ended: at its end, where one read gave nothing; at a fault; one byte
-- beyond the limit, and no read gave nothing; or for want of memory; the count of faults, which was
-- this, rose at a fault alone
abbrev pub HasEnded : {T : Type 0} → ℕ → ℕ → Counts → Result T ReadAnswer → Type 0
HasEnded limit faults now (Ok value) =
    (now.taken ≤ limit) × (now.empty_reads ≡ 1) × (now.faults ≡ faults)
HasEnded limit faults now (Err ReadFault) = (now.taken ≤ limit) × Rose faults now.faults
HasEnded limit faults now (Err TooLong) =
    (now.taken ≡ limit + 1) × (now.empty_reads ≡ 0) × (now.faults ≡ faults)
HasEnded limit faults now (Err NoMemory) = (now.taken ≤ limit) × (now.faults ≡ faults)

-- no file was begun in between, and the count of faults did not fall
pub record IsSameBegin (before now : Counts) : Type 0 where
  pub begun : now.begun ≡ before.begun
  pub marked : now.faults_at_begin ≡ before.faults_at_begin
  pub named : now.name ≡ before.name
  pub later : before.faults ≤ now.faults

-- taking the file of this name, and then its words in a style
unfoldable pub cutting : NamedFiles → Which → List ℕ → Style → Steps (List Word)
cutting held which name style = do
  bytes ← taking held which name
  gives (tokens_of style bytes)

-- taking a file of this name, and reading it in a format
unfoldable pub reading_file : NamedFiles → List ℕ → Slack → Format → Steps Read
reading_file held name slack format = do
  bytes ← taking held Source name
  ends (text_end Source (problem_of slack format bytes))

-- the same, and then making it what a command wants, and checking its limits
unfoldable pub checking_file : NamedFiles → List ℕ → Format → Command → Steps Read
checking_file held name format command = do
  read ← reading_file held name command.slack format
  ends (limited command read)
