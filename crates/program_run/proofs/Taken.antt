-- What the steps that take a file have found where they succeed.
use Rattle.program_run.proofs.Common.{nat_tests, arith, ◌≡◌, ℕ, List, Ok, Some, None, NamedFiles, limit_fault, Origin, Command, Read, problem_of, ends, text_end, limited, format_in, sourcing, reading_source, checking, wanted, IsTextIn, bound}
use Rattle.command_words.specs.declared.names.Which.TheVariants.{Source}

sourced_is_held : (held : NamedFiles) (origin : Origin) (text : List ℕ)
    → (sourcing held origin).end ≡ Some (Ok text) → IsTextIn held origin text
unfolding sourcing
sourced_is_held held origin text e = grind (arith, nat_tests)

-- the source's text is held or drawn, and what it is read into is this as the command wants it
pub record IsTaken (held : NamedFiles) (command : Command) (made : Read)
    : Type 0 where
  pub text : List ℕ
  pub found : IsTextIn held command.origin text
  pub own : Read
  pub read : problem_of command.slack (format_in command.origin) text ≡ Ok own
  pub given : wanted command own ≡ made
  pub within : limit_fault command.choices.normal made.problem ≡ None

pub source_is_taken : (held : NamedFiles) (command : Command) (read : Read)
    → (checking held command).end ≡ Some (Ok read) → IsTaken held command read
unfolding checking reading_source
source_is_taken held command read e =
    let origin = command.origin in
    let slack = command.slack in
    let checked = bound (reading_source held slack origin) (λ r. ends (limited command r)) read e in
    let within : limited command checked.0 ≡ Ok read = let two = checked.2 in cc in
    let taken = bound (sourcing held origin)
    (λ text. ends (text_end Source (problem_of slack (format_in origin) text))) checked.0 checked.1 in
    grind (arith, nat_tests, sourced_is_held)
