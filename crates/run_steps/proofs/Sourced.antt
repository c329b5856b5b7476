-- The source of a command, where it is read, within the limits, or refused.
use Rattle.run_steps.proofs.Common.{nat_tests, arith, ◌≡◌, ℕ, List, Ok, Err, Result, Some, None, refl, ◌∙◌, ap, subst, sym, NamedFiles, LimitFault, Normal, PenaltyScope, ProblemContent, limit_fault, Format, Slack, Command, sample_text, Read, problem_of, Status, Refuses, checking, ends, limited, reading_source, sourcing, text_end, penalized, prepared, checking_file, reading_file, IsDrawnFor, Wcnf, Source, Limit}
use Rattle.problem_form.specs.declared.penalties.PartPenalties.{PartPenalties}
use Rattle.problem_form.specs.NormalForm.{with_penalties}
use Rattle.local_penalties.specs.Rounds.{penalties_of}
use Rattle.form_steps.specs.declared.scope.PenaltyScope.TheVariants.{Global, Local}
use Rattle.command_words.specs.declared.commands.Origin.TheVariants.{File, Drawn}
use Rattle.run_steps.proofs.Stepping.{next_end, refuses_on}

-- limits do not look at penalties
limits_alike : (normal : Normal) (p : ProblemContent) (penalties : PartPenalties)
    → limit_fault normal (with_penalties p penalties) ≡ limit_fault normal p
limits_alike normal p penalties = grind (arith, nat_tests)

pub limits_penalized : (scope : PenaltyScope) (normal : Normal) (r : Read)
    → limit_fault normal (penalized scope r).problem ≡ limit_fault normal r.problem
limits_penalized Global normal r = refl
limits_penalized Local normal r = limits_alike normal r.problem (penalties_of r.problem)

-- what is read is what a command wants within its limits, or passes one of them
pub limited_is : (command : Command) (own given made : Read) → given ≡ prepared command own
    → made ≡ penalized command.penalty given
    → limit_fault command.choices.normal given.problem ≡ None → limited command own ≡ Ok made
limited_is command own given made is penal within = grind (arith, nat_tests, limits_penalized)

pub limited_not : (command : Command) (own given : Read) (fault : LimitFault)
    → given ≡ prepared command own → limit_fault command.choices.normal given.problem ≡ Some fault
    → limited command own ≡ Err (Limit Source fault.kind fault.number)
limited_not command own given fault is beyond = grind (arith, nat_tests, limits_penalized)

-- and it is within the limits still
pub within_penalized : (command : Command) (given made : Read)
    → made ≡ penalized command.penalty given
    → limit_fault command.choices.normal given.problem ≡ None
    → limit_fault command.choices.normal made.problem ≡ None
within_penalized command given made penal within = grind (arith, nat_tests, limits_penalized)

-- ---- a file

module _ (held : NamedFiles) (name : List ℕ) (format : Format) (command : Command) where
  pub file_ends : (own : Read) (end : Result Read Status)
      → (reading_file held name command.slack format).end ≡ Some (Ok own) → limited command own ≡ end
      → (checking_file held name format command).end ≡ Some end
  unfolding checking_file
  file_ends own end e is = grind (arith, nat_tests)

  pub file_refuses : (status : Status) → Refuses status (reading_file held name command.slack format)
      → Refuses status (checking_file held name format command)
  unfolding checking_file
  file_refuses status refused = grind (arith, nat_tests, refuses_on)

file_is_read : (held : NamedFiles) (slack : Slack) (format : Format) (name : List ℕ)
    → reading_source held slack (File format name) ≡ reading_file held name slack format
unfolding reading_source sourcing reading_file
file_is_read held slack format name = refl

-- a source in a file is checked as the file is
pub file_is_checked : (held : NamedFiles) (command : Command) (format : Format) (name : List ℕ)
    → command.origin ≡ File format name
    → checking_file held name format command ≡ checking held command
unfolding checking checking_file
file_is_checked held command format name is = grind (arith, nat_tests, file_is_read)

-- ---- a number that draws a text

drawn_reading : (held : NamedFiles) (slack : Slack) (number clauses : ℕ) (r : Read)
    → problem_of slack Wcnf (sample_text number clauses) ≡ Ok r
    → (reading_source held slack (Drawn number clauses)).end ≡ Some (Ok r)
unfolding reading_source sourcing
drawn_reading held slack number clauses r e = ap (λ said. Some (text_end Source said)) e

-- a source that is drawn
pub drawn_is_checked : (held : NamedFiles) (command : Command) (number clauses : ℕ) (given : Read)
    → command.origin ≡ Drawn number clauses
    → IsDrawnFor number clauses command given
    → limit_fault command.choices.normal given.problem ≡ None
    → (checking held command).end ≡ Some (Ok given)
unfolding checking
drawn_is_checked held command number clauses given is drawn within =
    let free : limit_fault command.choices.normal (prepared command drawn.own).problem ≡ None =
    grind (arith, nat_tests, drawn.given, limits_penalized) in
    next_end (reading_source held command.slack command.origin) (λ read. ends (limited command read))
    drawn.own
    (subst (λ o. (reading_source held command.slack o).end ≡ Some (Ok drawn.own)) (sym is)
    (drawn_reading held command.slack number clauses drawn.own drawn.from))
    ∙ ap Some (limited_is command drawn.own (prepared command drawn.own) given refl drawn.given free)
