-- The text of a sample is read, and passes no limit.
use Rattle.run_steps.proofs.Common.{nat_tests, arith, refl, IfOk, IfErr, Gives, TextAnswer, Status, Source, NoMemory, judged, ◌≡◌, ℕ, ◌≤◌, List, Ok, Err, None, Result, ap, sym, subst, ◌∙◌, TextFault, ProblemContent, limit_fault, Command, Slack, penalized, prepared, Normal, sample_text, each_sample_is_read, Read, own, problem_of, IsDrawnFor, IsDrawnInto, clauses_have_no_conflicts, wcnf_problem, Wcnf}
use Rattle.whole_text.specs.Steps.{◌>>=◌}
use Rattle.whole_text.specs.declared.faults.TextAnswer.TheVariants as answers
use Rattle.command_words.specs.declared.commands.Slack.TheVariants.{Bits}
use Rattle.problem_form.specs.declared.limits.Normal.TheVariants.{Literal}
use Rattle.command_words.specs.Bounds.{most_of}
use Rattle.source_texts.specs.Sources.{bounded_read}
use Rattle.run_steps.proofs.BoundedLimits.{within_bounded}

-- a weighted CNF has no bound
unbounded : (text : List ℕ) (r : Read) → problem_of Bits Wcnf text ≡ Ok r → r.problem.most ≡ None
unbounded text r e = grind (arith, nat_tests)

-- there is something that it is read into
read_into : (number clauses : ℕ) (normal : Normal) → clauses ≤ 100000
    → (read : Read) × IsDrawnInto number clauses normal read
read_into number clauses normal few =
    let law = each_sample_is_read number clauses normal few in
    let from : (slack : Slack) → problem_of slack Wcnf (sample_text number clauses) ≡ Ok (own law.0) =
    λ slack. wcnf_problem slack (sample_text number clauses)
    ∙ ap (λ (r : Result ProblemContent TextFault). r >>= λ p. Ok (own p)) law.1 in
    let free = unbounded (sample_text number clauses) (own law.0) (from Bits) in (
      own law.0,
      record {
        from = from;
        within = λ most. within_bounded normal law.0 (bounded_read most (own law.0)).problem.most free law.2;
      },
    )

pub drawn_is_read : (number clauses : ℕ) (read : Read) → clauses ≤ 100000
    → problem_of Bits Wcnf (sample_text number clauses) ≡ Ok read
    → (normal : Normal) → IsDrawnInto number clauses normal read
drawn_is_read number clauses read few e normal =
    let into = read_into number clauses normal few in
    let same : into.0 ≡ read = let one = into.1.from Bits in cc in
    subst (IsDrawnInto number clauses normal) same into.1

pub drawn_has_no_fault : (number clauses : ℕ) (fault : TextFault) → clauses ≤ 100000
    → problem_of Bits Wcnf (sample_text number clauses) ≡ Err fault → ⊥
drawn_has_no_fault number clauses fault few e =
    let one = (read_into number clauses Literal few).1.from Bits in
    grind (arith, nat_tests)

-- so it is what is made of a text that is judged, which is refused for want of memory alone
pub drawn_is_judged : (number clauses : ℕ) (text : List ℕ) (read : Result Read TextAnswer)
    (result : Result Read Status) → clauses ≤ 100000 → text ≡ sample_text number clauses
    → Gives (λ r. r) read (problem_of Bits Wcnf text) → result ≡ judged Source read
    → IfOk result (λ r. (normal : Normal) → IsDrawnInto number clauses normal r)
    × IfErr result (λ status. status ≡ NoMemory)
drawn_is_judged number clauses text read result few is gives same =
    rw same (go read (subst (λ t. Gives (λ r. r) read (problem_of Bits Wcnf t)) is gives))
  where
    go : (r : Result Read TextAnswer) → Gives (λ r. r) r (problem_of Bits Wcnf (sample_text number clauses))
        → IfOk (judged Source r) (λ r. (normal : Normal) → IsDrawnInto number clauses normal r)
        × IfErr (judged Source r) (λ status. status ≡ NoMemory)
    go (Ok x) e = (drawn_is_read number clauses x few e, tt)
    go (Err (answers.Bad fault)) e = absurd (drawn_has_no_fault number clauses fault few e)
    go (Err answers.NoMemory) e = (tt, refl)

-- it passes no limit with the slack and the bound of a command
pub drawn_within : (number clauses : ℕ) (command : Command) (read given : Read)
    → IsDrawnInto number clauses command.choices.normal read → given ≡ prepared command read
    → limit_fault command.choices.normal given.problem ≡ None
drawn_within number clauses command read given drawn is =
    let most = most_of command.bound in
    let same = clauses_have_no_conflicts command.slack (sample_text number clauses) read
    (drawn.from command.slack) in
    subst (λ (r : Read). limit_fault command.choices.normal r.problem ≡ None)
    (sym (is ∙ ap (bounded_read most) same)) (drawn.within most)

-- with penalties too it is what a command wants of it
pub drawn_for : (number clauses : ℕ) (command : Command) (own given made : Read)
    → IsDrawnInto number clauses command.choices.normal own → given ≡ prepared command own
    → made ≡ penalized command.penalty given → IsDrawnFor number clauses command made
drawn_for number clauses command own given made drawn is penal = record {
  own = own;
  from = drawn.from command.slack;
  given = penal ∙ ap (penalized command.penalty) is;
}
