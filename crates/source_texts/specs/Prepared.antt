-- Problems that are built in code, as models are to be made of them.
use Rattle.std.specs.Prelude.{ℤ, Option}
use Rattle.base.specs.Costs.{Form}
use Rattle.form_steps.specs.declared.scope.PenaltyScope.{PenaltyScope}
use Rattle.form_steps.specs.declared.scope.PenaltyScope.TheVariants.{Global, Local}
use Rattle.problem_form.specs.declared.limits.LimitFault.{LimitFault}
use Rattle.problem_form.specs.Problems.{ProblemContent, cut_off}
use Rattle.problem_form.specs.NormalForm.{with_most, with_penalties}
use Rattle.local_penalties.specs.Rounds.{penalties_of}
use Rattle.problem_form.specs.Limits.{lesser_most}
use Rattle.source_texts.specs.Sources.{with_slack}
use Rattle.source_texts.specs.declared.preparing.Preparation.{Preparation}
use Rattle.source_texts.specs.declared.preparing.PrepareAnswer.{PrepareAnswer}
use Rattle.source_texts.specs.declared.preparing.PrepareAnswer.TheVariants.{Limit, NoMemory}

-- a form whose assignments may cost at most this, where it is given: those that cost more are
-- infeasible
abbrev pub bounded_form : Option ℤ → Form → Form
bounded_form most f = record { bits = f.bits; cost = λ x. cut_off most (f.cost x) }

-- a problem whose assignments may cost at most this, and at most what they may already
abbrev pub with_bound : Option ℤ → ProblemContent → ProblemContent
with_bound most p = with_most p (lesser_most most p.most)

-- a problem with the penalties of a scope
abbrev pub with_scope : PenaltyScope → ProblemContent → ProblemContent
with_scope Global p = p
with_scope Local p = with_penalties p (penalties_of p)

-- a problem with the slack and the bound that are wanted: its limits are checked
abbrev pub limited : Preparation → ProblemContent → ProblemContent
limited wanted p = with_bound wanted.bound (with_slack wanted.slack p)

-- .. and with its penalties
abbrev pub prepared : Preparation → ProblemContent → ProblemContent
prepared wanted p = with_scope wanted.penalty (limited wanted p)

-- a fact of the limit that is passed, where one is
abbrev pub IfLimit : PrepareAnswer → (LimitFault → Type 0) → Type 0
IfLimit (Limit fault) P = P fault
IfLimit NoMemory P = Unit {0}
