-- A problem that is prepared costs what it did, cut off at the bound, and has the penalties of its scope.
use Rattle.source_texts.proofs.Common.{nat_tests, arith, ◌≡◌, refl, sym, ap, ◌∙◌, subst, ProblemContent, Slack, with_slack, Read, KeepsSoft}
use Rattle.std.specs.Prelude.{Result, Ok, Err, OnOk, OnErr}
use Rattle.form_steps.specs.declared.scope.PenaltyScope.{PenaltyScope}
use Rattle.form_steps.specs.declared.scope.PenaltyScope.TheVariants.{Global, Local}
use Rattle.problem_form.specs.declared.limits.Normal.{Normal}
use Rattle.problem_form.specs.declared.penalties.PartPenalties.{PartPenalties}
use Rattle.problem_form.specs.Limits.{limit_fault}
use Rattle.problem_form.specs.NormalForm.{with_penalties}
use Rattle.local_penalties.specs.Rounds.{penalties_of}
use Rattle.problem_form.specs.Problems.{form_of}
use Rattle.source_texts.specs.declared.preparing.Preparation.{Preparation}
use Rattle.source_texts.specs.Prepared.{bounded_form, limited, prepared, with_scope}
use Rattle.source_texts.proofs.Bounded.{cut_twice}
use Rattle.source_texts.proofs.Slacked.{slack-alike}

form-slack : (slack : Slack) (p : ProblemContent) → form_of (with_slack slack p) ≡ form_of p
form-slack slack p =
    let alike = slack-alike slack p in
    λ i. record { bits = alike.variables i; cost = λ x. alike.costs x i }

form-scope : (scope : PenaltyScope) (p : ProblemContent) → form_of (with_scope scope p) ≡ form_of p
form-scope Global p = refl
form-scope Local p = refl

pub form-prepared : (wanted : Preparation) (p : ProblemContent)
    → form_of (prepared wanted p) ≡ bounded_form wanted.bound (form_of p)
form-prepared wanted p =
    form-scope wanted.penalty (limited wanted p)
    ∙ sym (cut_twice wanted.bound (with_slack wanted.slack p))
    ∙ ap (bounded_form wanted.bound) (form-slack wanted.slack p)

-- limits do not look at penalties
limits_alike : (normal : Normal) (p : ProblemContent) (penalties : PartPenalties)
    → limit_fault normal (with_penalties p penalties) ≡ limit_fault normal p
limits_alike normal p penalties = grind (arith, nat_tests)

pub limits-scope : (scope : PenaltyScope) (normal : Normal) (p : ProblemContent)
    → limit_fault normal (with_scope scope p) ≡ limit_fault normal p
limits-scope Global normal p = refl
limits-scope Local normal p = limits_alike normal p (penalties_of p)

-- soft constraints are kept beside it
keeps_with : (scope : PenaltyScope) (r : Read) → KeepsSoft r
    → KeepsSoft (record r { problem = with_scope scope r.problem })
keeps_with Global r kept = kept
keeps_with Local r kept = grind (arith, nat_tests)

pub keeps_scope : {T E : Type 0} (result : Result T E) (scope : PenaltyScope) (r : Read)
    (q : ProblemContent) → OnOk result (q ≡ with_scope scope r.problem)
    → OnErr result (q ≡ r.problem) → KeepsSoft r → KeepsSoft (record r { problem = q })
keeps_scope (Ok x) scope r q given same kept =
    let Keeps : ProblemContent → Type 0 = λ p. KeepsSoft (record r { problem = p }) in
    subst Keeps (sym given) (keeps_with scope r kept)
keeps_scope (Err e) scope r q given same kept =
    let Keeps : ProblemContent → Type 0 = λ p. KeepsSoft (record r { problem = p }) in
    subst Keeps (sym same) kept
