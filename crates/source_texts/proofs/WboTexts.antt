-- WBO texts: the problems that they are rewritten to stand for what they say.
use Rattle.source_texts.proofs.Common.{ℤ, Bool, Option, sym, ap, ◌∙◌, subst, Cost, IsOf, Rewrites, ProblemContent, IsGlobal, cut_off, own_cost, problem_cost, WboContent, rewritten, extended, top_is_a_bound, rewritten_for, arith, nat_tests, ◌≡◌, List, Ok, refl, Word, ◌>>=◌, WboText, content_of, content_of_words, reading_keeps_costs_of_text, carries_assignments, content_is_normal, rewrites_its_text, Read, None, Slack, eased, StandsBounded, CostsAs}
use Rattle.command_words.specs.declared.commands.Format.TheVariants as formats
use Rattle.command_words.specs.declared.commands.Slack.TheVariants.{Bits, Pairs, Clauses}
use Rattle.problem_form.specs.Problems as problems
use Rattle.wbo_reader.specs.Reading.{form_of, reading_of_words}
use Rattle.source_texts.specs.Sources as sources
use Rattle.source_texts.proofs.Bounded.{rewritten_stand}
use Rattle.source_texts.proofs.Readings.{AreRead, kept_as, source_by}

-- ---- what soft constraints are rewritten to

-- a problem with the variables and the costs of what these soft constraints are rewritten to
record IsRewriting (w : WboContent) (p : ProblemContent) : Type 0 where
  variables : p.variables ≡ (rewritten w).variables
  costs : (x : List Bool) → problem_cost p x ≡ own_cost (rewritten w) x
  alike : IsGlobal p

rewriting_for : (slack : Slack) (w : WboContent) → IsRewriting w (rewritten_for slack w)
rewriting_for Bits w = record { variables = refl; costs = λ x. refl; alike = refl }
rewriting_for Pairs w = record { variables = refl; costs = λ x. refl; alike = refl }
rewriting_for Clauses w =
    record { variables = refl; costs = λ x. (top_is_a_bound w).costs None x; alike = refl }

-- what is cut off twice is cut off once
cut_off-again : (most : Option ℤ) (c : Cost) → cut_off most (cut_off most c) ≡ cut_off most c
cut_off-again most c = grind (arith, nat_tests)

-- ---- of a text

-- the problem that a text is rewritten to
abbrev kept : Slack → WboText → Read
kept slack t = eased slack (content_of t)

same_form : (w : WboContent) (p : ProblemContent) → IsRewriting w p
    → problems.form_of (rewritten w) ≡ problems.form_of p
same_form w p is = λ i. record {
  bits = sym is.variables i;
  cost = λ x. sym (is.costs x) i;
}

rewritten_stands : (slack : Slack) (t : WboText)
    → StandsBounded (source_by form_of (kept slack) t) (kept slack t)
rewritten_stands slack t =
    let is = rewriting_for slack (content_of t) in
    rewritten_stand (source_by form_of (kept slack) t) (kept slack t) refl refl is.alike
    (subst (Rewrites (form_of t)) (same_form (content_of t) (rewritten_for slack (content_of t)) is)
    (rewrites_its_text t))

-- an assignment costs what its text says, in what it is rewritten to and where it is told
carried_costs : (t : WboText) (x : List Bool) → IsOf (form_of t) x
    → own_cost (rewritten (content_of t)) (extended (content_of t) x) ≡ (form_of t).cost x
carried_costs t x w =
    (carries_assignments (content_of t) (content_is_normal t) x w).costs ∙ reading_keeps_costs_of_text t x

rewritten_costs : (slack : Slack) (t : WboText)
    → CostsAs None (source_by form_of (kept slack) t) (kept slack t)
rewritten_costs slack t =
    let w = content_of t in
    let p = rewritten_for slack w in
    let is = rewriting_for slack w in
    record {
      own = refl;
      width = λ x wide. (carries_assignments w (content_is_normal t) x wide).width ∙ sym is.variables;
      begins = λ x wide. (carries_assignments w (content_is_normal t) x wide).begins;
      same = carried_costs t;
      told = λ x wide.
          let y = extended w x in
          ap (cut_off p.most) (sym (is.costs y)) ∙ cut_off-again p.most (own_cost p y) ∙ is.costs y
          ∙ carried_costs t x wide;
      carries = λ x wide. is.costs (extended w x) ∙ carried_costs t x wide;
      plain = λ none. absurd cc;
      plain_most = λ none. absurd cc;
    }

pub wbo_read : (slack : Slack) → AreRead form_of (λ t. eased slack (content_of t))
wbo_read slack = record { stands = rewritten_stands slack; costs = rewritten_costs slack }

-- words are read into the source of their reader
pub wbo_words : (slack : Slack) (ws : List Word) → sources.problem_of_words slack formats.Wbo ws
    ≡ (content_of_words ws >>= λ w. Ok (eased slack w))
unfolding content_of_words
wbo_words slack ws = kept_as (reading_of_words ws) content_of (eased slack)
