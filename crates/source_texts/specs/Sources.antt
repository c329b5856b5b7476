-- What a text says in a format, and the problem that it is read into: a line a format.
use Rattle.std.specs.Prelude.{⊤, ◌≡◌, ◌⊎◌, ℕ, ℤ, ◌≤◌, Bool, List, length, take, Ok, Option, Some, None, Result}
use Rattle.std.specs.Option.{option_map}
use Rattle.std.specs.Result.{result_ok}
use Rattle.base.specs.declared.costs.Cost.{Cost}
use Rattle.base.specs.declared.costs.Cost.TheVariants.{Infinite}
use Rattle.base.specs.declared.costs.Figures.{Figures}
use Rattle.base.specs.Costs.{Form, IsOf, Source}
use Rattle.form_steps.specs.Relations.{Decoding, RelaxesBy, Rewrites, StaysAbove, first_decoded}
use Rattle.form_steps.specs.declared.scope.PenaltyScope.{PenaltyScope}
use Rattle.form_steps.specs.declared.scope.PenaltyScope.TheVariants.{Global, Local}
use Rattle.whole_text.specs.declared.faults.TextFault.{TextFault}
use Rattle.whole_text.specs.declared.token.Style.{Style}
use Rattle.whole_text.specs.declared.token.Style.TheVariants as styles
use Rattle.whole_text.specs.Tokens.{Word, tokens_of}
use Rattle.whole_text.specs.Steps.{◌>>=◌}
use Rattle.problem_form.specs.Problems.{ProblemContent, cut_off, own_cost, problem_cost}
use Rattle.problem_form.specs.Problems as problems
use Rattle.problem_form.specs.PartPenalties.{AreEnough}
use Rattle.problem_form.specs.NormalForm.{normal_form, with_most, with_penalties}
use Rattle.penalty_layer.specs.Penalty.{Allows}
use Rattle.local_penalties.specs.Rounds.{penalties_of}
use Rattle.conflict_clauses.specs.Conflicts.{without_conflicts, without_covers}
use Rattle.problem_form.specs.Limits.{lesser_of, upper, lesser_most}
use Rattle.command_words.specs.declared.commands.Format.{Format}
use Rattle.command_words.specs.declared.commands.Format.TheVariants.{Wcnf, Opb, Wbo, Poly, Ising, Qubo}
use Rattle.command_words.specs.declared.commands.Slack.{Slack}
use Rattle.command_words.specs.declared.commands.Slack.TheVariants.{Bits, Pairs, Clauses}
use Rattle.wcnf_reader.specs.Wcnf as wcnf
use Rattle.wcnf_reader.specs.Cost as wcnf_cost
use Rattle.opb_reader.specs.Opb as opb
use Rattle.opb_reader.specs.Cost as opb_cost
use Rattle.poly_reader.specs.declared.reading.Polynomial.{Polynomial}
use Rattle.poly_reader.specs.Poly as poly
use Rattle.poly_reader.specs.Numbering as poly_names
use Rattle.poly_reader.specs.Cost as poly_cost
use Rattle.entry_reader.specs.declared.layout.Layout.TheVariants as layouts
use Rattle.entry_reader.specs.Entries as entries
use Rattle.entry_reader.specs.Problems as entry_problems
use Rattle.entry_reader.specs.Cost as entry_cost
use Rattle.wbo_reader.specs.Wbo.{WboContent}
use Rattle.wbo_reader.specs.Rewriting.{rewritten, rewritten_within, extended}
use Rattle.wbo_reader.specs.Reading as wbo
use Rattle.source_texts.specs.declared.reading.Read.{Read}

-- ---- the words of a text

-- how the texts of a format are cut into words
abbrev pub style_of : Format → Style
style_of Opb = styles.Opb
style_of Wbo = styles.Wbo
style_of format = styles.Plain

-- the words of a text
abbrev pub words_in : Format → List ℕ → List Word
words_in format text = tokens_of (style_of format) text

-- ---- what a text says, as it is written

-- the variables and the costs that words say, or their first fault
abbrev pub form_of_words : Format → List Word → Result Form TextFault
form_of_words Wcnf ws = wcnf.reading_of_words ws >>= λ s. Ok (wcnf_cost.form_of s)
form_of_words Opb ws = opb.reading_of_words ws >>= λ s. Ok (opb_cost.form_of s)
form_of_words Wbo ws = wbo.reading_of_words ws >>= λ s. Ok (wbo.form_of s)
form_of_words Poly ws = poly.reading_of_words ws >>= λ s. Ok (poly_cost.form_of s)
form_of_words Ising ws =
    entries.listing_of layouts.Ising ws >>= λ s. Ok (entry_cost.form_of layouts.Ising s)
form_of_words Qubo ws =
    entries.listing_of layouts.Qubo ws >>= λ s. Ok (entry_cost.form_of layouts.Qubo s)

-- those that a text says, or its first fault
abbrev pub form_said : Format → List ℕ → Result Form TextFault
form_said format text = form_of_words format (words_in format text)

-- the names of a text's variables, where it has names for them
abbrev pub names_of : Format → List ℕ → Option (List (List ℕ))
names_of Poly text =
    option_map poly_names.names_of (result_ok (poly.reading_of_words (words_in Poly text)))
names_of format text = None

-- ---- the problem that it is read into

-- a problem whose variables are all the source's own
abbrev pub own : ProblemContent → Read
own p = record { problem = p; variables = p.variables; names = None; soft = None }

-- a problem as written, whose variables are all the source's own, in normal form
abbrev pub plain : ProblemContent → Read
plain p = own (normal_form p)

-- a problem whose variables have names
abbrev pub named : Polynomial → Read
named q = record (own q.problem) { names = Some q.names }

-- the problem that soft constraints are rewritten to; where clauses take the place of constraints, so
-- does a bound in the place of that of the top
abbrev pub rewritten_for : Slack → WboContent → ProblemContent
rewritten_for Clauses w = rewritten_within w
rewritten_for slack w = rewritten w

-- the problem that a source of soft constraints is rewritten to, which has its variables first
abbrev pub eased : Slack → WboContent → Read
eased slack w =
    record { problem = rewritten_for slack w; variables = w.variables; names = None; soft = Some w }

-- what words are read into, or their first fault; how constraints get their slack says how soft ones
-- are rewritten
abbrev pub problem_of_words : Slack → Format → List Word → Result Read TextFault
problem_of_words slack Wcnf ws = wcnf.reading_of_words ws >>= λ s. Ok (plain (wcnf_cost.problem_of s))
problem_of_words slack Opb ws = opb.reading_of_words ws >>= λ s. Ok (plain (opb_cost.problem_of s))
problem_of_words slack Wbo ws = wbo.reading_of_words ws >>= λ s. Ok (eased slack (wbo.content_of s))
problem_of_words slack Poly ws = poly.reading_of_words ws >>= λ s. Ok (named (poly_cost.polynomial_of s))
problem_of_words slack Ising ws =
    entries.listing_of layouts.Ising ws >>= λ s. Ok (plain (entry_problems.problem_of layouts.Ising s))
problem_of_words slack Qubo ws =
    entries.listing_of layouts.Qubo ws >>= λ s. Ok (plain (entry_problems.problem_of layouts.Qubo s))

-- what a text is read into, or its first fault
abbrev pub problem_of : Slack → Format → List ℕ → Result Read TextFault
problem_of slack format text = problem_of_words slack format (words_in format text)

-- ---- the source that it says

-- the source that a text says: what it says as it is written, and the upper bound of the problem that
-- it is read into
abbrev pub source_of : Slack → Format → List ℕ → Result Source TextFault
source_of slack format text =
    form_said format text
    >>= λ f. problem_of slack format text >>= λ r. Ok (record { form = f; upper = upper r.problem })

-- a source whose assignments may cost at most this, where it is given: those that cost more are
-- infeasible
abbrev pub bounded : Option ℤ → Source → Source
bounded most s = record {
  form = record { bits = s.form.bits; cost = λ x. cut_off most (s.form.cost x) };
  upper = lesser_of most s.upper;
}

-- what was read, where assignments may cost at most this, and at most what they may already
abbrev pub bounded_read : Option ℤ → Read → Read
bounded_read most r =
    record r { problem = with_most r.problem (lesser_most most r.problem.most) }

-- a problem whose constraints get their slack so: from bits alone, or with clauses in place of
-- conflicts, or of conflicts and covers
abbrev pub with_slack : Slack → ProblemContent → ProblemContent
with_slack Bits p = p
with_slack Pairs p = without_conflicts p
with_slack Clauses p = without_covers p

-- what was read, where the constraints of its problem get their slack so
abbrev pub slacked : Slack → Read → Read
slacked slack r = record r { problem = with_slack slack r.problem }

-- what was read, with the penalties of the hard parts of its problem
abbrev pub penalized : PenaltyScope → Read → Read
penalized Global r = r
penalized Local r = record r { problem = with_penalties r.problem (penalties_of r.problem) }

-- the words of a text say what the text says
abbrev pub WordsAreReadAsTexts : Type 0
WordsAreReadAsTexts = (slack : Slack) (format : Format) (text : List ℕ)
    → problem_of slack format text ≡ problem_of_words slack format (tokens_of (style_of format) text)

-- ---- soft constraints

-- the assignment of the problem that stands for one of the source: it has a bit more for each soft
-- constraint, which is 1 where the constraint fails
abbrev pub carried : Option WboContent → List Bool → List Bool
carried None x = x
carried (Some w) x = extended w x

-- what an assignment costs: in what these soft constraints are rewritten to or, without them, as a
-- problem without soft constraints says
abbrev pub cost_by : Option WboContent → (List Bool → Cost) → List Bool → Cost
cost_by None cost x = cost x
cost_by (Some w) cost x = own_cost (rewritten w) (extended w x)

-- what an assignment of the source costs, whatever the most is that it may cost
abbrev pub said_cost : Read → List Bool → Cost
said_cost r x = cost_by r.soft (own_cost r.problem) x

-- the problem has the variables of what these soft constraints are rewritten to, and no whole cost but
-- theirs, whatever the most is that they may be
pub record IsEasedFrom (w : WboContent) (r : Read) : Type 0 where
  -- the variables of the soft constraints are the source's own
  pub own : w.variables ≡ r.variables
  -- the problem has them first, and then the bits of the soft constraints
  pub variables : r.problem.variables ≡ (rewritten w).variables
  -- each assignment costs in what they are rewritten to what it costs in the problem, or it is
  -- infeasible there
  pub costs : (x : List Bool)
      → (own_cost (rewritten w) x ≡ own_cost r.problem x) ⊎ (own_cost (rewritten w) x ≡ Infinite)

-- the problem has no variables but the source's, or those of what these soft constraints are rewritten
-- to
abbrev pub IsRewrittenFrom : Option WboContent → Read → Type 0
IsRewrittenFrom None r = r.variables ≡ r.problem.variables
IsRewrittenFrom (Some w) r = IsEasedFrom w r

-- the soft constraints of the source are kept beside the problem that they are rewritten to
abbrev pub KeepsSoft : Read → Type 0
KeepsSoft r = IsRewrittenFrom r.soft r

-- ---- what a problem stands for

-- the problem has the source's variables first and its upper bound, its costs stand for those of the
-- source, and its penalties are such as the scope asks
pub record StandsFor (scope : PenaltyScope) (s : Source) (r : Read) : Type 0 where
  pub variables : r.variables ≡ s.form.bits
  pub own : r.variables ≤ r.problem.variables
  pub upper : upper r.problem ≡ s.upper
  pub rewrites : Rewrites s.form (problems.form_of r.problem)
  pub penalties : Allows scope r.problem

-- the problem stands for the source, whatever the most is that assignments of both may cost, and no part
-- of it has a penalty of its own
abbrev pub StandsBounded : Source → Read → Type 0
StandsBounded s r = (most : Option ℤ) → StandsFor Global (bounded most s) (bounded_read most r)

-- where a text is read into a problem, it says a source, for which the problem stands
abbrev pub ProblemsStandForSources : Type 0
ProblemsStandForSources =
    (slack : Slack) (format : Format) (text : List ℕ) (r : Read) → problem_of slack format text ≡ Ok r
    → (s : Source) × (source_of slack format text ≡ Ok s) × StandsBounded s r

-- what relaxes a problem, in each scope, relaxes the source that it stands for, decoded to the source's
-- variables
abbrev pub RelaxesStoodFor : Type 0
RelaxesStoodFor =
    (scope : PenaltyScope) (s : Source) (r : Read) → StandsFor scope s r
    → (g : Form) (d : Decoding) (u : ℤ) (n : Figures)
    → RelaxesBy scope (problems.form_of r.problem) g d u n
    → RelaxesBy scope s.form g (first_decoded s.form.bits d) u n

-- ---- what a problem costs

-- each assignment is carried to one of the problem that begins with it and costs there, cut off at the
-- problem's most, what it costs in the source, cut off at this most; so does what is told of it, which is
-- what it costs in the source; without soft constraints each list of bits costs the same in both
pub record CostsAs (most : Option ℤ) (s : Source) (r : Read) : Type 0 where
  pub own : r.variables ≡ s.form.bits
  pub width : (x : List Bool) → IsOf s.form x → length (carried r.soft x) ≡ r.problem.variables
  pub begins : (x : List Bool) → IsOf s.form x → take s.form.bits (carried r.soft x) ≡ x
  pub same : (x : List Bool) → IsOf s.form x → said_cost r x ≡ s.form.cost x
  pub told : (x : List Bool) → IsOf s.form x
      → cut_off r.problem.most (said_cost r x) ≡ cut_off most (s.form.cost x)
  pub carries : (x : List Bool) → IsOf s.form x
      → problem_cost r.problem (carried r.soft x) ≡ cut_off most (s.form.cost x)
  pub plain : r.soft ≡ None → (x : List Bool) → own_cost r.problem x ≡ s.form.cost x
  pub plain_most : r.soft ≡ None → r.problem.most ≡ most

-- a problem that a text is read into costs what the source costs that the text says
abbrev pub ProblemsCostAsSources : Type 0
ProblemsCostAsSources =
    (slack : Slack) (format : Format) (text : List ℕ) (r : Read) (s : Source) (most : Option ℤ)
    → problem_of slack format text ≡ Ok r → source_of slack format text ≡ Ok s
    → CostsAs most s (bounded_read most r)

-- without soft constraints the problem has the source's variables alone
abbrev pub PlainOwnsAll : Type 0
PlainOwnsAll =
    (most : Option ℤ) (s : Source) (r : Read) → CostsAs most s r → r.soft ≡ None
    → r.problem.variables ≡ s.form.bits

-- and what no state of a form lies below of the problem, none lies below of the source
abbrev pub StaysStoodFor : Type 0
StaysStoodFor =
    (most : Option ℤ) (s : Source) (r : Read) → CostsAs most s r → r.soft ≡ None
    → (g : Form) (d : Decoding) (u : ℤ) (n : Figures)
    → ((y : List Bool) → IsOf g y → IsOf (problems.form_of r.problem) (d.decoded y))
    → StaysAbove (problems.form_of r.problem) g d u n
    → StaysAbove (bounded most s).form g (first_decoded s.form.bits d) u n

-- ---- without conflicts and covers

-- what stands for a source stands for it still, however its constraints get their slack
abbrev pub SlackedStandsForSources : Type 0
SlackedStandsForSources =
    (slack : Slack) (s : Source) (r : Read) → StandsBounded s r → StandsBounded s (slacked slack r)

-- and it costs what it did
abbrev pub SlackedCostsAsSources : Type 0
SlackedCostsAsSources =
    (slack : Slack) (most : Option ℤ) (s : Source) (r : Read) → CostsAs most s (bounded_read most r)
    → CostsAs most s (bounded_read most (slacked slack r))

-- a weighted CNF has no constraints, and so no conflicts and no covers
abbrev pub ClausesHaveNoConflicts : Type 0
ClausesHaveNoConflicts =
    (slack : Slack) (text : List ℕ) (r : Read) → problem_of slack Wcnf text ≡ Ok r
    → slacked slack r ≡ r

-- ---- with penalties

-- the penalties of the hard parts are enough, where they have their own
abbrev pub AreEnoughIn : PenaltyScope → Read → Type 0
AreEnoughIn Global r = ⊤
AreEnoughIn Local r = AreEnough r.problem

-- what stands for a source stands for it in a scope with the penalties of that scope, where they are
-- enough
abbrev pub PenalizedStandsForSources : Type 0
PenalizedStandsForSources =
    (scope : PenaltyScope) (s : Source) (r : Read) → StandsFor Global s r
    → AreEnoughIn scope (penalized scope r) → StandsFor scope s (penalized scope r)

-- and it costs what it did
abbrev pub PenalizedCostsAsSources : Type 0
PenalizedCostsAsSources =
    (scope : PenaltyScope) (most : Option ℤ) (s : Source) (r : Read) → CostsAs most s r
    → CostsAs most s (penalized scope r)
