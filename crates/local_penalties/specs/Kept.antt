-- Prices that are kept between rounds.
use Rattle.std.specs.Prelude.{◌≡◌, ℕ, ◌*◌, Bool, false, List, length, None}
use Rattle.literal_lists.specs.declared.literal.Literal.{Literal}
use Rattle.problem_form.specs.declared.limits.Normal.{Normal}
use Rattle.problem_form.specs.declared.penalties.PartPenalties.{PartPenalties}
use Rattle.problem_form.specs.Limits.{limit_fault}
use Rattle.problem_form.specs.Problems.{ProblemContent}
use Rattle.local_penalties.specs.Prices.{price}
use Rattle.local_penalties.specs.Tallies.{is_marked, number_of}

-- the counted numbers of a problem are within their limits, in some normal form
abbrev pub IsWithinLimits : ProblemContent → Type 0
IsWithinLimits p = (normal : Normal) × (limit_fault normal p ≡ None)

-- the numbers are the prices of literals by these penalties, and no literal is marked
pub record ArePrices (p : ProblemContent) (found : PartPenalties) (ns : List ℕ) (marks : List Bool) : Type 0 where
  pub places : length ns ≡ 2 * p.variables
  pub marks_places : length marks ≡ 2 * p.variables
  pub unmarked : (l : Literal) → is_marked marks l ≡ false
  pub prices : (l : Literal) → number_of ns l ≡ price p found l
