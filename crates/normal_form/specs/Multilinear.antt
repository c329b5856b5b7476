-- The multilinear form: the terms of a table over variables alone.
--
-- Each complement is replaced by 1 - x and everything is multiplied out. Every function of bits has
-- one such form.
use Rattle.std.specs.Prelude.{◌≡◌, ◌≤◌, ◌^◌, unsigned_abs, All, None, []}
use Rattle.problem_form.specs.declared.limits.Normal.TheVariants as normals
use Rattle.problem_form.specs.Problems.{ProblemContent, IsNormal}
use Rattle.problem_form.specs.Limits.{limit_fault}
use Rattle.term_table.specs.Terms.{Term, with_additions}
use Rattle.term_table.specs.Tables.{TableContent}
use Rattle.term_table.specs.MultipliedOut.{contributions, ArePlain}
use Rattle.penalty_layer.specs.Penalty as penalty

-- ---- a table, multiplied out

-- what additions are multiplied out to, one after another
abbrev pub multiplied : TableContent → TableContent
multiplied t = record t { terms = contributions t.terms }

-- the coefficient can be turned
abbrev pub IsSmall : Term → Type 0
IsSmall u = unsigned_abs u.1 ≤ 2 ^ 124

-- the sums of what its terms are multiplied out to
abbrev pub expanded : TableContent → TableContent
expanded t = record t { terms = with_additions [] (contributions t.terms) }

-- no complement is left
abbrev pub IsMultilinear : TableContent → Type 0
IsMultilinear t = All (λ u. ArePlain u.0) t.terms

-- ---- the guard's members

-- the penalty method's table, multiplied out
abbrev pub image : ProblemContent → TableContent
image p = expanded (penalty.image p)

-- a problem in normal form and within the limits of the multilinear form
pub record Admits (p : ProblemContent) : Type 0 where
  pub normal : IsNormal p
  pub within : limit_fault normals.Multilinear p ≡ None
