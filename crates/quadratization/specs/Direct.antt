-- The quadratic form of a problem at once: penalties for hard clauses and constraints, quadratic
-- terms in place of longer ones, and all multiplied out.
use Rattle.problem_form.specs.Problems.{ProblemContent}
use Rattle.term_table.specs.Tables.{TableContent}
use Rattle.penalty_layer.specs.Penalty.{contributions, node_count}
use Rattle.penalty_layer.specs.Penalty as penalty
use Rattle.monomial_layer.specs.Monomials as monomials
use Rattle.quad_form.specs.Quads.{QuadContent}
use Rattle.quad_form.specs.Flat as flat

-- what a problem adds
abbrev pub additions_of : ProblemContent → TableContent
additions_of p = record { width = node_count p; terms = contributions p }

-- the image of the three steps
abbrev pub image : ProblemContent → QuadContent
image p = flat.image (monomials.image (penalty.image p))
