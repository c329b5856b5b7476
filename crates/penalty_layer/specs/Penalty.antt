-- The penalty method: hard clauses become soft ones, and constraints squares of what their sums are
-- off by, of a weight that no gain outweighs.
--
-- With A the sum of the sizes of the objective's coefficients and of the soft weights, no
-- assignment gains more than A by breaking a hard clause or a constraint, so a penalty of A + 1 for
-- each puts what breaks one above every whole cost. Where an assignment may cost no more than a
-- given most, a penalty that lifts the least cost above that does as well. A part may have a penalty
-- of its own that is less, where what breaks it can be mended at a gain. What a sum may have above
-- its bound is taken off by slack bits. See Boros and Hammer, Pseudo-Boolean optimization (2002).
use Rattle.std.specs.Prelude.{◌≡◌, ℕ, ◌+◌, pos, not, Bool, List, [], ◌∷◌, ◌++◌, map, unwrap_or, None}
use Rattle.std.specs.List.{sum_by, flat_map}
use Rattle.base.specs.declared.costs.Figures.{Figures}
use Rattle.form_steps.specs.declared.scope.PenaltyScope.{PenaltyScope}
use Rattle.form_steps.specs.declared.scope.PenaltyScope.TheVariants.{Global, Local}
use Rattle.form_steps.specs.declared.layer.BitsLink.{BitsLink}
use Rattle.literal_lists.specs.declared.literal.Literal.{Literal}
use Rattle.problem_form.specs.declared.terms.Clause.{Clause}
use Rattle.problem_form.specs.declared.limits.Normal.TheVariants as normals
use Rattle.problem_form.specs.Problems.{ProblemContent, IsNormal}
use Rattle.problem_form.specs.PartPenalties.{own, rest, AreEnough, IsGlobal}
use Rattle.problem_form.specs.Limits.{penalty, upper, slack_bits, limit_fault}
use Rattle.term_table.specs.Terms.{Term, with_additions}
use Rattle.term_table.specs.Tables.{TableContent}
use Rattle.penalty_layer.specs.Squares.{product_term, constraint_terms, slack_state}

-- ---- what each part contributes

-- the complement of a literal
abbrev pub opposite : Literal → Literal
opposite l = record { variable = l.variable; negated = not l.negated }

-- A clause is violated where the complements of its literals are all true; then it adds its weight,
-- or the penalty n. The clause x or not y is violated where not x and y are true, so its term is
-- its weight times these two.
abbrev pub clause_term : ℕ → Clause → Term
clause_term n c = (map opposite c.literals, pos (unwrap_or c.weight n))

-- each clause with its weight, and a hard one with its penalty, its own or that of the whole
abbrev pub clause_terms : ℕ → List ℕ → List Clause → List Term
clause_terms n ns [] = []
clause_terms n ns (c ∷ cs) = clause_term (own n ns) c ∷ clause_terms n (rest ns) cs

-- The constant, the objective's products and the clauses, in their order. A product that stands
-- twice is two terms here, and one in the table.
abbrev pub plain_terms : ProblemContent → List Term
plain_terms p =
    ([], p.constant)
    ∷ (map product_term p.objective ++ clause_terms (penalty p) p.penalties.clauses p.clauses)

-- and the squares of the constraints, whose slack bits stand after the variables
abbrev pub contributions : ProblemContent → List Term
contributions p =
    plain_terms p
    ++ constraint_terms (penalty p) p.penalties.constraints p.variables p.constraints

-- The variables and the slack bits. Each slack bit is a node after the variables.
abbrev pub node_count : ProblemContent → ℕ
node_count p = p.variables + sum_by slack_bits p.constraints

-- ---- the guard's members

-- the sums of the contributions
abbrev pub image : ProblemContent → TableContent
image p = record { width = node_count p; terms = with_additions [] (contributions p) }

-- Nothing is scaled or moved, and the threshold is the upper bound: every state whose assignment has
-- an infinite cost costs more than it where no part has a penalty of its own, and the extension of an
-- assignment of a whole cost does not.
abbrev pub figures : ProblemContent → Figures
figures p = record { scale = pos 1; offset = pos 0; threshold = upper p }

-- An assignment, and the slack bits of all constraints. The slack bits of each constraint give the
-- slack that makes its square least: 0 where the constraint holds.
abbrev pub extension : ProblemContent → List Bool → List Bool
extension p x = x ++ flat_map (slack_state x) p.constraints

-- the scopes that a problem's penalties allow: one penalty for all parts where none has its own, and
-- elsewhere penalties that are enough
abbrev pub Allows : PenaltyScope → ProblemContent → Type 0
Allows Global p = IsGlobal p
Allows Local p = AreEnough p

-- a problem in normal form and within the limits
pub record Admits (p : ProblemContent) : Type 0 where
  -- each product and clause is a set of literals over the problem's variables
  pub normal : IsNormal p
  -- no limit is passed, so all sums fit their fields
  pub within : limit_fault normals.Literal p ≡ None

-- a link between a problem in normal form and its image
pub record Fits (link : BitsLink) (p : ProblemContent) : Type 0 where
  -- the state begins with the problem's variables
  pub source : link.source_width ≡ p.variables
  -- and has the slack bits of all constraints after them
  pub target : link.target_width ≡ node_count p
  -- the problem is in normal form, so no literal is past the variables
  pub normal : IsNormal p
