-- The square of what a constraint's sum is off by, as terms.
--
-- A constraint whose sum has to be at least its bound may have any number up to its range above it.
-- What is off is the sum less the bound less the slack: it can be 0 exactly where the constraint
-- holds, and its square times the penalty is at least the penalty wherever it is not 0.
use Rattle.std.specs.Prelude.{ℕ, suc, ◌+◌, ◌*◌, pos, neg_ℤ, ◌-ℤ◌, ◌*ℤ◌, Bool, false, List, [], ◌∷◌, ◌++◌, map}
use Rattle.literal_lists.specs.declared.literal.Literal.{Literal}
use Rattle.problem_form.specs.declared.terms.Constraint.{Constraint}
use Rattle.problem_form.specs.declared.terms.Product.{Product}
use Rattle.problem_form.specs.Problems.{sum_of}
use Rattle.problem_form.specs.Limits.{slack_range, slack_bits}
use Rattle.problem_form.specs.PartPenalties.{own, rest}
use Rattle.term_table.specs.Terms.{Term}
use Rattle.term_table.specs.Products.{scaled, products_with}
use Rattle.penalty_layer.specs.Slack.{slack_weights, value_bits, clamped}

-- a product adds its coefficient where all its literals are true
abbrev pub product_term : Product → Term
product_term t = (t.literals, t.coefficient)

-- N times the square of a sum: each term's square, which is true where the term is, and twice its
-- products with the later ones. Three times the square of x - 1 is 3 * x, twice 3 times -x, and 3:
-- together 3 - 3 * x, which is 3 where x is 0 and 0 where it is 1.
abbrev pub square_terms : ℕ → List Term → List Term
square_terms n [] = []
square_terms n (t ∷ ts) =
    (t.0, pos n *ℤ (t.1 *ℤ t.1))
    ∷ (products_with (scaled (pos (2 * n)) t) ts ++ square_terms n ts)

-- ---- constraints

-- A node, as a literal. It is true where the node's bit is 1.
abbrev pub node : ℕ → Literal
node i = record { variable = i; negated = false }

-- The weights of slack bits, from a first node on, taken off. Each weight is a term of one slack
-- bit: for the weights 1, 2, 2 from node 7 on they are -1 * y7, -2 * y8 and -2 * y9.
abbrev pub slack_terms : ℕ → List ℕ → List Term
slack_terms first [] = []
slack_terms first (w ∷ ws) = (node first ∷ [], neg_ℤ (pos w)) ∷ slack_terms (suc first) ws

-- what a constraint is off by, as terms: sum - bound - slack
abbrev pub slack_form : ℕ → Constraint → List Term
slack_form first k =
    map product_term k.products
    ++ ([], neg_ℤ k.bound)
    ∷ slack_terms first (slack_weights (slack_range k))

-- the penalty of each constraint, its own or that of the whole, times its square; the slack bits are
-- numbered on from a first node
abbrev pub constraint_terms : ℕ → List ℕ → ℕ → List Constraint → List Term
constraint_terms n ns first [] = []
constraint_terms n ns first (k ∷ ks) =
    square_terms (own n ns) (slack_form first k)
    ++ constraint_terms n (rest ns) (first + slack_bits k) ks

-- ---- the slack of an assignment

-- the slack of a constraint: what its sum has above the bound, within what its bits reach. Where
-- the sum is below the bound it is 0
abbrev pub slack_of : List Bool → Constraint → ℕ
slack_of x k = clamped (slack_range k) (sum_of x k.products -ℤ k.bound)

-- the bits that have this value
abbrev pub slack_state : List Bool → Constraint → List Bool
slack_state x k = value_bits (slack_range k) (slack_of x k)
