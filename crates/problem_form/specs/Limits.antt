-- The numbers of a problem that are counted against limits, as mathematical whole numbers.
use Rattle.std.specs.Prelude.{ℕ, zero, suc, ◌+◌, ◌-◌, ◌*◌, ◌^◌, ◌<◌, ◌≤◌, min, max, ℤ, pos, ◌+ℤ◌, ◌-ℤ◌, neg_ℤ, unsigned_abs, int_lt, not, List, [], ◌∷◌, ◌++◌, length, Option, Some, None, is_none, map, fold, count_by, nat_lt, nat_le, if◌then◌else◌}
use Rattle.std.specs.List.{sum_by, flat_map}
use Rattle.base.specs.Sums.{positive_part}
use Rattle.problem_form.specs.declared.limits.LimitKind.{LimitKind}
use Rattle.problem_form.specs.declared.limits.LimitKind.TheVariants.{Variables, Degree, Negations, Pairs, Weight}
use Rattle.problem_form.specs.declared.limits.LimitFault.{LimitFault}
use Rattle.problem_form.specs.declared.limits.Normal.{Normal}
use Rattle.problem_form.specs.declared.limits.Normal.TheVariants as normals
use Rattle.problem_form.specs.declared.terms.Product.{Product}
use Rattle.problem_form.specs.declared.terms.Clause.{Clause}
use Rattle.problem_form.specs.declared.terms.Constraint.{Constraint}
use Rattle.problem_form.specs.Problems.{ProblemContent, products_total, soft_weight}

-- ---- how small and how great a sum can be

-- the sum of the positive coefficients
abbrev pub positive_total : List Product → ℕ
positive_total products = sum_by (λ t. positive_part t.coefficient) products

-- the sizes of the negative coefficients
abbrev pub negative_total : List Product → ℕ
negative_total products = sum_by (λ t. positive_part (neg_ℤ t.coefficient)) products

-- the least sum of products: that of the negative coefficients
abbrev pub least_sum : List Product → ℤ
least_sum products = neg_ℤ (pos (negative_total products))

-- what a constraint needs: how far its bound is above the least sum of its products
abbrev pub need : Constraint → ℕ
need k = positive_part (k.bound -ℤ least_sum k.products)

-- the room that it leaves: how far the greatest sum of its products is above its bound
abbrev pub room : Constraint → ℕ
room k = positive_part (pos (positive_total k.products) -ℤ k.bound)

-- ---- bounds of the costs (A, U and P of the penalty method)

-- the sizes of the objective's coefficients, and the soft weights
abbrev pub cost_size : ProblemContent → ℕ
cost_size p = products_total p.objective + sum_by soft_weight p.clauses

-- an upper bound of what an assignment costs without the most: the constant, the positive
-- coefficients and the soft weights
abbrev pub own_upper : ProblemContent → ℤ
own_upper p = p.constant +ℤ pos (positive_total p.objective + sum_by soft_weight p.clauses)

-- no assignment costs less, with or without what it violates: the constant and the negative
-- coefficients
abbrev pub lower : ProblemContent → ℤ
lower p = own_upper p -ℤ pos (cost_size p)

-- the lesser of a number and the most that is given
abbrev pub lesser_of : Option ℤ → ℤ → ℤ
lesser_of None u = u
lesser_of (Some most) u = if int_lt most u then most else u

-- the lesser of two bounds, where both are given, and else the one that is
abbrev pub lesser_most : Option ℤ → Option ℤ → Option ℤ
lesser_most None own = own
lesser_most (Some most) own = Some (lesser_of own most)

-- an upper bound of every whole cost
abbrev pub upper : ProblemContent → ℤ
upper p = lesser_of p.most (own_upper p)

-- what lifts a cost of at least `least` above all that can be gained and, where a most is given that
-- is less, above that
abbrev pub penalty_above : Option ℤ → ℤ → ℕ → ℕ
penalty_above None least gain = gain + 1
penalty_above (Some most) least gain =
    max 1 (min (gain + 1) (positive_part (most -ℤ least +ℤ pos 1)))

-- what one violation adds at least
abbrev pub penalty : ProblemContent → ℕ
penalty p = penalty_above p.most (lower p) (cost_size p)

-- ---- what is counted

-- the number of literals of each product and clause
abbrev pub degrees : ProblemContent → List ℕ
degrees p =
    map (λ t. length t.literals) p.objective
    ++ map (λ c. length c.literals) p.clauses
    ++ flat_map (λ k. map (λ t. length t.literals) k.products) p.constraints

-- the largest of them
abbrev pub degree : ProblemContent → ℕ
degree p = fold max 0 (degrees p)

-- ---- complements

-- the complemented literals of a product
abbrev pub complements : Product → ℕ
complements t = count_by (λ l. l.negated) t.literals

-- those of a clause's product, whose literals are the complements of the clause's
abbrev pub clause_complements : Clause → ℕ
clause_complements c = count_by (λ l. not l.negated) c.literals

-- the most complements of a product of a constraint
abbrev pub most_complements : Constraint → ℕ
most_complements k = fold max 0 (map complements k.products)

-- with the multilinear form, the most complements of a product or a clause, and of a product of two
-- in the square of a constraint; without it none is counted
abbrev pub negations : Normal → ProblemContent → ℕ
negations normals.Literal p = 0
negations normals.Multilinear p =
    max (fold max 0 (map complements p.objective ++ map clause_complements p.clauses))
    (2 * fold max 0 (map most_complements p.constraints))

-- how many terms a product with so many complements becomes at most
abbrev pub factor : Normal → ℕ → ℕ
factor normals.Literal complements = 1
factor normals.Multilinear complements = 2 ^ complements

-- ---- slack

-- how far the sum of a constraint can lie above its bound; an exact one has no slack
abbrev pub slack_range : Constraint → ℕ
slack_range k = if k.exact then 0 else room k

-- how many of the first so many powers of 2 are at most n
abbrev pub powers_within : ℕ → ℕ → ℕ
powers_within zero n = 0
powers_within (suc k) n = powers_within k n + (if nat_le (2 ^ k) n then 1 else 0)

-- how many binary digits a number has, and 0 for 0: as many as there are powers of 2 up to it
abbrev pub binary_digits : ℕ → ℕ
binary_digits n = powers_within n n

-- so many binary digits hold a number, and one fewer would not
abbrev pub DigitsAreLeast : Type 0
DigitsAreLeast = (n : ℕ) → (n < 2 ^ binary_digits n) × (2 ^ binary_digits n ≤ 2 * n + 1)

-- how many slack bits a constraint gets
abbrev pub slack_bits : Constraint → ℕ
slack_bits k = binary_digits (slack_range k)

-- ---- pairs

-- the pairs of literals that the terms of a product have
abbrev pub product_pairs : Normal → Product → ℕ
product_pairs normal t = factor normal (complements t) * length t.literals ^ 2

-- the same for the product of a clause
abbrev pub clause_pairs : Normal → Clause → ℕ
clause_pairs normal c = factor normal (clause_complements c) * length c.literals ^ 2

-- the largest degree of a product of a constraint
abbrev pub constraint_degree : Constraint → ℕ
constraint_degree k = fold max 0 (map (λ t. length t.literals) k.products)

-- how many terms the sum has at most that is squared for a constraint: its products, its slack bits
-- and its bound
abbrev pub summands : Normal → Constraint → ℕ
summands normal k = factor normal (most_complements k) * (length k.products + slack_bits k + 1)

-- the product of two of them is a pair where all are literals, and has at most twice the degree
-- elsewhere
abbrev pub constraint_pairs : Normal → Constraint → ℕ
constraint_pairs normal k =
    summands normal k ^ 2
    * (if nat_le (constraint_degree k) 1 then 1 else 4 * constraint_degree k ^ 2)

-- the pairs of literals of all terms, before equal ones are summed
abbrev pub pairs : Normal → ProblemContent → ℕ
pairs normal p =
    sum_by (product_pairs normal) p.objective
    + sum_by (clause_pairs normal) p.clauses
    + sum_by (constraint_pairs normal) p.constraints

-- ---- auxiliary bits: slack, and one for each literal past the second of a term

-- the nodes that take the place of the terms of a product of degree 3 or more
abbrev pub product_bits : Normal → Product → ℕ
product_bits normal t = factor normal (complements t) * (length t.literals - 2)

-- the same for the product of a clause
abbrev pub clause_bits : Normal → Clause → ℕ
clause_bits normal c = factor normal (clause_complements c) * (length c.literals - 2)

-- the slack bits of a constraint, and the nodes for the terms of its square
abbrev pub constraint_bits : Normal → Constraint → ℕ
constraint_bits normal k =
    slack_bits k
    + summands normal k ^ 2
    * (if nat_le (constraint_degree k) 1 then 0 else 2 * constraint_degree k)

-- how many nodes the logical model has at most besides the variables
abbrev pub auxiliary_bits : Normal → ProblemContent → ℕ
auxiliary_bits normal p =
    sum_by (product_bits normal) p.objective
    + sum_by (clause_bits normal) p.clauses
    + sum_by (constraint_bits normal) p.constraints

-- ---- weight

-- the greatest size of the value that is squared for a constraint
abbrev pub reach : Constraint → ℕ
reach k = products_total k.products + unsigned_abs k.bound + slack_range k

-- the sizes of all coefficients that the penalty method makes
abbrev pub weight : ProblemContent → ℕ
weight p =
    unsigned_abs p.constant + cost_size p
    + penalty p * count_by (λ c. is_none c.weight) p.clauses
    + sum_by (λ k. penalty p * reach k ^ 2) p.constraints

-- ---- the limits

-- a counted number, and the greatest that is accepted
pub record Counted : Type 0 where
  pub kind : LimitKind
  pub number : ℕ
  pub most : ℕ

-- the greatest number of bytes of a file that is accepted
abbrev pub most_bytes : ℕ
most_bytes = 16777216

-- the greatest degree that is accepted
abbrev pub most_degree : ℕ
most_degree = 1024

-- in the order in which they are checked
abbrev pub counted_numbers : Normal → ProblemContent → List Counted
counted_numbers normal p =
    record { kind = Variables; number = p.variables; most = 2 ^ 20 }
    ∷ record { kind = Degree; number = degree p; most = most_degree }
    ∷ record { kind = Negations; number = negations normal p; most = 8 }
    ∷ record { kind = Pairs; number = pairs normal p; most = 2 ^ 24 }
    ∷ record { kind = Weight; number = weight p; most = 2 ^ 64 - 1 }
    ∷ []

-- the number that is answered: the counted one, or the greatest of 128 bits
abbrev pub answered_number : ℕ → ℕ
answered_number n = min n (2 ^ 128 - 1)

-- the first number that passes its limit
abbrev pub first_passed : List Counted → Option LimitFault
first_passed [] = None
first_passed (c ∷ cs) =
    if nat_lt c.most c.number
    then Some (record { kind = c.kind; number = answered_number c.number })
    else first_passed cs

-- the fault of a problem: the first of its counted numbers that passes its limit
abbrev pub limit_fault : Normal → ProblemContent → Option LimitFault
limit_fault normal p = first_passed (counted_numbers normal p)
