-- Conflicts and covers: constraints of which no two products may miss, and constraints that any one
-- of their products makes hold. Hard clauses can take their place.
--
-- A product misses where a literal that it is wanted for is false: its own where its coefficient is
-- positive, and the complement where it is negative. A constraint holds where the sizes of those
-- that miss sum to at most the room that it leaves, and where the sizes of the others sum to what it
-- needs.
use Rattle.std.specs.Prelude.{◌≡◌, ℕ, ◌+◌, ◌-◌, ◌*◌, ◌/◌, pos, int_lt, Bool, true, false, not, ◌&&◌, ◌||◌, ◌==◌, nat_lt, nat_le, if◌then◌else◌, List, [], ◌∷◌, ◌++◌, length, map, None}
use Rattle.std.specs.List.{filter, flat_map, list_all}
use Rattle.literal_lists.specs.declared.literal.Literal.{Literal}
use Rattle.problem_form.specs.declared.terms.Product.{Product}
use Rattle.problem_form.specs.declared.terms.Clause.{Clause}
use Rattle.problem_form.specs.declared.terms.Constraint.{Constraint}
use Rattle.problem_form.specs.Limits.{cost_size, need, own_upper, positive_total, room, slack_bits, upper}
use Rattle.problem_form.specs.NormalForm.{kept_clause}
use Rattle.problem_form.specs.Problems.{ProblemContent, problem_cost}
use Rattle.problem_form.specs.Wanted.{is_single, size, wanted}

-- ---- conflicts

-- each two elements of a list, in their order, pass a test
abbrev pub each_two : {A : Type 0} → (A → A → Bool) → List A → Bool
each_two test [] = true
each_two test (a ∷ as') = list_all (test a) as' && each_two test as'

-- two products that may not both miss
abbrev pub are_apart : ℕ → Product → Product → Bool
are_apart room s t = nat_lt room (size s + size t)

-- the most products of a conflict or a cover
abbrev pub most_products : ℕ
most_products = 1024

-- no equation, of some products that are not too many
abbrev pub is_short : Constraint → Bool
is_short k =
    not k.exact && nat_lt 0 (length k.products) && nat_le (length k.products) most_products

-- no equation, of products of one literal each, that can hold, but not where any two of them miss
abbrev pub is_conflict : Constraint → Bool
is_conflict k =
    is_short k
    && list_all is_single k.products
    && not (int_lt (pos (positive_total k.products)) k.bound)
    && each_two (are_apart (room k)) k.products

-- ---- its clauses

-- a product that may not miss at all
abbrev pub is_needed : ℕ → Product → Bool
is_needed room t = nat_lt room (size t)

-- the products that may not miss at all
abbrev pub needed : Constraint → List Product
needed k = filter (is_needed (room k)) k.products

-- the products that may miss where no other does
abbrev pub others : Constraint → List Product
others k = filter (λ t. not (is_needed (room k) t)) k.products

-- each two of these lists, in their order, as one
abbrev pub pairs_of : {A : Type 0} → List (List A) → List (List A)
pairs_of [] = []
pairs_of (as' ∷ others) = map (λ bs. as' ++ bs) others ++ pairs_of others

-- of which literals one is to be true: of each needed product by itself, and of each two others
abbrev pub wanted_lists : Constraint → List (List Literal)
wanted_lists k = map (wanted true) (needed k) ++ pairs_of (map (wanted true) (others k))

-- the hard clause of these literals
abbrev pub hard : List Literal → Clause
hard ls = record { literals = ls; weight = None }

-- hard clauses in normal form
abbrev pub hard_clauses : List (List Literal) → List Clause
hard_clauses lists = flat_map kept_clause (map hard lists)

-- how many pairs there are of so many
abbrev pub pair_count : ℕ → ℕ
pair_count n = n * (n - 1) / 2

-- the pairs of a conflict, before any is dropped
abbrev pub pairs : Constraint → ℕ
pairs k = pair_count (length (others k))

-- ---- covers

-- the product gives all of a need by itself
abbrev pub gives : ℕ → Product → Bool
gives n t = nat_le n (size t)

-- how many nodes stand for the terms of a clause of so many literals
abbrev pub clause_nodes : ℕ → ℕ
clause_nodes n = (n - 1) / 2

-- no equation, of products of one literal each, that needs something of which each product gives
-- all, and whose clause takes no more nodes than it has slack bits
abbrev pub is_cover : Constraint → Bool
is_cover k =
    is_short k
    && list_all is_single k.products
    && nat_lt 0 (need k)
    && list_all (gives (need k)) k.products
    && nat_le (clause_nodes (length k.products)) (slack_bits k)

-- of which literals of a cover one is to be true: of all that its products are wanted for
abbrev pub cover_lists : Constraint → List (List Literal)
cover_lists k = flat_map (wanted true) k.products ∷ []

-- ---- a problem without them

-- the most pairs of all conflicts that are replaced
abbrev pub most_pairs : ℕ
most_pairs = 2097152

-- whether a constraint is replaced as a conflict, after so many pairs
abbrev pub is_replaced : ℕ → Constraint → Bool
is_replaced spent k = is_conflict k && nat_le (spent + pairs k) most_pairs

-- the pairs that are spent after a constraint
abbrev pub spent_after : ℕ → Constraint → ℕ
spent_after spent k = if is_replaced spent k then spent + pairs k else spent

-- whether a constraint stays, after so many pairs: it is not replaced as a conflict nor, where
-- covers are replaced too, as a cover
abbrev pub is_left : Bool → ℕ → Constraint → Bool
is_left covers spent k = not (is_replaced spent k || (covers && is_cover k))

-- the clauses that take the place of a constraint, after so many pairs: those of a conflict or,
-- where it is not replaced as one and covers are replaced too, that of a cover
abbrev pub clauses_of : Bool → ℕ → Constraint → List Clause
clauses_of covers spent k =
    if is_replaced spent k
    then hard_clauses (wanted_lists k)
    else (if covers && is_cover k then hard_clauses (cover_lists k) else [])

-- the clauses of all that are replaced, after so many pairs
abbrev pub clauses_from : Bool → ℕ → List Constraint → List Clause
clauses_from covers spent [] = []
clauses_from covers spent (k ∷ ks) =
    clauses_of covers spent k ++ clauses_from covers (spent_after spent k) ks

-- the constraints that stay, after so many pairs
abbrev pub constraints_from : Bool → ℕ → List Constraint → List Constraint
constraints_from covers spent [] = []
constraints_from covers spent (k ∷ ks) =
    (if is_left covers spent k then k ∷ [] else [])
    ++ constraints_from covers (spent_after spent k) ks

-- the problem with clauses, behind its own, in place of the conflicts that may be replaced and, where
-- they are to be, of the covers
abbrev pub without : Bool → ProblemContent → ProblemContent
without covers p = record p {
  clauses = p.clauses ++ clauses_from covers 0 p.constraints;
  constraints = constraints_from covers 0 p.constraints;
}

-- the problem with clauses, behind its own, in place of the conflicts that may be replaced
abbrev pub without_conflicts : ProblemContent → ProblemContent
without_conflicts p = without false p

-- the problem with clauses, behind its own, in place of the conflicts that may be replaced and of the
-- covers
abbrev pub without_covers : ProblemContent → ProblemContent
without_covers p = without true p

-- the same variables and bounds of the costs, and the same cost of every assignment
pub record CostsAlike (p q : ProblemContent) : Type 0 where
  pub variables : p.variables ≡ q.variables
  pub most : p.most ≡ q.most
  pub size : cost_size p ≡ cost_size q
  pub own_upper : own_upper p ≡ own_upper q
  pub upper : upper p ≡ upper q
  pub costs : (x : List Bool) → problem_cost p x ≡ problem_cost q x
