-- Parts that are added to a problem one by one give the normal form of what they say.
--
-- Each part that is added to a normal form gives the normal form of the source with that part.
use Rattle.problem_form.proofs.Common.{nat_tests, ◌≡◌, ℕ, arith, refl, sym, ap, ◌∙◌, List, [], ◌∷◌, ◌++◌, append-nil, append_assoc, fold, map, ints, flat_map_more, map-append, fold-map, total_by-append, Product, Clause, Constraint, ProblemContent, Part, Widened, AddedProduct, AddedClause, AddedConstraint, kept_product, product_constant, kept_clause, clause_constant, normal_constraint, normal_form, blank, with_variables, with_product, with_clause, with_constraint, with_part, as_written, PartsAddUp}

-- ---- one part

product_added : (p : ProblemContent) (t : Product)
    → with_product (normal_form p) t ≡ normal_form (as_written p (AddedProduct t))
product_added p t =
    let constant : (with_product (normal_form p) t).constant ≡ (normal_form (as_written p (AddedProduct t))).constant =
    omega (arith, ints, total_by-append product_constant p.objective (t ∷ [])) in
    λ i. record (normal_form p) {
      constant = constant i;
      objective = flat_map_more kept_product [] p.objective t i;
    }

clause_added : (p : ProblemContent) (c : Clause)
    → with_clause (normal_form p) c ≡ normal_form (as_written p (AddedClause c))
clause_added p c =
    let constant : (with_clause (normal_form p) c).constant ≡ (normal_form (as_written p (AddedClause c))).constant =
    omega (arith, ints, total_by-append clause_constant p.clauses (c ∷ [])) in
    λ i. record (normal_form p) {
      constant = constant i;
      clauses = flat_map_more kept_clause [] p.clauses c i;
    }

constraint_added : (p : ProblemContent) (k : Constraint)
    → with_constraint (normal_form p) k ≡ normal_form (as_written p (AddedConstraint k))
constraint_added p k =
    λ i. record (normal_form p) {
      constraints = sym (map-append normal_constraint p.constraints (k ∷ [])) i;
    }

part_added : (p : ProblemContent) (part : Part)
    → with_part (normal_form p) part ≡ normal_form (as_written p part)
part_added p part = grind (arith, nat_tests, product_added, clause_added, constraint_added)

-- ---- all parts

parts_from : (p : ProblemContent) (parts : List Part)
    → fold with_part (normal_form p) parts ≡ normal_form (fold as_written p parts)
parts_from p [] = refl
parts_from p (part ∷ parts) =
    ap (λ q. fold with_part q parts) (part_added p part) ∙ parts_from (as_written p part) parts

pub parts_add_up : PartsAddUp
parts_add_up parts = parts_from blank parts

-- ---- products alone

pub products_written : (p : ProblemContent) (ts : List Product)
    → fold as_written p (map AddedProduct ts) ≡ record p { objective = p.objective ++ ts }
products_written p [] = λ i. record p { objective = sym (append-nil p.objective) i }
products_written p (t ∷ ts) =
    grind (arith, nat_tests, products_written (record p { objective = p.objective ++ t ∷ [] }) ts, append_assoc)

-- products that are added one by one give the normal form of them all
pub products_add_up : (variables : ℕ) (ts : List Product)
    → fold with_product (with_variables blank variables) ts
    ≡ normal_form (record (with_variables blank variables) { objective = ts })
products_add_up variables ts =
    sym (fold-map with_part AddedProduct (with_variables blank variables) ts)
    ∙ parts_add_up (Widened variables ∷ map AddedProduct ts)
    ∙ ap normal_form (products_written (with_variables blank variables) ts)

-- they do not ask how many variables there are
pub products_apart : (p : ProblemContent) (v : ℕ) (ts : List Product)
    → fold with_product (with_variables p v) ts ≡ with_variables (fold with_product p ts) v
products_apart p v [] = refl
products_apart p v (t ∷ ts) = products_apart (with_product p t) v ts

-- ---- clauses alone

clauses_written : (p : ProblemContent) (cs : List Clause)
    → fold as_written p (map AddedClause cs) ≡ record p { clauses = p.clauses ++ cs }
clauses_written p [] = λ i. record p { clauses = sym (append-nil p.clauses) i }
clauses_written p (c ∷ cs) =
    grind (arith, nat_tests, clauses_written (record p { clauses = p.clauses ++ c ∷ [] }) cs, append_assoc)

-- clauses that are added one by one give the normal form of them all
pub clauses_add_up : (variables : ℕ) (cs : List Clause)
    → fold with_clause (with_variables blank variables) cs
    ≡ normal_form (record (with_variables blank variables) { clauses = cs })
clauses_add_up variables cs =
    sym (fold-map with_part AddedClause (with_variables blank variables) cs)
    ∙ parts_add_up (Widened variables ∷ map AddedClause cs)
    ∙ ap normal_form (clauses_written (with_variables blank variables) cs)
