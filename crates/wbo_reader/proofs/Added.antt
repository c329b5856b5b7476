-- Problems that are sound with more rows or products: the first of these can be added.
use Rattle.wbo_reader.proofs.Common.{◌≡◌, ℕ, ◌+◌, ◌<◌, ◌^◌, List, [], ◌∷◌, ◌++◌, All, unsigned_abs, sym, subst, arith, AllByRecursion, append_assoc, append-nil, sum_by-append, sum_by-cons, All-from_recursion, recursion_from_All, Literal, Product, Constraint, ProblemContent, constraint_total, problem_total, IsNormalProduct, IsSound, IsNormalConstraint, with_products, with_rows}

-- ---- all of some

module _ {A : Type 0} (P : A → Type 0) where
  first_of : (xs ys : List A) → AllByRecursion P (xs ++ ys) → AllByRecursion P xs
  first_of [] ys h = tt
  first_of (x ∷ xs) ys h = (h.0, first_of xs ys h.1)

  last_of : (xs : List A) (y : A) → AllByRecursion P (xs ++ y ∷ []) → P y
  last_of [] y h = h.0
  last_of (x ∷ xs) y h = last_of xs y h.1

  pub All-first : (xs ys : List A) → All P (xs ++ ys) → All P xs
  All-first xs ys h = All-from_recursion P xs (first_of xs ys (recursion_from_All P (xs ++ ys) h))

  pub All-last : (xs : List A) (y : A) → All P (xs ++ y ∷ []) → P y
  All-last xs y h = last_of xs y (recursion_from_All P (xs ++ y ∷ []) h)

-- ---- rows

pub more_rows : (p : ProblemContent) (xs ys : List Constraint)
    → with_rows (with_rows p xs) ys ≡ with_rows p (xs ++ ys)
more_rows p xs ys = λ i. record p { constraints = append_assoc p.constraints xs ys i }

pub no_rows : (p : ProblemContent) → with_rows p [] ≡ p
no_rows p = λ i. record p { constraints = append-nil p.constraints i }

pub first_rows : (p : ProblemContent) (xs ys : List Constraint)
    → IsSound (with_rows p (xs ++ ys)) → IsSound (with_rows p xs)
first_rows p xs ys h =
    let joined = append_assoc p.constraints xs ys in (
      record {
        objective = h.0.objective;
        clauses = h.0.clauses;
        constraints =
            All-first (IsNormalConstraint p.variables) (p.constraints ++ xs) ys
            (subst (All (IsNormalConstraint p.variables)) (sym joined) h.0.constraints);
        most = h.0.most;
      },
      omega (arith, h.1, sum_by-append),
    )

pub row_normal : (p : ProblemContent) (k : Constraint) → IsSound (with_rows p (k ∷ []))
    → IsNormalConstraint p.variables k
row_normal p k h = All-last (IsNormalConstraint p.variables) p.constraints k h.0.constraints

pub row_small : (p : ProblemContent) (k : Constraint) → IsSound (with_rows p (k ∷ []))
    → problem_total p + constraint_total k < 2 ^ 100
row_small p k h = omega (arith, sum_by-append, sum_by-cons)

-- ---- products

abbrev size : Product → ℕ
size t = unsigned_abs t.coefficient

pub more_products : (p : ProblemContent) (xs ys : List Product)
    → with_products (with_products p xs) ys ≡ with_products p (xs ++ ys)
more_products p xs ys = λ i. record p { objective = append_assoc p.objective xs ys i }

pub first_products : (p : ProblemContent) (xs ys : List Product)
    → IsSound (with_products p (xs ++ ys)) → IsSound (with_products p xs)
first_products p xs ys h =
    let joined = append_assoc p.objective xs ys in (
      record {
        objective =
            All-first (IsNormalProduct p.variables) (p.objective ++ xs) ys
            (subst (All (IsNormalProduct p.variables)) (sym joined) h.0.objective);
        clauses = h.0.clauses;
        constraints = h.0.constraints;
        most = h.0.most;
      },
      omega (arith, h.1, sum_by-append),
    )

-- ---- literals

pub row_within : (p : ProblemContent) (k : Constraint) → IsSound (with_rows p (k ∷ []))
    → All (λ (t : Product). All (λ (l : Literal). l.variable < p.variables) t.literals) k.products
row_within p k h i t at = (row_normal p k h i t at).set.within
