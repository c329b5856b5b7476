-- Products in normal form: what is kept of one, and what it adds to the sizes of a problem.
use Rattle.problem_form.proofs.Common.{or_parts, nat_tests, ◌≡◌, ◌≢◌, ℕ, ◌+◌, ◌<◌, ◌≤◌, ◌^◌, Bool, true, false, cond, ◌||◌, arith, sym, ap, ◌∙◌, List, [], ◌∷◌, pos, unsigned_abs, All, int_eq, flat_map, ints, Decides-int_eq, or_right, or_from, false_from_ne_true, All-append, All-cons, All-nil, All-tail, sum_by-append, sum_by-cons, total_by, size-plus, Literal, Product, Constraint, has_clash, literal_set, IsSound, ProblemContent, IsNormalProduct, products_total, constraint_total, problem_total, is_empty, kept_product, product_constant, normal_constraint, with_product, with_constraint, has_clash-literal_set}
use Rattle.problem_form.proofs.KeptClauses.{kept_set, kept_unless, is_empty-literal_set}

-- ---- what is kept of a product, by the set of its literals

-- whether a product is dropped, or is no more than a number
abbrev pub is_dropped : List Literal → Bool
is_dropped ls = has_clash ls || is_empty ls

is_dropped-literal_set : (ls : List Literal) → is_dropped (literal_set ls) ≡ is_dropped ls
is_dropped-literal_set ls = λ i. has_clash-literal_set ls i || is_empty-literal_set ls i

reordered : (clash zero empty : Bool) → (clash || zero || empty) ≡ (zero || (clash || empty))
reordered clash is empty = grind (arith, nat_tests)

kept_at : (t : Product) (s : List Literal) (b : Bool) → s ≡ literal_set t.literals
    → (int_eq t.coefficient (pos 0) || is_dropped s) ≡ b
    → kept_product t ≡ cond b [] (record { literals = s; coefficient = t.coefficient } ∷ [])
kept_at t s b same e =
    let zero = int_eq t.coefficient (pos 0) in
    let at_set =
    reordered (has_clash t.literals) zero (is_empty t.literals)
    ∙ ap (λ d. zero || d) (sym (is_dropped-literal_set t.literals) ∙ ap is_dropped (sym same))
    ∙ e in
    (λ i. cond (at_set i) [] (record { literals = sym same i; coefficient = t.coefficient } ∷ []))

pub kept_product-zero : (t : Product) (s : List Literal) → s ≡ literal_set t.literals
    → t.coefficient ≡ pos 0 → [] ≡ kept_product t
kept_product-zero t s same none = grind (arith, nat_tests)

pub kept_product-dropped : (t : Product) (s : List Literal) → s ≡ literal_set t.literals
    → is_dropped s ≡ true → [] ≡ kept_product t
kept_product-dropped t s same e =
    sym (kept_at t s true same (or_right (int_eq t.coefficient (pos 0)) (is_dropped s) e))

pub kept_product-kept : (t : Product) (s : List Literal) → s ≡ literal_set t.literals
    → t.coefficient ≢ pos 0 → is_dropped s ≡ false
    → record { literals = s; coefficient = t.coefficient } ∷ [] ≡ kept_product t
kept_product-kept t s same some e =
    grind (arith, nat_tests, false_from_ne_true, kept_at t s false same, or_from)

-- ---- what is kept is in normal form

pub kept_product-normal : (n : ℕ) (t : Product) → All (λ l. l.variable < n) t.literals
    → All (IsNormalProduct n) (kept_product t)
kept_product-normal n t within =
    let ls = t.literals in
    let zero = int_eq t.coefficient (pos 0) in
    let kept : Product = record { literals = literal_set ls; coefficient = t.coefficient } in
    kept_unless (IsNormalProduct n) (has_clash ls || zero || is_empty ls) kept (λ e.
    let outer = or_parts (has_clash ls || zero) (is_empty ls) e in
    let inner = or_parts (has_clash ls) zero outer.0 in
    record {
      set = kept_set n ls inner.0 within;
      filled = λ none. let empty = sym (is_empty-literal_set ls ∙ outer.1) ∙ ap is_empty none in absurd cc;
      nonzero = λ none. let both = sym ((Decides-int_eq t.coefficient (pos 0)).1 none) ∙ inner.1 in absurd cc;
    })

abbrev pub AreWithin : ℕ → List Product → Type 0
AreWithin n ts = All (λ t. All (λ l. l.variable < n) t.literals) ts

pub kept_products-normal : (n : ℕ) (ts : List Product) → AreWithin n ts
    → All (IsNormalProduct n) (flat_map kept_product ts)
kept_products-normal n [] within = All-nil _
kept_products-normal n (t ∷ ts) within =
    let Within : Product → Type 0 = λ u. All (λ l. l.variable < n) u.literals in
    All-append (IsNormalProduct n) (kept_product t) (flat_map kept_product ts)
    (kept_product-normal n t (within 0 t (omega arith)))
    (kept_products-normal n ts (All-tail Within t ts within))

-- ---- sizes

-- what a product adds to the constant and to the products is at most its coefficient, in size
pub kept_product-size : (t : Product)
    → unsigned_abs (product_constant t) + products_total (kept_product t) ≤ unsigned_abs t.coefficient
kept_product-size t = grind (arith, nat_tests)

pub kept_products-size : (ts : List Product)
    → unsigned_abs (total_by product_constant ts) + products_total (flat_map kept_product ts)
    ≤ products_total ts
kept_products-size [] = omega arith
kept_products-size (t ∷ ts) =
    omega (arith, kept_product-size t, kept_products-size ts, size-plus, sum_by-append, sum_by-cons)

pub normal_constraint-total : (k : Constraint)
    → constraint_total (normal_constraint k) ≤ constraint_total k
normal_constraint-total k = omega (arith, ints, kept_products-size k.products)

-- ---- a problem with one more product

pub with_product-total : (p : ProblemContent) (t : Product)
    → problem_total (with_product p t) ≤ problem_total p + unsigned_abs t.coefficient
with_product-total p t = grind (arith, nat_tests, size-plus, kept_product-size, sum_by-append)

pub with_product-sound : (p : ProblemContent) (t : Product) → IsSound p
    → All (λ l. l.variable < p.variables) t.literals
    → problem_total p + unsigned_abs t.coefficient < 2 ^ 100 → IsSound (with_product p t)
with_product-sound p t sound within small = (
  record {
    objective = All-append (IsNormalProduct p.variables) p.objective (kept_product t)
        sound.0.objective (kept_product-normal p.variables t within);
    clauses = sound.0.clauses;
    constraints = sound.0.constraints;
    most = sound.0.most;
  },
  omega (arith, with_product-total p t),
)

-- ---- a problem with one more constraint

pub with_constraint-total : (p : ProblemContent) (k : Constraint)
    → problem_total (with_constraint p k) ≤ problem_total p + constraint_total k
with_constraint-total p k = omega (arith, normal_constraint-total, sum_by-append)

pub with_constraint-sound : (p : ProblemContent) (k : Constraint) → IsSound p
    → AreWithin p.variables k.products
    → problem_total p + constraint_total k < 2 ^ 100 → IsSound (with_constraint p k)
with_constraint-sound p k sound within small =
    let Normal : Constraint → Type 0 = λ c. All (IsNormalProduct p.variables) c.products in (
      record {
        objective = sound.0.objective;
        clauses = sound.0.clauses;
        constraints = All-append Normal p.constraints (normal_constraint k ∷ []) sound.0.constraints
            (All-cons Normal (normal_constraint k) []
            (kept_products-normal p.variables k.products within) (All-nil _));
        most = sound.0.most;
      },
      omega (arith, with_constraint-total p k),
    )
