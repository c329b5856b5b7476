-- The terms of a square cost the square. Nothing here has to be believed.
--
-- A term costs its coefficient where all its literals are true. The product of two terms has the
-- union of their literals, which are all true just where both sets are; where the union has a
-- literal beside its complement it is never true, and no term stands for it.
use Rattle.std.specs.Prelude.{◌≡◌, ◌*◌, ◌&&◌, ◌∷◌, ◌++◌, ◌+ℤ◌, ◌*ℤ◌}
use Rattle.penalty_layer.specs.laws.Common.{ℕ, suc, Bool, refl, ap, ◌∙◌, arith, List, [], map, ℤ, pos, neg_ℤ, ints, if_so, multiply_out, integers, total_by-append, total_by-flat_map, total_by-same, total_by-times, Literal, Constraint, holds, all_hold, slack_range, list_all-literal_set, all_hold-clash, Term, term_cost, terms_cost, union, scaled, product_terms, products_with, slack_weights, slack_value, excess, product_term, square_terms, slack_terms, slack_form, nat_tests, list_all-append}
use Rattle.penalty_layer.specs.laws.Violations.{product_terms_cost}

-- ---- a union is true where both sets are, and never where it clashes

-- the literals of a union, in which what both have stands once, are all true where those of both are
all_hold-union : (y : List Bool) (ls ks : List Literal)
    → all_hold y (union ls ks) ≡ (all_hold y ls && all_hold y ks)
all_hold-union y ls ks = list_all-literal_set (holds y) (ls ++ ks) ∙ list_all-append (holds y) ls ks

-- ---- products

-- what counts under two tests is the product of what counts under each
both_times : (a b : Bool) (c d : ℤ) → if_so (a && b) (c *ℤ d) ≡ if_so a c *ℤ if_so b d
both_times a b c d = grind (arith, nat_tests, ints)

-- so the product of two terms costs the product of their costs
product_terms-cost : (y : List Bool) (t u : Term)
    → terms_cost y (product_terms t u) ≡ term_cost y t *ℤ term_cost y u
product_terms-cost y t u =
    let clash = all_hold-clash y (union t.0 u.0) in
    let both = all_hold-union y t.0 u.0 in
    let times = both_times (all_hold y t.0) (all_hold y u.0) t.1 u.1 in
    grind (arith, nat_tests, ints)

-- a term times each of others costs it times their sum
products_with-cost : (y : List Bool) (t : Term) (us : List Term)
    → terms_cost y (products_with t us) ≡ term_cost y t *ℤ terms_cost y us
products_with-cost y t us =
    total_by-flat_map (term_cost y) (product_terms t) us
    ∙ total_by-same _ (λ u. term_cost y t *ℤ term_cost y u) us (product_terms-cost y t)
    ∙ total_by-times (term_cost y t) (term_cost y) us

-- a factor may be taken out of what counts under a test
if_so-times : (b : Bool) (c d : ℤ) → if_so b (c *ℤ d) ≡ c *ℤ if_so b d
if_so-times b c d = grind (arith, nat_tests, ints)

-- the square of a sum, multiplied out: both squares, and twice the product
square_of_sum : (f a s : ℤ)
    → f *ℤ (a *ℤ a) +ℤ (((f +ℤ f) *ℤ a) *ℤ s +ℤ f *ℤ (s *ℤ s)) ≡ f *ℤ ((a +ℤ s) *ℤ (a +ℤ s))
square_of_sum f a s = simp multiply_out (omega (arith, integers))

-- twice a number is the number and itself
twice : (n : ℕ) → pos (2 * n) ≡ pos n +ℤ pos n
twice n = omega (arith, ints)

-- a term's own square is true where the term is
own_square : (b : Bool) (f c : ℤ) → if_so b (f *ℤ (c *ℤ c)) ≡ f *ℤ (if_so b c *ℤ if_so b c)
own_square b f c = grind (arith, nat_tests, ints)

-- the terms of n times a square cost n times the square
pub square_terms-cost : (y : List Bool) (n : ℕ) (ts : List Term)
    → terms_cost y (square_terms n ts) ≡ pos n *ℤ (terms_cost y ts *ℤ terms_cost y ts)
square_terms-cost y n [] = omega (arith, ints)
square_terms-cost y n (t ∷ ts) =
    ap (λ z. term_cost y (t.0, pos n *ℤ (t.1 *ℤ t.1)) +ℤ z)
    (total_by-append (term_cost y) (products_with (scaled (pos (2 * n)) t) ts) (square_terms n ts))
    ∙ (λ i. own_square (all_hold y t.0) (pos n) t.1 i
    +ℤ ((products_with-cost y (scaled (pos (2 * n)) t) ts
    ∙ ap (λ c. c *ℤ terms_cost y ts) (if_so-times (all_hold y t.0) (pos (2 * n)) t.1
    ∙ ap (λ f. f *ℤ term_cost y t) (twice n))) i
    +ℤ square_terms-cost y n ts i))
    ∙ square_of_sum (pos n) (term_cost y t) (terms_cost y ts)

-- ---- what a constraint is off by

-- the terms of slack bits cost minus the slack
slack_terms-cost : (y : List Bool) (first : ℕ) (ws : List ℕ)
    → terms_cost y (slack_terms first ws) ≡ neg_ℤ (pos (slack_value y first ws))
slack_terms-cost y first [] = refl
slack_terms-cost y first (w ∷ ws) =
    let rest = slack_terms-cost y (suc first) ws in grind (arith, nat_tests, ints)

-- and those of a constraint cost what it is off by
slack_form-cost : (y : List Bool) (first : ℕ) (k : Constraint)
    → terms_cost y (slack_form first k) ≡ excess y first k
slack_form-cost y first k =
    let ws = slack_weights (slack_range k) in
    omega (
      arith,
      ints,
      total_by-append (term_cost y) (map product_term k.products) (([], neg_ℤ k.bound) ∷ slack_terms first ws),
      product_terms_cost y k.products,
      slack_terms-cost y first ws,
    )

-- the contributions of a constraint cost the penalty times the square, in each state
pub constraint-cost : (y : List Bool) (n first : ℕ) (k : Constraint)
    → terms_cost y (square_terms n (slack_form first k))
    ≡ pos n *ℤ (excess y first k *ℤ excess y first k)
constraint-cost y n first k =
    square_terms-cost y n (slack_form first k)
    ∙ (λ i. pos n *ℤ (slack_form-cost y first k i *ℤ slack_form-cost y first k i))
