-- Which equations can be repaired step by step.
use Rattle.std.specs.Prelude.{ℕ, ◌%◌, Bool, true, not, ◌&&◌, ◌==◌, nat_lt, int_lt, List, [], ◌∷◌, map, pos, if◌then◌else◌}
use Rattle.std.specs.List.{flat_map, list_all, list_any}
use Rattle.problem_form.specs.declared.terms.Product.{Product}
use Rattle.problem_form.specs.declared.terms.Constraint.{Constraint}
use Rattle.problem_form.specs.Wanted.{is_single, size}
use Rattle.problem_form.specs.Limits.{least_sum, need, positive_total}

-- ---- one size

-- the size of all products, and 0 where they have not one
abbrev pub common_size : List Product → ℕ
common_size [] = 0
common_size (t ∷ ts) = if list_all (λ u. size u == size t) ts then size t else 0

-- ---- different variables

-- the variables of the literals of products
abbrev pub variables_of : List Product → List ℕ
variables_of ts = flat_map (λ t. map (λ l. l.variable) t.literals) ts

-- no number is listed twice
abbrev pub all_differ : List ℕ → Bool
all_differ [] = true
all_differ (n ∷ ns) = not (list_any (λ m. m == n) ns) && all_differ ns

-- no number is equal to the next one
abbrev pub neighbours_differ : List ℕ → Bool
neighbours_differ [] = true
neighbours_differ (n ∷ []) = true
neighbours_differ (n ∷ m ∷ ms) = not (m == n) && neighbours_differ (m ∷ ms)

-- ---- equations

-- the bound is no less than the least sum, and no more than the greatest
abbrev pub is_between : Constraint → Bool
is_between k =
    not (int_lt k.bound (least_sum k.products)) && not (int_lt (pos (positive_total k.products)) k.bound)

-- products of one literal, of different variables and of one size, and a bound that lies between the
-- sums and by multiples of that size above the least one
abbrev pub is_stepped : Constraint → Bool
is_stepped k =
    nat_lt 0 (common_size k.products) && list_all is_single k.products && is_between k
    && (need k % common_size k.products == 0) && all_differ (variables_of k.products)
