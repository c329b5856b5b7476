-- Constraints whose products lie one after another in one list.
use Rattle.std.specs.Prelude.{ℕ, ◌≤◌, List}
use Rattle.std.specs.List.{slice_range}
use Rattle.problem_form.specs.declared.terms.Product.{Product}
use Rattle.problem_form.specs.declared.terms.Constraint.{Constraint}
use Rattle.problem_form.specs.declared.constraint_list.Row.{Row}

-- the constraint of a row: the products from its start to its end
abbrev pub constraint_of : List Product → Row → Constraint
constraint_of products row = record {
  products = slice_range products row.start row.end;
  bound = row.bound;
  exact = row.exact;
}

-- the products of the row are among the first so many
abbrev pub LiesWithin : ℕ → Row → Type 0
LiesWithin len row = (row.start ≤ row.end) × (row.end ≤ len)
