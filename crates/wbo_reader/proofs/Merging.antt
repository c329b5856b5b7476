-- Rows put together in an order: some constraint of them fails where one of either list does.
use Rattle.wbo_reader.proofs.Common.{nat_tests, arith, ◌≡◌, Bool, true, false, ◌||◌, List, [], ◌∷◌, ◌++◌, refl, ap, list_any, list_any-append, Constraint, merged, hard_rows, all_of}

first_of_three : (a b c : Bool) → (a || (b || c)) ≡ ((a || b) || c)
first_of_three a b c = grind (arith, nat_tests)

second_of_three : (a b c : Bool) → (b || (a || c)) ≡ (a || (b || c))
second_of_three a b c = grind (arith, nat_tests)

or_none : (b : Bool) → b ≡ (b || false)
or_none b = grind (arith, nat_tests)

module _ {A : Type 0} (test : A → Bool) where
  abbrev any_in : List (List A) → Bool
  any_in rows = list_any test (all_of rows)

  any_in-cons : (row : List A) (rows : List (List A))
      → any_in (row ∷ rows) ≡ (list_any test row || any_in rows)
  any_in-cons row rows = list_any-append test row (all_of rows)

  any_in-append : (first second : List (List A))
      → any_in (first ++ second) ≡ (any_in first || any_in second)
  any_in-append [] second = refl
  any_in-append (row ∷ first) second =
      grind (arith, nat_tests, any_in-append first second, any_in-cons, first_of_three)

  pub any_in-merged : (order : List Bool) (first second : List (List A))
      → any_in (merged order first second) ≡ (any_in first || any_in second)
  any_in-merged [] first second = any_in-append first second
  any_in-merged (true ∷ order) first [] = or_none (any_in first)
  any_in-merged (true ∷ order) first (row ∷ second) =
      grind (arith, nat_tests, any_in-merged order first second, any_in-cons, second_of_three)
  any_in-merged (false ∷ order) [] second = refl
  any_in-merged (false ∷ order) (row ∷ first) second =
      grind (arith, nat_tests, any_in-merged order first second, any_in-cons, first_of_three)

pub concat-hard_rows : (hard : List Constraint) → all_of (hard_rows hard) ≡ hard
concat-hard_rows [] = refl
concat-hard_rows (k ∷ hard) = ap (λ ks. k ∷ ks) (concat-hard_rows hard)
