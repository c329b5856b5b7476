-- What the answers of this crate stand on: its lemmas, and what those stand on.
pub use Rattle.problem_form.proofs.Common.{◌≡◌, ℕ, arith, sym, ap, ◌∙◌, List, [], ◌∷◌, ◌++◌, fold, map, ◌+ℤ◌, ◌+◌, ◌-◌, ◌*◌, ◌<◌, ◌^◌, Bool, cond, ℤ, pos, unsigned_abs, max, ◌-ℤ◌, subst, length, length-append, take, drop, eqb, Some, OnOk, is_none, to_z, of_z, rules, tests, count_by, append-nil, length-replicate, drop-map, take-map, ints, total_by, positive_part, Product, Clause, Constraint, ProblemContent, own_cost, problem_total, product_value, sum_of, soft_cost, soft_weight, products_total, constraint_total, IsNormal, IsNormalProduct, kept_product, product_constant, kept_clause, clause_constant, normal_constraint, with_product, with_clause, with_constraint, is_plain_cost, with_marked, answered_number, positive_total, reach, cost_size, penalty, clause_pairs, constraint_pairs, product_pairs, sum_by, Literal, has_clash, int_max, w128, All, slice_range, replicate, All-cons, All-nil, Row, LiesWithin, IsSound, content_within, nat_tests, zip_with, weighed_clauses, product_of, YieldsList-from_first, fold_from_yields_List, elements}
pub use Rattle.problem_form.proofs.MarkedLists.{marked-passed, marked-moved, All-marked, sum_by-marked, marked-map}
pub use Rattle.problem_form.proofs.KeptClauses.{is_empty-length, kept_clause-clash, kept_clause-number, kept_clause-kept, kept_clause-size, with_clause-sound, at_view, as_before, by_result}
pub use Rattle.problem_form.proofs.KeptProducts.{is_dropped, kept_product-zero, kept_product-dropped, kept_product-kept, kept_product-size, kept_products-size, with_product-sound, with_constraint-sound}
pub use Rattle.problem_form.proofs.CountedNumbers.{fold_flat_map, answered_number-power, positive_part-raised, positive_total-le, slack_range-le, answered_square, answered_sum_of_3, squared_alone, squared_spread}
pub use Rattle.problem_form.proofs.CostSizes.{product-size, constant-size, clause-size, own_cost-whole, cost_parts}
pub use Rattle.problem_form.proofs.WeighedParts.{length-zip_with, zip_with-at, zip_with-push, weight_of-some, length-weighed_clauses, weighed_clauses-at, weighed_clauses-hard, weighed_clauses-soft, weighed_clauses-filled, map-coefficients, zip_with-negated, coefficients-small, on_ok}
pub use Rattle.problem_form.proofs.LeftSums.{sums_left, answered_left, answered_end, first_within, rest_within, Sums, Answered}
pub use Rattle.problem_form.proofs.KeptPairs.{hard_clause, pair, kept-alone, kept-two, kept-opposite, with_clause-hard, hard_clause-sound}
