-- What the laws of this crate stand on, of std, of the crates below and of its own definitions.
pub use Rattle.problem_form.proofs.Common.{ℕ, Bool, false, not, cond, refl, ap, List, [], get_or, pos, is_none, int_lt, All, int_eq, list_any, total_by, if_so, holds, all_hold, some_holds, ProblemContent, IsNormal, IsNormalProduct, IsNormalClause, sum_of, soft_weight, soft_cost, fails_hard, fails, cut_off, problem_cost, true, sym, ◌∙◌, subst, arith, length, append_assoc, ℤ, negsuc, flat_map, ints, length-append, Decides-int_eq, positive_part, total_by-append, slack_range, slack_bits, positive_total, zero, suc, inl, inr, cases_lt, mul-le, multiply_out, integers, Option, Some, None, unwrap_or, map, take, sum_by, sum_by-cons, own_cost, cost_size, own_upper, lower, upper, penalty_above, penalty, binary_digits, neg_ℤ, total_by-flat_map, total_by-same, total_by-times, list_all-literal_set, unsigned_abs, total_by-map, products_total, is_violated, nat_tests, or_parts, All-head, All-tail, Literal, pow-succ', pow-zero}
pub use Rattle.form_steps.proofs.Common.{times-le, Cost}
pub use Rattle.problem_form.specs.declared.terms.Product.{Product}
pub use Rattle.problem_form.specs.declared.terms.Clause.{Clause}
pub use Rattle.problem_form.specs.declared.terms.Constraint.{Constraint}
pub use Rattle.base.specs.declared.costs.Cost.TheVariants.{Whole, Infinite}
pub use Rattle.std.proofs.Common.{◌<ℤ◌, ltb}
pub use Rattle.term_table.specs.Terms.{term_cost, terms_cost, Term}
pub use Rattle.penalty_layer.specs.Slack.{slack_weights, slack_value, clamped, doubled, last_weight, weights_for, digit_bits, bits_for, value_bits}
pub use Rattle.penalty_layer.specs.Squares.{square_terms, slack_form, constraint_terms, slack_of, slack_state, product_term, slack_terms}
pub use Rattle.penalty_layer.specs.Stated.{excess}
pub use Rattle.std.proofs.lemmas.List.{take_all, length-take, length-set, take-append-le}
pub use Rattle.form_steps.specs.declared.layer.BitsLink.{BitsLink}
pub use Rattle.base.specs.Costs.{IsNeverInfinite}
pub use Rattle.form_steps.specs.Relations.{Relaxes, RelaxesAtLeast, RelaxesBy, ReachesIn, StandsAt, StaysAbove, Joins, ExtendsLeast}
pub use Rattle.form_steps.specs.Links.{first_bits, HasFirstBits}
pub use Rattle.problem_form.specs.Limits.{lesser_of}
pub use Rattle.term_table.proofs.Agreement.{Agrees, first_agrees, holds-agrees, all_hold-agrees}
pub use Rattle.term_table.proofs.Additions.{terms_cost-with_additions}
pub use Rattle.penalty_layer.specs.Penalty.{plain_terms, contributions, clause_term, clause_terms, node_count, image, figures, extension, Fits, Allows, opposite}
pub use Rattle.problem_form.specs.declared.penalties.PartPenalties.{PartPenalties}
pub use Rattle.problem_form.specs.PartPenalties.{own, rest, missing, clause_prices, constraint_prices, priced_cost, breaks_part, breaks_whole, some_whole, made_true, Mends, AreEnough, IsGlobal}
pub use Rattle.form_steps.specs.declared.scope.PenaltyScope.{PenaltyScope}
pub use Rattle.form_steps.specs.declared.scope.PenaltyScope.TheVariants.{Global, Local}
pub use Rattle.problem_form.proofs.BinaryDigits.{digits_are_least}
pub use Rattle.problem_form.proofs.NormalForms.{all_hold-clash}
pub use Rattle.term_table.specs.Products.{union, scaled, product_terms, products_with}
pub use Rattle.std.proofs.lemmas.List.Folds.{list_all-append}
pub use Rattle.std.proofs.lemmas.Bool.{or_cases}
pub use Rattle.std.proofs.lemmas.List.Concat.{length-flat_map}
