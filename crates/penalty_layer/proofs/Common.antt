-- What the proofs of this crate stand on, of std and of the crates below.
pub use Rattle.penalty_layer.specs.laws.Common.{BitsLink, Relaxes, first_bits, slack_weights, doubled, digit_bits, last_weight, weights_for, value_bits, clamped, Product, Clause, Literal, Constraint}
pub use Rattle.term_table.proofs.Common.{terms_total, with_additions, Term, IsTermSet, Ascends, set_cmp, coefficient_of, HasRoomFor, scaled, products_with, IsFactor, union, product_terms, union_terms}
pub use Rattle.problem_form.proofs.Common.{◌≡◌, ◌+◌, ◌≤◌, ◌^◌, pos, unsigned_abs, ℤ, [], subst, sym, ap, ◌∙◌, arith, ℕ, ◌-◌, ◌*◌, max, Bool, true, false, cond, Option, Some, unwrap_or, List, ◌∷◌, ◌++◌, length, map, fold, count_by, append_assoc, refl, inl, inr, ◌<◌, not, ◌||◌, suc, get_or, neg_ℤ, ◌*ℤ◌, All, zero, ◌/◌, ◌%◌, nat_eq, append-nil, drop, ◌+ℤ◌, rules, to_z, of_z, FitsSigned, ◌-ℤ◌, OnOk, None, is_none, if◌then◌else◌, ProblemContent, IsNormal, products_total, soft_weight, constraint_total, sum_of, upper, limit_fault, Counted, first_passed, degree, degrees, pairs, weight, penalty, reach, most_degree, slack_range, slack_bits, product_pairs, clause_pairs, constraint_pairs, constraint_degree, summands, binary_digits, sum_by, AllByRecursion, list_any, flat_map, slice_get, ints, unsigned_abs-mul, to_z-of_z, fits_signed_from_abs, or_parts, cases_lt, eqb-true, sum_by-cons, sum_by-append, is_eq, length-map, length-append, drop_all, nil_from_length, All-from_recursion, recursion_from_All, All-cons, All-append, All-map, All-nil, All-head, All-tail, beq, literal_cmp, are_opposite, has_clash, IsLiteralSet, literal_set, nat_tests, mul-le, pow-le-pow_right, pow-succ', pow-zero, slice_get_within, get_or_from_slice_get, literal_set-ascending, literal_set-turned, literal_set-twice, literal_set-ascends, drop-at, *ℤ_comm, total_by, if_so, multiply_out, integers, times_assoc, total_by-append, total_by-flat_map, total_by-plus, total_by-same, total_by-times, w128, zip_with}
pub use Rattle.term_table.specs.Tables.{TableContent, KeptTable, kept_at_once, table_size, AreAdditions, with_more}
pub use Rattle.term_table.proofs.KeptTerms.{Ascends-with_additions, OfSet}
pub use Rattle.penalty_layer.specs.Penalty.{Admits, contributions, node_count, image, Fits, Allows, opposite, clause_term, clause_terms, plain_terms}
pub use Rattle.problem_form.specs.PartPenalties.{own, rest}
pub use Rattle.penalty_layer.specs.laws.Common.{PenaltyScope, RelaxesBy, StaysAbove}
pub use Rattle.penalty_layer.specs.laws.Relaxing.{penalty_relaxes, penalty_stays, penalty_extends, prices_are_least, global_is_enough}
pub use Rattle.problem_form.proofs.CountedNumbers.{positive_total-le, slack_range-le}
pub use Rattle.penalty_layer.specs.Weights.{clause_weights}
unfoldable pub use Rattle.std.specs.List.Sorted.{IsStrictlySortedBy}
pub use Rattle.term_table.proofs.RoomForTerms.{room-additions}
pub use Rattle.term_table.proofs.SmallSets.{IsTermSet-none, IsTermSet-one, IsTermSet-wider}
pub use Rattle.term_table.proofs.TermProducts.{AreFactors, factor_set, products_with-sets, length-union, products_with-total}
pub use Rattle.penalty_layer.specs.Sets.{IsSet}
pub use Rattle.penalty_layer.specs.Squares.{product_term, square_terms, node, slack_terms, slack_form, constraint_terms, slack_state}
pub use Rattle.penalty_layer.specs.laws.SlackValues.{length-slack_weights, HasDigits, HasDigits-binary_digits, HasBits, HasBits-front, slack_reaches, slack_value-le}
pub use Rattle.term_table.proofs.Additions.{sets_sum, sets_sum-cons, sets_sum-with_additions, terms_total-cons, terms_total-append, terms_total-with_additions}
pub use Rattle.term_table.proofs.SetSizes.{terms_size-once}
pub use Rattle.penalty_layer.specs.Stated.{SquaresAreProducts}
pub use Rattle.term_table.proofs.Filling.{fills_as, rest_more, rest_room, room_as, Rest, fills_same, room_first, room_next, room_same, rest_all, rest_none, fills_more, fills_none}
pub use Rattle.penalty_layer.specs.laws.SquareCosts.{constraint-cost}
pub use Rattle.problem_form.proofs.WeighedParts.{length-zip_with, zip_with-at, zip_with-push}
pub use Rattle.penalty_layer.specs.Gathered.{term_of}
pub use Rattle.problem_form.proofs.CostSizes.{sum_of-size}
pub use Rattle.term_table.proofs.Filled.{fills_if_ok}
