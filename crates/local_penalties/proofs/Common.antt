-- What the proofs of this crate stand on, of std and of the crates below.
pub use Rattle.std.proofs.Common.{◌≡◌, ◌≢◌, ℕ, zero, suc, ◌+◌, ◌-◌, ◌*◌, ◌/◌, ◌%◌, ◌<◌, ◌≤◌, ◌^◌, refl, sym, ap, subst, ◌∙◌, arith, rules, tests, List, [], ◌∷◌, ◌++◌, length, map, take, drop, set, get_or, Bool, true, false, not, cond, ◌&&◌, ◌||◌, eqb, ltb, leb, min, max, ℤ, pos, negsuc, ◌+ℤ◌, ◌-ℤ◌, ◌<ℤ◌, ◌≤ℤ◌, unsigned_abs, int_lt, Some, None, Option, fold, get_or-set_same, get_or-set_other}
pub use Rattle.problem_form.proofs.Common.{nat_tests, ints, elements, All, beq, All-head, All-tail, All-cons, nat_lt, nat_le, list_any, sum_by, slice_get, sum_by-cons, positive_part, ProblemContent}
pub use Rattle.std.proofs.lemmas.Bool.{le-ltb, lt-ltb, and_parts, false≢true, ltb-false, ltb-true, eqb-true, eqb-false}
pub use Rattle.literal_lists.specs.declared.literal.Literal.{Literal}
pub use Rattle.literal_lists.specs.Codes.{code_of}
pub use Rattle.problem_form.specs.declared.terms.Product.{Product}
pub use Rattle.problem_form.specs.declared.terms.Clause.{Clause}
pub use Rattle.problem_form.specs.declared.terms.Constraint.{Constraint}
pub use Rattle.local_penalties.specs.Hurting.{same, meets, moves, moves_sum, hurts_clause, hurts_constraint, most_missing}
pub use Rattle.local_penalties.specs.Tallies.{number_of, is_marked, AreWithin, each_once}
pub use Rattle.local_penalties.specs.Tallies.{HavePlaces, MayChange}
pub use Rattle.local_penalties.specs.Prices.{far, whole_penalty, charge, product_rise, soft_rise, rise, clause_charges, constraint_charges, price}
pub use Rattle.problem_form.proofs.Common.{IsNormalProduct, IsNormalClause, soft_weight, IsLiteralSet, literal_cmp}
pub use Rattle.literal_lists.specs.Literals.{has_clash}
pub use Rattle.std.specs.List.{filter, flat_map, list_all, count_by}
pub use Rattle.local_penalties.specs.Rounds.{least, put_down, descending, greatest, count_past, least_false, price_of_step, wanted_prices, sufficient, price_alone, price_of_side, equation_penalty, clause_penalty, bound_penalty, constraint_penalty, next_clause, next_clauses, next_constraint, next_constraints, next_penalties, after_rounds, without_own, penalties_of}
pub use Rattle.problem_form.proofs.Common.{All-weaker, Less, AllByRecursion}
pub use Rattle.problem_form.proofs.Common.{positive_total, products_total, constraint_total, append-nil, map-append, sum_by-le-sum_by, neg_ℤ, w128, to_z, of_z}
pub use Rattle.problem_form.proofs.CountedNumbers.{positive_total-le}
pub use Rattle.std.proofs.lemmas.Grind.{fold-append}
pub use Rattle.problem_form.specs.declared.penalties.PartPenalties.{PartPenalties}
pub use Rattle.problem_form.specs.PartPenalties.{own, rest}
pub use Rattle.literal_lists.proofs.LentParts.{drop-at}
pub use Rattle.problem_form.proofs.Common.{append_assoc, add-one, drop_all, slice_get_within, get_or_from_slice_get}
pub use Rattle.std.specs.List.Sorted.{IsSortedBy, IsPermutation}
pub use Rattle.std.proofs.lemmas.List.Sorted.{sum_by-IsPermutation, ranks_by, IsStrictWeakOrder-flip}
pub use Rattle.std.proofs.lemmas.Fn.{always_returns_same}
pub use Rattle.std.specs.Ordering.{is_lt, nat_cmp}
pub use Rattle.std.specs.Cmp.{nat_cmp_total}
pub use Rattle.std.proofs.lemmas.List.{map_more, drop_more, get_or_past}
pub use Rattle.local_penalties.specs.Stepping.{common_size, variables_of, all_differ, neighbours_differ, is_between, is_stepped}
pub use Rattle.problem_form.specs.Wanted.{turned_literal, is_negative, wanted, is_single, size}
pub use Rattle.problem_form.specs.Limits.{least_sum, need, room, negative_total}
