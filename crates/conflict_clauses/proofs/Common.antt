-- What the proofs of this crate stand on, of std and of the crates below.
pub use Rattle.std.proofs.Common.{◌≡◌, ℕ, zero, ◌+◌, ◌<◌, refl, sym, ap, ◌∙◌, arith, List, [], ◌∷◌, ◌++◌, length, map, take, drop, get_or, suc, add-one, append_assoc, append-nil, drop-cons, ◌≤◌, Bool, true, false, ◌&&◌, ltb, min, cond, not, leb, Some, None, pos, int_lt, ◌||◌, eqb, ℤ, negsuc, ◌+ℤ◌, ◌-ℤ◌, ◌<ℤ◌, ◌≤ℤ◌, unsigned_abs, subst, rules, ◌^◌, tests, to_z, of_z, Option}
pub use Rattle.problem_form.proofs.Common.{kept_clause, with_clause, with_marked, constraint_total, ProblemContent, fails, fails_hard, product_value, soft_cost, soft_weight, sum_of, cut_off, products_total, IsNormalProduct, nat_tests, count_by, All, nat_lt, MatchOption, list_any-append, fold-map, ints, if_so, positive_part, total_by, total_by-append, all_hold, holds, some_holds, marked, all_from_yields_List, YieldsList-from_first, w128, elements, beq}
pub use Rattle.std.specs.List.{list_all, filter, flat_map, list_any, sum_by, slice_get}
pub use Rattle.std.proofs.lemmas.List.{map-append, take_more, take_all}
pub use Rattle.std.proofs.lemmas.List.Concat.{flat_map-append}
pub use Rattle.literal_lists.specs.declared.literal.Literal.{Literal}
pub use Rattle.conflict_clauses.specs.Conflicts.{cover_lists, gives, is_cover, is_short, is_left, without, without_covers, hard, hard_clauses, pairs_of, are_apart, each_two, is_conflict, is_needed, is_replaced, most_pairs, most_products, pair_count, pairs, needed, others, wanted_lists, CostsAlike, clauses_from, clauses_of, constraints_from, spent_after, without_conflicts}
pub use Rattle.conflict_clauses.specs.Steps.{alone, with_hard, IsFound, may_conflict, staying, with_clauses_from, with_clauses_of, AreWithin, IsTaken, IsCoverTaken, with_conflict, with_cover}
pub use Rattle.std.proofs.lemmas.Bool.{le-ltb, lt-ltb, and_parts, false≢true, ltb-false, ltb-true, eqb-true}
pub use Rattle.problem_form.specs.declared.terms.Product.{Product}
pub use Rattle.std.proofs.lemmas.List.Sums.{length-filter, sum_by-cons, sum_by-append}
pub use Rattle.problem_form.specs.declared.terms.Constraint.{Constraint}
pub use Rattle.problem_form.specs.Limits.{positive_total, lesser_of, own_upper, least_sum, need, negative_total, room}
pub use Rattle.problem_form.proofs.NormalForms.{list_any-kept}
pub use Rattle.std.proofs.lemmas.List.Elements.{All-filter, All-cons, All-head, All-map, All-nil, All-tail, All-weaker}
pub use Rattle.conflict_clauses.specs.declared.conflicts.Found.{Found}
pub use Rattle.problem_form.proofs.CountedNumbers.{positive_total-le}
pub use Rattle.std.proofs.Math.Bool.{and-true, or_assoc, or-false, and-false}
pub use Rattle.problem_form.specs.Wanted.{size, is_single, is_negative, wanted, turned_literal}
