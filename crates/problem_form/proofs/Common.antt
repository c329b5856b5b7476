-- What the proofs of this crate, and of those above it, stand on, of std and of the crates below.
pub use Rattle.std.proofs.Common.{◌≡◌, ℕ, arith, refl, sym, ap, ◌∙◌, List, [], ◌∷◌, ◌++◌, append_assoc, fold, map, ◌+ℤ◌, zero, suc, ◌+◌, ◌-◌, ◌*◌, ◌<◌, ◌≤◌, ◌^◌, min, Bool, leb, cond, inl, inr, true, false, if◌then◌else◌, ℤ, pos, unsigned_abs, max, negsuc, ◌-ℤ◌, subst, length, length-append, take, drop, ◌≢◌, ◌||◌, eqb, Option, Some, None, Result, Ok, Err, OnOk, OnErr, unwrap_or, Less, Greater, not, ◌&&◌, get_or, set, add-one, drop-cons, is_none, int_lt, neg_ℤ, to_z, of_z, rules, tests, count_by, slice_set, IfOk, int_le, ◌==◌, ◌⊎◌, ◌*ℤ◌, ◌/◌, ◌%◌, nat_eq, FitsSigned, ◌↔◌, IsSome, String, string_bytes, ◌≤ℤ◌}
pub use Rattle.std.proofs.lemmas.List.{append-nil, flat_map_more, map-append, take-append-drop, length-replicate, drop-map, take-map, length-map, drop_all, nil_from_length}
pub use Rattle.std.proofs.lemmas.Int.{ints, int_max_is, to_z-of_z, unsigned_abs-mul, fits_signed_from_abs, by_lt_z}
pub use Rattle.std.proofs.lemmas.List.Folds.{fold-map, Any-from_list_any, list_any-append, list_all_at, list_any_at}
pub use Rattle.base.proofs.Totals.{total_by-append, size-total_by, size-plus, total_by-flat_map, total_by-plus, total_by-same, total_by-times, total_by-map}
pub use Rattle.base.specs.Sums.{total_by, if_so, positive_part}
pub use Rattle.problem_form.specs.declared.terms.Product.{Product}
pub use Rattle.problem_form.specs.declared.terms.Clause.{Clause}
pub use Rattle.problem_form.specs.declared.terms.Constraint.{Constraint}
pub use Rattle.problem_form.specs.Problems.{ProblemContent, fails, fails_hard, own_cost, problem_total, product_value, sum_of, is_violated, soft_cost, soft_weight, products_total, constraint_total, IsNormal, IsNormalClause, IsNormalProduct, cut_off, negated, problem_cost}
pub use Rattle.problem_form.specs.NormalForm.{Part, Widened, AddedProduct, AddedClause, AddedConstraint, kept_product, product_constant, kept_clause, clause_constant, normal_constraint, normal_form, blank, with_variables, with_product, with_clause, with_constraint, with_part, as_written, PartsAddUp, is_empty, is_plain_cost, NormalFormKeepsCosts, with_marked}
pub use Rattle.std.specs.Int.Count.{count_leading_zeros}
pub use Rattle.std.proofs.lemmas.Bool.{cases_lt, le-leb, or_parts, or_left, or_right, or_from, eqb-false, false_from_ne_true, eqb-true, and_parts}
pub use Rattle.std.proofs.lemmas.Nat.{leading_length, mul-le}
pub use Rattle.std.proofs.Math.Nat.{pow-suc, pow-zero, pow-le-pow_right, le-max_left, le-max_right, pow-succ'}
pub use Rattle.problem_form.specs.Limits.{powers_within, binary_digits, DigitsAreLeast, answered_number, positive_total, slack_range, reach, cost_size, penalty, clause_complements, clause_pairs, most_complements, constraint_pairs, complements, product_pairs, lower, penalty_above, upper, limit_fault, Counted, first_passed, degree, degrees, pairs, weight, most_degree, slack_bits, constraint_degree, summands, own_upper}
pub use Rattle.std.specs.List.{sum_by, list_any, flat_map, slice_get, AllByRecursion}
pub use Rattle.std.proofs.lemmas.List.Sums.{sum_by-le-sum_by, fold-append, sum_by-append, sum_by-cons, fold_push, count_by-le-length}
pub use Rattle.literal_lists.specs.declared.literal.Literal.{Literal}
pub use Rattle.literal_lists.specs.Literals.{all_hold, has_clash, with_literal, literal_set, IsLiteralSet, are_opposite, holds, some_holds, literal_cmp}
pub use Rattle.std.specs.Int.{int_max, w128}
pub use Rattle.std.specs.Prelude.{All, slice_range, replicate, MatchOption, codes, nat_abs, IfSome, nat_le, nat_lt, ⊤}
pub use Rattle.std.proofs.lemmas.List.Elements.{All-append, All-cons, All-nil, All-tail, All-head, All-push, All-map, All-from_recursion, All-contains, recursion_from_All, All-weaker}
pub use Rattle.std.proofs.Math.Seq.{take-append_seam, take-suc-set, drop-set-lt}
pub use Rattle.problem_form.specs.declared.constraint_list.Row.{Row}
pub use Rattle.problem_form.specs.ConstraintRows.{constraint_of, LiesWithin}
pub use Rattle.base.proofs.FlatParts.{slice_range-append, slice_range-last}
pub use Rattle.std.specs.Ordering.{int_eq, is_eq}
pub use Rattle.std.proofs.Math.Dec.{eqb-suc-zero}
pub use Rattle.problem_form.specs.Fields.{IsSound, content_within}
pub use Rattle.literal_lists.proofs.LiteralSets.{literal_set-ascends, has_clash-literal_set, All-literal_set, list_any-literal_set, list_all-literal_set, literal_set-ascending, literal_set-turned, literal_set-twice}
pub use Rattle.std.specs.Cmp.{nat_cmp_is}
pub use Rattle.std.proofs.lemmas.Bool.Decides.{nat_tests, Decides-int_eq}
pub use mathlib.Core.Bool.{beq}
pub use Rattle.problem_form.specs.WeighedLists.{marked, zip_with, clause_of, weight_of, weighed_clauses, product_of}
pub use Rattle.literal_lists.proofs.LentParts.{drop-at, on_err, slice_range-step}
pub use Rattle.std.proofs.lemmas.Iterator.Search.{any_from_yields_List, all_from_yields_List}
pub use Rattle.std.proofs.lemmas.Iterator.Consumers.{YieldsList-from_first, fold_from_yields_List}
pub use Rattle.base.proofs.DividedWeights.{next_unchanged, one_changed, changed_to}
pub use Rattle.std.proofs.lemmas.Grind.{elements}
pub use Rattle.std.specs.Str.{bytes_eq, IsAscii}
pub use Rattle.std.proofs.lemmas.Result.{err_from_is_err_and, on_ok_weaker}
pub use Rattle.std.proofs.lemmas.Str.Ascii.{IsAscii-from_all}
pub use Rattle.std.specs.Borrow.{Bor}
pub use Rattle.std.proofs.Math.Bool.{or-true}
pub use Rattle.std.proofs.lemmas.Slice.Eq.{bytes_eq-Decides}
pub use Rattle.std.proofs.lemmas.Option.{slice_get_within, get_or_from_slice_get, slice_get_cases}
pub use Rattle.std.proofs.Math.IntN.{*ℤ_comm}
pub use Rattle.base.proofs.Products.{multiply_out, integers, times_assoc}
pub use Rattle.std.proofs.Math.Bridge.{le_prop}
