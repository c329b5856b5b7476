-- What the proofs of this crate stand on, of std and of the crates below.
pub use Rattle.whole_text.proofs.Common.{append_assoc, append-nil, get_or-take, map-append, length-append, take-append-le, take_all, length-map, drop_more}
pub use Rattle.opb_reader.proofs.Common.{AllByRecursion, list_any, flat_map, sum_by-append, sum_by-cons, ProblemContent, constraint_total, problem_total, sum_of, fails, negated, problem_cost, products_total, if_so, all_hold, blank, with_variables, Word, ◌>>=◌, next_of, end_line, Fails, nat_tests, constraint_of, is_met, compared, put_all, w128, word_of, words_of, err_from_is_err_and, few_words}
pub use Rattle.problem_form.proofs.Common.{cut_off, drop_all, slice_get, sum_by, IsNormalProduct, product_value, IsSound, int_eq, total_by, positive_part, holds, IsLiteralSet, is_empty, kept_product, product_constant, normal_constraint, total_by-append, size-plus, list_any-append, drop-at, zip_with, ◌≡◌, ℕ, ◌+◌, ◌<◌, ◌^◌, List, [], ◌∷◌, ◌++◌, All, unsigned_abs, sym, subst, arith, Bool, false, cond, not, ◌&&◌, ◌||◌, take, ◌+ℤ◌, int_lt, refl, ap, ◌≢◌, Result, Ok, Err, OnOk, zero, suc, ◌≤◌, true, map, Some, ℤ, pos, ◌-ℤ◌, int_le, ◌∙◌, get_or, ◌≤ℤ◌, neg_ℤ, length, Option, None, IfOk, codes, drop, fold, unwrap_or, ◌*ℤ◌, ◌*◌, eqb, rules, to_z, of_z, All-from_recursion, recursion_from_All, All-nil, All-weaker, if◌then◌else◌, bytes_eq, nat_le, count_by, ⊤, ints, by_lt_z, to_z-of_z, literal_set-ascending, positive_total, own_upper, All-cons, All-map, All-push, or_parts}
pub use Rattle.wbo_reader.specs.Wbo.{IsNormalConstraint, soft_total, WboContent, paid, paid_for, reaches_top, wbo_cost, IsWbo, wbo_total, IsNormalSource}
pub use Rattle.wbo_reader.specs.Rewriting.{with_products, with_rows, bit_product, least_part, eased, eased_row, merged, hard_rows, all_of, rewritten, extended, eased_rows, weighed_bits, RewritesItsSource, CarriesAssignments, RewrittenIsSound, UpperIsSoftWeights, top_row, rows_of, most_within, topped, rewritten_within, at_most, top_bound, top_most, untopped, IsWithin, TopIsABound}
pub use Rattle.problem_form.proofs.KeptProducts.{kept_product-kept, kept_products-normal, normal_constraint-total}
pub use Rattle.wbo_reader.specs.declared.soft.Soft.{Soft}
unfoldable pub use Rattle.whole_text.specs.Steps.{natural_at}
pub use Rattle.opb_reader.specs.Opb.{Listed, never, widened, literals_in, is_operator, coefficient_at, comparison_at, Opb}
unfoldable pub use Rattle.opb_reader.specs.Opb.{constraint_at, many, index_at, name_at, literal_at, literals_at, product_at, term_at, sum_at}
pub use Rattle.opb_reader.proofs.Many.{Leaves, Shrinks, many_enough, many_all, Reader, many_go_on, many_fail, many_end}
pub use Rattle.opb_reader.proofs.Shrinking.{constraint_shrinks}
pub use Rattle.wbo_reader.specs.Reading.{Weighed, greatest_index, after_word, WordsAreEnough, all_literals, hard_by, hard_of, soft_by, soft_of, order_by, content_of, breaks, pays, ReadingKeepsCosts, variables_of, ReadingIsNormal, RewritesItsText, WboText, head_at}
unfoldable pub use Rattle.wbo_reader.specs.Reading.{weight_at, front_at, weighed_at, constraints_at, content_of_words, reading_of_words}
pub use Rattle.opb_reader.proofs.Variables.{widened-append, AreWithin, widened-le, terms_within}
pub use Rattle.wbo_reader.specs.Gathering.{nothing, with_weighed, constraints_read, with_constraint, constraint_read}
pub use Rattle.base.specs.declared.costs.Cost.{Cost}
pub use Rattle.opb_reader.proofs.ReadCosts.{reading_keeps_costs}
pub use Rattle.base.proofs.Products.{times-lt}
pub use Rattle.base.specs.Costs.{energy}
pub use Rattle.form_steps.specs.Relations.{Relaxes, first_decoded}
pub use Rattle.form_steps.proofs.Rewritten.{rewritten_by, rewritten_relaxes}
pub use Rattle.wbo_reader.specs.Extensions.{ExtendsAfterRewrites}
unfoldable pub use Rattle.std.specs.List.Sorted.{IsStrictlySortedBy}
pub use Rattle.opb_reader.proofs.Constraints.{negated-total, compared_within, compared-total}
pub use Rattle.std.specs.Vec.{vec_len}
pub use Rattle.problem_form.proofs.WeighedParts.{length-zip_with, zip_with-at, zip_with-push}
pub use Rattle.problem_form.proofs.CountedNumbers.{positive_total-le}
pub use Rattle.whole_text.proofs.LineTokens.{all_append}
pub use Rattle.whole_text.specs.declared.faults.TextFault.{TextFault}
pub use Rattle.opb_reader.specs.declared.operator.Operator.{Operator}
pub use Rattle.whole_text.specs.declared.faults.TextAnswer.{TextAnswer}
pub use Rattle.literal_lists.specs.declared.literal.Literal.{Literal}
pub use Rattle.problem_form.specs.declared.terms.Product.{Product}
pub use Rattle.problem_form.specs.declared.terms.Constraint.{Constraint}
pub use Rattle.problem_form.specs.NormalForm.{with_most}
pub use Rattle.problem_form.specs.Limits.{least_sum, lesser_most, negative_total}
pub use Rattle.opb_reader.specs.Cost.{compared}
pub use Rattle.opb_reader.specs.declared.operator.Operator.TheVariants.{AtMost}
