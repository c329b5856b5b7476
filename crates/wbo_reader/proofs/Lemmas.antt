-- What the answers of this crate stand on: its lemmas, and what those stand on.
pub use Rattle.wbo_reader.proofs.Common.{drop_all, take_all, append-nil, list_any, sum_by-cons, ProblemContent, constraint_total, fails, negated, products_total, Word, ◌>>=◌, end_line, Fails, compared, w128, word_of, words_of, err_from_is_err_and, few_words, slice_get, IsSound, size-plus, ◌≡◌, ℕ, ◌+◌, ◌^◌, List, [], ◌∷◌, ◌++◌, unsigned_abs, sym, subst, arith, false, not, ◌+ℤ◌, int_lt, ap, Result, Ok, OnOk, ◌≤◌, true, map, Some, pos, ◌-ℤ◌, int_le, ◌∙◌, length, Option, drop, rules, to_z, of_z, count_by, ints, to_z-of_z, own_upper, WboContent, paid, paid_for, reaches_top, wbo_cost, wbo_total, with_products, with_rows, bit_product, least_part, least_sum, eased, eased_row, rewritten, top_row, rows_of, Soft, widened, literals_in, head_at, content_of_words, nothing, with_weighed, constraints_read, negated-total, compared-total, TextFault, Product, Constraint, untopped, topped, top_most, most_within, with_most, refl}
pub use Rattle.wbo_reader.proofs.Copied.{normal_itself, soft_within, eased_pushed, least_part-size, least_sum-cons, bits_more}
pub use Rattle.wbo_reader.proofs.Steps.{bit_sound, bits_left, rows_left, hard_sound, soft_sound, hard_added, soft_added, top_needed, first_eased, both_eased}
pub use Rattle.wbo_reader.proofs.Whole.{first_left, soft_more, hard_more, weighed_then, rowed_then, weights_are_sound, rows_are_sound, with_top, without_top, top_sound}
pub use Rattle.wbo_reader.proofs.Paid.{paid_next, paid-le, cost_whole}
pub use Rattle.wbo_reader.proofs.Together.{constraints_after, content_of_words-put, with_constraint-total}
pub use Rattle.wbo_reader.proofs.WeighedSteps.{front_fails, sum_fails, comparison_fails, weighed, weighed_is, added_is, constraint_goes_on, constraint_fails, constraints_end, head_fails}
pub use Rattle.wbo_reader.proofs.Within.{most_there}
