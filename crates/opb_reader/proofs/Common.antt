-- What the proofs of this crate stand on, of std and of the crates below.
pub use Rattle.problem_form.proofs.Common.{◌≡◌, ℕ, List, [], ◌∷◌, ◌++◌, map, fold, Result, Ok, Err, refl, sym, ap, ◌∙◌, append-nil, append_assoc, ◌+◌, ◌≤◌, ◌<◌, true, false, ℤ, length, All, Option, arith, zero, suc, Bool, IfOk, not, ◌||◌, pos, ◌+ℤ◌, neg_ℤ, int_lt, int_le, max, subst, to_z, of_z, rules, ◌*◌, ◌^◌, drop, flat_map, AllByRecursion, list_any, fold-map, fold-append, sum_by-cons, sum_by-append, ProblemContent, negated, products_total, constraint_total, sum_of, fails, problem_cost, problem_total, Widened, AddedProduct, AddedConstraint, normal_form, blank, with_variables, with_product, with_constraint, with_part, as_written, MatchOption, unsigned_abs, codes, if◌then◌else◌, bytes_eq, ints, to_z-of_z, All-from_recursion, if_so, all_hold, le-max_left, le-max_right, map-append, flat_map_more, err_from_is_err_and, w128, nat_tests, All-map}
pub use Rattle.whole_text.proofs.Common.{Word}
pub use Rattle.whole_text.specs.declared.faults.TextAnswer.{TextAnswer}
pub use Rattle.whole_text.specs.Steps.{◌>>=◌, Fails, end_line, next_of, fault, Gives}
pub use Rattle.problem_form.proofs.AddedParts.{parts_add_up, products_apart, products_written}
pub use Rattle.opb_reader.specs.Opb.{Listed, Opb, literals_in, widened, variables_of, greatest_index, is_operator, begins_literal, literal_at, is_semicolon, WordsAreEnough}
unfoldable pub use Rattle.opb_reader.specs.Opb.{constraints_at, head_at, reading_of_words, sum_at, comparison_at, constraint_at, literals_at, product_at, many, term_at, closed_at, objective_at}
pub use Rattle.opb_reader.specs.Cost.{constraint_of, problem_of, compared, stands, is_met, is_broken, opb_cost, ReadingKeepsCosts}
unfoldable pub use Rattle.opb_reader.specs.Cost.{problem_of_words}
pub use Rattle.opb_reader.specs.Views.{with_term, with_listed, head_read, constraints_read, put_all, objective_read, constraint_read, literals_read, put}
pub use Rattle.whole_text.specs.declared.words.WordRef.{WordRef}
pub use Rattle.whole_text.specs.TokenTexts.{word_of, words_of}
pub use Rattle.opb_reader.specs.declared.operator.Operator.{Operator}
pub use Rattle.problem_form.proofs.NormalForms.{normal_form-cost}
pub use Rattle.whole_text.proofs.Lengths.{few_words}
pub use Rattle.whole_text.specs.Rows.{left}
pub use Rattle.problem_form.proofs.KeptProducts.{with_constraint-total, with_product-total}
pub use Rattle.literal_lists.specs.declared.literal.Literal.{Literal}
pub use Rattle.problem_form.specs.declared.terms.Product.{Product}
pub use Rattle.problem_form.specs.declared.terms.Constraint.{Constraint}
pub use Rattle.whole_text.specs.declared.faults.TextFault.{TextFault}
pub use Rattle.std.proofs.lemmas.List.Sums.{get_or-le-sum_by}
