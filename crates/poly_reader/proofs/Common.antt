-- What the proofs of this crate stand on, of std and of the crates below.
pub use Rattle.problem_form.proofs.Common.{◌≡◌, ℕ, List, [], ◌∷◌, ◌++◌, length, get_or, map, fold, Result, Ok, Err, refl, sym, ap, ◌∙◌, true, false, append-nil, append_assoc, ◌==◌, ◌<◌, arith, ◌≤◌, Bool, not, cond, ◌||◌, ◌+◌, All, suc, length-append, ◌⊎◌, inl, inr, zero, Some, slice_get, pos, ℤ, subst, ◌&&◌, rules, to_z, of_z, ◌*◌, ◌^◌, map-append, fold-append, ProblemContent, sum_of, problem_cost, problem_total, normal_form, blank, with_variables, with_product, literal_set, with_literal, all_hold, and_parts, IsAscii, All-from_recursion, All-push, All-contains, All-tail, IsAscii-from_all, bytes_eq, if◌then◌else◌, ◌+ℤ◌, Bor, or-true, bytes_eq-Decides, list_any-append, int_eq, literal_set-ascends, literal_set-ascending, literal_set-turned, has_clash-literal_set, All-literal_set, ints, to_z-of_z, total_by, if_so, err_from_is_err_and, w128, nat_tests}
pub use Rattle.whole_text.proofs.Common.{Word}
pub use Rattle.whole_text.specs.declared.faults.TextAnswer.{TextAnswer}
pub use Rattle.whole_text.specs.Steps.{◌>>=◌, Fails, integer_at}
pub use Rattle.problem_form.proofs.AddedParts.{products_add_up, products_apart}
pub use Rattle.poly_reader.specs.declared.reading.Polynomial.{Polynomial}
pub use Rattle.poly_reader.specs.Poly.{Named, Listed, literal_at, begins_name, is_name_byte, is_name}
unfoldable pub use Rattle.poly_reader.specs.Poly.{reading_of_words, product_at}
pub use Rattle.poly_reader.specs.Numbering.{with_name, names_after, all_literals, names_of, number_of, NamesAreNumbered, AreNames}
pub use Rattle.poly_reader.specs.Cost.{product_of, problem_of, polynomial_of, literal_of, is_true, value_of, poly_cost, ReadingKeepsCosts}
unfoldable pub use Rattle.poly_reader.specs.Cost.{polynomial_of_words}
pub use Rattle.poly_reader.specs.Views.{with_listed, products_read, numbered, literals_read, names_lent, product_read, products_put, named_of}
pub use Rattle.whole_text.specs.Rows.{on_line, past_line, left}
unfoldable pub use Rattle.whole_text.specs.Rows.{each, by_line}
pub use Rattle.std.specs.List.{AllByRecursion, list_all, list_any, position_or_len}
pub use Rattle.indexmap.specs.IndexSet.{insert_key}
pub use Rattle.problem_form.proofs.KeptClauses.{is_empty-literal_set}
pub use Rattle.whole_text.proofs.Rows.{row_of, by_line-first}
pub use Rattle.problem_form.proofs.NormalForms.{normal_form-cost}
pub use Rattle.whole_text.specs.TokenTexts.{word_of}
pub use Rattle.problem_form.proofs.KeptProducts.{with_product-total}
pub use Rattle.whole_text.proofs.Lengths.{few_words}
pub use Rattle.literal_lists.specs.declared.literal.Literal.{Literal}
pub use Rattle.problem_form.specs.declared.terms.Product.{Product}
pub use Rattle.whole_text.specs.declared.faults.TextFault.{TextFault}
