-- What the answers of this crate stand on: its lemmas, and what those stand on.
pub use Rattle.opb_reader.proofs.Common.{get_or-le-sum_by, ◌≡◌, List, [], ◌∷◌, ◌++◌, Ok, refl, sym, ap, ◌∙◌, ◌+◌, ◌≤◌, true, false, length, arith, subst, to_z, of_z, rules, ◌*◌, ◌^◌, drop, ProblemContent, products_total, with_variables, with_product, with_constraint, codes, bytes_eq, to_z-of_z, flat_map_more, err_from_is_err_and, w128, Listed, literals_in, widened, greatest_index, is_operator, begins_literal, is_semicolon, sum_at, product_at, compared, with_term, with_listed, head_read, constraints_read, put_all, objective_read, literals_read, word_of, left, with_constraint-total, with_product-total, Literal, Product}
pub use Rattle.opb_reader.proofs.Many.{push, put_none}
pub use Rattle.opb_reader.proofs.Literals.{literal_goes_on, literal_fails, literals_stop, literals_end, product_first}
pub use Rattle.opb_reader.proofs.TermSums.{term_goes_on, term_fails, sum_stops, sum_ends, objective_closed, objective_open, objective_fails}
pub use Rattle.opb_reader.proofs.Constraints.{sum_fails, comparison_fails, constraint_is, compared_within, compared-total, constraint_goes_on, constraint_fails, constraints_end, head_objective, head_other, head_none, next_is}
pub use Rattle.opb_reader.proofs.Variables.{widened-append, widened-le, widened_within, AreWithin, terms_within}
pub use Rattle.opb_reader.proofs.Totals.{size}
