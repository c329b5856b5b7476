-- What the laws of this crate stand on, of std, of the crates below and of its own definitions.
pub use Rattle.term_table.proofs.Common.{map, ℕ, zero, suc, Bool, true, false, cond, List, [], length, take, get_or, pos, AllByRecursion, sum_by, arith, sym, ap, ◌∙◌, refl, subst, inl, inr, ints, cases_lt, nat_tests, get_or_append_left, get_or_push, length_push, length-append, take-append-le, take_all, sum_by-cons, if_so, total_by-append, all_hold, Term, terms_cost, IsTermSet, TableContent, IsTable, ℤ, neg_ℤ, All, All-head, All-tail, Literal}
pub use Rattle.std.specs.List.{flat_map}
pub use Rattle.std.proofs.lemmas.List.{get_or-append-add, length-take}
pub use Rattle.form_steps.specs.declared.layer.BitsLink.{BitsLink}
pub use Rattle.base.specs.Costs.{IsNeverInfinite}
pub use Rattle.form_steps.specs.Relations.{Keeps, Extends, Joins}
pub use Rattle.form_steps.specs.Links.{first_bits, HasFirstBits}
pub use Rattle.literal_lists.specs.Literals.{holds}
pub use Rattle.term_table.specs.Terms.{term_cost}
pub use Rattle.term_table.proofs.KeptTerms.{OfSet}
pub use Rattle.term_table.proofs.Agreement.{Agrees, first_agrees, longer_agrees, holds-agrees, all_hold-agrees, terms_cost-agrees}
pub use Rattle.term_table.proofs.Additions.{terms_cost-with_additions}
pub use Rattle.monomial_layer.specs.Monomials.{negative_terms, positive_terms, nodes_for, new_nodes, new_terms, all_new_terms, image, Fits, is_taken, first_values, true_literals, new_bits, extension, factor, node, with_each, each_with, pair_terms, node_term, node_terms}
pub use Rattle.std.proofs.Common.{not, ◌&&◌, leb, ◌≤ℤ◌, int_lt, eqb, ◌-ℤ◌}
pub use Rattle.std.proofs.lemmas.List.Sums.{count_by-le-length}
pub use Rattle.base.proofs.Products.{multiply_out, integers, times-le, times-le_negative, times-plus}
pub use Rattle.base.proofs.Totals.{total_by-map, total_by-if_so, total_by-same}
pub use Rattle.std.proofs.lemmas.List.Concat.{length-flat_map}
