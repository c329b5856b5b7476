-- What the laws of this crate stand on, of std, of the crates below and of its own definitions.
pub use Rattle.term_table.proofs.Common.{ℕ, Bool, true, false, cond, List, [], map, pos, unsigned_abs, neg_ℤ, is_eq, arith, sym, ap, ◌∙◌, refl, inl, inr, ints, if_so, total_by-append, all_hold, literal_cmp, Term, terms_cost, nat_tests, zero, suc, length, take, get_or, fold, Option, Some, None, AllByRecursion, subst, get_or_push, length_push, take-append-le, take_all, recursion_from_All, IsTermSet, TableContent, All, list_any, length-append, tied_itself, All-append, All-from_recursion, IsLiteralSet, Rises, no_clash, literal_total, AreTerms, ℤ, Ordering, Literal}
pub use Rattle.std.proofs.Common.{not}
pub use Rattle.std.specs.List.{filter, slice_index_or}
pub use Rattle.std.specs.Ordering.{ordering_then, bool_cmp}
pub use Rattle.std.specs.declared.cmp.Ordering.TheVariants.{Equal, Less}
pub use Rattle.literal_lists.specs.Literals.{holds}
pub use Rattle.term_table.specs.Terms.{term_cost}
pub use Rattle.term_table.proofs.Additions.{terms_total-cons, terms_cost-with_additions}
pub use Rattle.term_table.proofs.Agreement.{Agrees, first_agrees, longer_agrees, holds-agrees, terms_cost-agrees}
pub use Rattle.term_table.proofs.SetOrder.{same_set}
pub use Rattle.rosenberg_layer.specs.Rosenberg.{Pair, is_literal, has_literal, without, has_pair, new_term, pair_total, tie_terms, replaced, node, next_pair, with_pair, with_next, substituted, run, excess, image, next_before, pairs_of, with_product, extension, Fits, is_long, front_pair}
pub use Rattle.std.proofs.lemmas.List.{length-take}
pub use Rattle.form_steps.specs.declared.layer.BitsLink.{BitsLink}
pub use Rattle.base.specs.Costs.{IsNeverInfinite}
pub use Rattle.form_steps.specs.Relations.{Keeps, Extends, Joins}
pub use Rattle.form_steps.specs.Links.{first_bits, HasFirstBits}
pub use Rattle.term_table.specs.Tables.{form_of}
unfoldable pub use Rattle.std.specs.List.Sorted.{IsStrictlySortedBy}
pub use Rattle.std.specs.Cmp.{nat_cmp_is}
pub use Rattle.term_table.proofs.KeptTerms.{OfSet, AreTerms-with_additions}
pub use Rattle.term_table.proofs.SmallSets.{IsBelow, Ascend, IsLiteralSet-ascends, IsTermSet-one, IsTermSet-two, IsTermSet-wider}
