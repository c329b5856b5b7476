-- What the proofs of this crate stand on, of std and of the crates below.
pub use Rattle.std.proofs.Common.{set, ◌≡◌, Bool, true, false, arith, sym, ap, refl, List, [], ◌∷◌, ℤ, pos, ◌+ℤ◌, ◌⊎◌, inl, inr, ℕ, zero, suc, ◌*◌, ◌%◌, ◌≤◌, neg_ℤ, ◌*ℤ◌, int_rem, unsigned_abs, ◌++◌, if◌then◌else◌, map, ◌∙◌, subst, ◌≢◌, ◌+◌, ◌<◌, ◌^◌, eqb, length, replicate, All, fold, append_assoc, append-nil, length-append, get_or, ◌&&◌, take, ◌≤ℤ◌, ◌<ℤ◌, to_z, of_z, rules, ◌-ℤ◌, drop, FitsSigned}
pub use Rattle.term_table.proofs.Common.{Ordering, Decides-int_eq, nat_tests, total_by, if_so, Literal, Term, set_cmp, in_front, with_addition, with_additions, terms_total, Ascends, AreTerms, IsTermSet, set_size, terms_size, coefficient_of, recursion_from_All, All-from_recursion, All-append, All-nil, All-push, All-tail, All-weaker, All-head, contributions, plain_terms, HasRoomFor, elements}
pub use Rattle.form_steps.proofs.Common.{Form, Figures, take-append_seam}
pub use Rattle.pair_sums.proofs.Common.{Entry, IsPair, weight_at, weight_for, IsNonzero}
pub use Rattle.std.specs.Ordering.{int_eq, match_ordering, ordering_then, is_eq}
pub use Rattle.std.proofs.lemmas.Int.{ints, quot-rem, unsigned_abs-mul, to_z-of_z}
pub use Rattle.term_table.proofs.SetOrder.{same_set}
pub use Rattle.std.specs.Int.{◌∣◌, IsGcd, w128}
pub use Rattle.std.specs.List.{AllByRecursion, list_all, sum_by, slice_index_or, flat_map}
pub use Rattle.std.proofs.Math.Nat.{one-dvd, eq-zero_of_zero-dvd, dvd_trans, dvd_refl, mul-le-mul_right, mul-le-mul_left, dvd-mul_right, mul-dvd-mul_left}
pub use Rattle.std.proofs.lemmas.Bool.{eq-eqb, eqb-true, and_parts, and_from}
pub use Rattle.std.proofs.lemmas.List.Sums.{get_or-le-sum_by, sum_by-cons, sum_by-append, sum_by_push, count_by-le-length, sum_by-set}
pub use Rattle.std.proofs.lemmas.Nat.Gcd.{IsGcd-from_zero, IsGcd-from_mod, IsGcd-swap, dvd-zero, le_of_dvd, dvd_of_mod-eq-zero, mod-eq-zero_of_dvd}
pub use Rattle.quad_form.specs.Units.{is_multiple, greatest_within, unit_of, counted_in, entry_in, IsCommonDivisor, weights_of, quad_unit, reduced, IsReducedAsWritten, weight_of}
pub use Rattle.std.specs.Prelude.{slice_set, Result, Ok, Err}
pub use Rattle.std.proofs.lemmas.List.{length-replicate, flat_map_more, get_or-append_right, get_or_append_left, get_or_past, length-set, take_more, length-take, length-map, same_lists, get_or_default, get_or-replicate, get_or-set_same, get_or-set_other, map-append, take-append-drop}
pub use Rattle.base.proofs.Totals.{size-plus, total_by_push, total_by-append, total_by-flat_map}
pub use Rattle.bits_model.specs.Output.{entry_cmp, entry_size, weight_total, bit_at, bits_energy, is_coupler, has_node, IsPlaced, IsWellFormed, Written, decoding_of}
pub use Rattle.term_table.specs.Tables.{TableContent, IsLow, table_size, IsTable, with_appended}
pub use Rattle.term_table.proofs.Additions.{terms_total-cons, terms_total-with_additions, sets_sum, sets_sum-cons, sets_sum-with_additions, terms_size-cons, terms_total-append, coefficient_of-with_additions}
pub use Rattle.term_table.proofs.KeptTerms.{OfSet, Under, All-with_additions, AreTerms-with_additions}
pub use Rattle.quad_form.specs.Quads.{QuadContent, node_entries, quad_total, quad_size, IsCoupler, IsQuad, entries_of, form_of, written_of, quad_value}
pub use Rattle.quad_form.specs.Flat.{pair_entry, with_term, zero_quad, quad_of, image, IsFlat, Fits}
pub use Rattle.quad_form.specs.laws.Flattened.{length-fold, length-image, flat_sets, length-with_term, flat_contributions, flat_reaches, flat_keeps}
pub use Rattle.term_table.proofs.SmallSets.{IsTermSet-none, IsTermSet-one, IsTermSet-two, IsLiteralSet-ascends, IsTermSet-wider, Ascend}
pub use Rattle.term_table.proofs.PlainSums.{plain_terms-grow}
pub use Rattle.std.specs.Result.{OnOk}
pub use Rattle.bits_model.proofs.Energies.{weights-append, size-if_so, size-energy}
pub use Rattle.term_table.proofs.Filling.{room_own, fills_as, rest_more, rest_room, room_as}
pub use Rattle.quad_form.specs.Short.{Share, share_at, short_constant, short_couplers, short_shares, signed, moved_share}
pub use Rattle.quad_form.specs.Sums.{SumsContent, AreSummed, Gain, HasRoom, IsSums, size_of, widened, with_weight}
pub use Rattle.form_steps.specs.Relations.{Reduces, Decoding, Relaxes, RelaxesAtLeast, RelaxesBy, StandsAt, StaysAbove}
pub use Rattle.form_steps.specs.declared.scope.PenaltyScope.{PenaltyScope}
pub use Rattle.form_steps.specs.declared.scope.PenaltyScope.TheVariants.{Global, Local}
pub use Rattle.form_steps.specs.laws.AtLeast.{stands_moved}
pub use Rattle.bits_model.specs.Units.{IsMultiple}
pub use Rattle.term_table.proofs.UniqueTerms.{same_tables}
pub use Rattle.pair_sums.proofs.UniqueSums.{same_entries}
pub use Rattle.pair_sums.proofs.PairOrder.{ArePairs, rising_from_ordered}
pub use Rattle.base.proofs.Products.{times-plus}
pub use Rattle.base.specs.Figures.{figures_moved}
pub use Rattle.quad_form.specs.Stated.{RelaxesAsWritten, StaysAsWritten}
pub use Rattle.form_steps.specs.declared.layer.BitsLink.{BitsLink}
pub use Rattle.base.specs.declared.costs.Cost.TheVariants.{Whole}
pub use Rattle.bits_model.specs.declared.output.Kind.TheVariants.{Qubo}
pub use Rattle.std.specs.declared.cmp.Ordering.TheVariants.{Less, Greater, Equal}
unfoldable pub use Rattle.std.specs.List.Sorted.{IsStrictlySortedBy}
