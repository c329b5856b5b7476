-- What the proofs of this crate stand on, of std and of the crates below.
pub use Rattle.std.proofs.Common.{◌≡◌, ℕ, ◌+◌, ◌≤◌, arith, sym, ap, ◌∙◌, refl, List, [], ◌∷◌, ◌++◌, length, ℤ, ◌+ℤ◌, eqb, ◌<◌, subst, inl, inr, ◌*◌, ◌^◌, Bool, true, false, ◌&&◌, get_or, pos, not, cond, sum_by, zero, suc, ◌-◌, append_assoc, append-nil, ◌-ℤ◌, ◌*ℤ◌, unsigned_abs, take, leb, map, drop, neg_ℤ, to_z, of_z, if◌then◌else◌, ◌⊎◌, int_lt, ◌≢◌, length-append, replicate, set, rules, FitsSigned, None, ◌<ℤ◌, nat_eq, IsTrue}
pub use Rattle.rosenberg_layer.proofs.Common.{ints, to_z-of_z, total_by, if_so, Literal, Term, coefficient_of, terms_total, with_additions, IsTermSet, terms_size, set_cmp, set_size, TableContent, AreAdditions, table_size, IsLow, IsTable, with_more, with_appended, nat_tests, coefficient_of-with_additions, terms_total-append, if_so-plus, terms_size-cons, terms_total-cons, sets_sum, sets_sum-cons, OfSet, Ascends-with_additions, nonzero-with_additions, excess, pairs_of, run, weights, AreParts, NoneLong, HasRoomFor, IsTermSet-wider, IsBelow, Ascend, IsLiteralSet-ascends, is_short, moved_of, IsPermutation, sum_by-IsPermutation, All-permutation, Contains-permutation, IsNonDecreasingBy-from_sort, sum_by-filter_both, w128, is_eq, nat_cmp, ordering_then, is_lt, same_terms, literal_cmp, on_ok_weaker, IfOk-weaker, rest_more, rest_all, Ordering, IsTotalOrder}
pub use Rattle.std.proofs.lemmas.Bool.Decides.{Decides-int_eq}
pub use Rattle.term_table.proofs.Additions.{terms_total-with_additions}
pub use Rattle.term_table.proofs.KeptTerms.{All-with_additions}
pub use Rattle.quad_form.proofs.Common.{unsigned_abs-mul, QuadContent, IsCoupler, quad_total, quad_size, IsQuad, weight_for, weight_at, IsPair, IsNonzero, Entry, zero_quad, flat_sets, length-image, same_entries, AreTerms-with_additions, size_of, Gain, SumsContent, IsSums, widened, with_weight, room_own, weight_total, times-plus, plain_terms, weights-append}
pub use Rattle.penalty_layer.proofs.Common.{fits_signed_from_abs, ProblemContent, products_total, Admits, contributions, Product, multiply_out, integers, limit_fault}
pub use Rattle.term_table.proofs.Common.{IsSortedBy, ranks_by, ordering_reverse, plain, with_front, sums_of, always_returns_same}
pub use Rattle.pair_sums.proofs.Common.{AreSummed, AppendsSums, IsNonDecreasingBy, IsPermutation-map, pair_number}
pub use Rattle.std.specs.Prelude.{All, Some, slice_get, Result, Ok, Err, IfOk, Contains, Option}
pub use Rattle.std.specs.List.{AllByRecursion, flat_map, slice_index_or, filter, sum, slice_range}
pub use Rattle.std.proofs.lemmas.Grind.{elements, flat_map-append}
pub use Rattle.base.proofs.Totals.{total_by-append, total_by-flat_map, total_by_more, total_by-IsPermutation, total_by-map, total_by-same, total_by-plus, total_by-if_so, total_by_push, size-plus}
pub use Rattle.monomial_layer.specs.Monomials.{node, new_nodes, new_terms, all_new_terms, is_low, factor, with_each, each_with, pair_terms, node_terms, nodes_for, positive_terms, negative_terms, extension, first_values, is_taken, new_bits, true_literals}
pub use Rattle.quad_form.specs.Short.{short_couplers, Share, share_at, short_shares, signed, pair_coupler}
pub use Rattle.quad_form.proofs.ShortTerms.{size-signed, short_constant-is, short_shares-are, short_couplers-are, share_at-append, short_couplers-few}
pub use Rattle.quadratization.specs.Parts.{image, parts, sum_for, all_nodes, GivesSums, short_part}
pub use Rattle.quadratization.specs.Apart.{short_terms, long_terms, table_of, long_additions, is_long}
pub use Rattle.quadratization.specs.Places.{place_couplers, term_shares, all_shares, long_constant, node_share, node_shares, node_coupler, node_couplers, complements, pairs_among, literal_share}
pub use Rattle.quadratization.specs.TermPlaces.{term_places, all_places, Place, places_in, is_at, places_of}
pub use Rattle.quadratization.specs.Gathered.{constant_of, shares_of, couplers_of, IsSumOf}
pub use Rattle.quadratization.specs.Stated.{IsWithin}
pub use Rattle.quadratization.specs.laws.Between.{low_of, IsTable-low_of, total-low_of, IsTable-table_of}
pub use Rattle.std.proofs.lemmas.Bool.{cases_Bool, cases_eq, cases_lt, le-leb, lt-leb, eq-eqb, or_right}
pub use Rattle.std.proofs.lemmas.List.{same_lists, get_or_default, get_or-replicate, length-replicate, take_more, map-append, drop_more, map-id, length-set, get_or-set_same, get_or-set_other, get_or_past, ext_get_or, drop_all, nil_from_length, take_all, take-append-drop, length-take-le, length-drop, get_or_append_left, get_or_push, get_or-take, get_or-drop, length-map, get_or-map, take-map, map_push}
pub use Rattle.std.proofs.lemmas.List.Elements.{recursion_from_All, All-from_recursion, All-take, filter-append, All-append, All-filter, All-weaker, filter_passes, All-map, All-push, All-get_or, All-head, All-tail, All-nil, Contains-append_left, Contains-push, All-rest, All-same}
pub use Rattle.monomial_layer.proofs.Sets.{IsLow-image, IsShort, new_terms-one}
pub use Rattle.monomial_layer.proofs.Sizes.{size-image, all_nodes-le, abs_times}
pub use Rattle.quad_form.proofs.FlatForms.{quad_total-image, quad_size-image}
pub use Rattle.pair_sums.proofs.PairOrder.{rising_from_ordered, Before, Rises, ordered_from_rising}
pub use Rattle.quad_form.proofs.UniqueForms.{couplers_are_pairs, nonzero_couplers, constant-fold, node-fold, pair-fold, IsQuad-image, grown}
pub use Rattle.std.proofs.lemmas.List.Sums.{sum_by-cons, sum_by-append, sum_by-take-le, get_or-le-sum_by, fold-append, count_by-le-length, sum_by_push, sum_by_more_le, sum_by_more}
pub use Rattle.rosenberg_layer.proofs.Finish.{made-image, width-le}
pub use Rattle.rosenberg_layer.proofs.Growth.{total-weights, weights-table, square_is}
pub use Rattle.rosenberg_layer.proofs.Turns.{excess-size, width-pairs}
pub use Rattle.std.proofs.lemmas.Option.{slice_get_within, get_or_from_slice_get, slice_get-map}
pub use Rattle.std.proofs.Math.Nat.{mul-le-mul, mul-le-mul_left, mul-le-mul_right}
pub use Rattle.monomial_layer.specs.laws.Positive.{factor_cases, pairs, pairs_is}
pub use Rattle.quad_form.proofs.HeldSums.{gain-one, gain-both, length-widened, value-widened, size-with_weight, size-zeros, size-widened}
pub use Rattle.quadratization.specs.Long.{AreLong, node_at, terms_of, node_count, product_term, IsPlaceOf, place_nodes, additions_at, set_at, summed_term, sums_with, first_nodes, addition_at, key_for, triple_key, code_of, IsCoded, IsNextSum}
pub use Rattle.quadratization.specs.Held.{shares_total, HeldContent, AreHeld, HasPlaces, IsHeld, held_of}
pub use Rattle.quadratization.specs.Rows.{AreRows, AreFromRow, row_of, IsRow}
pub use Rattle.penalty_layer.proofs.Admitted.{image_size}
pub use Rattle.quadratization.specs.Direct.{additions_of}
pub use Rattle.rosenberg_layer.specs.declared.run.Substitutions.{Substitutions}
pub use Rattle.rosenberg_layer.proofs.GoBack.{all-append, all-right}
pub use Rattle.quadratization.specs.ByPairs.{FitsByPairs, IsRunOf}
pub use Rattle.term_table.proofs.Steps.{terms_total-map, with_additions-append}
pub use Rattle.std.specs.Result.{OnOk, OnErr}
pub use Rattle.rosenberg_layer.proofs.Parts.{filter-all, filter-none, filter-ascends}
pub use Rattle.quadratization.specs.declared.heads.Head.{Head}
pub use Rattle.quadratization.specs.Occurrences.{places_in_term, places_at, has_variable, occurrences, term_at, IsOccurrence, from_variable, all_occurrences, runs_of, AreStarts, start_of, occurrences_among, AreCounts, AreFilled}
pub use Rattle.quadratization.specs.RowSums.{node_part, head_of, head_part, IsHead, pair_part}
pub use Rattle.penalty_layer.proofs.Sizes.{square, contributions_squares}
pub use Rattle.penalty_layer.proofs.Bounds.{within_limits}
pub use Rattle.penalty_layer.proofs.Sets.{contribution_sets}
pub use Rattle.penalty_layer.proofs.Sums.{contributions-total}
pub use Rattle.term_table.proofs.SummedTerms.{summed_is, is_below}
pub use Rattle.rosenberg_layer.proofs.LongRuns.{all_long, set_narrow}
pub use Rattle.pair_sums.proofs.PairSums.{drop-one}
pub use Rattle.term_table.proofs.PlainSums.{complements-cons}
pub use Rattle.quad_form.proofs.SummedForms.{table_of-table}
pub use Rattle.term_table.proofs.SetOrder.{same_set, set_total}
pub use Rattle.monomial_layer.specs.laws.TermCosts.{all_hold-count}
pub use Rattle.monomial_layer.proofs.Adding.{bits_left}
pub use Rattle.quadratization.specs.declared.additions.Keyed.{Keyed}
pub use Rattle.quadratization.specs.declared.additions.KeyLength.{KeyLength}
pub use Rattle.std.proofs.lemmas.List.FromFn.{fill_by_all, get_or-map-range_with_len, length-map-range_with_len}
pub use Rattle.quad_form.proofs.Additive.{Amount, IsAdditive, given, given-with_additions}
pub use Rattle.std.proofs.Math.Seq.{take-append_seam}
