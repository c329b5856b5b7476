-- What the proofs of this crate stand on, of std and of the crates below.
pub use Rattle.std.proofs.Common.{◌≡◌, ◌≢◌, inl, inr, ℕ, zero, suc, ◌+◌, ◌*◌, ◌<◌, ◌≤◌, ◌^◌, Bool, cond, ◌||◌, List, [], ◌∷◌, ◌++◌, map, length, take, drop, get_or, set, replicate, fold, ℤ, pos, ◌+ℤ◌, unsigned_abs, neg_ℤ, refl, sym, ap, subst, ◌∙◌, arith, append_assoc, append-nil, map-id, sum_by, flat_map, All, ◌⊎◌, true, false, ◌&&◌, ◌-◌, ◌≤ℤ◌, mul-le-mul_left, mul-le-mul, ◌-ℤ◌, to_z, of_z, rules}
pub use Rattle.ising_form.proofs.Common.{Entry, entry_size, is_chained, node_entries, weights_within, weights_more, ising_total, ising_size, weights-append, ising_value, times_spin}
pub use Rattle.embedding_check.proofs.Common.{IfOk-weaker, IsCoupler, IsIsing, IsingContent, is_in, first_of, IsParent, AreParents, IsPlaceOf}
pub use Rattle.bits_model.proofs.Common.{nat_tests, elements, if_so, total_by, weight_total, majority, bit_at, pair_number}
pub use Rattle.std.specs.Prelude.{◌==◌, nat_lt, count_by, ⊤, not}
pub use Rattle.std.specs.List.{AllAdjacentBelow, AllByRecursion, AllZip, list_any, range_with_len, slice_index_or, concat}
pub use Rattle.std.specs.Int.{int_div_euclid, int_rem_euclid, w128}
pub use Rattle.std.proofs.lemmas.Int.{ints, to_z-of_z}
pub use Rattle.std.proofs.lemmas.Bool.{cases_eq, ltb-true, ltb-false, or_parts, cases_lt, eq-eqb, ne_eqb, eqb-true, or_left, or_right, and_cases, and_left, false_from_ne_true, true_from_ne_false, cases_Bool}
pub use Rattle.std.proofs.lemmas.List.{drop_more, flat_map_more, get_or_past, get_or-set_same, get_or-set_other, length-set, length-map, length-replicate, get_or-replicate, length-drop, take-map, get_or-map}
pub use Rattle.std.proofs.lemmas.List.FromFn.{fill_by_all, get_or-map-range_with_len, length-map-range_with_len, map-range_with_len_more, length-range_with_len, get_or-range_with_len}
pub use Rattle.std.proofs.lemmas.List.Sums.{sum_by-cons, sum_by_push, sum_by-append, fold-append, sum_by-le-sum_by, count_by-le-length}
pub use Rattle.std.proofs.lemmas.List.Elements.{recursion_from_All, All-from_recursion, length_all_zip, AllZip-get_or}
pub use Rattle.std.specs.List.Sorted.{IsPermutation, IsNonDecreasingBy}
pub use Rattle.std.proofs.lemmas.List.Sorted.{All-permutation, sum_by-IsPermutation, IsPermutation-append_comm, IsPermutation-append_left, IsPermutation-append_right, IsPermutation-refl, IsPermutation-trans, IsNonDecreasingBy-from_all_adjacent}
pub use Rattle.std.proofs.lemmas.List.Concat.{length-flat_map}
pub use Rattle.std.proofs.lemmas.List.Folds.{list_any-append}
pub use Rattle.std.proofs.lemmas.Slice.Zip.{AllZip-long}
pub use Rattle.base.proofs.Totals.{total_by_push, total_by-IsPermutation, total_by-plus, total_by-same, total_by-map}
pub use Rattle.embedding_check.specs.Embeddings.{Embedding, IsEmbedding, IsTie, parent_in, climbed, embedding_size, form_of, IsTree}
pub use Rattle.chain_map.specs.Chains.{chain_of, IsBetween, occurrences, Joins}
pub use Rattle.pair_sums.specs.Pairs.{IsPair, weight_for}
pub use Rattle.pair_sums.proofs.PairOrder.{ArePairs, Before, Rises, same_pair, ordered_from_rising, rising_from_ordered}
pub use Rattle.pair_sums.proofs.UniqueSums.{Before-further, same_entries}
pub use Rattle.form_steps.specs.Least.{IsLeastState, KeepsLeast}
pub use Rattle.form_steps.specs.Relations.{Extends}
pub use Rattle.chain_layer.specs.Image.{nodes_of, field_of, strength, coupling_entry, field_at, equal_shares, shares, placed, ties, ties_by, cost_by, by_node, couplings_at, all_shares, all_ties, inserted, in_order, image, image_by, ties_cost, offset, decoding, Fits, bit_on, extension}
pub use Rattle.chain_layer.specs.laws.Aligned.{IsNode, node_at, node_cost, costs_same, couplers_of, whole_at, tied_energy, free_energy, chains_energy, chains_equal}
pub use Rattle.chain_layer.specs.laws.NodeEnergies.{shares_size, weights_of_equal, shares_of, coupling_energy}
pub use Rattle.chain_layer.specs.Steps.{added, sizes_of, place_number, AreFrom, AreAbove, AreOrdered}
pub use Rattle.chain_layer.specs.laws.SpinSums.{all_append, total_by-in_order, range-le, range-zero, hit, pair_energy, marked_ends, range-same}
pub use Rattle.chain_layer.specs.laws.Whole.{in_first, in_rest, are_same, is_whole}
pub use Rattle.chain_layer.specs.laws.Kept.{each_of_range, chain_within, one_chain, each_at, rest_in, shares_within, chains_reach, chains_keep, fields_spread, any_of_range, form_value, image_value, majority_reads, extension_value, images_reach}
pub use Rattle.chain_layer.specs.laws.OnceChains.{Once, chain_once, AreOwn, apart_qubits, own_parents, zip_weaker}
pub use Rattle.chain_layer.specs.Stated.{ImageFitsOutput, ImageIsJoined, ReadOffTheChains}
pub use Rattle.chain_layer.specs.declared.link.ChainLink.{ChainLink}
