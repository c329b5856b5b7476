-- What the proofs of this crate stand on, of std and of the crates below.
pub use Rattle.std.specs.Prelude.{◌==◌, min, sum_by, reverse, count_by}
pub use Rattle.chain_map.proofs.Common.{not, length-append, min-le_left, min-le_right, sum_by_more}
pub use Rattle.chain_layer.proofs.Common.{◌≡◌, ◌≢◌, ℕ, ◌+◌, ◌*◌, ◌≤◌, ◌^◌, cond, List, [], ◌∷◌, ◌++◌, length, drop, ℤ, pos, neg_ℤ, refl, sym, ◌∙◌, arith, flat_map, zero, suc, ◌<◌, Bool, true, false, ◌||◌, ◌+ℤ◌, ◌≤ℤ◌, unsigned_abs, ap, subst, mul-le-mul_left, All, inl, inr, replicate, map, get_or, take, ◌-◌, append_assoc, ◌⊎◌, to_z, of_z, rules, AllByRecursion, AllZip, range_with_len, IsPermutation, ints, to_z-of_z, nat_tests, recursion_from_All, All-from_recursion, AllZip-get_or, length-map-range_with_len, fill_by_all, get_or-map-range_with_len, sum_by-cons, sum_by-le-sum_by, elements, set, length-set, IfOk-weaker, w128, list_any-append, total_by-plus, Entry, IsCoupler, node_entries, Embedding, IsEmbedding, embedding_size, IsTie, parent_in, climbed, form_of, chain_of, nodes_of, coupling_entry, ties, placed, couplings_at, all_shares, field_at, total_by, if_so, weight_total, is_in, first_of, weights-append, IsIsing, ising_total, ising_size, IsingContent, couplers_of, node_at, Once, chain_once, own_parents, weights_within, Extends}
pub use Rattle.std.proofs.lemmas.Bool.{eqb-true, or_cases, or_left, cases_lt, or_from, or_parts, both_ways, or_right, cases_eq, false_from_ne_true}
pub use Rattle.std.proofs.lemmas.List.{take-take, take-append-drop, length-drop, drop_at, get_or_past, length-map, get_or-replicate, reverse-append, take_more, get_or-drop, get_or-set_same, get_or-set_other, take-append-le, get_or_append_left, append-nil, drop_more, get_or_default, take_all}
pub use Rattle.std.proofs.Math.Bool.{or_comm, or-false}
pub use Rattle.std.proofs.Math.Seq.{take-append_seam, get_or-append_seam, take-length, take-suc}
pub use Rattle.chain_layer.specs.laws.SpinSums.{range-le, range-zero, range-same, hit, marked_ends}
pub use Rattle.chain_layer.specs.laws.Kept.{chain_within, shares_within, each_at, chains_sound, one_chain}
pub use Rattle.chain_layer.proofs.Ordered.{sorted_is_in_order, couplings_apart, couplers_placed, all_couplers, by_is_ising}
pub use Rattle.chain_layer.proofs.Added.{ties_of_more, filled_lengths, at_map, zip_lengths, flat_range, AreLeft, left_next, left_more, changed}
pub use Rattle.chain_layer.proofs.Sizes.{sum_is, size, weights-in_order, weights-flat_map, fields_small, weights_of_shares, weights_of_image_fields, weights_placed, sums_le, few_qubits, sizes-append, sizes-in_order, sizes-le, sizes_of_nodes, sizes_of_couplers, weights_of_ties_by, length-placed, length-ties_by}
pub use Rattle.chain_layer.proofs.Written.{by_is_joined, image_fits_output, read_off_the_chains}
pub use Rattle.chain_layer.specs.laws.Whole.{in_rest, each_in}
pub use Rattle.chain_map.proofs.Paths.{is_in_at}
pub use Rattle.cut_chains.specs.Sides.{cut_strength, is_below, weight_of, side_weight}
pub use Rattle.cut_chains.specs.CutImage.{cut_ties, cut_image, cut_cost, cut_offset}
pub use Rattle.cut_chains.specs.laws.Mended.{node_ties, IsOnceTree, once_tree, rooted_tree}
pub use Rattle.cut_chains.specs.CutLinks.{as_chains, decoding}
pub use Rattle.cut_chains.specs.Stated.{CutFitsOutput, CutIsJoined, ReadOffTheCut}
pub use Rattle.cut_chains.specs.Steps.{strength_in, Climbable, Sinkable, held_below}
pub use Rattle.cut_chains.specs.laws.Trees.{IsRooted, is_below_first, not_again, parent_outside, same_side, tied_below, found_in_range}
pub use Rattle.cut_chains.specs.Orders.{IsOrder, IsClimb, IsClimbed}
pub use Rattle.cut_chains.specs.laws.LeastStates.{cut_reaches, cut_keeps, cut_joins}
pub use Rattle.cut_chains.specs.declared.link.CutLink.{CutLink}
