-- What the proofs of this crate stand on, of std and of the crates below.
pub use Rattle.std.proofs.Common.{◌≡◌, ℕ, ◌+◌, ◌-◌, ◌<◌, ◌≤◌, List, length, get_or, inl, inr, sym, subst, ap, ◌∙◌, arith, suc, ◌*◌, ◌/◌, ◌%◌, ◌==◌, Bool, true, false, [], ◌∷◌, map, All, if◌then◌else◌, refl, mod-lt, zero, ◌^◌, pos, not, ◌&&◌, ◌||◌, ◌++◌, take, set, min, max, ◌⊎◌, Ok, Err, ◌≢◌, nat_lt, rules, of_calls, replicate, mul-le-mul_left, le-mul_of_pos_right, option_to_list}
pub use Rattle.embedding_check.proofs.Common.{IsInside, ordered, ChainCount, Disconnected, EmptyChain, NoCoupler, NoSuchQubit, Repeated, TooManyNodes, IsingContent, IsIsing, AreParents, HasDistance, IsParent, Embedding, IsEmbedding, IsPlace, IsPlaceOf, IsChecked, IsBefore, IsValid, EmbedFault, IsFault, Exists, number_at, get_or_default_zero, IfOk-weaker, IfErr-weaker, rows_before, rows_more, rows_all}
pub use Rattle.chain_map.specs.declared.spot.Spot.{Spot}
pub use Rattle.chain_map.proofs.Common.{Plain, nat_tests, Entry, IsCoupler, Chimera, qubits_of, place_of, index_of, IsPlaceIn, chain_of, occurrences, Joins, is_in, IsWalk, end_of, IsConnected, Place, are_joined, min-le_left, IsCrossing, Result, TextFault, words_none, skipped, slice_none, TextAnswer, after_front, err_from_is_err_and, lines_from, line_cut, line_last}
pub use Rattle.std.proofs.lemmas.Bool.{cond_both, and_from, or_left, or_right, cases_Bool, false_from_ne_true, ne_eqb, eqb-false, ltb-true, ltb-false, and_parts, cases_eq, cases_lt, eqb-true, or_cases, and_left}
pub use Rattle.part_lists.specs.Pairs.{AreRising, is_coupler, pair_number}
pub use Rattle.working_graph.specs.Index.{has_pair, coupler_number, numbers_of}
pub use Rattle.std.specs.List.{AllZip, list_all, list_any, slice_range, position_or_len, sum_by, range_with_len, count_by}
pub use Rattle.std.proofs.lemmas.List.FromFn.{length-map-range_with_len, sum_by-map-range_with_len_more, map-range_with_len_more}
pub use Rattle.std.proofs.lemmas.Nat.{div-add-mod', div-mul-add, mod-mul-add, mul-add-lt}
pub use Rattle.chain_map.specs.Cliques.{clique_places, spot_of, down_qubit, along_qubit, path_of, clique_chain, clique_of, diagonal_of}
pub use Rattle.chain_map.proofs.CliqueChains.{path_len, cell_of, cells_rise, chain_at_node, clique_valid, down_place, along_place, place_again, down_in, along_in, path_down, path_along, cell_joined}
pub use Rattle.embedding_check.proofs.Checked.{checked_embeds, one_distance}
pub use Rattle.working_graph.specs.CliquePlaces.{but_last, place_of_spots, clique_place, joined_on}
pub use Rattle.std.specs.List.Sorted.{IsPermutation, IsPartitionedBy}
unfoldable pub use Rattle.std.specs.List.Sorted.{IsStrictlySortedBy}
pub use Rattle.std.proofs.lemmas.List.{length-replicate, append-nil, get_or-set_same, get_or-set_other, length-map, length-take, map-append, take_all, append_assoc, length-append, get_or_append_left, get_or-map, get_or-take, take_more, take_rest, length-set}
pub use Rattle.bits_model.specs.Entries.{node_entries}
pub use Rattle.bits_model.specs.Output.{entry_cmp, weight_total}
pub use Rattle.embedding_check.proofs.Faulty.{all_of_places, fault_invalid, if_fault}
pub use Rattle.hardware.specs.Fabrics.{Fabric}
pub use Rattle.embedding_check.specs.Fabrics.{IsValidOn}
pub use Rattle.working_graph.specs.Working.{WorkingGraph, exists_in, joined_in, fabric_of, is_qubit}
pub use Rattle.std.proofs.lemmas.List.Folds.{Any-from_list_any, list_all_at, list_any-append, list_any_at, list_any_none}
pub use Rattle.chimera_graph.proofs.Numbering.{index_below, number_again}
pub use Rattle.embedding_check.proofs.Sorting.{same_test, at_of_in}
pub use Rattle.working_graph.specs.Places.{first_across, is_cut, AreTaken, AreMarked, IsParted, are_linked, are_coupled, is_whole, is_free, is_marked, taken_of, taken_places, working_clique, is_cut_at, IsForWorkingClique}
pub use Rattle.std.proofs.Math.Seq.{get_or-append_seam, take-append_seam}
pub use Rattle.std.proofs.lemmas.List.Sorted.{list_any-IsPermutation, searched}
pub use Rattle.part_lists.specs.declared.parts.Part.{Part}
pub use Rattle.working_graph.specs.DeadLists.{IsPartOf, dead_parts}
pub use Rattle.chimera_graph.specs.laws.Joins.{are_joined-comm}
pub use Rattle.chimera_graph.specs.laws.Findable.{exists_below}
pub use Rattle.whole_text.specs.Tokens.{Word, word, words, is_blank, is_comment, pieces_of_line}
unfoldable pub use Rattle.whole_text.specs.Tokens.{tokens_of_line, tokens_from, tokens_of}
pub use Rattle.whole_text.specs.Steps.{◌>>=◌, fault, Fails}
pub use Rattle.whole_text.proofs.Rows.{row_of, by_line-first}
pub use Rattle.chain_map.proofs.LineNumbers.{first_word, line_blank, line_comment, line_tokens}
pub use Rattle.whole_text.specs.declared.token.Style.{Style}
pub use Rattle.whole_text.specs.Rows.{Row, onto_rows}
unfoldable pub use Rattle.whole_text.specs.Rows.{by_line, each}
pub use Rattle.working_graph.specs.laws.WorkingJoins.{joined_in-comm, joined_in-plain, joined_in-self}
pub use Rattle.std.proofs.lemmas.List.Sums.{AllPass-from_list_all, list_all-from_AllPass, sum_by-append, sum_by-cons, sum_by-take-le}
pub use Rattle.chain_map.proofs.Occurrences.{occurrences-sum}
pub use Rattle.chain_map.proofs.Paths.{path_connected, is_in_at}
pub use Rattle.chain_map.proofs.Rows.{default_free, front_none}
pub use Rattle.embedding_check.proofs.Passing.{first_at}
pub use Rattle.embedding_check.proofs.PlacedRows.{all_in_row, some_in_row}
pub use Rattle.std.proofs.lemmas.Fn.{always_returns_same}
pub use borrow.Author.Count.{below_more}
pub use Rattle.std.proofs.lemmas.List.Elements.{All-from_get_or}
pub use Rattle.embedding_check.proofs.Noting.{crossing_at}
