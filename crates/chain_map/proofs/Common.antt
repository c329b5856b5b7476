-- What the proofs of this crate stand on, of std and of the crates below.
pub use Rattle.std.proofs.Common.{◌≡◌, ◌≢◌, ℕ, zero, suc, ◌+◌, ◌-◌, ◌*◌, ◌/◌, ◌%◌, ◌<◌, ◌≤◌, ◌==◌, inl, inr, true, false, List, [], length, map, get_or, All, if◌then◌else◌, refl, sym, ap, ◌∙◌, arith, mod-lt, ◌^◌, not, eqb, ◌∷◌, take, drop, Ok, Some, ◌++◌, Err, rules, nat_lt}
pub use Rattle.whole_text.proofs.Common.{take_rest, take_all, is_ascii_digit, digits_value}
pub use Rattle.quad_form.proofs.Common.{nat_tests, length-append, get_or_append_left, get_or-append_right, append_assoc, append-nil, length-take, take_more, Entry, IsCoupler, elements}
pub use Rattle.std.specs.List.{count_by, sum_by, range_with_len, slice_range, position_or_len, list_all, concat}
pub use Rattle.std.proofs.lemmas.Bool.{cases_eq, cases_lt, ne_eqb}
pub use Rattle.std.proofs.lemmas.List.FromFn.{length-map-range_with_len, get_or-map-range_with_len, map-range_with_len_more}
pub use Rattle.std.proofs.lemmas.List.Sums.{sum_by-append, sum_by-cons, sum_by_more, sum_by-take-le, get_or-le-sum_by}
pub use Rattle.std.proofs.lemmas.Nat.{div-add-mod'}
pub use Rattle.std.proofs.Math.Nat.{div-lt_iff_lt-mul, mul_comm, min-le_left, min-le_right, div-mul-le_self, le-div_iff_mul-le}
pub use Rattle.chimera_graph.specs.declared.chimera.Chimera.{Chimera}
pub use Rattle.chimera_graph.specs.declared.place.Place.{Place}
pub use Rattle.chimera_graph.specs.Graph.{IsPlaceIn, qubits_of, index_of, place_of}
pub use Rattle.chimera_graph.specs.Places.{are_joined}
pub use Rattle.chimera_graph.proofs.Numbering.{index_below, place_again}
pub use Rattle.bits_model.specs.Walks.{is_in, IsConnected, first_of, IsWalk, end_of, IsReached}
pub use Rattle.chain_map.specs.Chains.{Joins, chain_of, occurrences}
pub use Rattle.chain_map.specs.Valid.{IsCrossing, IsCoupled}
pub use Rattle.chain_map.specs.Cliques.{diagonal_of, clique_places, down_qubit, along_qubit, path_of, clique_chain, clique_of, IsForClique}
pub use Rattle.std.specs.Prelude.{pos, nat_le, Result}
pub use Rattle.std.proofs.Math.Seq.{drop-cons}
pub use Rattle.whole_text.specs.Numbers.{size_of}
unfoldable pub use Rattle.whole_text.specs.Numbers.{number_of}
pub use Rattle.whole_text.specs.Tokens.{word, words, is_blank, is_comment, tokens_of_line, Word}
pub use Rattle.whole_text.specs.Steps.{◌>>=◌, Fails}
unfoldable pub use Rattle.whole_text.specs.Steps.{integer_at, natural_at}
pub use Rattle.whole_text.proofs.DigitLoop.{size_plain, value_is, more_value, more_digits, pow_more, pow_few, digit_small}
pub use Rattle.whole_text.proofs.LineWords.{words_blank, words_none, taken, skipped, comment_from_byte, comment_none, comment_line}
pub use Rattle.whole_text.proofs.Pieces.{other_plain}
pub use Rattle.whole_text.proofs.Slices.{slice_length, slice_at, slice_dropped, slice_taken, slice_none}
pub use Rattle.whole_text.specs.declared.faults.TextAnswer.{TextAnswer}
pub use Rattle.chain_map.specs.Maps.{node_at, after_front}
unfoldable pub use Rattle.chain_map.specs.Maps.{rows_from, chain_at, chains_at, reading}
pub use Rattle.std.proofs.lemmas.Result.{err_from_is_err_and}
pub use Rattle.whole_text.proofs.Lines.{lines_from, line_cut, line_last}
pub use Rattle.chain_map.specs.declared.spot.Spot.{Spot}
pub use Rattle.whole_text.specs.declared.token.Style.TheVariants.{Plain}
pub use Rattle.whole_text.specs.declared.faults.TextFault.{TextFault}
unfoldable pub use Rattle.whole_text.specs.Rows.{each}
