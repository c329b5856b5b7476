-- What the proofs of this crate stand on, of std and of the crates below.
pub use Rattle.problem_form.proofs.Common.{◌≡◌, Bool, List, map, refl, ap, ◌∙◌, ℕ, ◌+◌, ◌<◌, ◌≤◌, ◌^◌, true, false, cond, eqb, [], ◌∷◌, All, Ok, arith, fold, Result, Err, sym, ℤ, pos, negsuc, ◌+ℤ◌, ◌*ℤ◌, neg_ℤ, ◌++◌, suc, length, length-append, ◌*◌, nat_abs, rules, total_by, total_by-map, total_by-same, total_by-append, unsigned_abs, count_by, codes, nat_tests, All-tail, sum_by-cons, count_by-le-length, flat_map, AllByRecursion, ProblemContent, sum_of, problem_cost, problem_total, blank, with_variables, with_product, ints, to_z, of_z, to_z-of_z, fits_signed_from_abs, length-map, w128, on_ok_weaker, err_from_is_err_and}
pub use Rattle.model_text.proofs.Common.{decimal, signed_decimal, entry_row, Row, rows_text, figure_rows, chain_rows, graph_rows, header_row, model_rows, Entry, Kind, Figures}
pub use Rattle.whole_text.proofs.Common.{cases_Bool}
pub use Rattle.bits_model.specs.Output.{Written, IsPlaced, is_node, is_coupler}
pub use Rattle.entry_reader.specs.Again.{layout_of, listed_of, told_by, TextsAreReadAgain}
pub use Rattle.entry_reader.specs.Cost.{entry_cost, listing_cost, ReadingKeepsCosts}
pub use Rattle.entry_reader.specs.Energies.{TextsKeepEnergies}
pub use Rattle.whole_text.specs.Tokens.{word, Word, tokens_of_line}
unfoldable pub use Rattle.whole_text.specs.Tokens.{words, is_comment, tokens_of}
pub use Rattle.whole_text.specs.Steps.{◌>>=◌, end_line, integer_at}
pub use Rattle.whole_text.proofs.LineTokens.{all_append, AreInk, tokens_after, words_then, no_lines, LacksFeeds, joined_lacks, line_then, IsInk}
pub use Rattle.whole_text.proofs.WordsAgain.{decimal_ink, signed_ink, number_first, integer_again, natural_again}
unfoldable pub use Rattle.model_text.specs.Rows.{model_text}
pub use Rattle.entry_reader.specs.declared.layout.Counts.{Counts}
pub use Rattle.entry_reader.specs.Entries.{Listing}
unfoldable pub use Rattle.entry_reader.specs.Entries.{node_at, one_fewer, counted, none_to_come, entries_at, header_at, entry_at, listing_of, wanted_at, topology_of, count_at, reading}
pub use Rattle.problem_form.proofs.AddedParts.{products_add_up}
pub use Rattle.entry_reader.specs.declared.layout.Layout.{Layout}
pub use Rattle.entry_reader.specs.declared.layout.Listed.{Listed}
pub use Rattle.entry_reader.specs.Problems.{problem_of, products_of, problem_read}
unfoldable pub use Rattle.entry_reader.specs.Problems.{problem_of_words}
pub use Rattle.problem_form.proofs.NormalForms.{normal_form-cost}
pub use Rattle.whole_text.proofs.Pieces.{plain_line}
pub use Rattle.model_text.proofs.RowTexts.{IsWord, IsRow, AreRows}
pub use Rattle.model_text.proofs.ModelRows.{figures_are_rows, graph_are_rows}
pub use Rattle.whole_text.specs.TokenTexts.{word_of}
pub use Rattle.whole_text.proofs.Lengths.{few_words}
pub use Rattle.whole_text.specs.declared.faults.TextFault.{TextFault}
pub use Rattle.std.proofs.lemmas.Bool.{eq-eqb, ne_eqb}
