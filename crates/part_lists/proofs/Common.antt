-- What the proofs of this crate stand on, of std and of the crates below.
pub use Rattle.chain_map.proofs.Common.{Plain, Result, TextFault, TextAnswer, after_front, words_none, skipped, slice_none, nat_tests, lines_from, err_from_is_err_and, line_cut, line_last}
pub use Rattle.std.proofs.Common.{◌≡◌, ℕ, ◌+◌, ◌++◌, List, [], ◌∷◌, Ok, Err, refl, sym, ap, ◌∙◌, ◌<◌, ◌≤◌, not, length, map, take, Bool, inr, inl, ◌==◌, false, arith, ◌-◌, All, subst, rules, option_to_list, get_or, nat_lt}
pub use Rattle.std.proofs.lemmas.List.{append_assoc, append-nil, take_rest}
pub use Rattle.whole_text.specs.Tokens.{Word, word, words, is_blank, is_comment, pieces_of_line}
unfoldable pub use Rattle.whole_text.specs.Tokens.{tokens_of_line, tokens_from, tokens_of}
unfoldable pub use Rattle.whole_text.specs.Rows.{by_line, each}
pub use Rattle.whole_text.specs.Steps.{◌>>=◌, Fails, fault}
pub use Rattle.whole_text.proofs.Rows.{row_of, by_line-first}
pub use Rattle.std.specs.List.{slice_range, position_or_len}
pub use Rattle.chain_map.proofs.LineNumbers.{first_word, line_blank, line_comment, line_tokens}
pub use Rattle.std.proofs.lemmas.Bool.{cases_Bool, ne_eqb, cases_lt}
pub use Rattle.whole_text.specs.declared.token.Style.{Style}
pub use Rattle.whole_text.specs.Rows.{Row, onto_rows}
pub use Rattle.chain_map.proofs.Rows.{front_none}
pub use Rattle.part_lists.specs.declared.parts.Part.{Part}
pub use Rattle.part_lists.specs.Lists.{IsPartOf, qubit_at, joined_at}
unfoldable pub use Rattle.part_lists.specs.Lists.{rest_at, part_at, parts_of_words, listed_parts}
pub use Rattle.std.proofs.lemmas.List.Folds.{list_any_none}
pub use Rattle.std.proofs.lemmas.List.Elements.{All-from_get_or}
pub use Rattle.std.proofs.lemmas.List.Sorted.{searched}
pub use Rattle.std.specs.List.Sorted.{IsPartitionedBy}
pub use Rattle.std.proofs.lemmas.Grind.{get_or_default_zero}
pub use Rattle.part_lists.specs.Pairs.{AreRising}
