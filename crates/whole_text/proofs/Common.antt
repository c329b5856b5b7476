-- What the proofs of this crate stand on, of std and of the crates below.
pub use Rattle.std.proofs.Common.{◌≡◌, ℕ, ◌+◌, ◌-◌, ◌<◌, ◌≤◌, ◌^◌, List, [], ◌∷◌, length, get_or, take, drop, sym, ap, ◌∙◌, arith, ◌*◌, true, false, ltb, Some, None, refl, add-one, inl, inr, Result, Ok, Bool, eqb, suc, ◌++◌, subst, append_assoc, cond, map, not, ℤ, pos, negsuc, All, Option, rules, tests, w8}
pub use Rattle.std.proofs.lemmas.List.{take-append-le, length-drop, take_rest, take-append-drop, take_all, drop_all, length-map, append-nil, take-take, length-take-le, drop-append-le, get_or-drop, length-append, drop_more, map-append, length-take, get_or_read, drop-drop, take_more, get_or-take, drop-take, nil_from_length}
pub use Rattle.std.proofs.lemmas.Bool.Decides.{nat_tests}
pub use Rattle.whole_text.specs.declared.packed.Stride.{Stride}
pub use Rattle.whole_text.specs.Tokens.{word, Word, word_at, is_feed, is_blank, joins, comment_byte, words_at, AreJoined, is_filled, begins_with, pieces_of_line, AreInOrder, IsWithin, IsOnItsLine, IsOnLine, feeds, last_line}
unfoldable pub use Rattle.whole_text.specs.Tokens.{words, is_comment, tokens_of_line, tokens_from, tokens_of, pieces}
pub use Rattle.whole_text.specs.Packed.{stride_of, strides, words_along, bytes_along, lines_along, IsCursor, placed, wide_marks}
pub use Rattle.std.specs.Char.{is_ascii_digit}
pub use Rattle.std.specs.List.{list_all, position_or_len, slice_range, prefix_len, AllByRecursion, slice_split, onto_first, flat_map, join_with_byte}
pub use Rattle.std.specs.Str.Parse.{digits_value, AllDigits}
pub use Rattle.std.proofs.lemmas.Bool.{cases_Bool, ne_eqb, cases_lt, not-true, eqb-true, le-leb, ltb-true, ltb-false, eqb-false}
pub use Rattle.std.proofs.Math.Nat.{pow-suc, pow-le-pow_right}
pub use Rattle.std.proofs.lemmas.List.Folds.{list_all-append, list_all_more}
pub use Rattle.std.proofs.lemmas.Int.Digits.{digits_value_more}
pub use Rattle.std.proofs.lemmas.Str.Parse.{digits_value-take-le, digit_from_value}
pub use Rattle.whole_text.specs.Numbers.{is_point}
unfoldable pub use Rattle.whole_text.specs.Numbers.{digits_number, size_of, number_of}
pub use Rattle.whole_text.specs.declared.token_text.TokenText.{TokenText}
pub use Rattle.whole_text.specs.TokenTexts.{words_of}
pub use Rattle.whole_text.specs.Steps.{next_of}
unfoldable pub use Rattle.whole_text.specs.Steps.{integer_at, natural_at}
pub use Rattle.std.specs.Prelude.{OnOk, filter, if◌then◌else◌, nat_abs, unwrap_or}
pub use Rattle.std.proofs.lemmas.List.Sums.{prefix_len-le-length, prefix_len_passes, prefix_len_stops}
pub use Rattle.whole_text.specs.declared.lexing.At.{At}
pub use Rattle.whole_text.specs.declared.token.Token.{Token}
pub use Rattle.whole_text.specs.Lexing.{Place, Fresh, Between, Inside, Comment, LexerState, StandsFor, Spent, IsPlace, IsBegun}
unfoldable pub use Rattle.whole_text.specs.Lexing.{to_come}
pub use Rattle.whole_text.specs.LexerPlaces.{place_at, IsWordStart, begun, is_above_blank, IsLive, ended, after_blank}
pub use Rattle.std.proofs.lemmas.List.Splits.{slice_split-cons_yes, slice_split-cons_no, slice_split_at, slice_split_none, slice_split_first}
pub use Rattle.whole_text.specs.declared.token.Style.{Style}
pub use Rattle.std.proofs.lemmas.List.Elements.{All-from_recursion, All-append}
pub use Rattle.std.specs.Fmt.{decimal, signed_decimal}
pub use Rattle.std.proofs.lemmas.Fmt.{decimal_is_IsNumeral_wide}
pub use Rattle.whole_text.specs.Rows.{Row, on_line, past_line}
unfoldable pub use Rattle.whole_text.specs.Rows.{by_line}
pub use Rattle.std.specs.Option.{option_map_or, ok_or}
pub use Rattle.std.proofs.lemmas.Iterator.{YieldsList-from_slice}
pub use Rattle.std.proofs.lemmas.Iterator.Search.{position_from_yields_List}
pub use Rattle.std.proofs.Math.Seq.{take-append-add, take-add}
pub use lib.Count.{count_trailing_zeros}
pub use lib.Lanes.{chunk}
pub use Rattle.std.proofs.lemmas.Simd.{length-chunk, bitmask_splat, trailing_mask_l}
pub use Rattle.std.proofs.lemmas.Int.{ints}
