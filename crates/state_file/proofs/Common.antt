-- What the proofs of this crate stand on, of std and of the crates below.
pub use Rattle.std.proofs.Common.{◌≡◌, ℕ, ◌+◌, ◌<◌, ◌≤◌, Bool, true, false, ◌&&◌, List, [], ◌∷◌, ◌++◌, length, map, take, drop, get_or, set, cond, not, arith, refl, sym, ap, ◌∙◌, ◌^◌, option_copied}
pub use Rattle.whole_text.proofs.Common.{All, list_all, slice_split, onto_first, position_or_len, prefix_len, list_all-append, is_blank, is_feed, nat_tests}
pub use Rattle.std.specs.Prelude.{find, slice_get}
pub use Rattle.std.specs.Option.{option_map}
pub use Rattle.std.proofs.lemmas.List.{take_more, take_more_set, take_all, map-append, length-map, take_rest}
pub use Rattle.std.proofs.lemmas.List.Elements.{All-nil}
pub use Rattle.std.proofs.Math.Bool.{and-true}
pub use Rattle.std.proofs.lemmas.List.FromFn.{length-enumerate_from}
pub use Rattle.std.proofs.lemmas.List.Sums.{length-filter, count_by-le-length}
pub use Rattle.std.proofs.lemmas.List.Splits.{length-slice_split, slice_split_first}
pub use Rattle.state_file.specs.States.{StateLine, is_bit, is_one, is_state, lines_of, states_from, trimmed_line, lines_left, states_of}
