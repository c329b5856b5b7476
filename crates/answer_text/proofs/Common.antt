-- What the proofs of this crate stand on, of std and of the crates below.
pub use Rattle.std.specs.Prelude.{slice_get, min, max, fold, unwrap_or, OnOk}
pub use Rattle.whole_text.proofs.Common.{Option, Bool, Some, None, length-map}
pub use Rattle.model_text.proofs.Common.{◌≡◌, ℕ, ℤ, codes, ◌+◌, ◌<◌, ◌≤◌, List, [], ◌∷◌, ◌++◌, length, drop, get_or, sym, ap, ◌∙◌, arith, append-nil, append_assoc, false, take, rules, drop_all, drop_more, Row, row_text, rows_text, signed_decimal, sum_by-cons, weight_total, nat_tests}
pub use Rattle.std.specs.List.{reduce, zip}
pub use Rattle.model_text.proofs.Puts.{then_ok}
pub use Rattle.std.proofs.Math.ListN.{get_or-map}
pub use Rattle.std.proofs.lemmas.Option.{get_or_from_slice_get, slice_get_within}
pub use Rattle.std.proofs.lemmas.Slice.Zip.{get_or-zip, length-zip}
pub use Rattle.std.proofs.lemmas.Grind.{flat_map-append}
pub use Rattle.std.proofs.lemmas.List.{map-append, take_all, take_more}
pub use Rattle.answer_text.specs.Answers.{assignment_row, name_row, name_rows, named_rows, optimum_rows, bits_word, digit_of}
pub use Rattle.bits_model.specs.declared.output.Entry.{Entry}
pub use Rattle.answer_text.specs.Sizes.{greatest_size, least_size, size, sizes}
