-- What the proofs of this crate stand on, of std and of the crates below.
pub use Rattle.std.specs.List.{flat_map, AllByRecursion, list_any, join_with_byte}
pub use Rattle.edge_io.proofs.Common.{Bor, flat_map-append, Taken, Takes, TakesFront, Passes, joined_bytes}
pub use Rattle.bits_model.proofs.Common.{◌≡◌, ℕ, ◌+◌, ◌<◌, ℤ, List, [], ◌++◌, length, get_or, drop, map, sym, ap, ◌∙◌, suc, ◌≤◌, ◌^◌, ◌∷◌, All, refl, arith, rules, zero, ◌/◌, true, false, eqb, pos, subst, append_assoc, append-nil, to_z, of_z, ◌-◌, take, w64, rows_of, recursion_from_All, All-from_recursion, sum_by-cons, w128, nat_tests, ints, to_z-of_z}
pub use Rattle.bits_model.specs.declared.output.Entry.{Entry}
pub use Rattle.bits_model.specs.declared.output.Kind.{Kind}
pub use Rattle.std.proofs.lemmas.List.{drop_more, drop-drop, take-take, length-append, length-drop, map-append, take_rest, drop_all}
pub use Rattle.bits_model.proofs.EntryRows.{joined_rows}
pub use Rattle.model_text.specs.Rows.{row_text, rows_text, entry_row, Row, figure_rows, chain_rows, graph_rows, kind_words, header_row, model_rows, FitsFigures, FitsGraph, FitsFields, chain_row}
unfoldable pub use Rattle.model_text.specs.Rows.{model_text}
pub use Rattle.std.specs.Prelude.{codes, count_by, unsigned_abs, Result, OnOk, OnErr, IsErrAnd, ◌==◌}
pub use Rattle.std.proofs.Common.{Ok, Err}
pub use Rattle.std.proofs.lemmas.Result.{err_from_is_err_and}
pub use Rattle.edge_io.specs.Counts.{Rose}
pub use Rattle.std.specs.Fmt.{decimal, signed_decimal, digits_onto}
unfoldable pub use Rattle.std.specs.Fmt.{digits}
pub use Rattle.base.specs.declared.costs.Figures.{Figures}
pub use Rattle.bits_model.specs.Output.{Written, IsPlaced, FitsKind, IsWellFormed, is_node, is_coupler, weight_total, has_node, is_chained}
pub use Rattle.model_text.specs.Told.{TextsTellModels}
pub use Rattle.std.specs.Int.RustNames.{FitsSigned}
pub use Rattle.std.proofs.lemmas.Fmt.{decimal_is_IsNumeral_wide, length-decimal-le}
pub use Rattle.edge_io.proofs.Pieces.{Takes-trans, Passes-trans, Passes-front, Passes-kept, TakesFront-more}
pub use Rattle.std.proofs.Math.Bool.{or-true}
pub use Rattle.model_text.specs.Lines.{spaced_numbers, IsPutBy, EndsIn}
pub use Rattle.model_text.specs.Summary.{summary_row}
pub use Rattle.bits_model.specs.declared.output.OutputModel.TheInside.{Inside}
pub use Rattle.whole_text.proofs.LineTokens.{all_append}
