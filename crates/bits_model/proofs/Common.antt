-- What the proofs of this crate stand on, of std and of the crates below.
pub use Rattle.std.proofs.Common.{◌≡◌, ℕ, ◌+◌, ◌≤◌, ℤ, ◌+ℤ◌, unsigned_abs, Bool, true, false, cond, List, [], ◌∷◌, ◌++◌, ap, ◌∙◌, ◌<◌, length, take, get_or, arith, count_by, All, refl, ◌≢◌, zero, suc, ◌-◌, eqb, drop, replicate, append-nil, sym, pos, map, int_div, append_assoc, length-append, ◌/◌, ◌%◌, ◌^◌, ◌&&◌, to_z, of_z, rules, subst, slice_set}
pub use Rattle.std.proofs.lemmas.Int.{ints, to_z-of_z}
pub use Rattle.std.proofs.lemmas.List.Sums.{sum_by-cons, sum_by_more_le, sum_by-append, sum_by_more}
pub use Rattle.base.specs.Sums.{if_so, total_by}
pub use Rattle.base.proofs.Totals.{size-plus, total_by-append, total_by_more}
pub use Rattle.bits_model.specs.declared.output.Entry.{Entry}
pub use Rattle.bits_model.specs.declared.output.Kind.{Kind}
pub use Rattle.bits_model.specs.Output.{is_node, times_spin, bit_at, entry_energy, weight_total, is_coupler, bits_energy, ones_in, majority}
pub use Rattle.std.specs.List.{AllByRecursion, flat_map, slice_get}
pub use Rattle.std.proofs.lemmas.Bool.{eq-eqb, ne_eqb, lt-ltb, le-ltb, eqb-true, eqb-false}
pub use Rattle.std.proofs.lemmas.List.Elements.{All-weaker, recursion_from_All, All-from_recursion}
pub use Rattle.std.proofs.lemmas.List.{length-drop, drop-drop, take_more, take_all, drop_more, drop_all, replicate_more, length-replicate, get_or-drop, take-append-drop, get_or_default}
pub use Rattle.std.proofs.lemmas.Grind.{elements, flat_map-append}
pub use Rattle.bits_model.specs.declared.couplers.RowStart.{RowStart}
pub use Rattle.bits_model.specs.Entries.{in_rows, rows_of, end_before, firsts_of, coupled, IsOther, AreRows, IsPacked, packed_entries, row_entries, IsWithin, node_entries, listed_entries, weighed_nodes, AreNumbers, last_is, IsInFirst, entries_left, divided}
pub use Rattle.bits_model.specs.Stated.{RowsMakeUp, PairsHaveNumbers}
pub use Rattle.bits_model.specs.declared.nodes.Numbers.{Numbers}
pub use Rattle.std.specs.Prelude.{Some}
pub use Rattle.bits_model.specs.PairNumbers.{pair_number}
pub use Rattle.std.specs.Int.{w128, w64}
pub use Rattle.base.proofs.DividedWeights.{next_unchanged, one_changed, changed_to}
pub use Rattle.std.proofs.lemmas.Bool.Decides.{nat_tests}
