-- What the proofs of this crate stand on, of std and of the crates below.
pub use Rattle.std.proofs.Common.{not, ◌≡◌, ◌≢◌, ℕ, zero, suc, ◌+◌, ◌-◌, ◌<◌, ◌≤◌, ◌==◌, Bool, true, false, cond, List, [], ◌∷◌, refl, sym, arith, ◌∙◌, subst, eq-eqb, ◌||◌, length, get_or, ap, ◌/◌, ◌%◌, ◌++◌, ◌*◌, ◌^◌, ◌&&◌, ℤ, pos, ◌+ℤ◌, ◌*ℤ◌, neg_ℤ, unsigned_abs, take, drop, replicate, ◌≤ℤ◌, ◌<ℤ◌, int_lt, append_assoc, max, set, ◌⊎◌, inl, inr, map, eqb, rules, to_z, of_z}
pub use Rattle.form_steps.proofs.Common.{Form, energy, pow_mono}
pub use Rattle.bits_model.proofs.Common.{ints, total_by, if_so, nat_tests, elements}
pub use Rattle.bits_model.specs.declared.output.Entry.{Entry}
pub use Rattle.bits_model.specs.declared.output.Kind.{Kind}
pub use Rattle.std.proofs.lemmas.Bool.{ne_eqb, eqb-true, cases_eq, or_left, or_right, or_cases, false≢true, false_from_ne_true}
pub use Rattle.bits_model.specs.Walks.{is_in}
pub use Rattle.bits_model.specs.Output.{Written, bit_at, entry_energy, is_node, times_spin, weight_total, IsPlaced, form_of, spins_energy}
pub use Rattle.basic_solve.specs.Widths.{coupled, without, after, is_neighbour, names_both, AreNeighbourhoods, width, IsNeighbourhood, AreLowerNeighbours, AreHandedOn, IsFirstWider, couples}
pub use Rattle.basic_solve.specs.Tables.{is_part, value_at, doubled, powers, sum_where, base_of, step_of, step_at, AreOf, most, TableOver, AreEntriesOf, IsChoiceOf, IsHandedOn, IsPassedTo, IsSettled, LeadTo, own_size, table_energy, held_energy, waiting_energy, index_of, places, own_energy, stepped, AreChoices}
pub use Rattle.std.specs.List.{count_by, range_with_len, sum_by, All, AllByRecursion, list_any, Contains, dedup}
pub use Rattle.std.specs.List.Sorted.{IsStrictlyIncreasing, IsPermutation}
pub use Rattle.std.proofs.lemmas.List.Sums.{sum_by-cons, sum_by_push, get_or-le-sum_by, sum_by-drop_more}
pub use Rattle.std.proofs.lemmas.List.{length-map, get_or-map, get_or_append_left, take_at, append-nil, length-append, get_or_past, get_or-replicate, get_or-set_same, get_or-set_other, length-set, length-replicate, map-append, get_or_at, get_or_push, ext_get_or, map-set, take_more, take_all, map_push, drop_all, at_drop_more}
pub use Rattle.std.proofs.Math.Seq.{get_or-append_seam, get_or-append_right}
pub use Rattle.basic_solve.specs.Bits.{is_one, bit_of, bits_of, all_bits}
pub use Rattle.std.specs.Int.{int_min, w128, w8}
pub use Rattle.std.specs.Ordering.{bool_cmp}
pub use Rattle.std.specs.Cmp.Lexicographic.{slice_cmp}
pub use Rattle.basic_solve.specs.FirstLeast.{IsFirstLeast, least_after, chosen, choices}
pub use Rattle.std.proofs.lemmas.List.Elements.{All-from_recursion, recursion_from_All, All-push}
pub use Rattle.base.proofs.Totals.{total_by_push}
pub use Rattle.basic_solve.specs.Heads.{lists_at, AreHeads, IsTaken}
pub use Rattle.std.proofs.Math.Nat.{pow-succ'}
pub use Rattle.std.proofs.lemmas.List.Sorted.{IsPermutation-sym, Contains-permutation}
pub use Rattle.std.proofs.lemmas.List.Kept.{Contains-dedup_nat, Contains-from_dedup}
pub use Rattle.std.proofs.lemmas.List.Filters.{dedup_is}
pub use Rattle.std.proofs.lemmas.Map.Keys.{IsStrictlyIncreasing-dedup}
pub use Rattle.std.proofs.lemmas.Result.{on_ok_weaker}
pub use Rattle.std.proofs.lemmas.Nat.Bits.{bit_at_set_same, bit_at_set_other}
pub use Rattle.std.proofs.lemmas.List.Folds.{list_any-append, list_any_at, sum_by-replicate}
pub use Rattle.std.proofs.lemmas.List.FromFn.{length-map-range_with_len, get_or-map-range_with_len}
pub use Rattle.form_steps.proofs.Growth.{no_less, one_le_pow}
pub use Rattle.basic_solve.specs.Columns.{column, columns, lesser_nodes, turned, with_lesser, AreColumns, AreLeft, IsMadeOf}
