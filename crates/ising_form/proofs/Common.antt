-- What the proofs of this crate stand on, of std and of the crates below.
pub use Rattle.std.proofs.Common.{◌≡◌, ◌⊎◌, inl, inr, ℕ, suc, ◌+◌, ◌<◌, ◌≤◌, ◌==◌, Bool, true, false, cond, ◌&&◌, ◌||◌, ℤ, pos, ◌+ℤ◌, unsigned_abs, List, [], ◌∷◌, ◌++◌, length, take, get_or, set, All, refl, sym, ap, ◌∙◌, subst, arith, ◌-◌, drop, zero, ◌*◌, ◌*ℤ◌, ◌^◌, if◌then◌else◌, neg_ℤ, ◌≤ℤ◌, map, length-append, to_z, of_z, rules, ◌-ℤ◌, slice_set, append_assoc, leb, ltb}
pub use Rattle.quad_form.proofs.Common.{node_entries, IsCoupler, QuadContent, IsQuad, quad_total, quad_size, int_eq, BitsLink, unit_of, weights_of, counted_in, entry_in, Figures, Form, IsMultiple, PenaltyScope, RelaxesBy, StaysAbove, RelaxesAsWritten, StaysAsWritten, figures_moved}
pub use Rattle.bits_model.proofs.Common.{nat_tests, ints, to_z-of_z, sum_by-cons, sum_by-append, total_by, if_so, listed_entries, w128}
pub use Rattle.std.specs.List.{AllByRecursion, filter, list_any, slice_index_or, sum_by}
unfoldable pub use Rattle.std.specs.List.Sorted.{IsStrictlySortedBy}
pub use Rattle.std.proofs.lemmas.List.{append-nil, length-take-le, take-append-le, drop_more, drop_all, length-drop, length-set, get_or-set_other, take_all, take_more, take_more_set}
pub use Rattle.std.proofs.lemmas.List.Elements.{recursion_from_All, All-from_recursion, All-get_or}
pub use Rattle.bits_model.specs.Output.{bit_at, times_spin, spins_energy, entry_cmp, has_node, is_chained, weight_total, entry_size, IsWellFormed, IsPlaced, decoding_of, entry_energy, read_off, Written}
pub use Rattle.quad_form.proofs.NodeEntries.{node_entries_more, nodes_ordered, couplers_up, all_placed, has_each_node, all_nonzero, all_upward}
pub use Rattle.ising_form.specs.Outputs.{is_marked, is_on_chain, FitsOutput, AreNodes, written_nodes, written_entries, written_of}
pub use Rattle.ising_form.specs.laws.Spun.{energy_of_node, length-fields, spins_keeps, spins_reaches}
pub use Rattle.std.proofs.lemmas.Bool.{cases_eq, cases_lt, cases_Bool, eq-eqb}
pub use Rattle.base.proofs.Totals.{total_by_push, size-plus, total_by_more, size-total_by, total_by-append}
pub use Rattle.bits_model.proofs.Energies.{size-times_spin, weights-append, size-energy, weight_within}
pub use Rattle.quad_form.proofs.NodeEnergies.{weights_more, weights_within}
pub use Rattle.ising_form.specs.Spins.{end_weight, coupled, fields_from, spins_fields, spins_constant, raised, image, Fits}
pub use Rattle.form_steps.specs.Relations.{Keeps, Reduces, Decoding}
pub use Rattle.quad_form.specs.Flat.{same_bits}
pub use Rattle.ising_form.specs.Isings.{IsingContent, IsIsing, ising_total, ising_size, form_of, entries_of, ising_value}
pub use Rattle.quad_form.proofs.ReducedForms.{IsLinear, one_le_quad_unit, reduced_is_quad, counted_coprime}
pub use Rattle.ising_form.specs.Reduction.{ising_unit, reduced, IsReducedAsWritten}
pub use Rattle.quad_form.proofs.WrittenModels.{moved_by, moved_stays}
pub use Rattle.bits_model.specs.Walks.{is_in}
pub use Rattle.std.proofs.Math.Seq.{get_or-append_seam, set-append_seam}
pub use Rattle.bits_model.specs.declared.output.Entry.{Entry}
pub use Rattle.bits_model.specs.declared.output.Graph.{Graph}
pub use Rattle.bits_model.specs.declared.output.Kind.{Kind}
