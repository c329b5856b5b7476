-- What the proofs of this crate stand on, of std and of the crates below.
pub use Rattle.std.proofs.Common.{◌≡◌, ℕ, ◌<◌, ◌≤◌, min, max, Bool, true, false, refl, sym, ap, ◌∙◌, arith, List, [], ◌∷◌, ◌++◌, map, ℤ, ◌+ℤ◌, ◌&&◌, cond, subst, inl, inr, length, zero, suc, take, append_assoc, append-nil, Some, None, ◌==◌, ◌||◌, ◌+◌, All, Ok, Err, not, eqb, get_or, set, length-set, get_or-set_other, get_or-set_same, reverse, is_ok, if◌then◌else◌, remove, ◌-◌, sum_by, rules, Greater}
pub use Rattle.basic_solve.proofs.Common.{AllByRecursion, list_any, range_with_len, IsPermutation, bool_cmp, Entry, energy, Form, if_so, total_by, slice_cmp, Kind, IsFirstLeast, sum_by-cons, is_in, ints, nat_tests}
pub use Rattle.std.specs.Prelude.{⊤, Result, count_by, ◌↔◌}
unfoldable pub use Rattle.std.specs.List.{IsDistinct}
pub use Rattle.std.specs.Cmp.{nat_eq_equiv}
pub use Rattle.bits_model.specs.Output.{IsPlaced, is_coupler, Written, IsWellFormed, bit_at, entry_energy, form_of, is_node, times_spin, weight_total}
pub use Rattle.elimination_order.specs.Renumbered.{AreNumbers, at_place, renumbered, IsRenumbered, IsFirstLeastBy, bits_by}
pub use Rattle.whole_text.proofs.LineTokens.{all_append}
pub use Rattle.std.proofs.lemmas.Bool.{or_parts, cases_lt, cases_eq, eq-eqb, eqb-true, false_from_ne_true, false≢true}
pub use Rattle.std.proofs.lemmas.List.{reverse-reverse, get_or_default, length-map, get_or-map, ext_get_or, length-reverse, take_more, get_or-reverse}
pub use Rattle.std.proofs.lemmas.List.Elements.{recursion_from_All, All-from_recursion, All-map}
pub use Rattle.base.proofs.Totals.{total_by-map, total_by-IsPermutation}
pub use Rattle.form_steps.specs.Least.{IsLeastState}
pub use Rattle.elimination_order.specs.Widths.{first_wide, width_after, after_nodes, from_last}
pub use Rattle.std.proofs.lemmas.List.Sorted.{list_any-IsPermutation, sum_by-IsPermutation, All-permutation, IsPermutation-reverse, IsPermutation-refl, IsPermutation-cons, IsPermutation-sym, IsPermutation-trans, IsPermutation-remove}
pub use Rattle.std.proofs.lemmas.List.Folds.{list_any_none, list_any-append, list_any_at}
pub use Rattle.whole_text.specs.declared.faults.TextFault.{TextFault}
pub use Rattle.whole_text.specs.Tokens.{Word}
pub use Rattle.whole_text.specs.Steps.{◌>>=◌, end_line, fault}
pub use Rattle.elimination_order.specs.Orders.{AreMarks, after_front, new_node, AreNodes, order_of}
unfoldable pub use Rattle.elimination_order.specs.Orders.{nodes_at}
pub use Rattle.std.proofs.lemmas.Map.Keys.{IsDistinct-head, IsDistinct-tail, IsDistinct-push, IsDistinct-from_apart, IsDistinct-IsPermutation, IsDistinct-cons, apart_from_distinct}
pub use Rattle.std.proofs.lemmas.Map.Steps.{length-le_from_distinct_below}
pub use Rattle.std.proofs.lemmas.List.FromFn.{fill_by_all, length-range_with_len, get_or-range_with_len}
pub use Rattle.basic_solve.specs.Widths.{IsFirstWider, IsWithinWidth, after, coupled, names_both, width, without}
pub use Rattle.whole_text.specs.TokenTexts.{words_of, word_of}
pub use Rattle.std.proofs.lemmas.Result.{IfOk-weaker, err_from_is_err_and}
pub use Rattle.bits_model.specs.declared.output.Kind.TheVariants.{Qubo, Ising, Qubits}
pub use Rattle.std.proofs.Math.Bool.{or-false}
