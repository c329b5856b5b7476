-- What the proofs of this crate stand on, of std and of the crates below.
pub use Rattle.std.proofs.Common.{◌≡◌, ℕ, ◌+◌, Bool, true, false, ◌<◌, List, [], ◌∷◌, ◌++◌, length, map, get_or, refl, ap, ◌∙◌, Some, arith, suc, ◌-◌, sym, take, drop, drop-cons, add-one, ◌≢◌, zero, ◌≤◌, ◌&&◌, ◌||◌, eqb, not, ◌⊎◌, inl, inr, Less, Equal, Greater, rules, append_assoc}
pub use Rattle.std.specs.List.{slice_get, slice_range, dedup, AllAdjacentBelow, AllByRecursion, list_any, list_all}
pub use Rattle.std.proofs.lemmas.Option.{slice_get-map, slice_get_within, get_or_from_slice_get}
pub use Rattle.std.proofs.lemmas.List.{map-append, get_or_default, length-map, take_at, take_more}
pub use Rattle.base.specs.FlatLists.{parts, AreEnds, start_of}
pub use Rattle.base.proofs.FlatParts.{parts-at, pushed, length-parts, parts-map, part_lies}
pub use Rattle.literal_lists.specs.declared.literal.Literal.{Literal}
pub use Rattle.literal_lists.specs.Codes.{literal_parts, literal_of, code_of}
pub use Rattle.std.specs.Prelude.{OnErr, Result, Ok, Err, Contains, All}
pub use Rattle.std.specs.Cmp.{IsEquivalence, IsTotalOrder}
pub use Rattle.std.specs.Ordering.{ordering_reverse, is_eq, eq_by_cmp}
pub use Rattle.std.specs.List.Sorted.{IsSorted, IsPermutation}
unfoldable pub use Rattle.std.specs.List.Sorted.{IsStrictlySortedBy}
pub use Rattle.std.proofs.lemmas.Bool.{eqb-true, and_parts, cases_order, false_from_ne_true}
pub use Rattle.std.proofs.lemmas.Map.Keys.{Less-from_sorted}
pub use Rattle.std.proofs.lemmas.List.Elements.{All-contains, Contains-get_or}
pub use Rattle.std.proofs.lemmas.List.Folds.{Any-from_list_any, list_any-from_Any, list_any_at}
pub use Rattle.std.proofs.lemmas.List.Sums.{AllPass-from_list_all, list_all-from_AllPass}
pub use Rattle.std.proofs.lemmas.List.Kept.{Contains-dedup, Contains-from_dedup, IsStrictlySortedBy-dedup}
pub use Rattle.std.proofs.lemmas.List.Sorted.{Contains-permutation, all_adjacent_more, IsPermutation-sym}
pub use mathlib.Core.Bool.{beq}
pub use Rattle.literal_lists.specs.Literals.{literal_cmp, with_literal, literal_set, are_opposite, has_clash}
pub use Rattle.std.proofs.lemmas.List.Filters.{dedup_is}
pub use Rattle.std.proofs.lemmas.Grind.{elements}
pub use Rattle.std.proofs.lemmas.Bool.Decides.{nat_tests}
pub use Rattle.std.specs.Cmp.Lexicographic.{slice_cmp}
pub use Rattle.std.specs.Ordering.{nat_cmp}
