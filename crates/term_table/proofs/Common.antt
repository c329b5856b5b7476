-- What the proofs of this crate stand on, of std and of the crates below.
pub use Rattle.std.proofs.Common.{add-one, ◌≡◌, ℕ, ◌+◌, ◌≤◌, Bool, true, false, cond, arith, sym, ap, refl, List, [], ◌∷◌, ℤ, pos, ◌+ℤ◌, unsigned_abs, sum_by, ◌++◌, Result, OnOk, subst, ◌∙◌, append_assoc, append-nil, ◌^◌, All, OnErr, ◌≢◌, ◌<◌, length, map, take, drop, get_or, zero, suc, ◌-◌, ◌⊎◌, inl, inr, ◌*◌, ◌*ℤ◌, ◌||◌, neg_ℤ, set, Option, None, Some, reverse, to_z, of_z, rules, FitsSigned}
pub use Rattle.std.specs.Ordering.{int_eq, is_eq, match_ordering, ordering_reverse, is_lt}
pub use Rattle.std.specs.declared.cmp.Ordering.{Ordering}
pub use Rattle.std.proofs.lemmas.Int.{ints, unsigned_abs-mul, to_z-of_z}
pub use Rattle.std.proofs.lemmas.Bool.Decides.{Decides-int_eq, nat_tests}
pub use Rattle.std.proofs.lemmas.List.Sums.{sum_by-cons, sum_by-append, sum_by-drop_more, sum_by_more_le, fold-append}
pub use Rattle.base.specs.Sums.{total_by, if_so}
pub use Rattle.base.proofs.Totals.{size-plus, total_by_more, total_by-append, total_by-flat_map, total_by-IsPermutation}
pub use Rattle.literal_lists.specs.declared.literal.Literal.{Literal}
pub use Rattle.literal_lists.specs.Literals.{all_hold, literal_cmp, literal_set, has_clash, are_opposite, IsLiteralSet, with_literal}
pub use Rattle.term_table.specs.Terms.{Term, set_cmp, set_size, terms_cost, terms_total, terms_size, coefficient_of, in_front, with_addition, with_additions, IsTermSet, Ascends, AreTerms}
pub use Rattle.term_table.specs.Tables.{TableContent, with_appended, kept_in, with_added, with_all, IsTable, IsKept, AreAdditions, with_more, KeptTable, IsLow}
pub use Rattle.term_table.specs.Rooms.{Fills, HasRoomFor}
pub use Rattle.std.proofs.lemmas.List.Elements.{All-push, All-nil, All-cons, All-head, All-tail, All-append, All-from_recursion, recursion_from_All, All-take, All-get_or, All-weaker, All-same, All-more}
pub use Rattle.term_table.specs.Runs.{Run, merged_terms, settled, with_entry, one_run, entries, sum_over, merged, settled_with, settled_back, is_empty, AreRuns}
pub use Rattle.std.specs.List.{AllByRecursion, list_any, swap}
pub use Rattle.std.specs.List.Sorted.{IsPermutation, IsSortedBy}
unfoldable pub use Rattle.std.specs.List.Sorted.{IsStrictlySortedBy}
pub use Rattle.std.specs.Map.{keys_of}
pub use Rattle.std.proofs.lemmas.List.{take-map, take_more, length-take-le, get_or-take, take-take, length-append, drop_more, drop_all, get_or_default, length-drop, take_all, get_or-drop, reverse-reverse, reverse-append, take-append-le, get_or_append_left, get_or_push, length_push, at_drop_more, drop-set-lt, get_or-set_same, take-set-le, take_rest}
pub use Rattle.std.specs.Prelude.{if◌then◌else◌, ⊤, replicate, fold, Any}
pub use Rattle.term_table.specs.Newest.{AreOrdered, AreSettling}
pub use Rattle.term_table.specs.Rests.{without, NotBelow, Begins, IsLeast, AreRests, rests_of, head_of, lesser_of, least_in, first_weight}
pub use Rattle.literal_lists.proofs.LiteralSets.{literal_set-ascending, literal_set-less, literal_set-equal, literal_set-greater, Rises, literal_set-ascends, All-literal_set, literal_total, no_clash}
pub use Rattle.term_table.specs.Products.{union, scaled, product_terms, pairs_with, pair_products, HasPrefix, union_terms, products_with, IsFactor, pairs_of}
pub use Rattle.std.proofs.lemmas.Nat.{mul-le}
pub use Rattle.term_table.specs.MultipliedOut.{ArePlain, plain, with_front, plain_terms, contributions, complements}
pub use Rattle.std.proofs.Math.Nat.{mul-le-mul_left, mul-le-mul_right}
pub use Rattle.std.proofs.Math.Pow.{pow_mono}
pub use Rattle.term_table.specs.RunLaws.{MergingSums, MergingKeepsTerms, SettlingDrops, SettlingMerges, SettlingStays, SettlingEnds, EntriesAreSmall}
pub use Rattle.std.proofs.lemmas.Bool.{false_from_ne_true, cases_lt}
pub use Rattle.std.specs.Cmp.{IsTotalOrder}
pub use Rattle.std.proofs.lemmas.Cmp.{tied_itself}
pub use Rattle.term_table.specs.laws.Keys.{key_total}
pub use Rattle.term_table.specs.Summed.{term_in_front, sums_from, sums_of}
pub use Rattle.std.proofs.lemmas.List.Sorted.{ranks_by, sorted_far, all_adjacent_more}
pub use Rattle.std.proofs.lemmas.Map.Keys.{sorted_from_all_adjacent}
pub use Rattle.std.specs.Int.{w128}
pub use Rattle.std.proofs.lemmas.Result.{on_ok_weaker}
pub use Rattle.std.proofs.lemmas.Map.Iter.{rest_more}
pub use Rattle.std.specs.Option.{option_copied}
pub use Rattle.std.proofs.lemmas.Fn.{always_returns_same}
pub use Rattle.literal_lists.proofs.LentParts.{on_err}
pub use Rattle.term_table.specs.Kept.{terms_left}
pub use Rattle.std.proofs.lemmas.Grind.{elements}
