-- What the proofs of this crate stand on, of std and of the crates below.
pub use Rattle.rosenberg_layer.specs.laws.Common.{Ordering, nat_tests, Literal, node, Pair, is_long, new_term, tie_terms, with_pair, front_pair, next_pair, pair_total, replaced, with_next, substituted, run, excess, image, has_literal, has_pair, pairs_of, without, is_literal, next_before, Fits, with_product, literal_cmp, literal_total, IsBelow, Ascend, IsLiteralSet-ascends, IsTermSet-wider, first_bits, Extends, Keeps, BitsLink}
pub use Rattle.term_table.proofs.Common.{ints, to_z-of_z, total_by, if_so, Term, set_cmp, in_front, terms_total, with_addition, with_additions, Ascends, IsTermSet, set_size, terms_size, coefficient_of, ⊤, HasRoomFor, w128}
pub use Rattle.literal_lists.proofs.Common.{All, Contains, get_or_from_slice_get, parts, AreEnds, start_of, parts-at, part_lies, length-parts, pushed, drop-cons, code_of, literal_of, elements}
pub use Rattle.std.proofs.Common.{◌≡◌, ◌≢◌, ℕ, suc, ◌+◌, ◌≤◌, Bool, true, false, not, ◌||◌, cond, arith, refl, sym, ap, ◌∙◌, subst, List, [], ◌∷◌, ◌++◌, map, ℤ, pos, ◌+ℤ◌, Some, None, ◌^◌, sum_by, unsigned_abs, zero, IsTrue, ◌↔◌, ◌-◌, ◌<◌, length, get_or, set, replicate, Option, ◌&&◌, ◌*◌, take, drop, ◌==◌, leb, ◌⊎◌, inl, inr, eqb, ◌/◌, ◌%◌, rules, fold}
pub use Rattle.std.specs.List.{AllByRecursion, filter, list_any, slice_range, AllZip}
unfoldable pub use Rattle.std.specs.List.{IsDistinct}
pub use Rattle.std.specs.List.Sorted.{IsPermutation, IsNonDecreasing}
unfoldable pub use Rattle.std.specs.List.Sorted.{IsStrictlySortedBy}
pub use Rattle.std.specs.Ordering.{is_lt, match_ordering, is_eq, ordering_then, nat_cmp}
pub use Rattle.std.proofs.lemmas.List.{append-nil, append_assoc, map-set, get_or-set_same, get_or-set_other, length-map, length-append, length-take-le, length-drop, drop-set-lt, drop-set-add, map-append, take_all, drop_all, get_or-append_right, get_or-drop, set-get_or, get_or_default, length-set, drop-map, set-append_left, drop-append-le, drop-drop, take_more_set, get_or_past, get_or_read, drop_more, length-replicate, get_or_at, length-take}
pub use Rattle.std.proofs.lemmas.List.Elements.{All-weaker, All-from_recursion, recursion_from_All, filter-append, All-get_or, All-tail, All-head, All-filter, filter_more, All-contains, Contains-get_or, All-replicate, All-rest, All-same}
pub use Rattle.std.proofs.lemmas.List.Sorted.{All-permutation, sum_by-IsPermutation, IsPermutation-refl, IsPermutation-cons, IsPermutation-trans, IsPermutation-middle, IsPermutation-filter_both, IsPermutation-append_left, IsPermutation-append_right, IsPermutation-append_comm, length_permutation, Contains-permutation, IsPermutation-sym, IsNonDecreasingBy-from_sort}
pub use Rattle.std.proofs.lemmas.List.Sums.{sum_by-append, sum_by-cons, sum_by_more_le, sum_by-set, fold_more}
pub use Rattle.term_table.specs.Tables.{TableContent, IsTable, IsLow, AreAdditions, with_appended, table_size, with_more, kept_at_once, KeptTable, form_of}
pub use Rattle.term_table.proofs.KeptTerms.{OfSet, All-with_addition, Under, IsNonzero, Ascends-with_additions, nonzero-with_additions}
pub use Rattle.term_table.proofs.SetOrder.{same_set, set_itself}
pub use Rattle.rosenberg_layer.specs.laws.Sets.{all-weaker, all-filtered, has_own_pair, found_in, pair_differs, new_terms-sets, IsSound, IsSound-substituted, rest-shorter, Within, found, IsPair, pair_of_set, IsSound-with_pair, tie_terms-sets}
pub use Rattle.rosenberg_layer.specs.Steps.{begins, front_term, is_short, pair_cmp, pair_of, Begin, Follow, IsStep}
pub use Rattle.rosenberg_layer.specs.Parts.{weights, weight_of, AllLong, AreParts, NoneLong, ties_of, times_of, IsTurn, AreAlike}
pub use Rattle.rosenberg_layer.specs.declared.buckets.Head.{Head}
pub use Rattle.rosenberg_layer.specs.Buckets.{chain, list_of, list_at, listed_count, IsApart, TermLists}
pub use Rattle.term_table.proofs.Additions.{sets_sum-with_additions, sets_sum, sets_sum-cons, terms_total-cons, coefficient_of-with_additions, terms_total-append, terms_size-cons, weight, if_so-plus, weight-with_additions}
pub use Rattle.rosenberg_layer.specs.laws.Costs.{rest_of, Differ, pair_total-cons, literal_same}
pub use Rattle.std.proofs.Math.Dec.{eqb-suc-zero}
pub use Rattle.term_table.proofs.Filling.{fills_as, rest_none, rest_room, room_as, Rest, fills_more, fills_same, room_first, room_next}
pub use Rattle.std.proofs.Math.Nat.{mul-le-mul_left, mul-le-mul_right, pow-succ', pow-zero}
pub use Rattle.base.proofs.Totals.{size-plus, total_by-append, total_by_is}
pub use Rattle.term_table.proofs.UniqueTerms.{same_terms}
pub use Rattle.rosenberg_layer.specs.LongParts.{after_turn, long_after, long_part, term_after}
pub use Rattle.std.proofs.lemmas.List.Filters.{length-filter_both, sum_by-filter_both}
pub use Rattle.std.specs.Cmp.{IsTotalOrder, on_total, then_total}
pub use Rattle.std.proofs.lemmas.Cmp.{tied_itself, ranked}
pub use Rattle.std.proofs.lemmas.Bool.{and_parts, cases_eq}
pub use Rattle.std.proofs.lemmas.List.Edits.{map_over_more}
pub use Rattle.rosenberg_layer.specs.Rings.{code_at, term_at, literals_left, terms_in, HasTwo}
pub use Rattle.rosenberg_layer.specs.Waiting.{first_pair, is_touched, key_of, turned, AreWaiting, ArePartly, IsFound, lists_with, IsBeyond, IsListed, IsKeyed, keys_left, Wait}
pub use Rattle.rosenberg_layer.specs.laws.Kept.{width-run-le, run_keeps, rosen_reaches, rosen_keeps}
pub use Rattle.std.proofs.lemmas.Map.Keys.{IsDistinct-cons, IsDistinct-IsPermutation, IsStrictlyIncreasing-from_distinct, sorted_from_strictly_increasing, sorted_head, sorted_tail}
pub use Rattle.std.proofs.lemmas.Map.Iter.{rest_more, rest_all}
pub use Rattle.std.proofs.lemmas.Result.{on_ok_weaker, IfOk-weaker}
pub use Rattle.rosenberg_layer.specs.Added.{moved_of}
pub use Rattle.term_table.proofs.Filled.{fills_if_ok}
pub use Rattle.term_table.proofs.RoomForTerms.{room-additions}
pub use Rattle.std.specs.Option.{unwrap_or}
pub use Rattle.rosenberg_layer.specs.declared.waiting.Waiting.{Waiting}
pub use Rattle.std.proofs.lemmas.Slice.Zip.{AllZip-long}
