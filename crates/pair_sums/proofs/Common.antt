-- What the proofs of this crate stand on, of std and of the crates below.
pub use Rattle.std.proofs.Common.{if◌then◌else◌, eqb, false, true, Bool, ◌≡◌, ◌⊎◌, inl, inr, ℕ, ◌+◌, ◌*◌, ◌<◌, ◌^◌, List, [], ◌∷◌, refl, sym, ap, ◌∙◌, arith, ◌≢◌, ◌/◌, ◌≤◌, unsigned_abs, subst, ◌++◌, append_assoc, append-nil, pos, length, map, ℤ, drop, Some, slice_get, ◌+ℤ◌, OnErr, Result, Ok, Err, suc, rules, take, to_z, of_z}
pub use Rattle.std.specs.List.{AllByRecursion}
pub use Rattle.std.specs.List.Sorted.{IsPermutation, IsNonDecreasingBy}
unfoldable pub use Rattle.std.specs.List.Sorted.{IsStrictlySortedBy}
pub use Rattle.std.specs.Ordering.{nat_cmp}
pub use Rattle.std.specs.Prelude.{⊤, All}
pub use Rattle.std.proofs.lemmas.Bool.{eq-eqb}
pub use Rattle.std.proofs.lemmas.Bool.Decides.{Decides-eqb, nat_tests}
pub use Rattle.bits_model.specs.declared.output.Entry.{Entry}
pub use Rattle.bits_model.specs.Output.{entry_cmp, weight_total}
pub use Rattle.bits_model.specs.PairNumbers.{pair_number}
pub use Rattle.pair_sums.specs.Pairs.{IsPair, IsNonzero, weight_for, entry_in_front, sums_from, AreSummed, AppendsSums, weight_at, heavier, sums_of}
pub use Rattle.std.proofs.lemmas.Int.{ints, to_z-of_z}
pub use Rattle.std.proofs.lemmas.List.{drop_more, get_or-map, length-map, map-append, nil_from_length, take_more}
pub use Rattle.std.proofs.lemmas.Option.{slice_get_within, get_or_from_slice_get, slice_get-map, slice_get_read}
pub use Rattle.std.proofs.lemmas.List.Sorted.{All-permutation, IsPermutation-append_comm, sum_by-IsPermutation, IsPermutation-trans, IsPermutation-map, IsNonDecreasingBy-from_sort_by_key}
pub use Rattle.std.proofs.lemmas.List.Elements.{All-nil, All-push, All-tail, All-weaker, recursion_from_All, All-from_recursion}
pub use Rattle.base.proofs.Totals.{total_by-IsPermutation, size-plus}
pub use Rattle.pair_sums.specs.declared.shape.Shape.{Shape}
pub use Rattle.pair_sums.specs.Codes.{numbers_of, unpacked, coupler_of, listed, low_of, AreListed, IsFound, KeepsWeights}
pub use Rattle.pair_sums.specs.PairLists.{AreAscending, AreGathered, held_pairs}
pub use Rattle.std.proofs.lemmas.List.Sums.{sum_by-cons}
pub use Rattle.std.proofs.lemmas.Result.{IfOk-weaker}
pub use Rattle.std.specs.Int.{w128}
pub use Rattle.std.specs.Bool.{Decides}
