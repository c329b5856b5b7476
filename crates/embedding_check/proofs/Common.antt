-- What the proofs of this crate stand on, of std and of the crates below.
pub use Rattle.std.proofs.Common.{◌≡◌, ◌≢◌, ℕ, zero, suc, ◌<◌, ◌≤◌, ◌^◌, ◌⊎◌, inl, inr, Bool, true, false, ◌||◌, List, [], ◌∷◌, length, drop, All, refl, sym, ap, subst, ◌∙◌, arith, ◌+◌, ◌==◌, if◌then◌else◌, pos, ◌&&◌, ◌++◌, get_or, Option, map, set, take, ◌-◌, append_assoc, Err, Ok, rules, Some, None, IfSome}
pub use Rattle.ising_form.proofs.Common.{get_or-append_seam, nat_tests, IsingContent, IsIsing, Entry, IsCoupler}
pub use Rattle.std.specs.List.{AllZip, Contains, count_by, flat_map}
pub use borrow.Author.Clash.{clash}
pub use borrow.Author.Count.{below_more}
pub use Rattle.std.proofs.lemmas.List.Folds.{Any-from_list_any}
pub use Rattle.std.specs.Cmp.{both_ways}
pub use Rattle.chain_map.proofs.Paths.{is_in_at}
pub use Rattle.std.proofs.lemmas.Bool.{cases_Bool, eqb-true, or_cases, cases_eq, cases_lt, and_parts}
pub use Rattle.std.proofs.lemmas.List.{get_or_default, nil_from_length, get_or_append_left, length-append, get_or-map, get_or-set_same, get_or-set_other, length-map, length-set, get_or-append-add, take-append-drop, take_more, drop_more, get_or-drop, take_all, length-drop, length_push}
pub use Rattle.std.proofs.lemmas.List.Sums.{sum_by-take-le, sum_by_more, sum_by-cons, sum_by-set}
pub use Rattle.std.proofs.lemmas.Grind.{get_or_default_zero, flat_map-append}
pub use Rattle.std.proofs.lemmas.List.Elements.{Contains-get_or, Contains-append_left, Contains-push, Contains-push_cases, all_zip_more}
pub use Rattle.std.proofs.lemmas.Option.{same_Some}
pub use Rattle.std.specs.List.Sorted.{IsPermutation, IsNonDecreasing}
pub use Rattle.std.proofs.lemmas.List.Sorted.{sum_by-IsPermutation, Contains-permutation, IsPermutation-sym, searched, length_permutation, IsNonDecreasingBy-from_sort}
pub use Rattle.std.proofs.lemmas.Result.{err_from_is_err_and, IfOk-weaker, IfErr-weaker, on_ok_weaker}
pub use Rattle.chain_map.specs.Chains.{Joins, occurrences, chain_of}
pub use Rattle.bits_model.specs.Walks.{is_in, first_of, WalksTo, IsReached, IsWalk, end_of}
pub use Rattle.chain_map.specs.Valid.{IsValid, IsCrossing, IsCoupled}
pub use Rattle.chain_map.specs.declared.faults.EmbedFault.{EmbedFault}
pub use Rattle.chain_map.specs.declared.faults.CheckAnswer.{CheckAnswer}
pub use Rattle.chain_map.specs.Faults.{IfFault}
pub use Rattle.chain_map.proofs.Occurrences.{occurrences_more, occurrences-take-le, occurrences-chain-le}
pub use Rattle.hardware.specs.declared.span.Span.{Span}
pub use Rattle.hardware.specs.Others.{IsFaced}
pub use Rattle.hardware.specs.declared.hardware.Others.{Others}
pub use Rattle.hardware.specs.Others.{IsOther, IsOneOf, CanBeJoined}
pub use Rattle.bits_model.specs.Entries.{in_rows, rows_of}
pub use Rattle.bits_model.proofs.EntryRows.{joined_rows, rows_before, rows_more, rows_all}
pub use Rattle.embedding_check.specs.Distances.{HasDistance, IsParent, AreParents}
pub use Rattle.embedding_check.specs.Embeddings.{Embedding, IsEmbedding, IsTree, IsTie, parent_in, climbed}
pub use Rattle.embedding_check.specs.Checked.{IsChecked, IsPlace, IsBefore, IsPlaceOf, ArePlaces}
pub use Rattle.embedding_check.specs.Search.{qubit_at, IsDone, IsSortedChain, Found, waits_at, parent_at, NoneJoined, IsFirst, LevelTakes, IsSearched, IsWithin, AtLevel, emptied, taken, Moves, Takes, Spreads, waiting}
pub use Rattle.embedding_check.specs.Least.{IsPlaceIn, IsLeast, IsLeastPair, IsAhead, IsFacedAhead, IsNumberedAhead, IsOtherAhead, IsArrow}
pub use Rattle.embedding_check.specs.Faults.{NamesUncoupled, IsFault, IsFirstAt, Exists, IsNew, IsReachedAt, IsUncoupled, number_at, IsInside, IsApart, AreSearchable, IsLinked}
pub use Rattle.embedding_check.specs.declared.noted.Mark.{Mark}
pub use Rattle.embedding_check.specs.Owners.{AreOwners, owner_of, nobody, IsRun}
pub use Rattle.embedding_check.specs.Noted.{marked_pair, noted_at, Notes, ordered, IsChainJoin, IsJoin, IsRunJoin, IsSpanJoin, AreNotedTo, AreNotedFrom, IsQubitJoin, IsNumberJoin, IsOthersJoin, AreNoted}
pub use Rattle.embedding_check.specs.Marks.{marked}
pub use Rattle.embedding_check.specs.Reached.{IsFirstBad}
pub use Rattle.embedding_check.specs.Steps.{AreSteps}
pub use Rattle.chain_map.specs.declared.faults.EmbedFault.TheVariants.{ChainCount, Disconnected, EmptyChain, NoCoupler, NoSuchQubit, Repeated, TooManyNodes}
