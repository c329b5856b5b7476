-- What the proofs of this crate stand on, of std and of the crates below.
pub use Rattle.std.proofs.Common.{All, Bool, List, [], ap, arith, false, get_or, length, max, nat_lt, not, of_calls, refl, rules, suc, sym, take, true, ℕ, ◌&&◌, ◌*◌, ◌++◌, ◌+◌, ◌<◌, ◌==◌, ◌^◌, ◌||◌, ◌∙◌, ◌∷◌, ◌≡◌, ◌≢◌, ◌≤◌}
pub use Rattle.listed_graph.specs.Rows.{EndsLow, has_join, joins_of, joins_of_part}
pub use Rattle.listed_graph.specs.Complete.{IsPart, most}
pub use Rattle.std.specs.List.Sorted.{IsPermutation}
pub use Rattle.part_lists.specs.declared.parts.Part.{Part}
pub use Rattle.std.proofs.lemmas.Fn.{always_returns_same}
pub use Rattle.std.proofs.lemmas.Grind.{elements}
pub use Rattle.listed_graph.specs.Parts.{exists_in, is_named, joined_in, qubits_of}
pub use Rattle.part_lists.specs.Pairs.{is_coupler, pair_number}
pub use Rattle.std.specs.List.{list_any}
pub use Rattle.std.proofs.lemmas.List.Sorted.{list_any-IsPermutation}
pub use Rattle.std.proofs.lemmas.List.Folds.{list_any-append}
pub use Rattle.std.proofs.lemmas.Bool.Decides.{nat_tests}
pub use Rattle.std.proofs.lemmas.Bool.{eq-eqb}
pub use Rattle.listed_graph.specs.laws.Completes.{complete-below}
