-- What the proofs of this crate stand on, of std and of the crates below.
pub use Rattle.std.proofs.Common.{◌≡◌, ℕ, zero, suc, ◌+◌, ◌<◌, Bool, true, false, cond, List, [], ◌∷◌, map, length, get_or, Some, None, refl, sym, ap, ◌∙◌, arith, not, string_bytes, String, Vec, Global, bytes_eq, nat_lt, ◌-◌, ◌≤◌, ◌++◌, subst, append_assoc, take, drop, Bor, min, rules}
pub use Rattle.std.proofs.lemmas.Grind.{common_steps}
pub use Rattle.std.proofs.lemmas.List.{length-map, take-append-drop, take_rest, take_more, append-nil, length-append, length-take, length-drop, nil_from_length}
pub use Rattle.std.specs.List.{prefix_len}
pub use Rattle.std.specs.Prelude.{position}
pub use Rattle.std.specs.declared.option.Option.{Option}
pub use borrow.Author.Tests.{ltb-true}
pub use Rattle.edge_io.specs.Held.{NamedFiles, find_file, after_first, IsFront}
pub use Rattle.edge_io.specs.InMemory.{bytes_at, IsIndexOf, rest_from}
pub use Rattle.std.proofs.KnownBytes.{Appends-nil, Appends-trans}
pub use Rattle.std.proofs.lemmas.List.Concat.{flat_map-append}
pub use Rattle.std.specs.Io.KnownBytes.{Appends, Consumes, IsAtEnd}
pub use Rattle.edge_io.specs.Counts.{RoseBy, count_after}
pub use Rattle.edge_io.specs.Sinks.{Taken, Takes, TakesFront, Passes, joined_bytes}
pub use Rattle.std.proofs.Math.Seq.{take-append_seam}
pub use Rattle.std.proofs.lemmas.Bool.Decides.{nat_tests}
