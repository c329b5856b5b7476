-- What the proofs of this crate stand on, of std and of the crates below.
pub use Rattle.monomial_layer.specs.laws.Common.{flat_map, sum_by, AllByRecursion, node, with_each, pair_terms, node_term, node_terms, new_nodes, new_bits, all_new_terms, each_with, nodes_for, positive_terms, negative_terms, new_terms, image, factor, first_values, is_taken, Fits, extension, first_bits, Keeps, BitsLink}
pub use Rattle.std.proofs.Common.{◌≡◌, Bool, ℕ, zero, suc, ◌+◌, ◌-◌, ◌*◌, ◌<◌, ◌≤◌, ◌^◌, List, [], ◌∷◌, ◌++◌, length, map, take, drop, get_or, ℤ, refl, sym, ap, ◌∙◌, arith, true, false, cond, leb, int_lt, pos, ◌⊎◌, inl, inr, subst, ◌*ℤ◌, neg_ℤ, unsigned_abs, ◌-ℤ◌, FitsSigned, to_z, of_z, add-one, rules}
pub use Rattle.term_table.proofs.Common.{drop_all, sum_by-cons, sum_by-append, on_ok_weaker, Literal, Term, terms_total, IsTermSet, terms_size, set_size, with_additions, Fills, HasRoomFor, nat_tests, ints, unsigned_abs-mul, to_z-of_z, w128, Result, OnOk, All, append_assoc, append-nil, drop_more, take_rest}
pub use Rattle.form_steps.proofs.Common.{IfOk-weaker, fits_signed_from_abs}
pub use Rattle.std.proofs.lemmas.List.Elements.{recursion_from_All, All-nil, All-cons, All-append, All-rest, All-map, All-from_recursion}
pub use Rattle.term_table.specs.Tables.{TableContent, AreAdditions, IsTable, with_appended, with_more, IsLow, table_size, form_of, KeptTable, kept_at_once}
pub use Rattle.term_table.proofs.Filling.{fills_as, fills_more, room_first, room_next, room_same, rest_room, Rest, fills_same, fills_none}
pub use Rattle.term_table.proofs.KeptTerms.{OfSet, All-with_additions}
pub use Rattle.term_table.proofs.RoomForTerms.{room-additions}
pub use Rattle.term_table.proofs.SmallSets.{Ascend, IsBelow, IsLiteralSet-ascends, IsTermSet-one, IsTermSet-two, IsTermSet-wider}
pub use Rattle.std.proofs.Math.Nat.{mul-le-mul_left, mul-le-mul_right, pow-succ', pow-zero}
pub use Rattle.term_table.proofs.Additions.{terms_total-cons, terms_total-append, terms_size-cons, terms_total-with_additions, terms_size-with_additions}
pub use Rattle.monomial_layer.specs.laws.Positive.{pairs, pairs_is, factor_cases}
pub use Rattle.monomial_layer.specs.laws.Kept.{mono_reaches, mono_keeps}
pub use Rattle.std.proofs.lemmas.Map.Iter.{rest_more, rest_all}
pub use Rattle.std.proofs.lemmas.Bool.{cases_Bool, cases_lt}
