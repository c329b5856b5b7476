-- What the proofs of this crate stand on, of std and of the crates below.
pub use Rattle.problem_form.proofs.Common.{◌≡◌, ℕ, List, [], ◌∷◌, ◌++◌, Option, Some, None, Ok, refl, ◌∙◌, suc, Bool, true, false, length, ap, sym, subst, arith, ◌<◌, ◌*◌, ◌^◌, ◌↔◌, IsSome, ◌+◌, take, drop, Result, Err, ◌⊎◌, inl, inr, zero, ◌-◌, map, String, string_bytes, codes, unwrap_or, ◌==◌, if◌then◌else◌, IfSome, nat_le, nat_lt, ◌≤◌, IfOk, ◌||◌, bytes_eq, slice_get, ⊤, le_prop, slice_get_within, get_or_from_slice_get, slice_get_cases, bytes_eq-Decides, nat_tests}
pub use Rattle.whole_text.proofs.Common.{option_map_or, ok_or}
pub use Rattle.std.specs.Prelude.{◌≢◌, ◌&&◌, cond, is_none, not, option_and_then}
pub use Rattle.std.specs.Option.{option_map}
pub use Rattle.std.specs.List.{prefix_len}
pub use Rattle.std.proofs.Math.Seq.{take-append_seam, drop-append-add, drop-append_seam}
pub use Rattle.command_words.specs.declared.commands.Format.{Format}
pub use Rattle.command_words.specs.declared.commands.Target.{Target}
pub use Rattle.command_words.specs.declared.commands.NodeModel.{NodeModel}
pub use Rattle.command_words.specs.declared.commands.TargetWord.{TargetWord}
pub use Rattle.command_words.specs.declared.commands.Chaining.{Chaining}
pub use Rattle.command_words.specs.declared.commands.ChainStrength.{ChainStrength}
unfoldable pub use Rattle.whole_text.specs.Numbers.{digits_number}
pub use Rattle.command_words.specs.declared.keys.Keys.{Keys}
pub use Rattle.command_words.specs.declared.keys.Takers.{Takers}
pub use Rattle.command_words.specs.declared.commands.Slack.{Slack}
pub use Rattle.command_words.specs.declared.commands.Verb.{Verb}
pub use Rattle.command_words.specs.Asked.{CannotStand, EachCommandIsAskedFor, EachGraphIsAskedFor, EachJobIsAskedFor, EachKeyIsAskedFor, EachKeyStands, EachNoticeIsAskedFor, EachSampleIsAskedFor, EachValueIsSaid, IsRefusedAfterAll, NoChainsStandTwice, NoGraphWithout, NoLargerGraph, NoOtherWordsAsk, Say, SayRequest, StandsOnce, chains_key, file_command, format_word, ground_word, key_word, long_word, optional, sample_words, short_word, target_word, ties_word, verb_for, verb_word, word_of}
pub use Rattle.command_words.specs.Commands.{command_of, format_of, target_of, ◌>>=◌, alone, clauses_of, commanding, drawn_words, file_words, first_key, notice_of, request_of, source_words, verb_of, ask_by, chosen_target, first_notice, named, valued}
pub use Rattle.command_words.specs.Keys.{Key, bound_of, cut, embed_of, file_of, graph_with, ground_by, is_equals, key, key_table, keys_from, listed, map_named, map_of, no_keys, passing, side_of, takes, target_by, ties_of, with_key, with_pair, with_word}
pub use Rattle.std.proofs.lemmas.Bool.{eqb-true, lt-ltb, le-leb, leb-true, ltb-true, ne_eqb}
pub use Rattle.command_words.specs.declared.commands.Bound.{Bound}
pub use Rattle.chimera_graph.specs.Shape.{IsShape}
pub use Rattle.chimera_graph.specs.Graph.{HasNumbers}
pub use Rattle.chimera_graph.specs.declared.chimera.Chimera.{Chimera}
pub use Rattle.std.proofs.lemmas.List.{drop-take, length-append, length-drop, drop_more, take_all, drop-map, drop_all}
pub use Rattle.command_words.specs.declared.commands.Notice.{Notice}
pub use Rattle.command_words.specs.declared.commands.Origin.{Origin}
pub use Rattle.command_words.specs.Positions.{AskForTooLarge, CanGoOn, PositionsTellTheFirst}
pub use Rattle.command_words.specs.declared.commands.Ask.{Ask}
pub use Rattle.command_words.specs.declared.commands.Command.{Command}
pub use Rattle.command_words.specs.declared.commands.Request.{Request}
pub use Rattle.command_words.specs.declared.commands.ChainStrength.TheVariants.{Choi, Cut}
pub use Rattle.command_words.specs.declared.commands.Chaining.TheVariants.{Clique, Map}
pub use Rattle.command_words.specs.declared.commands.Origin.TheVariants.{Drawn, File}
pub use Rattle.base.specs.declared.unit.UnitChoice.{UnitChoice}
