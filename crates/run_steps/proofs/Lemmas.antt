-- What the answers of this crate stand on: its lemmas, and what those stand on.
pub use Rattle.run_steps.proofs.Common.{length-take, ◌≡◌, ℕ, Bool, Some, List, ap, ◌∙◌, subst, refl, arith, Ok, length, Err, rules, Global, Vec, tokens_of, words_of, nat_tests, Read, Written, Command, NamedFiles, name_of, last_files, Plan, Steps, ends, certifying, ◌>>=◌, gives, Meets, Refuses, taking, text_end, stating, cutting, reading_file, checking_file, Board, Which, ground_file, target_file, IfOk-weaker, judged, Qubits, ChainSource, Site, State, Order, Source, Limit, sym, ModelTarget}
unfoldable pub use Rattle.run_steps.proofs.Common.{ordered, chains_step, placing, siting, surveying, planning}
pub use Rattle.run_steps.proofs.Holding.{has_states, state_files_are, may_state, may_certificate, state_alone, told_then}
pub use Rattle.run_steps.proofs.Sourced.{limited_is, limited_not, within_penalized, file_ends, file_refuses, file_is_checked, drawn_is_checked}
pub use Rattle.run_steps.proofs.Cutting.{cut_more, cut_none, words_cut, begun_held, cut_next, read_from_words, cut_refuses, read_refused}
pub use Rattle.run_steps.proofs.Taking.{judged_meets, judged_passes, takes_alone, takes_named, takes_none, returned, first_refuses, then_takes, takes_given, still_refuses, source_refuses, source_then, reads, refuses, takes_files, takes_same}
pub use Rattle.run_steps.proofs.Certified.{certified_meets, certificate_refuses, alone_refused, proved_files, then_returned, bits_refuse, bits_read}
pub use Rattle.run_steps.proofs.Common.{sym}
unfoldable pub use Rattle.run_steps.proofs.Common.{working_step}
