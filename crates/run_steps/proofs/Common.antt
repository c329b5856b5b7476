-- What the proofs of this crate stand on, of std and of the crates below.
pub use Rattle.std.proofs.Common.{◌≡◌, ℕ, ◌+◌, ◌-◌, ◌*◌, ◌^◌, ◌≤◌, ℤ, Bool, true, Some, None, List, [], ◌∷◌, ap, sym, ◌∙◌, subst, refl, arith, ◌++◌, Ok, Result, length, take, Err, append_assoc, suc, inl, inr, ◌≢◌, map, find, string_bytes, rules, Global, Vec}
pub use Rattle.whole_text.proofs.Common.{length-take, take-append-le, LexerState, StandsFor}
pub use Rattle.problem_form.proofs.Common.{eqb-true, sum_by-le-sum_by, mul-le, length-append, length-map}
pub use Rattle.posiform_check.proofs.Common.{Written, option_map, CertificateContent, proof_fault, append-nil}
pub use Rattle.source_texts.proofs.Common.{Option, ProblemContent, with_most, Word, tokens_of, Gives, nat_tests, ints, words_of}
pub use Rattle.std.specs.Prelude.{count_by, is_none, ◌↔◌, IsErrOf, OnOk, IfOk, IfErr, IsErrAnd}
pub use Rattle.std.specs.List.{sum_by, Contains}
pub use Rattle.std.proofs.Math.Nat.{add-le-add}
pub use Rattle.problem_form.specs.declared.limits.LimitFault.{LimitFault}
pub use Rattle.problem_form.specs.Limits.{Counted, cost_size, limit_fault, lower, negations, pairs, penalty, penalty_above, reach, weight}
pub use Rattle.edge_io.specs.Held.{NamedFiles, IsFront, WhereTold, find_file}
pub use Rattle.edge_io.specs.Counts.{Counts, Rose}
pub use Rattle.command_words.specs.declared.names.Which.{Which}
pub use Rattle.command_words.specs.Names.{ask_file, ground_file, target_file, named, name_of, if_named, model_files, last_files}
pub use Rattle.run_steps.specs.declared.status.Status.{Status}
pub use Rattle.run_steps.specs.Steps.{asked_width, Steps, ends, certifying, proof_end, ◌>>=◌, Last, Bits, gives, last_step, Meets, Refuses, go_on, taking, text_end, prepared, limited}
pub use Rattle.run_steps.specs.Steps.{proving}
unfoldable pub use Rattle.run_steps.specs.Steps.{stating, certified, checking, reading_source, sourcing, ordered, chains_step, placing, siting, surveying, planning}
pub use Rattle.run_steps.specs.Statuses.{IsReading, IsRefusal, IsUnproved, ended, IsUsageOf, CountsReadFault}
pub use Rattle.command_words.specs.declared.commands.Request.{Request}
pub use Rattle.run_steps.specs.Causes.{AreRead, AreRefused, AreFilesOf, AreBegun, IsBegun, AreWanting, IsReadTo, IsCause, IsLimited, last_of, IsAt, IsRefusedBy, MayHold, board_files, qubit_files, state_files}
pub use Rattle.std.specs.Io.KnownBytes.{Consumes, IsAtEnd}
pub use Rattle.std.proofs.lemmas.List.Elements.{Contains-append_left, Contains-append_right}
pub use Rattle.whole_text.specs.declared.token.Style.{Style}
pub use Rattle.source_texts.specs.Sources.{penalized, problem_of, problem_of_words, style_of, own}
pub use Rattle.run_steps.specs.Cut.{AreWordsOf, IsCut, HasEnded, IsSameBegin}
unfoldable pub use Rattle.run_steps.specs.Cut.{cutting, reading_file, checking_file}
pub use Rattle.edge_io.specs.declared.whole.ReadAnswer.{ReadAnswer}
pub use Rattle.problem_form.specs.declared.limits.LimitKind.{LimitKind}
pub use Rattle.sample_text.specs.Sample.{sample_text}
pub use Rattle.sample_text.proofs.EachRead.{each_sample_is_read}
pub use Rattle.run_steps.specs.Drawn.{IsDrawnInto, IsDrawnFor}
pub use Rattle.source_texts.proofs.WcnfTexts.{clauses_have_no_conflicts, wcnf_problem}
pub use Rattle.state_file.specs.States.{is_one, is_state, lines_of, state_of}
pub use Rattle.std.proofs.lemmas.Result.{IfErr-weaker, err_from_is_err_and, IfOk-weaker}
pub use Rattle.run_steps.specs.Takes.{judged, Takes, TakesOne}
pub use Rattle.command_words.specs.declared.commands.Format.{Format}
pub use Rattle.command_words.specs.declared.commands.Slack.{Slack}
pub use Rattle.form_steps.specs.declared.scope.PenaltyScope.{PenaltyScope}
pub use Rattle.source_texts.specs.declared.reading.Read.{Read}
pub use Rattle.whole_text.specs.declared.faults.TextFault.{TextFault}
pub use Rattle.whole_text.specs.declared.faults.TextAnswer.{TextAnswer}
pub use Rattle.problem_form.specs.declared.limits.Normal.{Normal}
pub use Rattle.problem_form.specs.declared.terms.Clause.{Clause}
pub use Rattle.problem_form.specs.declared.terms.Constraint.{Constraint}
pub use Rattle.command_words.specs.declared.commands.Ask.{Ask}
pub use Rattle.command_words.specs.declared.commands.Command.{Command}
pub use Rattle.command_words.specs.declared.names.Which.TheVariants.{State, Certificate, Source, Order}
pub use Rattle.run_steps.specs.declared.status.Status.TheVariants.{BadText, Done, Limit, NoMemory, NoState, NotEmbedded, NotProved, ReadFault, TooWide, Usage, WriteFault}
pub use Rattle.problem_form.specs.declared.limits.LimitKind.TheVariants.{Bytes, Negations, Pairs, Weight}
pub use Rattle.command_words.specs.declared.commands.OfState.{OfState}
pub use Rattle.command_words.specs.declared.commands.OfState.TheVariants.{Prove}
pub use Rattle.command_words.specs.declared.commands.Format.TheVariants.{Wcnf}
pub use Rattle.run_steps.specs.declared.plans.Plan.{Plan}
pub use Rattle.command_words.specs.declared.commands.Board.{Board}
pub use Rattle.model_pipeline.specs.declared.options.ModelTarget.{ModelTarget}
pub use Rattle.model_pipeline.specs.declared.site.Qubits.{Qubits}
pub use Rattle.model_pipeline.specs.declared.site.ChainSource.{ChainSource}
pub use Rattle.model_pipeline.specs.declared.site.Site.{Site}
unfoldable pub use Rattle.run_steps.specs.Steps.{working_step}
