-- What the proofs of this crate stand on, of std and of the crates below.
pub use Rattle.std.proofs.Common.{◌≡◌, ℕ, ℤ, pos, ◌*ℤ◌, ◌≤ℤ◌, Bool, List, length, get_or, take, Ok, Some, None, refl, sym, ap, ◌∙◌, subst, arith, Option, ◌≤◌, IfOk, Err, Result, [], ◌∷◌, reverse, ◌^◌, zero, suc, ◌+◌, ◌<◌, true, false, ◌++◌, length-append, append_assoc, append-nil, slice_index_or, Bor, IsOk, OnOk, OnErr, not, ◌||◌, cond, map, find, ◌-◌, ◌+ℤ◌, ◌≢◌, string_bytes, rules, of_z, to_z, decimal}
pub use Rattle.wbo_reader.proofs.Common.{rewritten_by, WboContent, extended}
pub use Rattle.model_pipeline.proofs.Common.{ints, to_z-of_z, Form, IsOf, energy, times-lt, Decoding, Written, weight_total, read_off, IsLeast, ising_of, site_chains, IsingContent, IfFault, CanStandBy, IsFaultBy, graph_in, fabric_in, chains_of, CanStandAt, upper, limit_fault, auxiliary_bits, Embedding, ising_figures, decoding_to, form_model, qubit_model, le-ltb, AllByRecursion, length-map, take-take, take-map, if◌then◌else◌, nat_lt, All, total_by, StandsAtLeast, StandsBy, length-map-range_with_len, QuadContent, length-fields, IfOk-weaker, w128, nat_tests}
pub use Rattle.form_steps.specs.Relations.{Relaxes, RelaxesBy, StaysAbove}
pub use Rattle.run_steps.proofs.Common.{NamedFiles, if_named, last_files, model_files, CertificateContent, proof_fault, AreFilesOf, AreRead, weight, eqb-true, ended, IfErr}
pub use Rattle.model_pipeline.proofs.faithful.Common.{by_lt_z, Source, first_decoded, IsWellFormed, form_of, decoding_of, IsLeastState, HasCost, IsFeasible, length-take-le}
pub use Rattle.elimination_order.proofs.Usual.{first_from_last}
pub use Rattle.elimination_order.proofs.UsualWidths.{usual_widths}
pub use Rattle.elimination_order.proofs.Common.{IsFirstLeastBy, list_any, ⊤, IsWithinWidth, IsFirstWider, first_wide, IsFirstLeast, from_last}
pub use Rattle.model_text.proofs.Common.{FitsFields, Taken, joined_bytes, Takes, TakesFront, codes, signed_decimal}
pub use Rattle.model_pipeline.specs.faithful.Faithful.{Demand, Faithful, HasChains, HasUnit, scale_of}
pub use Rattle.model_pipeline.proofs.faithful.Told.{least_states_tell, length-read_off, below, above}
pub use Rattle.problem_form.specs.Problems.{ProblemContent, own_cost, fails, fails_hard, soft_cost, sum_of}
unfoldable pub use Rattle.model_text.specs.Rows.{model_text}
pub use Rattle.model_text.specs.Told.{IsTextOf}
pub use Rattle.model_text.proofs.ModelRows.{texts_tell_models}
pub use Rattle.answer_text.specs.Answers.{decoding_text, extension_text, proof_text, optimum_rows}
pub use Rattle.command_words.specs.Bounds.{most_of}
pub use Rattle.source_texts.specs.Sources.{AreEnoughIn, CostsAs, IsRewrittenFrom, KeepsSoft, StandsFor, bounded, cost_by, penalized, said_cost, carried, names_of, form_said, problem_of, source_of, StandsBounded, bounded_read}
pub use Rattle.source_texts.proofs.Standing.{names_read, problem_stands, problem_costs}
pub use Rattle.model_pipeline.specs.Extensions.{ExtendsTo, IsLeastTo, IsMadeOf, form_nodes, IsMade}
pub use Rattle.run_steps.specs.Plans.{form_in, CanStand, IsModelBy, Stands, PlansMakeOneModel}
pub use Rattle.run_steps.specs.Steps.{Last, Bits, InOrder, Several, asked_width, proving, gives, placing, last_step, format_in, ends, stating, certifying, proof_end, Steps, Refuses, solving, states_end, taking, ordered, width_end, text_end, limited, wanted, ◌>>=◌, prepared, keeps_steps, options_of}
unfoldable pub use Rattle.run_steps.specs.Steps.{checking, planning, certified, scanning, sourcing, reading_source}
pub use Rattle.state_scores.specs.Scores.{IsSmall, Judgement, best_of, IsEvaluation, has_better, is_better, score_of}
pub use Rattle.program_run.specs.Made.{bounded_cost, judgement_by, IsExtendedBy, IsModelled, IsModelText, IsSolvedBy, IsTold, IsToldOf, IsMadeText, EndsOf, IsWithin, IsMadeBy}
pub use Rattle.program_run.specs.Answers.{EveryStateStands, judgement_of, Extends, IsAnswer, IsAskedOf, IsDecoded, IsExtended, IsLeastAsked, IsLeastExtension, IsLeastWhereWhole, IsModelFor, IsProved, IsSolved, TellsSource, Delivers, IsExtension, IsSaidTo, IsScored, IsTextIn, EveryStateStays}
pub use Rattle.model_pipeline.specs.Targets.{ties_of, demand_of, StandsOn, IsModelOn, CanStandOn}
pub use Rattle.run_steps.proofs.Stepping.{bits_were, bound, refuses_on}
pub use Rattle.posiform_check.specs.declared.faults.ProofFault.{ProofFault}
pub use Rattle.posiform_check.proofs.FirstFaults.{first_faults_tell}
pub use Rattle.posiform_check.proofs.LeastStates.{proved_is_least}
pub use Rattle.run_steps.proofs.StateBits.{state_is_taken, state_has_width}
pub use Rattle.chain_map.specs.declared.faults.CheckAnswer.{CheckAnswer}
pub use Rattle.program_run.specs.Unembedded.{IsUnembeddedOn, unsolved}
pub use Rattle.edge_io.specs.Counts.{Counts, Rose, HasCause}
pub use Rattle.run_steps.specs.Statuses.{IsReading, IsRefusal, IsDoneOrFault, OnWriting, IsUnsolved, IsUsageOf, CountsReadFault}
pub use Rattle.program_run.specs.Outcome.{AreFilesAsked, IsEndOf, IsEnd, Ends, MeetsOutcome}
pub use Rattle.state_file.specs.States.{StateLine, states_of, is_one, is_state, states_from}
pub use Rattle.program_run.specs.Headline.{IsAskedAt, IsHeadline, IsHeadlined}
pub use Rattle.model_pipeline.specs.Kept.{AreSteps, AreKept}
pub use Rattle.model_pipeline.specs.faithful.Bounds.{IsBounded}
pub use Rattle.embedding_check.proofs.Unique.{checked_unique}
pub use Rattle.std.specs.Result.{is_err}
pub use Rattle.program_run.specs.Lines.{IsSaid}
pub use Rattle.state_scores.specs.declared.worth.Score.{Score}
pub use Rattle.state_scores.specs.Texts.{evaluation_text}
pub use Rattle.problem_form.proofs.CostSizes.{soft_costs-size, sum_of-size}
pub use Rattle.basic_solve.specs.declared.answer.SolveAnswer.{SolveAnswer}
pub use Rattle.program_run.specs.Widths.{TheFirstWideNodeIsNamed}
unfoldable pub use Rattle.model_text.specs.Summary.{summary_text}
pub use Rattle.answer_text.specs.Sizes.{size_text}
pub use Rattle.form_steps.specs.Stated.{DecodesAlike}
pub use Rattle.form_steps.proofs.Alike.{by_alike, stays_above_alike}
pub use Rattle.model_pipeline.proofs.faithful.LeastStates.{relaxed_stands, standing_is_faithful}
pub use Rattle.model_pipeline.proofs.faithful.LongerSources.{rewritten_stands}
pub use Rattle.program_run.specs.Thresholds.{RowsGoByTheThreshold}
pub use Rattle.source_texts.proofs.Penalized.{penalized_costs, penalized_stands}
pub use Rattle.source_texts.proofs.Readings.{stays_stood_for}
pub use Rattle.source_texts.proofs.Slacked.{slacked_costs, slacked_stands}
pub use Rattle.model_pipeline.proofs.FewNodes.{nodes_are_few}
pub use Rattle.run_steps.proofs.FilesRead.{made_refused, made_then, read_wanting, faults_counted}
pub use Rattle.run_steps.proofs.Holding.{may_first, may_next}
pub use Rattle.std.proofs.lemmas.List.Elements.{All-from_get_or}
pub use Rattle.state_scores.specs.Batches.{AreCosts}
pub use Rattle.batch_costs.specs.Assigned.{assignment}
pub use Rattle.run_steps.proofs.Taking.{returned}
pub use Rattle.base.specs.declared.unit.UnitChoice.{UnitChoice}
pub use Rattle.problem_form.specs.declared.limits.Choices.{Choices}
pub use Rattle.command_words.specs.declared.commands.NodeModel.{NodeModel}
pub use Rattle.command_words.specs.declared.commands.ChainStrength.{ChainStrength}
pub use Rattle.model_pipeline.specs.declared.site.Site.{Site}
pub use Rattle.problem_form.specs.declared.limits.Normal.{Normal}
pub use Rattle.bits_model.specs.declared.output.Kind.{Kind}
pub use Rattle.base.specs.declared.costs.Figures.{Figures}
pub use Rattle.model_pipeline.specs.declared.site.Qubits.{Qubits}
pub use Rattle.model_pipeline.specs.declared.site.ChainSource.{ChainSource}
pub use Rattle.command_words.specs.declared.commands.Format.{Format}
pub use Rattle.command_words.specs.declared.commands.Ask.{Ask}
pub use Rattle.command_words.specs.declared.commands.OfState.{OfState}
pub use Rattle.command_words.specs.declared.commands.OfState.TheVariants.{Decode, Extend, Prove}
pub use Rattle.command_words.specs.declared.commands.Command.{Command}
pub use Rattle.source_texts.specs.declared.reading.Read.{Read}
pub use Rattle.model_pipeline.specs.declared.options.ModelTarget.{ModelTarget}
pub use Rattle.run_steps.specs.declared.plans.Plan.{Plan}
pub use Rattle.command_words.specs.declared.names.Which.{Which}
pub use Rattle.run_steps.specs.declared.status.Status.{Status}
pub use Rattle.base.specs.declared.costs.Cost.{Cost}
pub use Rattle.command_words.specs.declared.commands.Request.{Request}
pub use Rattle.command_words.specs.declared.commands.Origin.{Origin}
pub use Rattle.command_words.specs.declared.commands.Slack.{Slack}
pub use Rattle.model_pipeline.specs.QubitStanding.{StaysBy}
pub use Rattle.std.proofs.Common.{inl, inr}
pub use Rattle.form_steps.specs.declared.scope.PenaltyScope.{PenaltyScope}
pub use Rattle.command_words.specs.declared.commands.ChainStrength.TheVariants.{Choi, Cut}
pub use Rattle.form_steps.specs.declared.scope.PenaltyScope.TheVariants.{Global, Local}
pub use Rattle.run_steps.specs.declared.status.Status.TheVariants.{Done, NoState, NotEmbedded, ReadFault, TooWide, WriteFault}
pub use Rattle.base.specs.declared.costs.Cost.TheVariants.{Infinite, Whole}
pub use Rattle.command_words.specs.declared.names.Which.TheVariants.{Order, State}
pub use Rattle.command_words.specs.Names.{name_of}
pub use Rattle.run_steps.specs.Causes.{MayHold}
pub use Rattle.model_pipeline.specs.declared.made.FormSteps.{FormSteps}
pub use Rattle.model_pipeline.specs.declared.made.Made.{Made}
pub use Rattle.model_pipeline.specs.declared.options.Options.{Options}
pub use Rattle.model_pipeline.specs.Compiled.{IsCompiled, IsRefused}
pub use Rattle.model_pipeline.specs.Kept.{AreKept, AreSteps}
pub use Rattle.run_steps.specs.Statuses.{unembedded}
pub use Rattle.run_steps.specs.Steps.{keeps_steps, options_of}
pub use Rattle.program_run.specs.Made.{IsMadeBy}
