-- What the proofs of this crate stand on, of std and of the crates below.
pub use Rattle.wbo_reader.proofs.Common.{Option, None, Ok, Err, Result, append-nil, IsWbo, WboContent, take_all, rewritten_by, WboText, content_of, words_of, rewritten, rewritten_within, extended, lesser_most}
pub use Rattle.form_steps.proofs.Common.{◌≡◌, ◌≤◌, ℤ, Bool, false, refl, sym, ap, ◌∙◌, inl, inr, arith, List, subst, ℕ, rules, ints, Rewrites, HasSameCosts, length-replicate, nat_tests}
pub use Rattle.base.specs.declared.costs.Cost.{Cost}
pub use Rattle.base.specs.declared.costs.Cost.TheVariants.{Whole, Infinite}
pub use Rattle.base.specs.Costs.{Form, IsOf, Source}
pub use Rattle.form_steps.specs.declared.scope.PenaltyScope.{PenaltyScope}
pub use Rattle.problem_form.specs.Problems.{ProblemContent, cut_off, own_cost, problem_cost}
pub use Rattle.problem_form.specs.PartPenalties.{IsGlobal}
pub use Rattle.problem_form.specs.Limits.{lesser_of, upper}
pub use Rattle.source_texts.specs.declared.reading.Read.{Read}
pub use Rattle.source_texts.specs.Sources.{problem_of_words, bounded_read, KeepsSoft, StandsBounded, CostsAs, rewritten_for, penalized, slacked, with_slack, PenalizedCostsAsSources, PenalizedStandsForSources, SlackedCostsAsSources, SlackedStandsForSources, own, plain, named, PlainOwnsAll, RelaxesStoodFor, StaysStoodFor, names_of, source_of, words_in, ProblemsCostAsSources, WordsAreReadAsTexts, eased, style_of}
pub use Rattle.problem_form.specs.NormalForm.{with_most, normal_form}
pub use Rattle.conflict_clauses.specs.Conflicts.{CostsAlike}
pub use Rattle.conflict_clauses.proofs.Replaced.{covers-alike, without-alike}
pub use Rattle.whole_text.specs.Tokens.{Word, tokens_of}
pub use Rattle.whole_text.specs.Steps.{◌>>=◌, Gives}
pub use Rattle.entry_reader.specs.declared.layout.Layout.{Layout}
pub use Rattle.entry_reader.specs.Entries.{listing_of}
pub use Rattle.entry_reader.specs.Problems.{problem_of}
pub use Rattle.entry_reader.proofs.ReadCosts.{reading_keeps_costs}
pub use Rattle.opb_reader.specs.Opb.{reading_of_words}
pub use Rattle.poly_reader.specs.Cost.{polynomial_of}
unfoldable pub use Rattle.poly_reader.specs.Cost.{polynomial_of_words}
pub use Rattle.whole_text.specs.declared.faults.TextFault.{TextFault}
pub use Rattle.whole_text.specs.declared.faults.TextAnswer.{TextAnswer}
pub use Rattle.std.specs.Prelude.{MatchResult, ◌⊎◌, Some}
pub use Rattle.command_words.specs.declared.commands.Format.{Format}
pub use Rattle.command_words.specs.declared.commands.Slack.{Slack}
unfoldable pub use Rattle.wbo_reader.specs.Reading.{content_of_words}
pub use Rattle.wbo_reader.proofs.ReadCosts.{reading_keeps_costs_of_text}
pub use Rattle.wbo_reader.proofs.Rewritten.{carries_assignments}
pub use Rattle.wbo_reader.proofs.Within.{top_is_a_bound}
pub use Rattle.wbo_reader.proofs.Standing.{content_is_normal, rewrites_its_text}
pub use Rattle.wcnf_reader.specs.Wcnf.{Wcnf}
unfoldable pub use Rattle.wcnf_reader.specs.Wcnf.{reading}
unfoldable pub use Rattle.wcnf_reader.specs.Cost.{normal_reading}
