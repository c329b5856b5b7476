-- What the proofs of this crate stand on, of std and of the crates below.
pub use Rattle.std.proofs.Common.{◌≡◌, ◌≢◌, Bool, true, false, List, [], ◌∷◌, ◌++◌, ℤ, pos, ◌+ℤ◌, ◌-ℤ◌, ◌*ℤ◌, ◌≤ℤ◌, Option, Some, None, refl, sym, ap, subst, ◌∙◌, arith, All, neg_ℤ, ℕ, fold, suc, ◌+◌, ◌*◌, ◌<◌, ◌≤◌, ◌^◌, length, map, unsigned_abs, Result, Ok, Err, append-nil, append_assoc, ◌==◌, zero, take, rules, to_z, of_z, tests, OnOk, MatchOption, option_map, vec_len}
pub use Rattle.normal_form.proofs.Common.{map-append, if◌then◌else◌, max, AreFew, complements-cons, contributions-grow, contributions-sets, Literal, Ordering, Product}
pub use Rattle.bits_model.specs.declared.output.Entry.{Entry}
pub use Rattle.bits_model.specs.declared.output.Kind.{Kind}
pub use Rattle.bits_model.proofs.Common.{get_or_default, slice_set, get_or, replicate, w128, w64}
pub use Rattle.term_table.proofs.Common.{plain_terms, is_eq, int_eq, match_ordering, All-from_recursion, recursion_from_All, All-head, All-tail, All-nil, All-append, All-push, if_so, total_by, Term, set_cmp, coefficient_of, with_additions, terms_cost, Ascends, terms_total, IsTermSet, in_front, IsPermutation, Decides-int_eq, nat_tests, sum_by-cons, sum_by-append, TableContent, AreAdditions, with_more, KeptTable, complements, contributions, has_clash, literal_set, all_hold, literal_set-ascends, All-literal_set, take_more, take_all, rest_more, elements}
pub use Rattle.problem_form.proofs.Common.{is_empty, has_clash-literal_set, list_all-literal_set, YieldsList-from_first, fold_from_yields_List, fold-map, product_of, zip_with, drop-at}
pub use Rattle.std.proofs.lemmas.Bool.{cond_both, cases_lt}
pub use Rattle.std.proofs.lemmas.List.Folds.{flat_map-map}
pub use Rattle.whole_text.proofs.LineTokens.{all_append}
pub use Rattle.std.specs.List.{flat_map, AllByRecursion, sum_by, list_all, slice_get}
pub use Rattle.std.proofs.lemmas.Int.{ints, to_z-of_z, fits_signed_from_abs}
pub use Rattle.base.proofs.Totals.{total_by-append, total_by-flat_map, total_by-same, size-plus, total_by-map, total_by-IsPermutation}
pub use Rattle.base.specs.Costs.{energy}
pub use Rattle.bits_model.specs.Output.{Written, form_of, is_node, bits_energy, spins_energy, entry_energy, weight_total, IsPlaced}
pub use Rattle.term_table.proofs.Additions.{if_so-plus, weight-in_front, coefficient_of-with_additions, terms_total-append, terms_total-cons, terms_cost-with_additions}
pub use Rattle.term_table.proofs.KeptTerms.{OfSet, IsNonzero, Under, All-with_additions, nonzero-in_front, nonzero-with_additions, Ascends-in_front, Ascends-with_additions, Under-further, greater_back}
pub use Rattle.posiform_check.specs.declared.lines.Line.{Line}
pub use Rattle.posiform_check.specs.BitForms.{CertificateContent, node_set, pair_set, coupling_sets, bit_sets, spin_sets, entry_constant, entry_sets, entry_terms, model_list, model_terms, certificate_terms, AreSameForms, spin_constant, certificate_list, line_terms, bit}
pub use Rattle.posiform_check.specs.Certificates.{first_negative, IsRefusal, FaultsProveNothing, IsLine, IsCertificate, AreOfNodes, certificate_fault, most_literals, certificate_total, pairs}
pub use Rattle.posiform_check.specs.Proved.{Proves, ProvedIsLeast}
pub use Rattle.posiform_check.specs.Differences.{DifferAt, difference, behind_next, lent_term}
unfoldable pub use Rattle.std.specs.List.Sorted.{IsStrictlySortedBy}
pub use Rattle.term_table.proofs.SetOrder.{same_set}
pub use Rattle.posiform_check.specs.declared.faults.ProofFault.{ProofFault}
pub use Rattle.posiform_check.specs.FirstFaults.{first_of, proof_fault, FirstFaultsTell}
pub use Rattle.term_table.proofs.SmallSets.{IsTermSet-none, IsTermSet-one, IsTermSet-two}
pub use Rattle.normal_form.proofs.PlainSteps.{behind-nothing, additions_first, additions_second, both_made}
pub use Rattle.problem_form.proofs.KeptClauses.{is_empty-literal_set}
pub use Rattle.posiform_check.specs.Texts.{bound_of, kept_line, written, literal_at, content_of, line_value, ReadingKeepsValues}
unfoldable pub use Rattle.posiform_check.specs.Texts.{line_at, reading_of_words}
pub use Rattle.posiform_check.specs.ReadingSteps.{with_line, literals_read, line_read, blank, lines_put}
pub use Rattle.whole_text.specs.declared.faults.TextFault.{TextFault}
pub use Rattle.whole_text.specs.declared.faults.TextAnswer.{TextAnswer}
pub use Rattle.whole_text.specs.declared.words.WordRef.{WordRef}
pub use Rattle.whole_text.specs.TokenTexts.{word_of}
pub use Rattle.whole_text.specs.Tokens.{Word}
pub use Rattle.whole_text.specs.Steps.{◌>>=◌, Fails}
pub use Rattle.whole_text.specs.Rows.{left, on_line, past_line}
unfoldable pub use Rattle.whole_text.specs.Rows.{by_line, each}
pub use Rattle.whole_text.proofs.Rows.{row_of, by_line-first}
pub use Rattle.problem_form.proofs.NormalForms.{all_hold-clash}
pub use Rattle.posiform_check.specs.Sums.{HasMore, HasNone, node_terms, pair_term, sum_term, sums_terms}
pub use Rattle.term_table.specs.laws.MultipliedOut.{terms_cost-plain_terms}
pub use Rattle.term_table.proofs.UniqueTerms.{same_terms, coefficient_of-under, coefficient_of-first}
pub use Rattle.bits_model.proofs.Energies.{weight_left, size-energy}
pub use Rattle.problem_form.proofs.LeftSums.{answered_left, answered_end, Answered}
pub use Rattle.problem_form.proofs.WeighedParts.{length-zip_with, zip_with-at, zip_with-push}
pub use Rattle.posiform_check.specs.Lines.{line_of}
pub use Rattle.std.proofs.lemmas.Result.{err_from_is_err_and, on_ok_weaker}
pub use Rattle.whole_text.proofs.Lengths.{few_words}
