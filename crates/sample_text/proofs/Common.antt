-- What the proofs of this crate stand on, of std and of the crates below.
pub use Rattle.problem_form.proofs.Common.{AllByRecursion, sum_by, flat_map, ints, All-from_recursion, total_by, size-plus, with_literal, literal_set, ProblemContent, soft_weight, kept_clause, clause_constant, normal_form, blank, with_variables, nat_tests, ◌≡◌, ℕ, suc, ◌+◌, ◌*◌, ◌-◌, ◌≤◌, ◌^◌, Bool, true, false, cond, List, [], ◌∷◌, length, map, fold, max, None, ℤ, pos, ◌+ℤ◌, unsigned_abs, arith, refl, sym, append-nil, length-append, ◌++◌, ap, ◌∙◌, append_assoc, zero, Some, Result, Ok, unwrap_or, ◌<◌, neg_ℤ, rules, codes, nat_abs, le-leb, mul-le}
pub use Rattle.whole_text.proofs.Common.{ne_eqb, decimal, signed_decimal, Word, word}
pub use Rattle.wcnf_reader.proofs.Common.{◌>>=◌, Wcnf, Header, Listed, clause_of, problem_of}
pub use Rattle.std.proofs.Math.Nat.{pow-le-pow_left, mod-lt}
pub use Rattle.std.proofs.Math.Pow.{pow_mono}
pub use Rattle.std.proofs.lemmas.List.Sums.{sum_by-append, sum_by-le, count_by-le-length}
pub use Rattle.whole_text.proofs.LineTokens.{all_append, IsInk, AreInk, tokens_after, no_lines, words_then}
pub use Rattle.problem_form.specs.declared.limits.Normal.{Normal}
pub use Rattle.problem_form.specs.Limits.{degree, clause_complements, negations, clause_pairs, pairs, weight, limit_fault}
pub use Rattle.problem_form.proofs.KeptClauses.{kept_clause-size}
pub use Rattle.sample_text.specs.Sample.{after, clause_words, drawn_clauses, line, seed, drawn_weight, variables_of, top_of, drawn_literal, header_words}
unfoldable pub use Rattle.sample_text.specs.Sample.{sample_text}
unfoldable pub use Rattle.wcnf_reader.specs.Wcnf.{literal_at, literals_at, clause_at, wanted_word, header_number, at_line_end, top_at, header_at, clauses_at, older_of, reading_of_words, reading}
unfoldable pub use Rattle.wcnf_reader.specs.Cost.{normal_reading}
pub use Rattle.sample_text.specs.Read.{EachSampleIsRead}
unfoldable pub use Rattle.std.specs.Fmt.{digits}
unfoldable pub use Rattle.whole_text.specs.Tokens.{tokens_of}
pub use Rattle.whole_text.proofs.WordsAgain.{decimal_ink, signed_ink, number_first, integer_again, natural_again}
pub use Rattle.std.specs.Int.Signed.{mag}
pub use Rattle.std.proofs.lemmas.Fmt.{length-decimal-le, length_signed_le}
pub use Rattle.literal_lists.specs.declared.literal.Literal.{Literal}
pub use Rattle.problem_form.specs.declared.terms.Clause.{Clause}
pub use Rattle.whole_text.specs.declared.faults.TextFault.{TextFault}
