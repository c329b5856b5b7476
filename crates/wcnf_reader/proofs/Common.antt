-- What the proofs of this crate stand on, of std and of the crates below.
pub use Rattle.problem_form.proofs.Common.{◌≡◌, ℕ, suc, ◌+◌, ◌-◌, ◌<◌, ◌≤◌, List, [], ◌∷◌, map, fold, Option, Some, Result, Ok, Err, refl, sym, ap, ◌∙◌, arith, zero, max, Bool, false, cond, eqb, length, None, ◌++◌, append_assoc, append-nil, not, ◌&&◌, ◌||◌, unwrap_or, pos, ◌+ℤ◌, take, get_or, All, ◌*◌, ◌^◌, ProblemContent, fails_hard, soft_cost, problem_cost, problem_total, blank, with_variables, with_clause, normal_form, ℤ, nat_abs, flat_map, IfOk, if◌then◌else◌, fold-append, fold_push, list_any, ints, total_by, if_so, holds, some_holds, All-append, All-cons, All-nil, err_from_is_err_and, le-max_left, le-max_right, nat_tests, All-push}
pub use Rattle.whole_text.proofs.Common.{Word}
pub use Rattle.whole_text.specs.declared.faults.TextAnswer.{TextAnswer}
pub use Rattle.whole_text.specs.Steps.{◌>>=◌, Fails, fault, next_of}
pub use Rattle.problem_form.proofs.AddedParts.{clauses_add_up}
pub use Rattle.whole_text.proofs.Lengths.{next_less, few_words}
pub use Rattle.wcnf_reader.specs.declared.layout.ClauseLayout.{ClauseLayout}
pub use Rattle.wcnf_reader.specs.Wcnf.{Header, Listed, Wcnf, header_at, at_end, first_of, literal_at, clauses_to_end, WordsAreEnough, largest}
unfoldable pub use Rattle.wcnf_reader.specs.Wcnf.{clause_at, clauses_at, older_of, literals_at, clauses_within, headerless_of}
pub use Rattle.wcnf_reader.specs.Cost.{clause_of, problem_of, literal_of, is_true, is_satisfied, is_hard, is_broken, unsatisfied_weight, wcnf_cost, ReadingKeepsCosts}
pub use Rattle.wcnf_reader.specs.Views.{clause_read, problem_read, listed_problem, older_read, widened, headerless_read, some_literal, literal_read, literals_read, bound_of, header_of}
pub use Rattle.problem_form.proofs.NormalForms.{normal_form-cost}
pub use Rattle.std.proofs.lemmas.List.{take_more, map_push}
pub use Rattle.whole_text.specs.TokenTexts.{word_of}
pub use Rattle.problem_form.proofs.KeptClauses.{with_clause-total}
pub use Rattle.problem_form.specs.declared.terms.Clause.{Clause}
pub use Rattle.literal_lists.specs.declared.literal.Literal.{Literal}
pub use Rattle.whole_text.specs.declared.faults.TextFault.{TextFault}
