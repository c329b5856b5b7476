-- What the proofs of this crate stand on, of std and of the crates below.
pub use Rattle.std.proofs.Common.{◌≡◌, Bool, true, false, List, [], ◌∷◌, ◌++◌, not, cond, refl, sym, ap, ◌∙◌, subst, append_assoc, arith, map, ◌<◌, ◌||◌, ◌&&◌, ℤ, ℕ, ◌+◌, length, take, drop, get_or, append-nil, rules, ◌≤◌, find, Some, if◌then◌else◌, int_lt, zip}
pub use Rattle.model_text.proofs.Common.{ints, decimal, signed_decimal, flat_map-append, Row, row_text, rows_text, TakesFront, nat_tests, ◌^◌, codes, All, list_any, ◌==◌}
pub use Rattle.std.proofs.lemmas.List.{map-append, drop_all, drop_more, get_or_append_left, length-append, take_all, take_at, take_more}
pub use Rattle.std.proofs.lemmas.List.Elements.{All-tail, All-append, All-cons, All-head, All-nil, All-weaker}
pub use Rattle.state_file.specs.States.{StateLine}
pub use Rattle.state_scores.specs.declared.worth.Score.{Score}
pub use Rattle.state_scores.specs.Scores.{IsEvaluation, Judgement, best_of, has_better, is_better, score_of, is_below}
pub use Rattle.base.specs.declared.costs.Cost.{Cost}
pub use Rattle.answer_text.specs.Answers.{cost_row, energy_row}
pub use Rattle.state_scores.specs.Texts.{best_row, cost_word, score_row, scores_text}
pub use Rattle.model_text.proofs.Puts.{put_same, put_more, put_fault, put_last, IsPut, put_none, put_all, then_error, flushed_front}
pub use Rattle.std.proofs.lemmas.Slice.Zip.{get_or-zip, length-zip}
pub use Rattle.state_scores.specs.Batches.{standing, Standing, after_score, after_states, IsEvaluationOf, leads}
