-- What the answers of this crate stand on: its lemmas, and what those stand on.
pub use Rattle.program_run.proofs.Common.{◌≡◌, ℕ, Ok, Some, None, sym, ap, subst, arith, Err, [], IfOk-weaker, nat_tests, last_files, model_files, name_of, MayHold, form_of, first_wide, IsFirstLeast, Last, Bits, InOrder, Several, last_step, Steps, Refuses, ordered, judgement_by, IsTold, IsScored, states_of, made_refused, made_then, read_wanting, may_first, may_next, returned, NoState, from_last, first_from_last}
pub use Rattle.program_run.proofs.Endings.{last_refuses, last_gives, plan_ends, plan_refused, done_is_complete, command_counted}
pub use Rattle.program_run.proofs.Solving.{first_wide_node, narrow_ends, unsolved_usually, order_refuses, order_gives, unsolved_is}
pub use Rattle.program_run.proofs.Evaluating.{scan_refuses, scan_finds_none, scan_gives, scans, solves, usual_end, order_alone, none_read, first_in}
pub use Rattle.program_run.proofs.MadeModels.{modelled, small_weights, own_variables}
pub use Rattle.program_run.proofs.SomeText.{model_text_some, solved_some, bits_some, scored_some}
