use Rattle.whole_text.proofs.Common.{rules, tests, not, YieldsList-from_slice, position_from_yields_List, is_blank}
use Rattle.whole_text.proofs.Places.{first_or_len}
use Rattle.whole_text.proofs.cutting.blank_len.Goals as goal

pub returns-clause-first : goal.returns-clause-first
returns-clause-first c =
    let found = position_from_yields_List (λ b. not (is_blank b)) _ _ c.position.result c.position.ensures.ran (YieldsList-from_slice c.args.bytes.now cc) (λ x b q k. search (rules, tests)) in
    first_or_len (λ b. not (is_blank b)) c.args.bytes.now c.position.result _ found c.unwrap_or.ensures
