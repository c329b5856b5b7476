use Rattle.batch_costs.proofs.Common.{◌&&◌, ap, ◌∙◌, Bool, List, Literal, all_hold, assignment, is_marked}
use Rattle.batch_costs.proofs.MarkedWords.{marked-and, marked-ones, both-hold}
use Rattle.batch_costs.proofs.marks.marks_of_all.Goals as goal

pub loop-literal-init : goal.loop-literal-init
loop-literal-init c = λ k below.
    let x = assignment c.args.words.now k in
    ap (λ (b : Bool). b && all_hold x c.into_iter-literal-iterator.result) (marked-ones k below)
    ∙ ap (all_hold x) c.into_iter-literal-iterator.ensures.into_iter_gives

pub loop-literal-preserved : goal.loop-literal-preserved
loop-literal-preserved c = λ k below.
    let x = assignment c.args.words.now k in
    let rest : List Literal = c.next.new.self in
    ap (λ (b : Bool). b && all_hold x rest)
    (marked-and c.loop-literal.marks c.marks_of-marks.result k
    ∙ ap (λ (b : Bool). is_marked c.loop-literal.marks k && b) (c.marks_of-marks.ensures k below))
    ∙ both-hold x c.in-Some.literal c.loop-literal.literal-iterator rest _ c.in-Some.ensures.steps
    ∙ c.loop-literal.invariant k below
