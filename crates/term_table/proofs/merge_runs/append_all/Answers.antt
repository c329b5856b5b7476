use Rattle.term_table.proofs.Common.{◌≡◌, ◌++◌, ◌∷◌, [], ◌∙◌, List, take, get_or, ap, sym, rules, w128, to_z-of_z, append_assoc, take_more, get_or_default, Term}
use Rattle.term_table.proofs.merge_runs.append_all.Goals as goal

pub loop-term-preserved : goal.loop-term-preserved
loop-term-preserved c =
    let before = c.args.terms.now.items in
    let rest = c.args.rest.now in
    let i = c.loop-term.term-index in
    let t : Term = c.term-item.result in
    let weight = to_z-of_z w128 c.weight.result (search rules) ∙ c.weight.ensures in
    let copied : c.in_ok-copy.copy ≡ get_or rest i t =
    c.in_ok-copy.ensures ∙ (λ j. (t.0, weight j)) ∙ c.term-item.is ∙ get_or_default rest i _ t c.loop-term-test.true in
    c.in_ok-push.ensures.items ∙ (λ j. c.loop-term.invariant j ++ copied j ∷ [])
    ∙ append_assoc before (take i rest) (get_or rest i t ∷ [])
    ∙ ap (λ (ts : List Term). before ++ ts) (sym (take_more rest i t c.loop-term-test.true))
