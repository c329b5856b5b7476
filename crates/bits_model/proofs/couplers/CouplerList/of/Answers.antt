use Rattle.bits_model.proofs.Common.{◌≡◌, ◌++◌, ◌∷◌, [], pos, get_or, to_z, of_z, sym, ◌∙◌, rules, w128, to_z-of_z, take_more, Entry}
use Rattle.bits_model.proofs.couplers.CouplerList.of.Goals as goal

pub loop-entry-preserved : goal.loop-entry-preserved
loop-entry-preserved c =
    let es = c.args.entries.now in
    let i = c.loop-entry.entry-index in
    let d : Entry = record { first = 0; second = 0; weight = pos 0 } in
    let e = get_or es i d in
    let back : to_z w128 (of_z w128 e.weight) ≡ e.weight = to_z-of_z w128 e.weight (search rules) in
    c.in_ok-push.ensures.pushed
    ∙ (λ j. c.loop-entry.invariant j ++ record { first = e.first; second = e.second; weight = back j } ∷ [])
    ∙ sym (take_more es i d c.loop-entry-test.true)
