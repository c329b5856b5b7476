use Rattle.chain_layer.proofs.Common.{◌≡◌, ◌++◌, [], ◌∷◌, subst, sym, ap, ◌∙◌, append_assoc, rules, AreOrdered}
use Rattle.chain_layer.proofs.OneList.{from_least, slip}
use Rattle.chain_layer.proofs.merging.push_up_to.Goals as goal

pub loop-entry-preserved : goal.loop-entry-preserved
loop-entry-preserved c =
    let list = c.loop-entry.list in
    let e = c.in-Some.entry in
    let left = c.take_up_to.new.self in
    let so_far = c.loop-entry.invariant in
    let taken = c.in-Some.ensures in
    let pushed : c.push.new.self ≡ list ++ e ∷ [] = search rules in
    let here = append_assoc list (e ∷ []) in
    let moved = ap (λ es. list ++ es) (sym taken.0) ∙ so_far.moved in
    rw pushed (record {
      moved = here left ∙ moved;
      ordered = λ later from all other. subst AreOrdered (sym (here later))
          (slip list e left later (subst AreOrdered (sym moved) all) (so_far.ordered later from all other)
          (from_least _ c.args.limit later taken.1 from));
    })
