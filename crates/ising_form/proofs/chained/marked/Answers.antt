use Rattle.std.proofs.lemmas.List.Folds.{list_any_more}
use Rattle.ising_form.proofs.Common.{◌≡◌, ◌||◌, ◌++◌, [], false, length, take, take-append-le, take_all, drop, get_or, ap, sym, ◌∙◌, arith, is_in}
use Rattle.ising_form.proofs.chained.marked.Goals as goal

pub mark-requires : goal.mark-requires
mark-requires c =
    rw (c.list.ensures.listed, c.deref_mut.ensures.value, c.loop-node.invariant.length)
    (c.requires c.loop-node.node [] (rw c.len-node-end.ensures at c.loop-node-test.true))

pub loop-node-preserved : goal.loop-node-preserved
loop-node-preserved c =
    let new = c.mark.new.marks in
    let lt = rw c.len-node-end.ensures at c.loop-node-test.true in
    let few = ap length c.deref_mut.ensures.value in
    let back : take c.loop-node.marks.len (new ++ drop (length new) c.loop-node.marks.items) ≡ new =
    take-append-le _ new _ (omega arith) ∙ take_all _ new (omega arith) in
    record {
      length = ap length back ∙ c.mark.ensures.length ∙ few ∙ c.loop-node.invariant.length;
      marked = λ q. ap (λ ms. get_or ms q false) back ∙ c.mark.ensures.marked q
          ∙ (λ k. get_or (c.deref_mut.ensures.value k) q false || is_in (c.list.ensures.listed k) q)
          ∙ ap (λ b. b || is_in (get_or c.args.chains.now c.loop-node.node []) q) (c.loop-node.invariant.marked q)
          ∙ sym (list_any_more (λ chain. is_in chain q) c.args.chains.now c.loop-node.node [] lt);
    }
