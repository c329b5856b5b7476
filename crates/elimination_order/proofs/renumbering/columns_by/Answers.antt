use Rattle.elimination_order.proofs.Common.{◌≡◌, ◌∙◌, All, ap, sym, subst, map, arith, IsPermutation, IfOk-weaker, Written, IsPlaced, weight_total, AreNumbers, IsRenumbered, renumbered}
use Rattle.basic_solve.specs.Columns.{IsMadeOf, turned}
use Rattle.elimination_order.proofs.Kept.{placed_kept, sizes_kept, turned_back}
use Rattle.elimination_order.proofs.renumbering.columns_by.Goals.{In_ok-pairs}
use Rattle.elimination_order.proofs.renumbering.columns_by.Goals as goal

-- the pairs are the entries by new numbers, turned
pairs_are : (c : In_ok-pairs) → map turned c.in_ok-pairs.pairs
    ≡ map (renumbered c.args.numbering.now.numbers.items) c.model.inside.entries
pairs_are c =
    let numbers = c.deref.ensures.value in
    ap (map turned) c.in_ok-pairs.ensures ∙ turned_back c.deref.result.now c.model.inside.entries
    ∙ ap (λ ns. map (renumbered ns) c.model.inside.entries) numbers

pub new-requires-clause-placed : goal.new-requires-clause-placed
new-requires-clause-placed c =
    let names = c.args.numbering.now.names.items in
    let numbers = c.args.numbering.now.numbers.items in
    let are = subst (λ (w : Written). AreNumbers w.nodes names numbers) (sym c.model.view_is) c.requires in
    subst (All (IsPlaced c.model.inside.nodes))
    (sym (pairs_are (goal.at.new-requires-clause-placed c).In_ok-pairs))
    (placed_kept c.model.inside.nodes names numbers c.model.inside.entries are c.model.invariant.0.placed)

pub new-requires-clause-light : goal.new-requires-clause-light
new-requires-clause-light c =
    omega (
      arith,
      ap weight_total (pairs_are (goal.at.new-requires-clause-light c).In_ok-pairs),
      sizes_kept c.args.numbering.now.numbers.items c.model.inside.entries,
      c.model.invariant.1,
    )

pub returns : goal.returns
returns c =
    let numbers = c.args.numbering.now.numbers.items in
    let es = map turned c.in_ok-pairs.pairs in
    IfOk-weaker c.new.result (IsMadeOf c.model.inside.kind c.model.inside.nodes es)
    (IsRenumbered numbers c.args.model.now)
    (λ made is.
    subst (λ (w : Written). IsRenumbered numbers w made) c.model.view_is
    (record {
      kind = is.kind;
      nodes = is.nodes;
      entries = subst (λ fs. IsPermutation fs made.entries) (pairs_are (goal.at.returns c).In_ok-pairs)
          is.entries;
    })) c.new.ensures
