use Rattle.basic_solve.proofs.Common.{◌≡◌, ◌++◌, ◌∷◌, [], ◌∙◌, ap, sym, arith, length, length-append, lesser_nodes, with_lesser}
use Rattle.basic_solve.proofs.ColumnLists.{with_lesser-push}
use Rattle.basic_solve.proofs.neighbours.take_lesser.Goals as goal

pub returns-clause-taken : goal.returns-clause-taken
returns-clause-taken c =
    let held = c.take_last.new.self in
    let passed = c.take_last-others.new.self in
    let column = c.take_last.new.into.items in
    let others = c.take_last-others.result.items in
    let one = c.in_ok-take_last.ensures in
    let two = c.take_last-others.ensures in
    let long : length passed ≡ length held
    = omega (
      arith,
      c.requires.count,
      ap length one,
      ap length two,
      length-append held (column ∷ []),
      length-append passed (others ∷ []),
    ) in
    let items : c.extend_from_slice.new.self.items ≡ lesser_nodes column ++ others
    = c.in_ok-extend_from_slice.ensures.items
    ∙ (λ i. (c.in_ok-push_lesser.ensures ∙ ap (λ l. l ++ lesser_nodes c.deref.result.now) c.clear.ensures.items
    ∙ ap lesser_nodes c.deref.ensures.value) i ++ c.deref-2.ensures.value i) in
    (λ i. with_lesser (one i) (two i)) ∙ with_lesser-push held passed column others long
    ∙ ap (λ l. with_lesser held passed ++ l ∷ []) (sym items)
