use Rattle.basic_solve.proofs.Common.{◌≡◌, ◌++◌, ◌∷◌, [], ◌-◌, suc, ◌∙◌, ap, sym, arith, length, map, take, columns, turned}
use Rattle.basic_solve.proofs.ColumnLists.{columns-same, length-columns}
use Rattle.basic_solve.proofs.columns.ColumnsLeft.take_last.Goals as goal

pub returns : goal.returns
returns c =
    let left = take c.self.inside.end (map turned c.self.inside.pairs.now) in
    let node = c.self.inside.nodes - 1 in
    let some : c.self.inside.nodes ≡ suc node
    = omega (arith, c.requires, ap length c.self.view_is, length-columns c.self.inside.nodes left) in
    let rest = columns-same node left _ (λ v h. sym (c.in_ok-self-inside.ensures.others v h)) in
    let own = sym c.in_ok-self-inside.ensures.column in
    sym c.self.view_is ∙ ap (λ n. columns n left) some ∙ (λ i. rest i ++ own i ∷ [])
