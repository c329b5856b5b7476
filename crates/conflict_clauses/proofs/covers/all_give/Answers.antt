use Rattle.conflict_clauses.proofs.Common.{◌∙◌, ap, List, ℤ, unsigned_abs, list_all, leb, Product}
use Rattle.conflict_clauses.proofs.Giving.{list_all-map}
use Rattle.conflict_clauses.proofs.covers.all_give.Goals as goal

pub returns : goal.returns
returns c =
    let need = c.args.need in
    c.all_reach.ensures
    ∙ ap (λ (zs : List ℤ). list_all (λ z. leb need (unsigned_abs z)) zs) c.coefficients.ensures
    ∙ list_all-map (λ z. leb need (unsigned_abs z)) (λ (t : Product). t.coefficient) c.args.products
