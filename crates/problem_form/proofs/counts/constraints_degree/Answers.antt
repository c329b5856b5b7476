use Rattle.problem_form.proofs.Lemmas.{rules, tests, ℕ, List, max, fold, map, length, sym, ◌∙◌, YieldsList-from_first, fold_from_yields_List, Constraint, fold_flat_map}
use Rattle.problem_form.proofs.counts.constraints_degree.Goals as goal

pub returns : goal.returns
returns c =
    let numbers : Constraint → List ℕ = λ k. map (λ t. length t.literals) k.products in
    fold_from_yields_List _ (λ most k. fold max most (numbers k)) _ _ c.fold.ensures.ran
    (YieldsList-from_first (λ k. k) (λ s. s) c.args.constraints.now c.iter.ensures)
    (λ a x b q k. search (rules, tests))
    ∙ sym (fold_flat_map max numbers c.args.most c.args.constraints.now)
