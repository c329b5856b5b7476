use Rattle.problem_form.proofs.Common.{rules, tests, ℕ, max, sym, ◌∙◌, YieldsList-from_first, fold_from_yields_List, fold-map, Constraint, most_complements}
use Rattle.problem_form.proofs.pairs.constraints_complements.Goals as goal

pub returns : goal.returns
returns c =
    let number : Constraint → ℕ = most_complements in
    fold_from_yields_List _ (λ most k. max most (number k)) _ _ c.fold.ensures.ran
    (YieldsList-from_first (λ k. k) (λ s. s) c.args.constraints.now c.iter.ensures)
    (λ a x b q k. search (rules, tests)) ∙ sym (fold-map max number 0 c.args.constraints.now)
