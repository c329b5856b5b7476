use Rattle.problem_form.proofs.Common.{rules, tests, ℕ, max, refl, sym, ◌∙◌, YieldsList-from_first, fold_from_yields_List, fold-map, Product, complements}
use Rattle.problem_form.proofs.pairs.products_complements.Goals as goal

pub returns : goal.returns
returns c =
    let number : Product → ℕ = complements in
    fold_from_yields_List _ (λ most x. max most (number x)) _ _ c.fold.ensures.ran
    (YieldsList-from_first (λ x. x) (λ s. s) c.args.products refl)
    (λ a x b q k. search (rules, tests)) ∙ sym (fold-map max number c.args.most c.args.products)
