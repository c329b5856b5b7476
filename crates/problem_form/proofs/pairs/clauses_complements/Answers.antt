use Rattle.problem_form.proofs.Common.{rules, tests, ℕ, max, sym, ◌∙◌, YieldsList-from_first, fold_from_yields_List, fold-map, Clause, clause_complements}
use Rattle.problem_form.proofs.pairs.clauses_complements.Goals as goal

pub returns : goal.returns
returns c =
    let number : Clause → ℕ = clause_complements in
    fold_from_yields_List _ (λ most x. max most (number x)) _ _ c.fold.ensures.ran
    (YieldsList-from_first (λ x. x) (λ s. s) c.args.clauses.now c.iter.ensures)
    (λ a x b q k. search (rules, tests)) ∙ sym (fold-map max number c.args.most c.args.clauses.now)
