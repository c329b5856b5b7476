use Rattle.posiform_check.proofs.Common.{rules, tests, ℕ, max, length, sym, ◌∙◌, YieldsList-from_first, fold_from_yields_List, fold-map, Line}
use Rattle.posiform_check.proofs.limits.degree_of.Goals as goal

pub returns : goal.returns
returns c =
    let number : Line → ℕ = λ l. length l.literals in
    fold_from_yields_List _ (λ most l. max most (number l)) _ _ c.fold.ensures.ran
    (YieldsList-from_first (λ l. l) (λ s. s) c.args.lines.now c.iter.ensures)
    (λ a x b q k. search (rules, tests)) ∙ sym (fold-map max number 0 c.args.lines.now)
