use Rattle.problem_form.proofs.Lemmas.{◌≡◌, ◌-◌, ◌++◌, ◌∷◌, [], ℕ, Some, ap, ◌∙◌, length, arith, length-append, rules, replicate, length-replicate, weighed_clauses, weighed_clauses-filled, weighed_clauses-soft, weight_of-some}
use Rattle.problem_form.proofs.clause_list.ClauseList.push_soft.Goals as goal

pub returns-clause-pushed : goal.returns-clause-pushed
returns-clause-pushed c =
    let held = c.self.inside.lists in
    let ns = c.self.inside.weights.items in
    let ls = c.args.literals.now in
    let w = c.args.weight in
    let count = length held - length ns in
    let filled = ns ++ replicate count 0 in
    let lists : c.push.new.self ≡ held ++ ls ∷ [] = search rules in
    let weights = c.in_ok-push_weight.ensures.pushed
    ∙ ap (λ (n : ℕ). (ns ++ replicate (n - length ns) 0) ++ w ∷ []) c.len.ensures in
    let same : length filled ≡ length held =
    omega (arith, c.self.invariant, length-append ns (replicate count 0), length-replicate {A = ℕ} count 0) in
    (λ i. weighed_clauses (lists i) (weights i)) ∙ weighed_clauses-soft held filled ls w same
    ∙ (λ i. weighed_clauses-filled held ns count i ++ record { literals = ls; weight = weight_of-some w c.requires i } ∷ [])
    ∙ ap (λ cs. cs ++ record { literals = ls; weight = Some w } ∷ []) c.self.view_is
