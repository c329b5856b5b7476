use Rattle.std.proofs.Common.{◌<◌, ℕ, List, length, All, sym, ap, subst, ◌∙◌}
use Rattle.chain_layer.proofs.extending.extended.Goals as goal

pub on_chains-requires-clause-width : goal.on_chains-requires-clause-width
on_chains-requires-clause-width c =
    c.requires.width ∙ sym c.requires.kept.counted
    ∙ ap (λ (cs : List (List ℕ)). length cs) (sym c.chains.ensures)

pub on_chains-requires-clause-within : goal.on_chains-requires-clause-within
on_chains-requires-clause-within c =
    subst (λ (cs : List (List ℕ)). All (λ chain. All (λ q. q < c.qubits.result) chain) cs)
    (sym c.chains.ensures)
    (subst (λ n. All (λ chain. All (λ q. q < n) chain) c.args.source.now.chains)
    (sym c.qubits.ensures) c.requires.kept.within)
