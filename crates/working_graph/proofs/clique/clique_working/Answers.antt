use Rattle.working_graph.proofs.Common.{TooManyNodes, ◌≡◌, List, ℕ, length, ap, ◌∙◌, arith, taken_places}
use Rattle.working_graph.proofs.WorkingCliques.{working_clique_valid}
use Rattle.working_graph.proofs.FreePlaces.{clique_len}
use Rattle.working_graph.proofs.clique.clique_working.Goals as goal

pub returns-then-len-nodes-clause-refused : goal.returns-then-len-nodes-clause-refused
returns-then-len-nodes-clause-refused c =
    let w = c.args.working.now in
    let made = ap (λ (m : List (List ℕ)). length m) c.in_ok-taken.ensures in
    let taken : length c.in_ok-taken.taken ≡ length (taken_places w) =
    omega (arith, c.if-len-nodes.true, c.len.ensures, made, clique_len w c.args.nodes) in (
      omega (arith, taken, c.if-len-nodes.true, c.len.ensures),
      ap (TooManyNodes c.args.nodes) (c.len-then-len-nodes.ensures ∙ taken),
    )

pub returns-clause-fits : goal.returns-clause-fits
returns-clause-fits c =
    let made = ap (λ (m : List (List ℕ)). length m) c.in_ok-taken.ensures in
    omega (arith, c.if-len-nodes.false, c.len.ensures, made, clique_len c.args.working.now c.args.nodes)

pub returns-clause-valid : goal.returns-clause-valid
returns-clause-valid c =
    rw c.in_ok-taken.ensures (working_clique_valid c.args.working.now c.args.nodes (returns-clause-fits c))
