use Rattle.working_graph.proofs.Common.{◌/◌, ◌%◌, ap, ◌∙◌, mod-lt, Chimera, along_qubit, down_qubit, is_cut}
use Rattle.working_graph.proofs.FreePlaces.{place_in}
use Rattle.working_graph.proofs.parting.is_cut_at.Goals as goal

pub qubit_at-requires-clause-row : goal.qubit_at-requires-clause-row
qubit_at-requires-clause-row c =
    (place_in _ _ c.args.other c.graph-graph.ensures c.requires.other).0

pub qubit_at-requires-clause-col : goal.qubit_at-requires-clause-col
qubit_at-requires-clause-col c =
    (place_in _ _ c.args.place c.graph-graph.ensures c.requires.place).1

pub qubit_at-requires-clause-at : goal.qubit_at-requires-clause-at
qubit_at-requires-clause-at c = mod-lt c.args.place c.graph-graph.result.shape.some_shore

pub qubit_at-requires-2-clause-row : goal.qubit_at-requires-2-clause-row
qubit_at-requires-2-clause-row c =
    (place_in _ _ c.args.other c.graph-graph.ensures c.requires.other).0

pub qubit_at-requires-2-clause-col : goal.qubit_at-requires-2-clause-col
qubit_at-requires-2-clause-col c =
    (place_in _ _ c.args.place c.graph-graph.ensures c.requires.place).1

pub qubit_at-requires-2-clause-at : goal.qubit_at-requires-2-clause-at
qubit_at-requires-2-clause-at c = mod-lt c.args.other c.graph-graph.result.shape.some_shore

pub returns : goal.returns
returns c =
    let w = c.args.working.now in
    let v = c.args.place in
    let u = c.args.other in
    c.is_cut.ensures ∙ (λ i. is_cut w (c.qubit_at.ensures i) (c.qubit_at-2.ensures i))
    ∙ ap (λ (h : Chimera). is_cut w (down_qubit h (v / h.shore) (v % h.shore) (u / h.shore))
    (along_qubit h (u / h.shore) (u % h.shore) (v / h.shore))) c.graph-graph.ensures
