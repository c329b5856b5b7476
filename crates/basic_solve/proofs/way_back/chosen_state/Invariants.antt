use Rattle.basic_solve.proofs.Common.{◌≡◌, length, energy, form_of}
use Rattle.basic_solve.proofs.WayBack.{IsBegun}
use Rattle.basic_solve.proofs.way_back.chosen_state.Given as goal

-- the bits so far begin what is chosen
abbrev pub invariant-loop-node : goal.invariant-loop-node
invariant-loop-node l =
    (length l.y.items ≡ l.node) × IsBegun l.model.nodes (energy (form_of l.model)) l.y.items
