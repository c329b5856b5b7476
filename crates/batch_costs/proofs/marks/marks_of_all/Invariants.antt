use Rattle.batch_costs.proofs.Common.{◌≡◌, ℕ, ◌<◌, ◌&&◌, all_hold, assignment, is_marked}
use Rattle.batch_costs.proofs.marks.marks_of_all.Given as goal

-- an assignment is marked where the literals before those that are left are true under it
abbrev pub invariant-loop-literal : goal.invariant-loop-literal
invariant-loop-literal l =
    (k : ℕ) → k < 64 → (is_marked l.marks k && all_hold (assignment l.words k) l.literal-iterator)
    ≡ all_hold (assignment l.words k) l.fn.literals
