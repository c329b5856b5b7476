use Rattle.cut_chains.proofs.Common.{◌≡◌, [], drop, take, first_of, Climbable}
use Rattle.cut_chains.proofs.Reaching.{IsReaching}
use Rattle.cut_chains.proofs.orders.reach.Given as goal

-- the qubits so far have been walked from
abbrev pub invariant-loop-qubit : goal.invariant-loop-qubit
invariant-loop-qubit l = record {
  empty : l.path.items ≡ [];
  reaching : (t : Climbable l.up l.fn.seen (first_of l.chain) (drop 1 l.chain))
      → IsReaching l.up l.fn.seen (first_of l.chain) (drop 1 l.chain) t l.seen l.order.items
      (take l.qubit-index (drop 1 l.chain));
}
