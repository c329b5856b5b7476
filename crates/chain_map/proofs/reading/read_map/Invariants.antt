use Rattle.chain_map.proofs.Common.{◌≡◌, ◌+◌, ◌-◌, ◌≤◌, length, lines_from, rows_from, chains_at, after_front, reading}
use Rattle.chain_map.proofs.reading.read_map.Given as goal

-- the chains so far, in front of what the other lines say, are all of them
abbrev pub invariant-loop-qubits : goal.invariant-loop-qubits
invariant-loop-qubits l = record {
  within : l.start ≤ length l.text;
  few : l.line ≤ l.start + 1;
  read : after_front l.map (chains_at (length l.map) (rows_from l.line (lines_from l.text l.start)))
      ≡ reading l.text;
}

abbrev pub decreases-loop-qubits : goal.decreases-loop-qubits
decreases-loop-qubits l = length l.text + 1 - l.start
