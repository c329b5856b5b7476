use Rattle.chain_map.proofs.Common.{◌≡◌, ◌-◌, ◌≤◌, map, slice_range, word, words, each, natural_at, after_front}
use Rattle.chain_map.proofs.reading.fill_qubits.Given as goal

-- the qubits so far, in front of what the other words say, are all of them
abbrev pub invariant-loop-at : goal.invariant-loop-at
invariant-loop-at l = record {
  high : l.at ≤ l.end;
  read : after_front l.qubits.items (each (natural_at 0) (map (word l.line) (words (slice_range l.text l.at l.end))))
      ≡ each (natural_at 0) (map (word l.line) (words (slice_range l.text l.fn.from l.end)));
}

abbrev pub decreases-loop-at : goal.decreases-loop-at
decreases-loop-at l = l.end - l.at
