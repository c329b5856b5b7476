use Rattle.std.proofs.Common.{◌≡◌, ◌<◌, ℕ, [], false, get_or, negsuc, pos, if◌then◌else◌}
use Rattle.reader_tests.proofs.judged_lines.ThreeBitsJudge.energies.Given as goal

-- the energies of the states so far are known
abbrev pub invariant-loop-place : goal.invariant-loop-place
invariant-loop-place l = record {
  energies : (j : ℕ) → j < l.place
      → get_or l.energies j (pos 0) ≡ (if get_or (get_or l.states j []) 2 false then negsuc 0 else pos 0);
}
