use Rattle.state_scores.proofs.Common.{◌≡◌, length, take, zip, Judgement, after_states, standing}
use Rattle.state_scores.specs.Batches.{AreCosts, AreEnergies}
use Rattle.state_scores.proofs.evaluating.Evaluation.take_all.Given as goal

-- what is known is what is known after the states so far, by whoever judges them so
abbrev pub invariant-loop-place : goal.invariant-loop-place
invariant-loop-place l = record {
  taken : (j : Judgement) → AreCosts j l.batch.states l.batch.costs.items
      → AreEnergies j l.batch.states l.batch.energies.items → standing l.self
      ≡ after_states j (standing l.fn.self) (take l.place (zip l.batch.lines.items l.batch.states));
  kept : length l.self.state.items ≡ length l.fn.self.state.items;
}
