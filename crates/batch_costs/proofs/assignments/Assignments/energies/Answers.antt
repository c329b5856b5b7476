use Rattle.batch_costs.proofs.Common.{◌<◌, ℕ, List, pos, get_or, arith, ap, rules, ◌∙◌, to_z-of_z, w128, total_by, assignment}
use Rattle.bits_model.specs.Output.{bits_energy}
use Rattle.batch_costs.proofs.PlainCosts.{filled_more}
use Rattle.batch_costs.proofs.assignments.Assignments.energies.Goals as goal

pub loop-k-preserved : goal.loop-k-preserved
loop-k-preserved c =
    let k = c.loop-k.k in
    let energy = λ (words : List ℕ) (j : ℕ). total_by (bits_energy (assignment words j)) c.args.entries.now in
    let below : k < 64 = omega (arith, c.loop-k-test.true, c.loop-k.auto.energies, c.requires.few) in
    let read = to_z-of_z w128 (get_or c.add_entries.new.sums k (pos 0)) (search rules) in
    record {
      energies = filled_more (energy c.args.self.now) c.loop-k.energies (pos 0) _ k (search rules)
          (read ∙ c.add_entries.ensures k below ∙ ap (λ words. energy words k) (c.deref.ensures.value ∙ c.self.view_is))
          c.loop-k.invariant.energies;
    }

pub returns : goal.returns
returns c = λ k below. c.loop-k.invariant.energies k (omega (arith, below, c.loop-k-test.false))
