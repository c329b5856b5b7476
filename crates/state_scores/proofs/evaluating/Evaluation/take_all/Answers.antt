use Rattle.state_scores.proofs.Common.{◌≡◌, get_or, score_of, [], rules, sym, ap, ◌∙◌, after_score, after_states, standing}
use Rattle.state_scores.proofs.TakenStates.{after_place, all_taken, low_line}
use Rattle.state_scores.proofs.evaluating.Evaluation.take_all.Goals as goal

pub take-requires-clause-line : goal.take-requires-clause-line
take-requires-clause-line c =
    low_line c.args.batch.now.lines.items c.args.batch.now.states c.loop-place.place _ c.requires.numbered
    (search rules) c.score-score.ensures.line c.requires.lines

pub loop-place-preserved : goal.loop-place-preserved
loop-place-preserved c =
    let lines = c.args.batch.now.lines.items in
    let states = c.args.batch.now.states in
    let place = c.loop-place.place in
    let old = standing c.args.self.now in
    record {
      taken = λ j costs energies.
          let score : c.score-score.result ≡ score_of j (get_or lines place 0, get_or states place []) = λ i. record {
            line = c.score-score.ensures.line i;
            cost = (c.score-score.ensures.cost ∙ costs place (search rules)) i;
            energy = (c.score-score.ensures.energy ∙ energies place (search rules)) i;
          } in
          c.in_ok-take.ensures.taken
          ∙ (λ i. after_score (c.loop-place.invariant.taken j costs energies i) (score i) (c.list.ensures.listed i))
          ∙ sym (after_place j old lines states place c.requires.numbered (search rules));
      kept = c.take.ensures.kept ∙ c.loop-place.invariant.kept;
    }

pub returns-clause-taken : goal.returns-clause-taken
returns-clause-taken c = λ j costs energies.
    c.loop-place.invariant.taken j costs energies ∙ ap (after_states j (standing c.args.self.now))
    (all_taken _ _ _ c.requires.numbered (search rules))
