use Rattle.wbo_reader.proofs.Lemmas.{rules, refl, ◌≡◌, ap, ◌∙◌, subst, OnOk, ProblemContent, untopped, weighed_then, rowed_then, weights_are_sound, rows_are_sound}
use Rattle.wbo_reader.proofs.wbo.Wbo.fill_rows.Goals as goal

pub add_weights-requires-clause-sound : goal.add_weights-requires-clause-sound
add_weights-requires-clause-sound c = weights_are_sound c.self.invariant (search rules)

pub add_rows-requires : goal.add_rows-requires
add_rows-requires c =
    rows_are_sound c.self.invariant c.self.view_is
    (weighed_then c.self.invariant (search rules) c.in_ok-add_weights.ensures)

pub returns : goal.returns
returns c =
    let weights = weighed_then c.self.invariant (search rules) c.in_ok-add_weights.ensures in
    subst (λ (p : ProblemContent). OnOk c.add_rows.result (c.add_rows.new.problem ≡ p))
    (rowed_then c.self.view_is weights refl ∙ ap untopped c.self.view_is) c.add_rows.ensures
