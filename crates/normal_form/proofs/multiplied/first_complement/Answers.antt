use Rattle.normal_form.proofs.Common.{All-more, Literal, rules, ◌≡◌, false}
use Rattle.normal_form.proofs.multiplied.first_complement.Goals as goal

pub loop-place-preserved : goal.loop-place-preserved
loop-place-preserved c =
    let none : Literal = record { variable = 0; negated = false } in
    All-more (λ (l : Literal). l.negated ≡ false) c.args.literals.now c.loop-place.place none
    c.loop-place-test.true c.loop-place.invariant (search rules)
