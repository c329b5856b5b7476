use Rattle.embedding_check.proofs.Common.{◌≡◌, ◌<◌, ◌+◌, length, sym, ap, ◌∙◌, arith, length-map, marked_pair}
use Rattle.embedding_check.proofs.Noting.{cleared}
use Rattle.embedding_check.proofs.noted.Noted.clear.Goals as goal

pub returns-then-self-clause-none : goal.returns-then-self-clause-none
returns-then-self-clause-none c = λ v low.
    let inside = c.self.inside in
    let len : length c.args.self.now ≡ length inside.marks.items =
    sym (ap length c.self.view_is) ∙ length-map inside.marks.items (marked_pair inside.turn) in
    let below : v < length c.forget.new.marks.items = omega (arith, low, len) in
    cleared 1 c.forget.new.marks.items v below (λ i d h. omega (arith, c.forget.ensures.none i d h))

pub returns-else-self-clause-none : goal.returns-else-self-clause-none
returns-else-self-clause-none c = λ v low.
    let inside = c.self.inside in
    let len : length c.args.self.now ≡ length inside.marks.items =
    sym (ap length c.self.view_is) ∙ length-map inside.marks.items (marked_pair inside.turn) in
    cleared (inside.turn + 1) inside.marks.items v (omega (arith, low, len))
    (λ i d h. omega (arith, c.self.invariant i d h))
