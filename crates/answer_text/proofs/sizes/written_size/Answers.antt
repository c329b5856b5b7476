use Rattle.answer_text.proofs.Common.{◌≡◌, ℕ, Option, ap, ◌∙◌, arith, unwrap_or, least_size}
use Rattle.answer_text.proofs.Levels.{greatest-le, least-le}
use Rattle.answer_text.proofs.sizes.written_size.Goals as goal

pub push_sizes-requires-clause-least : goal.push_sizes-requires-clause-least
push_sizes-requires-clause-least c =
    let same : c.unwrap_or.result ≡ least_size c.model.inside.entries =
    c.unwrap_or.ensures ∙ ap (λ (o : Option ℕ). unwrap_or o 0) c.levels_of-levels.ensures.least in
    omega (arith, same, least-le c.model.inside.entries, c.model.invariant.1)

pub push_sizes-requires-clause-greatest : goal.push_sizes-requires-clause-greatest
push_sizes-requires-clause-greatest c = omega (arith, greatest-le)
