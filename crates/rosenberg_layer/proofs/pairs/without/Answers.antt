use Rattle.rosenberg_layer.proofs.Common.{◌++◌, ◌+◌, ◌∷◌, [], ◌∙◌, false, not, drop, get_or, ap, sym, append-nil, append_assoc, drop_all, drop_more, filter-append, Literal, is_literal, without}
use Rattle.rosenberg_layer.proofs.pairs.without.Goals as goal

pub loop-other-preserved : goal.loop-other-preserved
loop-other-preserved c =
    let l = c.args.literal in
    let xs = c.args.literals.now in
    let i = c.loop-other.other-index in
    let left = c.loop-other.left.items in
    let none : Literal = record { variable = 0; negated = false } in
    let here = get_or xs i none in
    let rest = drop (i + 1) xs in
    ap (λ ys. ys ++ without l rest) c.in_ok-push_other.ensures
    ∙ append_assoc left (without l (here ∷ [])) (without l rest)
    ∙ ap (λ ys. left ++ ys) (sym (filter-append (λ k. not (is_literal l k)) (here ∷ []) rest))
    ∙ ap (λ ys. left ++ without l ys) (sym (drop_more xs i none c.loop-other-test.true))
    ∙ c.loop-other.invariant

pub returns : goal.returns
returns c =
    sym (append-nil c.loop-other.left.items)
    ∙ ap (λ ys. c.loop-other.left.items ++ without c.args.literal ys)
    (sym (drop_all c.loop-other.other-index c.args.literals.now c.loop-other-test.false))
    ∙ c.loop-other.invariant
