use Rattle.literal_lists.proofs.Common.{◌≡◌, ◌++◌, ◌∷◌, [], ◌∙◌, false, map, take, get_or, ap, sym, rules, arith, append_assoc, map-append, take_at, take_more, Literal, code_of}
use Rattle.literal_lists.proofs.narrow_lists.append_codes.Goals as goal

pub returns-then-is_err-clause-unchanged : goal.returns-then-is_err-clause-unchanged
returns-then-is_err-clause-unchanged c =
    let so_far = map code_of (take c.loop-literal.literal-index c.args.literals.now) in
    let same : c.push.new.self.items ≡ c.loop-literal.codes.items = search rules in
    c.truncate.ensures.items ∙ ap (take c.len-start.result) (same ∙ c.loop-literal.invariant)
    ∙ take_at c.args.codes.now.items so_far c.len-start.result (omega (arith, c.len-start.ensures, c.args.codes.now.ok.0))

pub loop-literal-preserved : goal.loop-literal-preserved
loop-literal-preserved c =
    let before = c.args.codes.now.items in
    let ls = c.args.literals.now in
    let i = c.loop-literal.literal-index in
    let none : Literal = record { variable = 0; negated = false } in
    let pushed : c.push.new.self.items ≡ c.loop-literal.codes.items ++ c.code_of.result ∷ [] = search rules in
    pushed ∙ (λ j. c.loop-literal.invariant j ++ c.code_of.ensures j ∷ [])
    ∙ append_assoc before (map code_of (take i ls)) (code_of (get_or ls i none) ∷ [])
    ∙ ap (λ xs. before ++ xs) (sym (map-append code_of (take i ls) (get_or ls i none ∷ [])))
    ∙ ap (λ xs. before ++ map code_of xs) (sym (take_more ls i none c.loop-literal-test.true))
