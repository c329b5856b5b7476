use Rattle.quadratization.proofs.Common.{◌<◌, ◌^◌, List, subst, All, All-head, All-rest, Literal, arith}
use Rattle.quadratization.proofs.additions.triple_key.Goals as goal

pub code_of-requires-2 : goal.code_of-requires-2
code_of-requires-2 c =
    let P : Literal → Type 0 = λ l. l.variable < 2 ^ 20 in
    let rest = All-rest P _ _ _ c.in-Some-Some-Some.ensures.steps c.requires in
    omega (arith, All-head P _ _ (subst (λ (ls : List Literal). All P ls) c.in-Some-Some-Some.ensures'.steps rest))

pub code_of-requires-3 : goal.code_of-requires-3
code_of-requires-3 c =
    let P : Literal → Type 0 = λ l. l.variable < 2 ^ 20 in
    let rest = All-rest P _ _ _ c.in-Some-Some-Some.ensures'.steps (All-rest P _ _ _ c.in-Some-Some-Some.ensures.steps c.requires) in
    omega (arith, All-head P _ _ (subst (λ (ls : List Literal). All P ls) c.in-Some-Some-Some.ensures''.steps rest))
