use Rattle.quadratization.proofs.Common.{◌<◌, ◌^◌, List, subst, All, All-head, All-rest, Literal}
use Rattle.quadratization.proofs.additions.pair_key.Goals as goal

pub code_of-requires-2 : goal.code_of-requires-2
code_of-requires-2 c =
    let P : Literal → Type 0 = λ l. l.variable < 2 ^ 31 in
    let rest = All-rest P _ _ _ c.in-Some-Some.ensures.steps c.requires in
    All-head P _ _ (subst (λ (ls : List Literal). All P ls) c.in-Some-Some.ensures'.steps rest)
