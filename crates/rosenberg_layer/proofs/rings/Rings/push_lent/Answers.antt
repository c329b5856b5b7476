use Rattle.rosenberg_layer.proofs.Common.{◌++◌, ◌∷◌, [], map, ap, ◌∙◌, pushed, code_of}
use Rattle.rosenberg_layer.proofs.rings.Rings.push_lent.Goals as goal

pub invariant_of-self : goal.invariant_of-self
invariant_of-self c =
    (pushed c.self.inside.codes.items (map code_of c.args.literals) c.self.inside.ends.items _ _
    c.self.invariant c.in-Ok.ensures.codes c.in-Ok.ensures.ends).0

pub returns-in-Ok : goal.returns-in-Ok
returns-in-Ok c =
    (pushed c.self.inside.codes.items (map code_of c.args.literals) c.self.inside.ends.items _ _
    c.self.invariant c.in-Ok.ensures.codes c.in-Ok.ensures.ends).1
    ∙ ap (λ ls. ls ++ map code_of c.args.literals ∷ []) c.self.view_is
