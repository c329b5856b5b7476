use Rattle.embedding_check.proofs.Common.{◌≡◌, ℕ, refl, subst, ◌∙◌, arith, Option, IfSome, Span, AreNotedFrom}
use Rattle.embedding_check.proofs.Noting.{span_done}
use Rattle.embedding_check.proofs.noted.Noted.note_faced.Goals as goal

pub returns-then-is_same-clause-noted : goal.returns-then-is_same-clause-noted
returns-then-is_same-clause-noted g c =
    let graph = c.args.hardware.now in
    let owners = c.args.owners.now in
    let node = c.args.node in
    let a = c.args.a in
    let now = c.args.self.now in
    let done : AreNotedFrom now owners node c.in-Some.least c.in-Some.faced =
    subst (λ (x : Option (ℕ × Span)). IfSome x (λ p. AreNotedFrom now owners node p.0 p.1)) c.in-Some.is c.requires.done in
    let same : c.in-Some.faced ≡ g.H.Hardware.facing graph a = c.if-is_same.ensures refl ∙ c.facing-span.ensures in
    span_done _ owners node c.in-Some.least a (g.H.Hardware.facing graph a) now (omega arith)
    (subst (AreNotedFrom now owners node c.in-Some.least) same done)
