use Rattle.embedding_check.proofs.Common.{◌≡◌, ◌∙◌, sym, subst, same_Some, IsJoin, IsNumberJoin}
use Rattle.embedding_check.proofs.Noting.{notes_same}
use Rattle.embedding_check.proofs.noted.Noted.note_number.Goals as goal

pub returns-then-b-qubits : goal.returns-then-b-qubits
returns-then-b-qubits g c =
    let b = c.in-Some.b in
    notes_same (IsJoin _ _ c.args.node c.args.a b)
    (IsNumberJoin _ _ c.args.node c.args.a c.args.number) c.args.self.now c.note.new.self
    (λ v p low join. (b, c.in-Some.is, join)) (λ v p low x.
    let same : x.0 ≡ b = same_Some _ _ (sym x.1 ∙ c.in-Some.is) in
    subst (λ n. IsJoin _ _ c.args.node c.args.a n v p) same x.2) c.note.ensures
