use Rattle.edge_io.proofs.Common.{◌++◌, sym, ap, ◌∙◌, subst, rules, append_assoc, Takes, TakesFront}
use Rattle.edge_io.proofs.Pieces.{Passes-trans, Passes-written, Passes-front, TakesFront-more, parts_again}
use Rattle.edge_io.proofs.line_buffer.LineBuffer.put_long.Goals as goal

pub loop-rest-preserved : goal.loop-rest-preserved
loop-rest-preserved g c =
    let was = c.loop-rest.invariant.passed in
    let part = c.split_at.result.0.now in
    let written = subst (Takes (g.S.Sink.taken c.loop-rest.sink) (g.S.Sink.taken c.flush.new.sink)) c.append.ensures c.in-Ok.ensures.whole in
    let passed = Passes-written _ _ c.loop-rest.self c.flush.new.self part c.in-Ok.ensures.empty written in
    record {
      passed = (
        was.0 ++ part,
        parts_again c.args.piece.now was.0 c.loop-rest.rest.now part c.split_at.result.1.now _ was.1 c.split_at.ensures.front c.split_at.ensures.back,
        Passes-trans _ _ _ c.args.self.now c.loop-rest.self c.flush.new.self was.0 part was.2 passed,
      );
      later = search rules;
    }

pub returns-in-Err-clause-front : goal.returns-in-Err-clause-front
returns-in-Err-clause-front g c =
    let was = c.loop-rest.invariant.passed in
    let part = c.split_at.result.0.now in
    let after = c.split_at.result.1.now in
    let before = c.args.self.now in
    let written = subst (TakesFront (g.S.Sink.taken c.loop-rest.sink) (g.S.Sink.taken c.flush.new.sink)) c.append.ensures c.in-Err.ensures.front in
    let front = TakesFront-more _ _ (before ++ (was.0 ++ part)) after (Passes-front _ _ _ before c.loop-rest.self was.0 part was.2 written) in
    let cut = parts_again c.args.piece.now was.0 c.loop-rest.rest.now part after _ was.1 c.split_at.ensures.front c.split_at.ensures.back in
    subst (TakesFront (g.S.Sink.taken c.args.sink.now) (g.S.Sink.taken c.flush.new.sink)) (append_assoc before (was.0 ++ part) after ∙ ap (λ l. before ++ l) (sym cut)) front
