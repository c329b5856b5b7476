use Rattle.wbo_reader.proofs.Lemmas.{◌≡◌, ap, ◌∙◌, subst, sym, OnOk, IsSound, ProblemContent, WboContent, most_there, most_within, rewritten, top_most, top_row, top_sound, topped, untopped, with_most, with_rows, with_top}
use Rattle.wbo_reader.proofs.wbo.Wbo.fill.Goals as goal

pub returns-then-within : goal.returns-then-within
returns-then-within c =
    let s : WboContent = c.args.self.now in
    let top = ap (λ (w : WboContent). w.top) c.self.view_is in
    let most : c.most_within-most.result ≡ top_most s =
    c.most_within-most.ensures.value
    ∙ (λ i. most_within (c.in_ok-fill_rows.ensures i) (top i)) ∙ most_there s in
    c.cut_off.ensures ∙ (λ i. with_most (c.in_ok-fill_rows.ensures i) (most i))
    ∙ ap (λ b. topped b s) (sym c.if-within.true)

pub add_top-requires : goal.add_top-requires
add_top-requires c =
    let rows = c.in_ok-fill_rows.ensures ∙ ap untopped (sym c.self.view_is) in
    record {
      sound =
          subst (λ (p : ProblemContent). IsSound (with_rows p (top_row p c.in-Some.top))) (sym rows)
          (top_sound _ c.in-Some.top c.in-Some.is c.self.invariant);
    }

pub returns-in-Some : goal.returns-in-Some
returns-in-Some c =
    let rows = c.in_ok-fill_rows.ensures ∙ ap untopped (sym c.self.view_is) in
    subst (λ (p : ProblemContent). OnOk c.add_top.result (c.add_top.new.problem ≡ p))
    (ap (λ (p : ProblemContent). with_rows p (top_row p c.in-Some.top)) rows
    ∙ with_top _ c.in-Some.top c.in-Some.is ∙ ap rewritten c.self.view_is
    ∙ ap (λ b. topped b c.args.self.now) (sym c.if-within.false)) c.add_top.ensures
