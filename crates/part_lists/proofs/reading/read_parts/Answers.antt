use Rattle.part_lists.proofs.Common.{Plain, ◌≡◌, ◌+◌, inl, inr, List, [], length, sym, ap, subst, ◌∙◌, arith, rules, cases_lt, take_rest, err_from_is_err_and, tokens_of, tokens_from, Fails, lines_from, line_cut, line_last, after_front, front_none, Part, parts_of_words, listed_parts}
use Rattle.part_lists.proofs.PartRows.{line_more, line_fails, lines_end}
use Rattle.part_lists.proofs.reading.read_parts.Goals as goal

pub loop-parts-init : goal.loop-parts-init
unfolding listed_parts tokens_of
loop-parts-init g c =
    let all = parts_of_words (g.H.Hardware.exists c.args.host.now) (g.H.Hardware.joined c.args.host.now) (tokens_from Plain 1 (lines_from c.args.text.now 0)) in
    let none : c.new-parts.result.items ≡ [] = search rules in
    record {
      within = omega arith;
      few = omega arith;
      read = ap (λ (parts : List Part). after_front parts all) none ∙ front_none all;
      kept = λ k d low. absurd (omega (arith, low, ap length none));
    }

pub returns-in_err-add_line-clause-exact : goal.returns-in_err-add_line-clause-exact
returns-in_err-add_line-clause-exact g c =
    let start = c.loop-parts.start in
    let n = c.line_len.result in
    let first = rw (take_rest _ start) at c.line_len.ensures.first in
    let p = err_from_is_err_and c.from_residual.result c.from_residual.ensures.1 in
    let fails = c.in_err-add_line.ensures.read in
    rw (p.1, p.2) (subst (Fails _) c.loop-parts.invariant.read
    (elim (cases_lt (start + n) (length _)) [
      | inl low ↦ line_fails (g.H.Hardware.exists c.args.host.now) (g.H.Hardware.joined c.args.host.now) _ _ _ _ _ _ (line_cut _ start n first low) fails
      | inr high ↦
          let last = line_last _ start n c.loop-parts.invariant.within first (omega (arith, high))
          in
          line_fails (g.H.Hardware.exists c.args.host.now) (g.H.Hardware.joined c.args.host.now) _ _ _ _ _ _ last fails
    ]))

pub returns-then-end-text-clause-exact : goal.returns-then-end-text-clause-exact
returns-then-end-text-clause-exact g c =
    let first = rw (take_rest c.args.text.now c.loop-parts.start) at c.line_len.ensures.first in
    let last = line_last _ _ _ c.loop-parts.invariant.within first c.if-end-text.true in
    sym c.loop-parts.invariant.read ∙ line_more _ _ _ _ _ _ _ _ last c.in_ok-add_line.ensures.read
    ∙ lines_end (g.H.Hardware.exists c.args.host.now) (g.H.Hardware.joined c.args.host.now) _ (c.loop-parts.line + 1)

pub loop-parts-preserved : goal.loop-parts-preserved
loop-parts-preserved g c =
    let first = rw (take_rest c.args.text.now c.loop-parts.start) at c.line_len.ensures.first in
    let cut = line_cut _ c.loop-parts.start _ first (omega arith) in
    record {
      within = omega arith;
      few = omega arith;
      read = sym (line_more _ _ _ _ _ _ _ _ cut c.in_ok-add_line.ensures.read)
          ∙ c.loop-parts.invariant.read;
      kept = c.in_ok-add_line.ensures.kept c.loop-parts.invariant.kept;
    }
