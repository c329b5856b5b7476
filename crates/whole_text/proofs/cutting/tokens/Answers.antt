use Rattle.whole_text.proofs.Common.{nat_tests, ◌+◌, map, refl, ◌∙◌, arith, slice_range, take_rest, tokens_of, word_at, [], All-from_recursion, IsOnItsLine}
use Rattle.whole_text.proofs.Order.{order_wider, order_within}
use Rattle.whole_text.proofs.TokenLines.{next_line, on_line}
use Rattle.whole_text.proofs.Lines.{lines_from, line_cut, line_last, line_taken, line_ended}
use Rattle.whole_text.proofs.cutting.tokens.Goals as goal

pub loop-tokens-init : goal.loop-tokens-init
unfolding tokens_of
loop-tokens-init c = record {
  within = omega arith;
  few = omega arith;
  cut = rw c.new-tokens.ensures.items refl;
  in_order = rw c.new-tokens.ensures.items (omega arith);
  number = refl;
  lines = rw c.new-tokens.ensures.items (All-from_recursion (IsOnItsLine c.args.text.now) [] tt);
}

pub returns-then-end-text-clause-cut : goal.returns-then-end-text-clause-cut
returns-then-end-text-clause-cut c =
    let text = c.args.text.now in
    let start = c.loop-tokens.start in
    let end = start + c.line_len.result in
    let first = rw (take_rest text start) at c.line_len.ensures.first in
    let last = line_last text start c.line_len.result c.loop-tokens.invariant.within first c.if-end-text.true in
    line_ended c.args.style c.loop-tokens.line (slice_range text start end) (lines_from text start) (map (word_at text) c.loop-tokens.tokens.items) (map (word_at text) c.push_line.new.tokens.items) last c.in_ok-push_line.ensures.cut ∙ c.loop-tokens.invariant.cut

pub loop-tokens-preserved : goal.loop-tokens-preserved
loop-tokens-preserved c =
    let text = c.args.text.now in
    let start = c.loop-tokens.start in
    let end = start + c.line_len.result in
    let first = rw (take_rest text start) at c.line_len.ensures.first in
    let cut = line_cut text start c.line_len.result first (omega arith) in
    record {
      within = omega arith;
      few = omega arith;
      cut = line_taken c.args.style c.loop-tokens.line (slice_range text start end) (lines_from text start) (lines_from text (end + 1)) (map (word_at text) c.loop-tokens.tokens.items) (map (word_at text) c.push_line.new.tokens.items) cut c.in_ok-push_line.ensures.cut ∙ c.loop-tokens.invariant.cut;
      in_order = order_wider 0 c.push_line.new.tokens.items end (end + 1) (c.in_ok-push_line.ensures.in_order c.loop-tokens.invariant.in_order) (omega arith);
      number = next_line text start c.line_len.result c.loop-tokens.line first (omega arith) c.loop-tokens.invariant.number;
      lines = c.in_ok-push_line.ensures.lines (on_line text start c.line_len.result c.loop-tokens.line first c.loop-tokens.invariant.number) c.loop-tokens.invariant.lines;
    }

pub returns-then-end-text-clause-within : goal.returns-then-end-text-clause-within
returns-then-end-text-clause-within c = grind (arith, nat_tests, order_within)

pub returns-then-end-text-clause-lines : goal.returns-then-end-text-clause-lines
returns-then-end-text-clause-lines c =
    let text = c.args.text.now in
    let start = c.loop-tokens.start in
    let first = rw (take_rest text start) at c.line_len.ensures.first in
    c.in_ok-push_line.ensures.lines (on_line text start c.line_len.result c.loop-tokens.line first c.loop-tokens.invariant.number) c.loop-tokens.invariant.lines
