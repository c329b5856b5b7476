use Rattle.whole_text.proofs.Common.{nat_tests, ℕ, List, ◌+◌, ◌++◌, map, sym, ap, ◌∙◌, arith, slice_range, flat_map, append-nil, refl, All-append, IsOnItsLine, [], ◌∷◌, Token, Word, word, word_at, pieces, pieces_of_line}
use Rattle.whole_text.proofs.Slices.{slice_length, slice_none}
use Rattle.whole_text.proofs.Order.{order_wider, order_pushed}
use Rattle.whole_text.proofs.TokenLines.{one_on_line}
use Rattle.whole_text.proofs.LineWords.{skipped, comment_line, other_line, token_taken, words_none}
use Rattle.whole_text.proofs.Pieces.{first_ink, within_line, piece_taken}
use Rattle.whole_text.proofs.cutting.push_line.Goals as goal

pub returns-then-is_comment-clause-cut : goal.returns-then-is_comment-clause-cut
returns-then-is_comment-clause-cut c = grind (arith, nat_tests, comment_line, append-nil)

pub returns-then-is_comment-clause-in_order : goal.returns-then-is_comment-clause-in_order
returns-then-is_comment-clause-in_order c = λ h. order_wider 0 c.args.tokens.now.items c.args.start c.args.end h c.requires.ordered

pub loop-at-init : goal.loop-at-init
loop-at-init c =
    let text = c.args.text.now in
    let at = c.args.start + c.blank_len.result in
    let end = c.args.end in
    let skip = skipped text c.args.start end c.blank_len.result c.requires.ordered c.requires.within c.blank_len.ensures.first in
    let tokens_are = other_line c.args.style c.args.line (slice_range text c.args.start end) (sym c.is_comment.ensures ∙ c.if-is_comment.false) in
    record {
      low = omega arith;
      high = skip.1;
      ink = skip.2;
      cut = ap (λ (ws : List Word). map (word_at text) c.args.tokens.now.items ++ ws) (sym (tokens_are ∙ ap (λ (ws : List (List ℕ)). map (word c.args.line) (flat_map (pieces c.args.style) ws)) skip.0));
      in_order = λ h. order_wider 0 c.args.tokens.now.items c.args.start at h (omega arith);
      lines = λ on before. before;
    }

pub token_len-requires-clause-some : goal.token_len-requires-clause-some
token_len-requires-clause-some c =
    omega (arith, slice_length c.args.text.now c.loop-at.at c.args.end c.requires.within)

pub token_len-requires-clause-ink : goal.token_len-requires-clause-ink
token_len-requires-clause-ink c = grind (arith, nat_tests, first_ink)

pub loop-at-preserved : goal.loop-at-preserved
loop-at-preserved c =
    let text = c.args.text.now in
    let style = c.args.style in
    let at = c.loop-at.at in
    let n = c.token_len.result in
    let stop = at + n in
    let next = stop + c.blank_len-in-loop-at.result in
    let end = c.args.end in
    let tok : Token = record { start = at; end = stop; line = c.args.line } in
    let le = within_line text at end n c.requires.within c.token_len.ensures.within in
    let skip = skipped text stop end c.blank_len-in-loop-at.result (omega (arith, le)) c.requires.within c.blank_len-in-loop-at.ensures.first in
    let cut = piece_taken style text at end n c.blank_len-in-loop-at.result (omega (arith, le)) c.token_len.ensures.cut skip.0 in
    record {
      low = omega (arith, c.loop-at.invariant.low);
      high = skip.1;
      ink = skip.2;
      cut = token_taken text c.loop-at.tokens.items c.push.new.self.items tok (pieces_of_line style (slice_range text at end)) (pieces_of_line style (slice_range text next end)) cut c.in_ok-push.ensures.items ∙ c.loop-at.invariant.cut;
      lines = λ on before. rw c.in_ok-push.ensures.items (All-append (IsOnItsLine text) c.loop-at.tokens.items (tok ∷ []) (c.loop-at.invariant.lines on before) (one_on_line text c.args.start at c.args.end tok c.loop-at.invariant.low c.loop-at.invariant.high c.requires.within on refl));
      in_order = λ h. rw c.in_ok-push.ensures.items (order_pushed 0 c.loop-at.tokens.items at tok next (c.loop-at.invariant.in_order h) (omega arith) (omega (arith, c.token_len.ensures.some)) (omega arith));
    }

pub returns-then-is_comment-clause-lines : goal.returns-then-is_comment-clause-lines
returns-then-is_comment-clause-lines c = λ on before. before

pub returns-clause-cut : goal.returns-clause-cut
returns-clause-cut c = grind (arith, nat_tests, slice_none, words_none, append-nil)

pub loop-at-smaller : goal.loop-at-smaller
loop-at-smaller c =
    let le = within_line c.args.text.now c.loop-at.at c.args.end c.token_len.result c.requires.within c.token_len.ensures.within in
    omega (arith, le, c.token_len.ensures.some)
