use Rattle.embedding_check.proofs.Common.{◌≡◌, ℕ, ◌<◌, length, get_or, sym, ap, refl, ◌∙◌, arith, length-map, Mark, marked_pair, get_or_default}
use Rattle.embedding_check.proofs.Noting.{no_mark, put_new, put_old}
use Rattle.embedding_check.proofs.noted.Noted.put.Goals as goal

pub returns-then-is_lesser : goal.returns-then-is_lesser
returns-then-is_lesser c =
    let inside = c.self.inside in
    let marks = inside.marks.items in
    let node = c.args.node in
    let pair : ℕ × ℕ = (c.args.from, c.args.to) in
    let len : length c.args.self.now ≡ length marks =
    sym (ap length c.self.view_is) ∙ length-map marks (marked_pair inside.turn) in
    let below : node < length marks = omega (arith, len) in
    let found : c.index.result.now ≡ get_or marks node no_mark =
    c.index.ensures ∙ get_or_default marks node c.index.result.now no_mark below in
    let mark : Mark = record { turn = inside.turn; from = c.args.from; to = c.args.to } in
    rw (← c.self.view_is) (put_new inside.turn marks node mark below refl (rw (← found)
    (c.if-is_lesser.ensures.lesser refl)))

pub returns-else-is_lesser : goal.returns-else-is_lesser
returns-else-is_lesser c =
    let inside = c.self.inside in
    let marks = inside.marks.items in
    let node = c.args.node in
    let mark = c.index.result.now in
    let pair : ℕ × ℕ = (c.args.from, c.args.to) in
    let len : length c.args.self.now ≡ length marks =
    sym (ap length c.self.view_is) ∙ length-map marks (marked_pair inside.turn) in
    let below : node < length marks = omega (arith, len) in
    let found : mark ≡ get_or marks node no_mark =
    c.index.ensures ∙ get_or_default marks node mark no_mark below in
    let kept = c.if-is_lesser.ensures.kept refl in
    rw (← c.self.view_is) (put_old inside.turn marks node pair (mark.from, mark.to) below
    (rw (← found) kept.0) kept.1)
