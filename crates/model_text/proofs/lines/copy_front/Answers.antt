use Rattle.std.proofs.Common.{◌≡◌, ◌+◌, ◌-◌, ◌≤◌, ℕ, List, ◌++◌, length, take, drop, ap, sym, ◌∙◌, arith, rules}
use Rattle.std.proofs.Math.Seq.{drop-append-add}
use Rattle.std.proofs.lemmas.Slice.{drop-put_mid}
use Rattle.std.proofs.lemmas.List.{drop-append-le, drop-drop, length-take-le}
use borrow.Rule.Slice.PartMut.{put_mid}
use Rattle.model_text.proofs.lines.copy_front.Goals as goal

-- what stands from a place in a part on, after a write to that part
from_part : (a k s : ℕ) (xs ys : List ℕ) → a ≤ length xs → length ys ≡ k → s ≤ k
    → drop (a + s) (put_mid a k xs ys) ≡ drop s ys ++ drop (a + k) xs
from_part a k s xs ys within long le =
    let front : length (take a xs) ≡ a = length-take-le a xs within in
    ap (λ n. drop (n + s) (take a xs ++ (ys ++ drop k (drop a xs)))) (sym front)
    ∙ drop-append-add (take a xs) (ys ++ drop k (drop a xs)) s
    ∙ drop-append-le s ys (drop k (drop a xs)) (omega (arith, le, long))
    ∙ ap (λ l. drop s ys ++ l) (drop-drop k a xs)

pub returns-clause-written : goal.returns-clause-written
returns-clause-written c =
    let start = c.args.start in
    let end = c.args.end in
    let line = c.args.line.now in
    let new = c.copy_from_slice.new.self in
    let long : length line ≡ 96 = search rules in
    let short : length c.args.front.now ≡ 11 = search rules in
    let copied : new ≡ c.args.front.now = search rules in
    let whole : end - 11 + (end - (end - 11)) ≡ end = omega (arith, c.requires) in
    let count : length new ≡ end - (end - 11) = omega (arith, c.requires, ap length copied, short) in
    from_part (end - 11) (end - (end - 11)) start line new (omega (arith, c.requires, long)) count
    (omega (arith, c.requires)) ∙ (λ i. drop start (copied i) ++ drop (whole i) line)

pub returns-clause-after : goal.returns-clause-after
returns-clause-after c =
    let end = c.args.end in
    let line = c.args.line.now in
    let new = c.copy_from_slice.new.self in
    let long : length line ≡ 96 = search rules in
    let short : length c.args.front.now ≡ 11 = search rules in
    let copied : new ≡ c.args.front.now = search rules in
    let count : length new ≡ end - (end - 11) = omega (arith, c.requires, ap length copied, short) in
    drop-put_mid (end - 11) (end - (end - 11)) line new end (omega (arith, c.requires)) (omega (arith, c.requires, long)) count
