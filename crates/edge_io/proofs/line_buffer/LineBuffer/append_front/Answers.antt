use Rattle.edge_io.proofs.Common.{◌≡◌, ◌+◌, ◌-◌, ◌≤◌, ℕ, List, ◌++◌, length, take, drop, sym, ap, ◌∙◌, arith, rules, length-append, length-drop}
use Rattle.std.proofs.lemmas.List.{take-take, length-take-le, with_items_is}
use Rattle.std.proofs.lemmas.Slice.{take-put_mid}
use Rattle.std.proofs.Math.Seq.{take-append-add}
use borrow.Rule.Slice.PartMut.{put_mid}
use Rattle.edge_io.proofs.line_buffer.LineBuffer.append_front.Goals as goal

-- what stands before a place in a part, after a write to that part
front_put : (a k n : ℕ) (xs ys : List ℕ) → a ≤ length xs → length ys ≡ k → n ≤ k
    → take (a + n) (put_mid a k xs ys) ≡ take a xs ++ take n ys
front_put a k n xs ys within long le =
    sym (take-take (a + n) (a + k) (put_mid a k xs ys) (omega (arith, le)))
    ∙ ap (take (a + n)) (take-put_mid a k xs ys (a + k) (omega (arith, long)) within)
    ∙ ap (λ (m : ℕ). take (m + n) (take a xs ++ ys)) (sym (length-take-le a xs within))
    ∙ take-append-add (take a xs) ys n

put_length : (a k : ℕ) (xs ys : List ℕ) → a + k ≤ length xs → length ys ≡ k
    → length (put_mid a k xs ys) ≡ length xs
put_length a k xs ys within long =
    omega (arith, within, long, length-append (take a xs) (ys ++ drop k (drop a xs)), length-append ys (drop k (drop a xs)), length-take-le a xs (omega (arith, within)), length-drop k (drop a xs), length-drop a xs)

pub returns : goal.returns
returns c =
    let start = c.self.inside.len in
    let bytes = c.args.bytes.now in
    let new = c.copy_from_slice.new.self in
    let held = c.deref_mut.result.now in
    let room = c.self.inside.room in
    let same : held ≡ room.items = search rules in
    let copied : new ≡ bytes = search rules in
    let k = start + length bytes - start in
    let count : length new ≡ k = omega (arith, ap length copied) in
    let all : length held ≡ 4096 = ap length same ∙ c.self.invariant.0 in
    let pending : start ≡ length c.args.self.now =
    sym (length-take-le start room.items (omega (arith, c.self.invariant.0, c.self.invariant.1))) ∙ ap length c.self.view_is in
    let within : start + k ≤ length held = omega (arith, all, pending, c.requires.room) in
    let whole = with_items_is room (put_mid start k held new) (omega (arith, put_length start k held new within count, ap length same)) in
    ap (take (start + c.args.len)) whole
    ∙ front_put start k c.args.len held new (omega (arith, within)) count (omega (arith, c.requires.within))
    ∙ (λ i. take start (same i) ++ take c.args.len (copied i))
    ∙ ap (λ (l : List ℕ). l ++ take c.args.len bytes) c.self.view_is
