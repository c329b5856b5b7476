use Rattle.basic_solve.proofs.Common.{◌≡◌, ℕ, ◌+◌, ◌<◌, ◌==◌, Bool, ◌∙◌, sym, ap, arith, pos, int_lt, map, get_or, length, w8, bit_at_set_same, bit_at_set_other, is_one}
use Rattle.basic_solve.proofs.BitPlaces.{marks_more}
use Rattle.basic_solve.proofs.NumberLists.{value-at}
use Rattle.basic_solve.proofs.tables.lesser_bits.Goals as goal
use Rattle.basic_solve.proofs.tables.lesser_bits.Goals.{then-is_less, else-is_less}

pub loop-k-preserved : goal.loop-k-preserved
loop-k-preserved g c =
    let value = g.T.Number.value in
    let vs = c.args.values.now in
    let others = c.args.others.now in
    let start = c.args.start in
    let k = c.loop-k.k in
    let byte = c.loop-k.byte in
    let lt : k < 8 = omega (arith, c.loop-k-test.true, c.requires.few) in
    let there : start + k < length vs = omega (arith, c.loop-k-test.true, c.requires.within) in
    let one = value-at value others (start + k) c.index-others-start.result
    (omega (arith, there, c.requires.count)) c.index-others-start.is in
    let two = value-at value vs (start + k) c.index-values-start.result there c.index-values-start.is in
    let f : ℕ → Bool = λ j. int_lt (get_or (map value others) (start + j) (pos 0))
    (get_or (map value vs) (start + j) (pos 0)) in
    let less : c.is_less.result ≡ f k = cc (c.is_less.ensures, one, two) in
    let so_far = c.loop-k.invariant in
    elim c.if-is_less.branch [
      | then-is_less w ↦
          marks_more (is_one byte) (is_one c.if-is_less.byte) f k
          (ap (λ b. is_one b k) w.byte-is
          ∙ ap (λ n. n == 1) (bit_at_set_same w8 byte k lt) ∙ sym w.if-is_less.true ∙ less)
          (λ j n. ap (λ b. is_one b j) w.byte-is ∙ ap (λ m. m == 1) (bit_at_set_other w8 byte k lt j n))
          so_far.0 so_far.1
      | else-is_less w ↦
          marks_more (is_one byte) (is_one c.if-is_less.byte) f k
          (ap (λ b. is_one b k) w.byte-is ∙ so_far.1 k (omega arith) ∙ sym w.if-is_less.false ∙ less)
          (λ j n. ap (λ b. is_one b j) w.byte-is) so_far.0 so_far.1
    ]
