use Rattle.batch_costs.proofs.Common.{◌≡◌, ◌==◌, ◌+ℤ◌, pos, get_or, arith, ap, sym, subst, unsigned_abs, ◌+◌, ◌<◌, ◌^◌, ◌∙◌, to_z, of_z, w64, rules, w128, trailing_zeros, ints, to_z-of_z, bit_at-trailing_zeros, if_so, is_marked}
use Rattle.batch_costs.proofs.MarkedWords.{added, marked-rest, rest-less, room}
use Rattle.batch_costs.proofs.sums.add_marked.Goals as goal

pub loop-rest-smaller : goal.loop-rest-smaller
loop-rest-smaller c = rest-less c.loop-rest.rest (search rules)

pub loop-rest-preserved : goal.loop-rest-preserved
loop-rest-preserved c =
    let rest = c.loop-rest.rest in
    let number = to_z w128 (of_z w128 c.args.number) in
    let same : number ≡ c.args.number = to_z-of_z w128 c.args.number (search rules) in
    let place = trailing_zeros w64 rest in
    let lowest = bit_at-trailing_zeros w64 rest (search rules) (search rules) in
    let before = c.loop-rest.invariant.sums place lowest.0 in
    let one : if_so (is_marked rest place) number ≡ number = ap (λ bit. if_so (bit == 1) number) lowest.1 in
    let small = subst (λ n. unsigned_abs (get_or c.args.sums.now place (pos 0)) + unsigned_abs n < 2 ^ 126) (sym same)
    (c.requires.small place lowest.0) in
    let fits = room (is_marked c.args.marks place) (get_or c.args.sums.now place (pos 0))
    (get_or c.loop-rest.sums place (pos 0)) number (ap (λ n. get_or c.loop-rest.sums place (pos 0) +ℤ n) (sym one) ∙ before) small in
    let sum : to_z w128 (of_z w128 (to_z w128 (of_z w128 (get_or c.loop-rest.sums place (pos 0)))
    +ℤ number)) ≡ get_or c.loop-rest.sums place (pos 0) +ℤ number =
    omega (arith, ints, fits, small) in
    record {
      places = search rules;
      sums = λ k below. added c.loop-rest.sums place k rest _ number _ _ c.loop-rest.invariant.places
          lowest.0 lowest.1 (marked-rest rest place k lowest.1 lowest.2) sum (c.loop-rest.invariant.sums k below);
    }
