use Rattle.posiform_check.proofs.Common.{◌≡◌, ◌+ℤ◌, ap, to_z, of_z, arith, w128, ints, fits_signed_from_abs, rest_more, total_by, size-plus, weight_left, entry_constant}
use Rattle.posiform_check.proofs.Gathering.{constant-size}
use Rattle.posiform_check.proofs.forms.model_constant.Goals as goal

pub loop-entry-preserved : goal.loop-entry-preserved
loop-entry-preserved c =
    let left = rest_more _ _ _ _ _ c.in-Some.is c.next.ensures.steps in
    let kind = c.args.kind in
    let e = c.in-Some.entry in
    let rest = c.next.new.self in
    let h = c.loop-entry.invariant in
    let sum = to_z w128 c.loop-entry.sum-bits in
    let k = entry_constant kind e in
    let total : total_by (entry_constant kind) c.loop-entry.entry-iterator
    ≡ k +ℤ total_by (entry_constant kind) rest = ap (total_by (entry_constant kind)) left in
    let size = weight_left c.loop-entry.entry-iterator rest e left in
    let small = constant-size kind e in
    let one : c.constant_of-sum.result ≡ k = c.constant_of-sum.ensures in
    let value : to_z w128 (of_z w128 (sum +ℤ to_z w128 (of_z w128 c.constant_of-sum.result)))
    ≡ sum +ℤ k = omega (arith, ints, one, size, small, h.small) in
    record {
      so_far = rw value (omega (arith, ints, total, h.so_far));
      small = rw value (omega (arith, size, small, size-plus sum k, h.small));
    }

pub constant_of-sum-requires : goal.constant_of-sum-requires
constant_of-sum-requires c =
    let left = rest_more _ _ _ _ _ c.in-Some.is c.next.ensures.steps in
    let weight = weight_left c.loop-entry.entry-iterator c.next.new.self c.in-Some.entry left in
    omega (arith, c.loop-entry.invariant.small)

pub overflow_add-sum : goal.overflow_add-sum
overflow_add-sum c =
    let left = rest_more _ _ _ _ _ c.in-Some.is c.next.ensures.steps in
    fits_signed_from_abs w128 _
    (let weight = weight_left c.loop-entry.entry-iterator c.next.new.self c.in-Some.entry left in
    let constant_size = constant-size c.args.kind c.in-Some.entry in
    omega (arith, ints, c.constant_of-sum.ensures, c.loop-entry.invariant.small))
