use Rattle.quadratization.proofs.Common.{◌≡◌, ◌∷◌, ◌++◌, [], ℤ, pos, to_z, of_z, map, ap, sym, ◌∙◌, arith, rules, w128, ints, to_z-of_z, map_push, get_or_from_slice_get, Product, product_term, ◌<◌, length, All-get_or, Keyed, set_at, summed_term, append-nil}
use Rattle.quadratization.proofs.sums.summed_additions.Goals as goal
use Rattle.quadratization.proofs.sums.summed_additions.Goals.{in-Some+in_ok-copy_into+in_ok-push, in_default}
use Rattle.quadratization.proofs.SortedAdditions.{given_next}

pub loop-i-preserved : goal.loop-i-preserved
loop-i-preserved c =
    let n : ℤ = c.next_sum.new.sum in
    let back : to_z w128 (of_z w128 n) ≡ n = omega (arith, ints, c.next_sum.ensures.small) in
    let set = set_at c.args.additions.now c.args.order.now c.loop-i.i in
    let front = map product_term c.loop-i.products in
    let made : map product_term c.match-next_sum.products ≡ front ++ summed_term set c.next_sum.result =
    elim c.match-next_sum.branch [
      | in-Some+in_ok-copy_into+in_ok-push w ↦
          let read = w.copy_into.view_is ∙ sym (get_or_from_slice_get c.args.additions.now _ w.at.result (record { literals = []; coefficient = pos 0 }) w.at.ensures) in
          let literals = w.deref.ensures.value ∙ w.in_ok-copy_into.ensures ∙ ap (λ (q : Product). q.literals) read in
          let value = to_z-of_z w128 w.in-Some.coefficient (search rules) in
          ap (map product_term) (w.products-is ∙ w.in_ok-push.ensures.pushed) ∙ map_push product_term c.loop-i.products _
          ∙ (λ k. front ++ (literals k, value k) ∷ []) ∙ ap (λ o. front ++ summed_term set o) (sym w.in-Some.is)
      | in_default w ↦
          ap (map product_term) w.products-is ∙ sym (append-nil front) ∙ ap (λ o. front ++ summed_term set o) (sym w.in_default.is)
    ] in
    record {
      whole = given_next c.args.additions.now c.args.order.now c.loop-i.i _ n _ c.next_sum.result front _ _
          c.next_sum.ensures.sums made back c.loop-i.invariant.whole;
      small = omega (arith, ints, back, c.next_sum.ensures.small);
    }

pub next_sum-requires-clause-small : goal.next_sum-requires-clause-small
next_sum-requires-clause-small c = c.loop-i.invariant.small

pub at-requires : goal.at-requires
at-requires c =
    All-get_or (λ (k : Keyed). k.index < length c.args.additions.now) c.args.order.now c.loop-i.i _ c.loop-i-test.true c.requires.indices
