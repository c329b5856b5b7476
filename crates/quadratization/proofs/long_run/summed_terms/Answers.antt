use Rattle.quadratization.proofs.Common.{nat_tests, ◌≡◌, ◌<◌, ◌^◌, ◌∷◌, ◌++◌, [], List, ℤ, pos, to_z, of_z, length, ap, sym, ◌∙◌, subst, arith, rules, w128, All, ints, to_z-of_z, sum_by-append, sum_by_push, get_or_from_slice_get, Product, Literal, Term, set_narrow, set_at, summed_term, append-nil}
use Rattle.quadratization.proofs.SortedAdditions.{left, given_next}
use Rattle.quadratization.proofs.HeldRuns.{addition-long, addition-set}
use Rattle.quadratization.proofs.long_run.summed_terms.Goals as goal
use Rattle.quadratization.proofs.long_run.summed_terms.Goals.{in-Some+in_ok-append, in_default}

pub append-requires-clause-long : goal.append-requires-clause-long
append-requires-clause-long c =
    let literals = ap (λ (q : Product). length q.literals) c.literals.view_is in
    omega (arith, literals, addition-long c.args.additions.now _ c.at.result c.requires.long c.at.ensures)

pub append-requires-clause-short : goal.append-requires-clause-short
append-requires-clause-short c =
    let set = addition-set c.args.additions.now _ c.at.result c.args.width c.requires.additions c.at.ensures in
    omega (arith, ap (λ (q : Product). length q.literals) c.literals.view_is, set.short)

pub append-requires-clause-narrow : goal.append-requires-clause-narrow
append-requires-clause-narrow c =
    let set = addition-set c.args.additions.now _ c.at.result c.args.width c.requires.additions c.at.ensures in
    subst (λ (q : Product). All (λ (l : Literal). l.variable < 2 ^ 31) q.literals) (sym c.literals.view_is)
    (set_narrow c.args.width c.at.result.literals set c.requires.narrow)

pub append-requires-clause-few : goal.append-requires-clause-few
append-requires-clause-few c = grind (arith, nat_tests, ints, left, sum_by-append)

pub loop-i-preserved : goal.loop-i-preserved
loop-i-preserved c =
    let n : ℤ = c.next_sum.new.sum in
    let back : to_z w128 (of_z w128 n) ≡ n = omega (arith, ints, c.next_sum.ensures.small) in
    let set = set_at c.args.additions.now c.args.order.now c.loop-i.i in
    let front : List Term = c.loop-i.terms in
    let made : c.match-next_sum.terms ≡ front ++ summed_term set c.next_sum.result =
    elim c.match-next_sum.branch [
      | in-Some+in_ok-append w ↦
          let read = w.literals.view_is ∙ sym (get_or_from_slice_get c.args.additions.now _ w.at.result (record { literals = []; coefficient = pos 0 }) w.at.ensures) in
          let value = to_z-of_z w128 w.in-Some.coefficient (search rules) in
          w.terms-is ∙ w.in_ok-append.ensures.terms ∙ (λ k. front ++ ((read k).literals, value k) ∷ [])
          ∙ ap (λ o. front ++ summed_term set o) (sym w.in-Some.is)
      | in_default w ↦ w.terms-is ∙ sym (append-nil front) ∙ ap (λ o. front ++ summed_term set o) (sym w.in_default.is)
    ] in
    record {
      whole = given_next c.args.additions.now c.args.order.now c.loop-i.i _ n _ c.next_sum.result front _ _
          c.next_sum.ensures.sums made back c.loop-i.invariant.whole;
      small = omega (arith, ints, back, c.next_sum.ensures.small);
      turns = grind (arith, nat_tests, ints, in-Some+in_ok-append, sum_by_push, in_default);
    }
