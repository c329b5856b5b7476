use Rattle.quadratization.proofs.Common.{nat_tests, length, ◌<◌, ℕ, All-get_or, same_set, Keyed, key_for, addition_at, ◌≡◌, true, false, ◌+◌, ◌∷◌, ◌≤◌, ◌^◌, pos, ◌+ℤ◌, unsigned_abs, to_z, of_z, sym, ap, ◌∙◌, arith, w128, ints, to_z-of_z, terms_total, sums_with}
use Rattle.quadratization.proofs.SortedAdditions as sums
use Rattle.quadratization.proofs.SortedAdditions.{left, term_at, IsOther}
use Rattle.quadratization.proofs.sums.next_sum.Goals as goal
use Rattle.quadratization.proofs.sums.next_sum.Goals.{After-sum, else-place-order-via-then-place-order+else-are_alike, else-place-order-via-else-place-order}

-- the sum with the coefficient is small, and the same in 128 bits
added : (c : After-sum) →
    (to_z w128 (of_z w128 c.args.sum.now) +ℤ to_z w128 (of_z w128 c.sum.inside.coefficient)
    ≡ c.args.sum.now +ℤ (term_at c.args.additions.now c.args.order.now c.args.place).1)
    × (unsigned_abs (c.args.sum.now
    +ℤ (term_at c.args.additions.now c.args.order.now c.args.place).1)
    + terms_total (left c.args.additions.now c.args.order.now (c.args.place + 1)) ≤ 2 ^ 124)
added c =
    let order = c.args.order.now in
    let read = sums.read_coefficient c.args.additions.now order c.args.place _ _ c.at.ensures c.sum.view_is in
    let small = sums.small_more c.args.additions.now order c.args.place c.requires.within _ c.requires.small in
    (omega (arith, ints, small, read), small)

pub overflow_add-sum : goal.overflow_add-sum
overflow_add-sum c = omega (arith, ints, added (goal.at.overflow_add-sum c).After-sum)

pub are_alike-requires : goal.are_alike-requires
are_alike-requires c = λ e.
    let n = c.requires.keys.literals in
    let none : Keyed = record { key = 0; index = 0 } in
    let K : Keyed → Type 0 = λ k. k.key ≡ key_for n (addition_at c.args.additions.now k.index).0 in
    let key = λ (i : ℕ) (in' : i < length c.args.order.now). All-get_or K c.args.order.now i none in' c.requires.keys.keys in
    key c.args.place c.requires.within ∙ ap (key_for n) (same_set _ _ e)
    ∙ sym (key (c.args.place + 1) (grind (arith, nat_tests)))

pub returns-then-are_alike-clause-sums : goal.returns-then-are_alike-clause-sums
returns-then-are_alike-clause-sums c =
    let i = c.args.place in
    let sum = c.args.sum.now in
    let now = added (goal.at.returns-then-are_alike-clause-sums c).After-sum in
    let value : to_z w128 (of_z w128 (to_z w128 (of_z w128 sum) +ℤ to_z w128 (of_z w128 c.sum.inside.coefficient)))
    ≡ sum +ℤ (term_at c.args.additions.now c.args.order.now i).1 = omega (arith, ints, now) in
    sums.wait _ _ i c.requires.within sum c.if-place-order.true
    (c.are_alike.ensures.0 c.if-are_alike.true)
    ∙ ap (λ z. sums_with z (left c.args.additions.now c.args.order.now (i + 1))) (sym value)

pub returns-then-are_alike-clause-small : goal.returns-then-are_alike-clause-small
returns-then-are_alike-clause-small c =
    omega (arith, ints, added (goal.at.returns-then-are_alike-clause-small c).After-sum)

pub returns-then-whole-eq0-clause-sums : goal.returns-then-whole-eq0-clause-sums
returns-then-whole-eq0-clause-sums c =
    let t = term_at c.args.additions.now c.args.order.now c.args.place in
    let now = added (goal.at.returns-then-whole-eq0-clause-sums c).After-sum in
    let none : c.args.sum.now +ℤ t.1 ≡ pos 0 = omega (arith, ints, now, c.if-whole-eq0.true) in
    let other : IsOther t (left c.args.additions.now c.args.order.now (c.args.place + 1))
    = elim c.else-place-order.branch [
      | else-place-order-via-then-place-order+else-are_alike w ↦
          sums.other_next _ _ _ c.requires.within w.if-place-order.true
          (λ z. let both : true ≡ false = sym (w.are_alike.ensures.1 z) ∙ w.if-are_alike.false in cc)
      | else-place-order-via-else-place-order w ↦
          sums.other_end _ _ _ c.requires.within w.if-place-order.false
    ] in
    sums.end_none _ _ _ c.requires.within c.args.sum.now other none

pub returns-else-whole-eq0-clause-sums : goal.returns-else-whole-eq0-clause-sums
returns-else-whole-eq0-clause-sums c =
    let sum = c.args.sum.now in
    let t = term_at c.args.additions.now c.args.order.now c.args.place in
    let now = added (goal.at.returns-else-whole-eq0-clause-sums c).After-sum in
    let once : to_z w128 (of_z w128 (to_z w128 (of_z w128 sum) +ℤ to_z w128 (of_z w128 c.sum.inside.coefficient)))
    ≡ sum +ℤ t.1 = omega (arith, ints, now) in
    let value = ap (λ z. to_z w128 (of_z w128 z)) once
    ∙ to_z-of_z w128 (sum +ℤ t.1) (omega (arith, ints, now)) in
    let rest = left c.args.additions.now c.args.order.now (c.args.place + 1) in
    let other : IsOther t rest = elim c.else-place-order.branch [
      | else-place-order-via-then-place-order+else-are_alike w ↦
          sums.other_next _ _ _ c.requires.within w.if-place-order.true
          (λ z. let both : true ≡ false = sym (w.are_alike.ensures.1 z) ∙ w.if-are_alike.false in cc)
      | else-place-order-via-else-place-order w ↦
          sums.other_end _ _ _ c.requires.within w.if-place-order.false
    ] in
    sums.end_some _ _ _ c.requires.within sum other
    (λ z. c.if-whole-eq0.false (ap (of_z w128) (once ∙ z)))
    ∙ ap (λ z. (t.0, z) ∷ sums_with (pos 0) rest) (sym value)

pub returns-then-whole-eq0-clause-small : goal.returns-then-whole-eq0-clause-small
returns-then-whole-eq0-clause-small c = omega (arith, added (goal.at.returns-then-whole-eq0-clause-small c).After-sum)

pub returns-else-whole-eq0-clause-small : goal.returns-else-whole-eq0-clause-small
returns-else-whole-eq0-clause-small c = omega (arith, added (goal.at.returns-else-whole-eq0-clause-small c).After-sum)

pub at-requires : goal.at-requires
at-requires c =
    All-get_or (λ (k : Keyed). k.index < length c.args.additions.now) c.args.order.now c.args.place _ c.requires.within c.requires.indices
