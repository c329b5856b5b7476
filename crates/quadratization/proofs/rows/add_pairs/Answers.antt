use Rattle.quadratization.proofs.Common.{nat_tests, ◌≡◌, ◌<◌, ◌+◌, ◌++◌, ◌∷◌, ◌∙◌, ap, arith, append-nil, drop, drop_all, refl, subst, sym, Entry, row_of, AreFromRow, drop-one, []}
use Rattle.quadratization.proofs.RowForms.{row-own, row-other, ends-row, row-ended}
use Rattle.quadratization.proofs.SummedRows.{part_added}
use Rattle.quadratization.proofs.rows.add_pairs.Goals as goal

pub loop-i-init : goal.loop-i-init
loop-i-init c = record { whole = refl; from = c.requires; same = λ j less. refl }

pub loop-i-preserved : goal.loop-i-preserved
loop-i-preserved c =
    let e = c.at-pair.result in
    let v = c.args.variable in
    let pairs = c.args.pairs.now in
    let more = drop-one pairs c.loop-i.i e c.at-pair.ensures.there in
    let own : e.first ≡ v = sym c.from.ensures ∙ c.if-from-variable.false in
    let left = ap (row_of v) more ∙ row-own v e _ own in
    let from : AreFromRow v (e ∷ drop (c.loop-i.i + 1) pairs) = rw more at c.loop-i.invariant.from in
    record {
      whole =
          part_added c.loop-i.row _ (e ∷ []) (row_of v (drop (c.loop-i.i + 1) pairs)) _ c.push.new.self left
          c.in_ok-push.ensures.pushed c.loop-i.invariant.whole;
      from = rw own at from.1;
      same = λ j less.
          sym (ap (row_of j) more ∙ row-other j e _ (λ is. omega (arith, is, own, less)))
          ∙ c.loop-i.invariant.same j less;
    }

pub returns-then-from-variable-clause-row : goal.returns-then-from-variable-clause-row
returns-then-from-variable-clause-row c = grind (arith, nat_tests, drop-one, ends-row, row-ended, append-nil)

pub returns-then-from-variable-clause-later : goal.returns-then-from-variable-clause-later
returns-then-from-variable-clause-later c =
    let e = c.at-pair.result in
    let more = drop-one c.args.pairs.now c.loop-i.i e c.at-pair.ensures.there in
    let from = subst (AreFromRow c.args.variable) more c.loop-i.invariant.from in
    let past : AreFromRow (c.args.variable + 1) (drop c.loop-i.i c.args.pairs.now) =
    subst (AreFromRow (c.args.variable + 1)) (sym more) (ends-row c.args.variable e _ from (λ is. c.if-from-variable.true (c.from.ensures ∙ is))) in
    record { from = past; same = c.loop-i.invariant.same }
