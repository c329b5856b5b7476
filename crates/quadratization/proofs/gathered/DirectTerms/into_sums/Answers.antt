use Rattle.quadratization.proofs.Common.{nat_tests, rules, ◌≡◌, ap, ◌∙◌, sym, subst, length, ◌+ℤ◌, arith, w128, to_z-of_z, total_by, TableContent, table_of, terms_of, long_constant, AreHeld, held_of}
use Rattle.quadratization.proofs.HeldSums.{additions-held, couplers-fit, weights-fit, constants-fit, same_table, sum-of_held}
use Rattle.quadratization.proofs.gathered.DirectTerms.into_sums.Goals.{In_ok-table}
use Rattle.quadratization.proofs.gathered.DirectTerms.into_sums.Goals as goal

pub of-requires-clause-additions : goal.of-requires-clause-additions
of-requires-clause-additions c =
    let size : c.width.result ≡ length c.self.inside.sums.weights = search rules in
    rw size (additions-held c.self.inside.sums c.self.inside.long c.self.invariant)

-- the table is that of the longer additions held
module _ (c : In_ok-table) where
  made : c.in_ok-table.table ≡ table_of (terms_of (length c.self.inside.sums.weights) c.self.inside.long)
  made = c.in_ok-table.ensures ∙ ap (λ n. table_of (terms_of n c.self.inside.long)) (search rules)

  width : length c.self.inside.sums.weights ≡ c.in_ok-table.table.width
  width = sym (ap (λ (u : TableContent). u.width) made)

pub sums_with-requires-clause-width : goal.sums_with-requires-clause-width
sums_with-requires-clause-width c =
    ap length c.into_parts-constant.ensures.weights ∙ width (goal.at.sums_with-requires-clause-width c).In_ok-table

pub sums_with-requires-clause-pairs : goal.sums_with-requires-clause-pairs
sums_with-requires-clause-pairs c =
    grind (arith, nat_tests, goal.at.sums_with-requires-clause-pairs c)

pub sums_with-requires-clause-constant : goal.sums_with-requires-clause-constant
sums_with-requires-clause-constant c = grind (arith, nat_tests, to_z-of_z, constants-fit)

pub sums_with-requires-clause-weights : goal.sums_with-requires-clause-weights
sums_with-requires-clause-weights c = grind (arith, nat_tests, weights-fit)

pub sums_with-requires-clause-couplers : goal.sums_with-requires-clause-couplers
sums_with-requires-clause-couplers c = grind (arith, nat_tests, couplers-fit)

pub returns-clause-sums : goal.returns-clause-sums
returns-clause-sums c t additions held =
    let h = held_of c.self.inside.sums c.self.inside.long in
    let here = subst (AreHeld t) (sym c.self.view_is) held in
    let same = made (goal.at.returns-clause-sums c).In_ok-table ∙ same_table t h here in
    let parts = c.into_parts-constant.ensures in
    let sums = c.in_ok-sums.ensures in
    let constant = to_z-of_z w128 c.into_parts-constant.result.0 (search rules) ∙ parts.constant in
    sum-of_held t h additions parts.fits.pairs here _ _ _ _
    (rw same at (sums.constant ∙ ap (λ z. z +ℤ total_by long_constant c.in_ok-table.table.terms) constant))
    (rw (parts.weights, same) at sums.weights) (rw (parts.pairs, same) at sums.couplers)

pub returns-clause-long : goal.returns-clause-long
returns-clause-long c t held = grind (arith, nat_tests, same_table)
