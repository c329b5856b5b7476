use Rattle.term_table.proofs.Common.{IsLeast, false_from_ne_true, of_z, to_z, entries, Run, List, length, nat_tests, ◌≡◌, sym, ap, ◌∙◌, arith, pos, ℤ, true, false, rules, FitsSigned, w128, option_copied, int_eq, Decides-int_eq, ints, to_z-of_z, merged_terms, sum_over, rests_of}
use Rattle.term_table.proofs.MergedRests.{merged_terms-least, AreRests-without, length-least}
use Rattle.term_table.proofs.RestSteps.{least_is, least_none}
use Rattle.term_table.proofs.rests.Rests.next_term.Goals as goal
use Rattle.term_table.proofs.rests.Rests.next_term.Goals.{In-Some}

not_zero : (z : ℤ) → (z ≡ pos 0 → ⊥) → int_eq z (pos 0) ≡ false
not_zero z other = false_from_ne_true (int_eq z (pos 0)) (λ same. other ((Decides-int_eq z (pos 0)).0 same))

-- the set that was found is the least
least_here : (c : In-Some) → IsLeast c.in-Some.least.now.0
    (rests_of c.loop-least.self-inside.places c.loop-least.self-inside.runs.now)
least_here c =
    least_is _ c.in-Some.least.now (sym c.least_of.ensures ∙ ap option_copied c.in-Some.is)

pub take_set-sum-requires-clause-least : goal.take_set-sum-requires-clause-least
take_set-sum-requires-clause-least c =
    least_here (goal.at.take_set-sum-requires-clause-least c).In-Some

pub invariant_of-self : goal.invariant_of-self
invariant_of-self c =
    let rests = rests_of c.loop-least.self-inside.places c.loop-least.self-inside.runs.now in
    let least = least_here (goal.at.invariant_of-self c).In-Some in (
      c.loop-least.invariant.few,
      rw c.take_set-sum.ensures.taken
          (AreRests-without c.in-Some.least.now.0 rests c.loop-least.invariant.rests least),
    )

pub returns-then-sum-ne0 : goal.returns-then-sum-ne0
returns-then-sum-ne0 c =
    let ls = c.in-Some.least.now.0 in
    let rests = rests_of c.loop-least.self-inside.places c.loop-least.self-inside.runs.now in
    let least = least_here (goal.at.returns-then-sum-ne0 c).In-Some in
    let first = merged_terms-least ls rests c.loop-least.invariant.rests least in
    let start : merged_terms rests ≡ c.args.self.now = sym c.loop-least.invariant.whole ∙ c.self.view_is in
    let back : to_z w128 (of_z w128 c.take_set-sum.result) ≡ sum_over ls rests =
    to_z-of_z w128 c.take_set-sum.result (search rules) ∙ c.take_set-sum.ensures.sum in
    let some : int_eq (sum_over ls rests) (pos 0) ≡ false =
    not_zero (sum_over ls rests) (λ e. c.if-sum-ne0.true (ap (of_z w128) (c.take_set-sum.ensures.sum ∙ e))) in
    grind (arith, nat_tests, ints)

pub loop-least-smaller : goal.loop-least-smaller
loop-least-smaller c =
    let fewer = length-least _ _ (least_here (goal.at.loop-least-smaller c).In-Some) in
    omega (arith, fewer, ap (λ (rs : List Run). length (entries rs)) c.take_set-sum.ensures.taken)

pub loop-least-preserved : goal.loop-least-preserved
loop-least-preserved c =
    let ls = c.in-Some.least.now.0 in
    let rests = rests_of c.loop-least.self-inside.places c.loop-least.self-inside.runs.now in
    let least = least_here (goal.at.loop-least-preserved c).In-Some in
    let first = merged_terms-least ls rests c.loop-least.invariant.rests least in
    let fits : FitsSigned w128 c.take_set-sum.result = search rules in
    let zero : c.take_set-sum.result ≡ pos 0 = omega (arith, ints, c.if-sum-ne0.false) in
    let none : int_eq (sum_over ls rests) (pos 0) ≡ true =
    (Decides-int_eq (sum_over ls rests) (pos 0)).1 (sym c.take_set-sum.ensures.sum ∙ zero) in
    record {
      whole = rw c.take_set-sum.ensures.taken (rw none at (c.loop-least.invariant.whole ∙ first));
      few = c.loop-least.invariant.few;
      rests = rw c.take_set-sum.ensures.taken (AreRests-without ls rests c.loop-least.invariant.rests least);
    }

pub returns : goal.returns
returns c = grind (arith, nat_tests, ints, least_none)
