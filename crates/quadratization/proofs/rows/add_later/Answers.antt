use Rattle.quadratization.proofs.Common.{nat_tests, ◌≡◌, ◌<◌, ◌^◌, ◌++◌, ◌∷◌, [], map, ap, ◌∙◌, arith, rules, append-nil, to_z, of_z, w128, to_z-of_z, rest_more, All-rest, signed, pair_coupler, ℤ, Literal}
use Rattle.quadratization.proofs.SummedRows.{signed_comm, part_added}
use Rattle.quadratization.proofs.rows.add_later.Goals as goal

pub loop-other-preserved : goal.loop-other-preserved
loop-other-preserved c =
    let z : ℤ = to_z w128 (of_z w128 c.args.coefficient) in
    let e = pair_coupler c.args.literal z in
    let left = rest_more _ _ _ c.next.result _ c.in-Some.is c.next.ensures.steps in
    let weighs = to_z-of_z w128 c.signed.result (search rules) ∙ c.signed.ensures
    ∙ ap (signed c.in-Some.other) (to_z-of_z w128 c.signed-weight.result (search rules) ∙ c.signed-weight.ensures)
    ∙ signed_comm c.args.literal c.in-Some.other z in
    let P : Literal → Type 0 = λ m. m.variable < 2 ^ 32 in
    record {
      whole =
          part_added c.loop-other.row _ (e c.in-Some.other ∷ []) (map e c.next.new.self) _ c.push.new.self (ap (map e) left)
          (c.in_ok-push.ensures.pushed ∙ (λ k. c.loop-other.row ++ record { first = c.args.literal.variable; second = c.in-Some.other.variable; weight = weighs k } ∷ []))
          c.loop-other.invariant.whole;
      within = All-rest P _ _ _ left c.loop-other.invariant.within;
    }

pub returns : goal.returns
returns c = grind (arith, nat_tests, to_z-of_z, append-nil)
