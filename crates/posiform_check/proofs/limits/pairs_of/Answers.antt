use Rattle.posiform_check.proofs.Common.{ℕ, ◌≤◌, ◌^◌, length, arith, All-head, All-tail, answered_left, answered_end, complements, Line}
use Rattle.posiform_check.proofs.limits.pairs_of.Goals as goal

abbrev products : Line → ℕ
products l = 2 ^ complements l.literals

pub products_of-requires : goal.products_of-requires
products_of-requires c =
    All-head (λ (l : Line). length l.literals ≤ 8) _ _
    (rw c.in-Some.ensures.steps at c.loop-line.invariant.few)

pub loop-line-preserved : goal.loop-line-preserved
loop-line-preserved c = record {
  counted = answered_left products c.loop-line.line-iterator c.next.new.self c.in-Some.line
      c.loop-line.total _ _ _ c.in-Some.ensures.steps
      (omega (arith, c.products_of.ensures.value, c.products_of.ensures.small))
      c.saturating_add-total.ensures c.loop-line.invariant.counted;
  few = All-tail (λ (l : Line). length l.literals ≤ 8) _ _
      (rw c.in-Some.ensures.steps at c.loop-line.invariant.few);
}

pub returns : goal.returns
returns c = answered_end _ _ _ _ c.in-None.ensures.steps.0 c.loop-line.invariant.counted
