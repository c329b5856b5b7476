use Rattle.rosenberg_layer.proofs.Common.{◌≡◌, ℕ, ◌+◌, ◌++◌, [], arith, sym, ap, ◌∙◌, subst, length, true, All, filter, All-from_recursion, Term, TableContent, KeptTable, front_pair, is_long, next_before, run, after_turn, long_part}
use Rattle.rosenberg_layer.proofs.LongParts.{long-turn}
use Rattle.rosenberg_layer.proofs.Parts.{filter-yes}
use Rattle.rosenberg_layer.proofs.Turns.{pairs-next, run-next, width-grows, width-pairs}
use Rattle.rosenberg_layer.proofs.pairs.wide_pairs.Goals as goal

-- a turn on the long terms of the run so far gives those of one more
next_long : (k : ℕ) (t u : TableContent) → u ≡ long_part (run k t)
    → after_turn (front_pair u.terms) u ≡ long_part (run (k + 1) t)
next_long k t u e =
    ap (λ (v : TableContent). after_turn (front_pair v.terms) v) e ∙ sym (long-turn (run k t))
    ∙ ap long_part (sym (run-next k t))

pub loop-done-init : goal.loop-done-init
loop-done-init c = record {
  long = ap (λ (u : KeptTable). u.content) c.in_ok-long.ensures;
  pairs = c.new-pairs.ensures.items;
}

pub turn-requires-clause-number : goal.turn-requires-clause-number
turn-requires-clause-number c =
    omega (
      arith,
      ap length c.loop-done.invariant.pairs,
      width-pairs c.loop-done._done c.args.table.now.content,
      ap (λ (u : TableContent). u.width) c.loop-done.invariant.long,
      c.requires.width,
    )

pub turn-requires-clause-narrow : goal.turn-requires-clause-narrow
turn-requires-clause-narrow c =
    let k = c.loop-done._done in
    let t = c.args.table.now.content in
    omega (
      arith,
      ap (λ (u : TableContent). u.width) (next_long k t c.loop-done.long.content c.loop-done.invariant.long),
      width-grows (k + 1) c.args.turns t (omega (arith, c.loop-done-test.true)),
      c.requires.narrow,
    )

pub turn-requires-clause-long : goal.turn-requires-clause-long
turn-requires-clause-long c =
    let t = c.args.table.now.content in
    let long = filter is_long (run c.loop-done._done t).terms in
    subst (All (λ (u : Term). is_long u ≡ true))
    (sym (ap (λ (u : TableContent). u.terms) c.loop-done.invariant.long))
    (All-from_recursion (λ (u : Term). is_long u ≡ true) long (filter-yes is_long (run c.loop-done._done t).terms))

pub loop-done-preserved : goal.loop-done-preserved
loop-done-preserved c =
    let k = c.loop-done._done in
    let t = c.args.table.now.content in
    let old = c.loop-done.invariant in
    record {
      long = c.in_ok-turn.ensures.next ∙ next_long k t c.loop-done.long.content old.long;
      pairs =
          c.in_ok-turn.ensures.pairs
          ∙ (λ i. old.pairs i ++ next_before (front_pair (old.long i).terms) [])
          ∙ sym (pairs-next k t);
    }
