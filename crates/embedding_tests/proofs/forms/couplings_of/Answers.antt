use Rattle.std.proofs.Common.{◌≡◌, unsigned_abs, slice_index_or, pos, to_z, of_z, sym, ap, subst, ◌∙◌, arith, rules}
use Rattle.std.specs.Int.{w128}
use Rattle.std.proofs.lemmas.Int.{to_z-of_z}
use Rattle.embedding_tests.proofs.SmallForms.{AreBelow, more_below, small_couplings}
use Rattle.embedding_tests.proofs.forms.couplings_of.Goals as goal

pub loop-k-preserved : goal.loop-k-preserved
loop-k-preserved c =
    let weight = (slice_index_or c.args.rows.now c.loop-k.k (0, 0, pos 0)).2 in
    let back : to_z w128 (of_z w128 weight) ≡ weight = to_z-of_z w128 weight (search rules) in
    let grown = subst (AreBelow c.args.nodes _) (sym c.in_ok-push.ensures.items)
    (more_below c.args.nodes c.loop-k.bound c.loop-k.entries.items _ c.loop-k.invariant.0
    (omega (arith, c.if-first-second.false)) (omega (arith, c.if-second-nodes.false))
    (λ e. c.if-weight-eq0.false (ap (of_z w128) (sym back ∙ e)))
    (omega (arith, ap unsigned_abs back, c.unsigned_abs.ensures.value, c.if-unsigned_abs-gt-GREATEST.false))
    (omega (arith, c.if-number-bound.false))) in
    (grown, omega (arith, c.in_ok-push.ensures.len, c.loop-k.invariant.1), omega (arith, c.loop-k-test.true))

pub returns : goal.returns
returns c =
    small_couplings c.args.nodes c.loop-k.bound c.loop-k.entries.items c.ranges.nodes.fits c.loop-k.invariant.0
    (omega (arith, c.loop-k.invariant.1, c.loop-k.invariant.2, c.requires))
