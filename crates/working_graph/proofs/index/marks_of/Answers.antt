use Rattle.std.proofs.Common.{ℕ, ◌≡◌, length, drop, ap, arith}
use Rattle.std.proofs.lemmas.List.Folds.{list_any_more}
use Rattle.std.proofs.Math.Seq.{take-append_seam}
use Rattle.part_lists.specs.declared.parts.Part.TheVariants.{Qubit}
use Rattle.working_graph.specs.Working.{is_qubit}
use Rattle.working_graph.proofs.IndexedParts.{dead_below}
use Rattle.working_graph.proofs.index.marks_of.Goals as goal

pub mark-requires : goal.mark-requires
mark-requires c = λ q test.
    omega (
      arith,
      dead_below c.args.graph.now _ (c.requires c.loop-k.k _ c.loop-k-test.true) q test,
      c.loop-k.invariant.0,
    )

pub loop-k-preserved : goal.loop-k-preserved
loop-k-preserved c =
    let new = c.mark.new.marks in
    let value = c.deref_mut.ensures.value in
    let whole : c.loop-k.marks.len ≡ length new = omega (arith, ap length value, c.mark.ensures.len) in
    let same = take-append_seam new (drop (length new) c.loop-k.marks.items) in
    let more = λ (q : ℕ). list_any_more (is_qubit q) c.args.parts.now c.loop-k.k (Qubit 0) c.loop-k-test.true in (
      cc (whole, same, value, c.mark.ensures.len, c.loop-k.invariant.0),
      λ q. cc (whole, same, value, c.mark.ensures.marked q, c.loop-k.invariant.1 q, more q),
    )
