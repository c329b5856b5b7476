use Rattle.std.proofs.Common.{ℕ, ◌≡◌, length, drop, ap, arith}
use Rattle.std.proofs.lemmas.List.Folds.{list_any_more}
use Rattle.std.proofs.Math.Seq.{take-append_seam}
use Rattle.part_lists.specs.declared.parts.Part.TheVariants.{Qubit}
use Rattle.listed_graph.specs.Parts.{is_named}
use Rattle.listed_graph.proofs.Counts.{beyond_below}
use Rattle.listed_graph.specs.laws.ListedJoins.{named_beyond}
use Rattle.listed_graph.proofs.index.named_of.Goals as goal

pub mark-requires : goal.mark-requires
mark-requires c = λ q test.
    omega (
      arith,
      named_beyond _ q test,
      beyond_below c.args.parts.now c.loop-k.k (Qubit 0) c.loop-k-test.true,
      c.loop-k.invariant.0,
    )

pub loop-k-preserved : goal.loop-k-preserved
loop-k-preserved c =
    let new = c.mark.new.marks in
    let value = c.deref_mut.ensures.value in
    let whole : c.loop-k.marks.len ≡ length new = omega (arith, ap length value, c.mark.ensures.len) in
    let same = take-append_seam new (drop (length new) c.loop-k.marks.items) in
    let more = λ (q : ℕ). list_any_more (is_named q) c.args.parts.now c.loop-k.k (Qubit 0) c.loop-k-test.true in (
      cc (whole, same, value, c.mark.ensures.len, c.loop-k.invariant.0),
      λ q. cc (whole, same, value, c.mark.ensures.marked q, c.loop-k.invariant.1 q, more q),
    )

pub returns-clause-few : goal.returns-clause-few
returns-clause-few c =
    omega (arith, c.loop-k.invariant.0, c.count_of.ensures.value, c.count_of.ensures.few)
