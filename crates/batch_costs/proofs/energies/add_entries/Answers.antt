use Rattle.batch_costs.proofs.Common.{◌≡◌, ℤ, pos, get_or, ap, ◌∙◌, unsigned_abs, List, length, arith, sum_by, sum_by-cons, to_z, of_z, rules, w128, to_z-of_z, get_or-replicate, if_so, assignment, is_marked}
use Rattle.bits_model.specs.declared.output.Entry.{Entry}
use Rattle.bits_model.specs.Output.{bits_energy}
use Rattle.batch_costs.proofs.MarkedWords.{entry-marked, size-if_so, sums_begin, sums_left}
use Rattle.batch_costs.proofs.energies.add_entries.Goals as goal

pub loop-entry-init : goal.loop-entry-init
loop-entry-init c = record {
  places = ap length c.requires.zero;
  sums = λ k below.
      let none = ap (λ (sums : List ℤ). get_or sums k (pos 0)) c.requires.zero ∙ get_or-replicate 64 k (pos 0) (pos 0) below in
      sums_begin (bits_energy (assignment c.args.words.now k)) (λ (e : Entry). unsigned_abs e.weight)
      c.into_iter-entry-iterator.result c.args.entries.now _
      (c.into_iter-entry-iterator.ensures.into_iter_gives ∙ c.iter-entry-items.ensures) none;
}

pub add_marked-requires-clause-small : goal.add_marked-requires-clause-small
add_marked-requires-clause-small c = λ k below.
    let e = c.in-Some.entry in
    let size = λ (d : Entry). unsigned_abs d.weight in
    let left = ap (sum_by size) c.in-Some.ensures.steps ∙ sum_by-cons size e c.next.new.self in
    let number : to_z w128 (of_z w128 e.weight) ≡ e.weight = to_z-of_z w128 e.weight (search rules) in
    rw number (omega (arith, left, (c.loop-entry.invariant.sums k below).small, c.requires.small))

pub loop-entry-preserved : goal.loop-entry-preserved
loop-entry-preserved c = record {
  places = search rules;
  sums = λ k below.
      let x = assignment c.args.words.now k in
      let e = c.in-Some.entry in
      let number : to_z w128 (of_z w128 e.weight) ≡ e.weight = to_z-of_z w128 e.weight (search rules) in
      let value =
      ap (if_so (is_marked _ k)) number
      ∙ ap (λ b. if_so b e.weight) (entry-marked c.args.words.now e k _ _ c.word_of.ensures c.word_of-in-loop-entry.ensures) in
      sums_left (bits_energy x) (λ (d : Entry). unsigned_abs d.weight)
      c.loop-entry.entry-iterator c.next.new.self e _ _ _ _ _
      c.in-Some.ensures.steps value (size-if_so _ e.weight) (c.add_marked.ensures k below)
      (c.loop-entry.invariant.sums k below);
}
