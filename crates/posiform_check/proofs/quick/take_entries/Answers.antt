use Rattle.posiform_check.proofs.Common.{ap, arith, ints, flat_map, rest_more, coefficient_of, entry_terms}
use Rattle.posiform_check.proofs.Sums.{coefficients-append}
use Rattle.posiform_check.proofs.quick.take_entries.Goals as goal

pub loop-entry-preserved : goal.loop-entry-preserved
loop-entry-preserved c =
    let left = rest_more _ _ _ _ _ c.in-Some.is c.next.ensures.steps in
    let kind = c.args.kind in
    λ set.
    let same = ap (λ es. coefficient_of set (flat_map (entry_terms kind) es)) left in
    let coefficients_append = coefficients-append set (entry_terms kind c.in-Some.entry)
    (flat_map (entry_terms kind) c.next.new.self) in
    omega (arith, ints, c.loop-entry.invariant set, c.in_ok-take_entry.ensures set)
