use Rattle.quadratization.proofs.Common.{unsigned_abs, sum_by-IsPermutation, ◌≡◌, ◌≤◌, ◌^◌, ◌++◌, [], List, length, ap, arith, All, flat_map, All-permutation, nil_from_length, All-weaker, recursion_from_All, IfOk-weaker, Entry, Term, IsPair, AreSummed, place_couplers, all_places, AreRows, node_count}
use Rattle.quadratization.proofs.LongPlaces.{enough_nodes}
use Rattle.quadratization.proofs.HeldSums.{rows-permuted}
use Rattle.quadratization.proofs.RowForms.{from_numbers, rows-summed}
use Rattle.quadratization.proofs.rows.couplers_of.Goals as goal

pub rows_of-requires-clause-ordered : goal.rows_of-requires-clause-ordered
rows_of-requires-clause-ordered c =
    let inside = All-permutation (IsPair _) _ _ c.in_ok-sorted.ensures.same c.requires.pairs in
    let pairs : All (IsPair (2 ^ 32)) c.in_ok-sorted.sorted =
    All-weaker (IsPair _) (IsPair (2 ^ 32))
    (λ (e : Entry) p. record { upward = p.upward; within = omega (arith, p.within, c.width.ensures.kept.narrow) })
    c.in_ok-sorted.sorted inside in
    from_numbers c.in_ok-sorted.sorted pairs c.in_ok-sorted.ensures.ordered

pub rows_of-requires-clause-pairs : goal.rows_of-requires-clause-pairs
rows_of-requires-clause-pairs c =
    All-permutation (IsPair c.args.long.now.width) _ _ c.in_ok-sorted.ensures.same c.requires.pairs

pub rows_of-requires-clause-small : goal.rows_of-requires-clause-small
rows_of-requires-clause-small c =
    omega (arith, sum_by-IsPermutation (λ (e : Entry). unsigned_abs e.weight) _ _ c.in_ok-sorted.ensures.same, c.requires.small)

pub returns : goal.returns
returns c =
    let t = c.args.long.now in
    let others = flat_map place_couplers (all_places t.terms t.width) in
    let Rows : List Entry → List Entry → Type 0 = λ ps es. AreRows (node_count t) t.width (ps ++ others) es in
    IfOk-weaker c.rows_of.result (Rows c.in_ok-sorted.sorted) (Rows c.args.pairs)
    (λ es rows. rows-permuted _ _ _ _ others es c.in_ok-sorted.ensures.same rows) c.rows_of.ensures

pub returns-then-node_count-width : goal.returns-then-node_count-width
returns-then-node_count-width c =
    let t = c.args.long.now in
    let same : node_count t ≡ t.width =
    omega (arith, c.node_count.ensures, c.if-node_count-width.true, c.width.ensures.width) in
    let long = recursion_from_All (λ (u : Term). 3 ≤ length u.0) t.terms c.width.ensures.kept.long in
    let none : t.terms ≡ [] = nil_from_length t.terms (omega (arith, enough_nodes t.terms long, same)) in
    let others = flat_map place_couplers (all_places t.terms t.width) in
    let no_others : others ≡ [] = ap (λ (ts : List Term). flat_map place_couplers (all_places ts t.width)) none in
    IfOk-weaker c.summed.result (AreSummed c.args.pairs)
    (λ (es : List Entry). AreRows (node_count t) t.width (c.args.pairs ++ others) es)
    (λ (es : List Entry) summed.
    rows-summed t.width (node_count t) c.args.pairs others es no_others (omega (arith, same)) c.requires.pairs summed)
    c.summed.ensures
