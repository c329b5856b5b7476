use Rattle.working_graph.proofs.Common.{◌≡◌, ℕ, ◌+◌, ◌*◌, ◌-◌, ◌/◌, ◌<◌, ◌≤◌, true, length, get_or, ap, subst, ◌∙◌, arith, mod-lt, Chimera, diagonal_of, clique_places, cell_of, pair_number, first_across, is_marked, IsParted}
use Rattle.working_graph.proofs.FreePlaces.{HasPassed, passed_more, place_in, BarsIn, place_below, unbarred}
use Rattle.working_graph.proofs.EmptyForm.{few_places}
use Rattle.working_graph.proofs.parting.is_parted_in.Goals.{At-loop-k}
use Rattle.working_graph.proofs.parting.is_parted_in.Goals as goal

-- the row is one of the diagonal
row_low : (graph : Chimera) (row place : ℕ) → row ≤ place / graph.shore → place < clique_places graph
    → row < diagonal_of graph
row_low graph row place low within = omega (arith, low, cell_of graph place within)

pub qubit_at-requires-clause-row : goal.qubit_at-requires-clause-row
qubit_at-requires-clause-row c =
    let low = row_low c.args.working.now.graph c.args.row c.args.place c.requires.row c.requires.place in
    rw c.graph-graph.ensures (omega (arith, low))

pub qubit_at-requires-clause-col : goal.qubit_at-requires-clause-col
qubit_at-requires-clause-col c =
    (place_in _ _ c.args.place c.graph-graph.ensures c.requires.place).1

pub qubit_at-requires-clause-at : goal.qubit_at-requires-clause-at
qubit_at-requires-clause-at c = mod-lt c.args.place c.graph-graph.result.shape.some_shore

pub qubit_at-requires-2-clause-row : goal.qubit_at-requires-2-clause-row
qubit_at-requires-2-clause-row c =
    let low = row_low c.args.working.now.graph c.args.row c.args.place c.requires.row c.requires.place in
    rw c.graph-graph.ensures (omega (arith, low))

pub qubit_at-requires-2-clause-col : goal.qubit_at-requires-2-clause-col
qubit_at-requires-2-clause-col c =
    (place_in _ _ c.args.place c.graph-graph.ensures c.requires.place).1

pub loop-k-init : goal.loop-k-init
loop-k-init c =
    let found = c.first_from-k.ensures in
    record {
      after = found.after;
      passed = λ i other low is bars. absurd (omega (arith, found.before i low, is));
    }

pub overflow_sub-cuts : goal.overflow_sub-cuts
overflow_sub-cuts c = c.loop-k.invariant.after c.loop-k.k (omega arith) c.loop-k-test.true

pub overflow_sub-cuts-in-loop-k : goal.overflow_sub-cuts-in-loop-k
overflow_sub-cuts-in-loop-k c = c.loop-k.invariant.after c.loop-k.k (omega arith) c.loop-k-test.true

pub overflow_mul-row : goal.overflow_mul-row
overflow_mul-row c =
    let graph = c.args.working.now.graph in
    let row = c.args.row in
    let same = ap (λ (h : Chimera). row * h.shore) c.graph-graph.ensures in
    let low = row_low graph row c.args.place c.requires.row c.requires.place in
    omega (arith, same, few_places graph, place_below graph row 0 low graph.shape.some_shore)

pub overflow_add-row : goal.overflow_add-row
overflow_add-row c =
    let graph = c.args.working.now.graph in
    let row = c.args.row in
    let other = get_or c.cuts-cuts.result.now c.loop-k.k 0 - c.pair_number-from.result in
    let shore = ap (λ (h : Chimera). h.shore) c.graph-graph.ensures in
    let same = ap (λ (h : Chimera). row * h.shore) c.graph-graph.ensures in
    let low = row_low graph row c.args.place c.requires.row c.requires.place in
    let below = place_below graph row other low (omega (arith, c.if-cuts-k.true, c.from.ensures, shore)) in
    omega (arith, same, few_places graph, below)

pub is_barred-requires-clause-other : goal.is_barred-requires-clause-other
is_barred-requires-clause-other c =
    let graph = c.args.working.now.graph in
    let same = c.graph-graph.ensures in
    let other = get_or c.cuts-cuts.result.now c.loop-k.k 0 - c.pair_number-from.result in
    let low = row_low graph c.args.row c.args.place c.requires.row c.requires.place in
    let shore = ap (λ (h : Chimera). h.shore) same in
    rw same (place_below graph c.args.row other low (omega (arith, c.if-cuts-k.true, c.from.ensures, shore)))

pub loop-k-preserved : goal.loop-k-preserved
loop-k-preserved c =
    passed_more c.cuts-cuts.result.now c.pair_number-from.result c.loop-k.k _
    c.loop-k.invariant c.loop-k-test.true
    (λ bars. c.is_barred.ensures.free c.if-is_barred.false bars.0 bars.1)

-- where no cut from k on is of the row, no marked place of the row is parted
free : (c : At-loop-k) → (c.loop-k.k < length c.cuts-cuts.result.now
    → get_or c.cuts-cuts.result.now c.loop-k.k 0 - c.pair_number-from.result
    < c.args.working.now.graph.shore → ⊥)
    → (u : ℕ) → u / c.args.working.now.graph.shore ≡ c.args.row
    → is_marked c.args.marks.now u ≡ true → IsParted c.args.working.now c.args.place u → ⊥
free c done =
    let w = c.args.working.now in
    let place = c.args.place in
    let row = c.args.row in
    let marks = c.args.marks.now in
    let cuts = c.cuts-cuts.result.now in
    let from = c.pair_number-from.result in
    let begins : from ≡ first_across w.graph place row =
    c.pair_number-from.ensures ∙ (λ i. pair_number (c.qubit_at.ensures i) (c.qubit_at-2.ensures i))
    ∙ ap (λ (h : Chimera). first_across h place row) c.graph-graph.ensures in
    let passed : HasPassed cuts from c.loop-k.k (BarsIn w marks place row) =
    subst (λ (h : Chimera). HasPassed cuts from c.loop-k.k
    (λ at. (is_marked marks (row * h.shore + at) ≡ true) × IsParted w place (row * h.shore + at)))
    c.graph-graph.ensures c.loop-k.invariant in
    unbarred w place row c.loop-k.k cuts from marks c.requires.place c.requires.row
    c.cuts-cuts.ensures.numbers begins c.cuts-cuts.ensures.rising passed done

pub returns-else-cuts-k-clause-free : goal.returns-else-cuts-k-clause-free
returns-else-cuts-k-clause-free c = λ _.
    let shore = ap (λ (h : Chimera). h.shore) c.graph-graph.ensures in
    free (goal.at.returns-else-cuts-k-clause-free c).At-loop-k
    (λ _ small. omega (arith, small, c.if-cuts-k.false, c.from.ensures, shore))

pub returns-after-loop-k-clause-free : goal.returns-after-loop-k-clause-free
returns-after-loop-k-clause-free c = λ _.
    free (goal.at.returns-after-loop-k-clause-free c).At-loop-k
    (λ here _. omega (arith, here, c.loop-k-test.false))
