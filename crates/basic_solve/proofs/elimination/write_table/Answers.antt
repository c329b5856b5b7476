use Rattle.basic_solve.proofs.Common.{◌≡◌, ◌+ℤ◌, ◌∙◌, ◌++◌, ◌∷◌, ◌^◌, [], refl, ap, sym, arith, length, map, to_z, of_z, unsigned_abs, w128, sum_by, ints, drop_all, length-map, total_by, IsPassedTo, base_of, most, sum_where, table_energy, value_at, sum_by-drop_more}
use Rattle.basic_solve.proofs.ListSums.{total_left}
use Rattle.basic_solve.proofs.BitTables.{written_items, base-small, begun-length, begun_holds, begun-small}
use Rattle.basic_solve.proofs.PassedTables.{pow-few}
use Rattle.basic_solve.proofs.elimination.write_table.Goals as goal

pub write_doubled-requires-clause-count : goal.write_doubled-requires-clause-count
write_doubled-requires-clause-count g c =
    let few = pow-few (length c.args.nodes.now) c.requires.few in
    let same = ap (λ l. 2 ^ length l) c.deref.ensures.value in
    let steps = ap (λ n. 2 ^ n) c.in_ok-steps.ensures.count in
    omega (arith, ap length c.deref_mut.ensures.value, c.in_ok-resize.ensures, few, same, steps)

pub write_doubled-requires-clause-small : goal.write_doubled-requires-clause-small
write_doubled-requires-clause-small g c =
    let small = base-small c.args.kind c.args.bit c.args.entries.now in
    let base : to_z w128 (of_z w128 c.base.result) ≡ total_by (base_of c.args.kind c.args.bit) c.args.entries.now
    = omega (arith, ints, c.base.ensures, small, c.requires.light) in
    let steps = ap (sum_by unsigned_abs) c.deref.ensures.value in
    omega (arith, ap unsigned_abs base, small, steps, c.in_ok-steps.ensures.size, c.requires.small)

pub loop-table-init : goal.loop-table-init
loop-table-init g c =
    let nodes = c.args.nodes.now in
    let b = to_z w128 (of_z w128 c.base.result) in
    let small = base-small c.args.kind c.args.bit c.args.entries.now in
    let base : b ≡ total_by (base_of c.args.kind c.args.bit) c.args.entries.now
    = omega (arith, ints, c.base.ensures, small, c.requires.light) in
    let same = c.deref.ensures.value in
    let news = c.write_doubled.new.values in
    let olds = c.resize.new.values in
    let sized : length news ≡ length olds.items
    = omega (arith, c.write_doubled.auto.values, ap length c.deref_mut.ensures.value) in
    let all = ap (map g.T.Number.value) (written_items olds.len news olds.items (omega (arith, olds.ok.0)) sized) in
    let long : length c.deref.result.now ≡ length nodes = ap length same ∙ c.in_ok-steps.ensures.count in
    let is = c.write_doubled.ensures in
    let le = begun-small c.args.kind c.args.node c.args.bit nodes c.args.entries.now (b ∷ []) _ _ b long refl base is
    (omega (arith, ap (sum_by unsigned_abs) same, c.in_ok-steps.ensures.size)) in (
      ap length all ∙ begun-length c.args.kind c.args.node c.args.bit nodes c.args.entries.now (b ∷ []) _ _ b long refl base is,
      λ y w.
          let more = total_by (table_energy (y ++ c.args.bit ∷ [])) c.args.tables.now in
          ap (λ vs. value_at nodes vs y +ℤ more) all ∙ ap (λ s. s +ℤ more)
          (begun_holds c.args.kind c.args.node c.args.bit nodes c.args.entries.now (b ∷ []) _ _ b long refl base is c.requires.own
          (λ z. ap (sum_where z nodes) same ∙ c.in_ok-steps.ensures.sums z) y w),
      omega (arith, ap most all, le),
    )

pub add_table-requires-clause-count : goal.add_table-requires-clause-count
add_table-requires-clause-count g c =
    ap length c.deref_mut-in-loop-table.ensures.value
    ∙ sym (length-map c.loop-table.values.items g.T.Number.value) ∙ c.loop-table.invariant.0

pub add_table-requires-clause-small : goal.add_table-requires-clause-small
add_table-requires-clause-small g c =
    let same = ap (λ l. most (map g.T.Number.value l)) c.deref_mut-in-loop-table.ensures.value in
    let left = sum_by-drop_more (λ t. most t.values) c.args.tables.now c.loop-table.table-index c.table-item.result c.loop-table-test.true in
    omega (arith, same, left, ap (λ t. most t.values) c.table-item.is, c.loop-table.invariant.2, c.requires.small)

pub loop-table-preserved : goal.loop-table-preserved
loop-table-preserved g c =
    let value = g.T.Number.value in
    let nodes = c.args.nodes.now in
    let tables = c.args.tables.now in
    let at = c.loop-table.table-index in
    let t = c.table-item.result in
    let within = c.loop-table-test.true in
    let so_far = c.loop-table.invariant in
    let before = c.loop-table.values.items in
    let is = c.deref_mut-in-loop-table.ensures.value in
    let olds = ap (map value) is in
    let news = c.add_table.new.values in
    let passed : IsPassedTo c.args.node nodes t = rw c.table-item.is (c.requires.passed at t within) in
    let long : length news ≡ length before = omega (arith, c.add_table.auto.values, ap length is) in
    let items = ap (map value) (written_items c.loop-table.values.len news before
    (omega (arith, c.loop-table.values.ok.0)) long) in (
      ap length items ∙ length-map news value ∙ long ∙ sym (length-map before value) ∙ so_far.0,
      λ y w.
          let f = table_energy (y ++ c.args.bit ∷ []) in
          let new = ap (λ l. value_at nodes l y) items in
          let old = ap (λ l. value_at nodes l y) olds in
          let added = c.in_ok-add_table.ensures.holds c.args.node y passed w in
          let left = total_left f tables at t within in
          omega (arith, ints, new, old, added, left, ap f c.table-item.is, so_far.1 y w),
      let left = sum_by-drop_more (λ t. most t.values) tables at t within in
          let same = ap (λ t. most t.values) c.table-item.is in
          let small = c.in_ok-add_table.ensures.small in
          omega (arith, ap most items, ap most olds, small, left, same, so_far.2),
    )

pub returns : goal.returns
returns g c =
    let none = drop_all c.loop-table.table-index c.args.tables.now (omega (arith, c.loop-table-test.false)) in
    let so_far = c.loop-table.invariant in
    record {
      count = so_far.0;
      holds = λ y w. omega (arith, ints, so_far.1 y w, ap (total_by (table_energy (y ++ c.args.bit ∷ []))) none);
      small = omega (arith, so_far.2);
    }
