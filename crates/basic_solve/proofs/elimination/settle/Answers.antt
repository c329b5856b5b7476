use Rattle.basic_solve.proofs.Common.{◌≡◌, ◌∙◌, ◌*◌, ◌<◌, sym, ap, arith, length, map, length-map}
use Rattle.basic_solve.proofs.BitTables.{written_items}
use Rattle.basic_solve.proofs.BitPlaces.{bits-at, bits-length}
use Rattle.basic_solve.proofs.elimination.settle.Goals as goal

pub returns : goal.returns
returns g c =
    let value = g.T.Number.value in
    let before = c.write_table.new.values in
    let bytes = c.write_choices.new.bytes.items in
    let first = c.deref.ensures.value in
    let news = c.take_lesser.new.values in
    let mine = c.deref_mut.ensures.value in
    let count = length-map before.items value in
    let long : length news ≡ length before.items
    = omega (arith, c.take_lesser.auto.values, ap length mine) in
    let items = ap (map value) (written_items before.len news before.items (omega (arith, before.ok.0)) long) in
    let many = c.in_ok-write_choices.ensures.count in
    record {
      zeros = map value before.items;
      ones = map value c.write_table-2.new.values.items;
      zero = c.in_ok-write_table.ensures;
      one = c.in_ok-write_table-2.ensures;
      bit_count = omega (arith, count, ap length first, many, bits-length bytes (8 * length bytes));
      bit = λ x l.
          let lt : x < length c.deref.result.now = omega (arith, l, count, ap length first) in
          let at = bits-at bytes (8 * length bytes) x (omega (arith, lt, many)) in
          cc (at, c.in_ok-write_choices.ensures.bits x lt, c.deref-2.ensures.value, first);
      count = ap length items ∙ length-map news value ∙ long ∙ sym count;
      lesser = λ x l.
          let least = c.take_lesser.ensures x (omega (arith, l, count, ap length mine)) in
          cc (items, least, mine, c.deref-3.ensures.value);
    }

-- both tables have as many numbers
pub write_choices-requires : goal.write_choices-requires
write_choices-requires g c =
    omega (arith, ap length c.deref.ensures.value, ap length c.deref-2.ensures.value, c.in_ok-write_table.ensures.count, c.in_ok-write_table-2.ensures.count, length-map c.write_table.new.values.items g.T.Number.value, length-map c.write_table-2.new.values.items g.T.Number.value)

pub take_lesser-requires : goal.take_lesser-requires
take_lesser-requires g c =
    omega (arith, ap length c.deref_mut.ensures.value, ap length c.deref-3.ensures.value, c.in_ok-write_table.ensures.count, c.in_ok-write_table-2.ensures.count, length-map c.write_table.new.values.items g.T.Number.value, length-map c.write_table-2.new.values.items g.T.Number.value)
