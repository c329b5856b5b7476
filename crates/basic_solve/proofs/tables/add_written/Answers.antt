use Rattle.basic_solve.proofs.Common.{◌≡◌, ◌+◌, ◌+ℤ◌, ◌∷◌, [], ◌∙◌, ap, arith, pos, length, map, get_or, doubled}
use Rattle.basic_solve.proofs.BitTables.{written_items}
use Rattle.basic_solve.proofs.tables.add_written.Given.{Over}
use Rattle.basic_solve.proofs.tables.add_written.Goals.{After-deref}
use Rattle.basic_solve.proofs.tables.add_written.Goals as goal

-- the places that are written
written : (g : Over) (c : After-deref g) → c.deref.result.now ≡ doubled ◌+◌ (0 ∷ []) c.args.digits.now
written g c =
    let old = c.resize.new.self in
    c.deref.ensures.value
    ∙ written_items old.len c.write_places.new.places old.items (omega (arith, old.ok.0))
    (omega (arith, c.write_places.auto.places, ap length c.deref_mut.ensures.value))
    ∙ c.write_places.ensures

pub add_at-requires-clause-within : goal.add_at-requires-clause-within
add_at-requires-clause-within g c = λ x lt.
    let same = ap (λ ps. get_or ps x 0) (written g (goal.at.add_at-requires-clause-within g c).After-deref) in
    omega (arith, same, c.requires.within x)

pub returns : goal.returns
returns g c = λ x lt.
    c.add_at.ensures x lt
    ∙ ap (λ ps. get_or (map g.T.Number.value c.args.values.now) x (pos 0) +ℤ get_or (map g.T.Number.value c.args.from.now) (c.args.start + get_or ps x 0) (pos 0))
    (written g (goal.at.returns g c).After-deref)
