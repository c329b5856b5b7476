use Rattle.rosenberg_layer.proofs.Common.{◌≡◌, ◌+◌, ◌<◌, ℕ, List, [], length, get_or, set, refl, ap, ◌∙◌, arith, sym, subst, parts, start_of, length-parts}
use Rattle.rosenberg_layer.proofs.FlatSets.{put_within, put_parts}
use Rattle.rosenberg_layer.proofs.rings.Rings.put.Goals.{After-start_of-start}
use Rattle.rosenberg_layer.proofs.rings.Rings.put.Goals as goal

-- the list is one of those that lie flat, starts where the code says, and has the place
found : (c : After-start_of-start) → let codes = c.self.inside.codes.items in
    let ends = c.self.inside.ends.items in
    (c.args.i < length ends) × (c.start_of-start.result ≡ start_of ends c.args.i)
    × (c.args.place < length (get_or (parts codes 0 ends) c.args.i []))
    × (c.start_of-start.result + c.args.place < length codes)
found c =
    let codes = c.self.inside.codes.items in
    let ends = c.self.inside.ends.items in
    let within : c.args.i < length ends =
    omega (arith, c.requires.list, ap length c.self.view_is, length-parts codes 0 ends) in
    let start =
    c.start_of-start.ensures ∙ ap (λ (es : List ℕ). start_of es c.args.i) c.deref.ensures.value in
    let inside =
    subst (λ (ls : List (List ℕ)). c.args.place < length (get_or ls c.args.i []))
    (sym c.self.view_is) c.requires.place in
    (within, start, inside, put_within codes ends c.args.i _ _ c.self.invariant within start inside)

pub start_of-start-requires : goal.start_of-start-requires
start_of-start-requires c =
    omega (arith, ap length c.self.view_is, length-parts, ap length c.deref.ensures.value)

pub overflow_add-start : goal.overflow_add-start
overflow_add-start c = omega (arith, (found (goal.at.overflow_add-start c).After-start_of-start).3)

pub index_mut-requires : goal.index_mut-requires
index_mut-requires c = omega (arith, (found (goal.at.index_mut-requires c).After-start_of-start).3)

pub returns : goal.returns
returns c =
    let at = found (goal.at.returns c).After-start_of-start in
    let row = c.args.i in
    put_parts c.self.inside.codes.items c.self.inside.ends.items _ row c.args.place c.args.code _
    c.self.invariant at.0 at.1 at.2 refl
    ∙ ap (λ (ls : List (List ℕ)). set ls row (set (get_or ls row []) c.args.place c.args.code))
    c.self.view_is
