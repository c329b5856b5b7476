use Rattle.basic_solve.proofs.Common.{[], ◌≡◌, ◌+◌, ◌-◌, ◌^◌, suc, ◌∙◌, ap, arith, length, map, get_or, false, length-append, length-map, get_or-map, energy, form_of, all_bits, index_of}
use Rattle.basic_solve.proofs.BitPlaces.{bits-length}
use Rattle.basic_solve.proofs.WayBack.{begun_more, first_least}
use Rattle.basic_solve.proofs.way_back.chosen_state.Goals as goal

pub loop-node-preserved : goal.loop-node-preserved
loop-node-preserved c =
    let m = c.args.model.now in
    let y = c.loop-node.y.items in
    let step = c.model.inside.nodes - 1 - c.loop-node.node in
    let nodes = ap (λ w. w.nodes) c.model.view_is in
    let at : length y + suc step ≡ m.nodes = omega (arith, nodes, c.loop-node.invariant.0) in
    let choices = c.args.choices.now in
    let count = length-map choices all_bits in
    let item = get_or-map all_bits choices step [] [] (omega (arith, at, c.requires.chosen.count, count)) in
    let index = c.index_of-index.ensures.value in
    let set = c.list.ensures.listed in
    let bits = c.list-in-loop-node.ensures.listed in
    let bit_is : c.bit.result ≡ get_or (get_or (map all_bits choices) step [])
    (index_of y (get_or c.args.sets.now step [])) false =
    cc (c.bit.ensures, index, c.deref.ensures.value, set, bits) in
    let pushed = c.in_ok-push.ensures.items in (
      ap length pushed ∙ length-append y _ ∙ ap (λ n. n + 1) c.loop-node.invariant.0,
      rw pushed
          (begun_more m.nodes (energy (form_of m)) c.args.sets.now (map all_bits choices) y step _
          c.requires.chosen c.loop-node.invariant.1 at bit_is),
    )

pub bit-requires : goal.bit-requires
bit-requires c =
    let step = c.model.inside.nodes - 1 - c.loop-node.node in
    let nodes = ap (λ w. w.nodes) c.model.view_is in
    let at : length c.loop-node.y.items + suc step ≡ c.args.model.now.nodes = omega (arith, nodes, c.loop-node.invariant.0) in
    let choices = c.args.choices.now in
    let item = ap length (get_or-map all_bits choices step [] [] (omega (arith, at, c.requires.chosen.count, length-map choices all_bits))) in
    let listed = ap length c.list-in-loop-node.ensures.listed in
    let count = (c.requires.chosen.each step (omega (arith, at))).count in
    omega (arith, c.index_of-index.ensures.bound, ap (λ l. 2 ^ length l) c.list.ensures.listed, bits-length)

pub returns : goal.returns
returns c =
    let nodes = ap (λ w. w.nodes) c.model.view_is in
    first_least (form_of c.args.model.now) c.loop-node.y.items c.loop-node.invariant.1
    (omega (arith, nodes))
