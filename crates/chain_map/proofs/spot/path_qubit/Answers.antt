use Rattle.chain_map.proofs.Common.{◌≡◌, ◌+◌, ◌-◌, ◌<◌, sym, ◌∙◌, arith, diagonal_of}
use Rattle.chain_map.proofs.CliqueChains.{path_down, path_along}
use Rattle.chain_map.proofs.spot.path_qubit.Goals as goal

pub returns-then-steps-cell : goal.returns-then-steps-cell
returns-then-steps-cell c =
    let spot = c.args.spot in
    c.index.ensures.value
    ∙ sym (path_down c.args.graph.now spot.cell spot.at c.args.steps c.if-steps-cell.true)

pub returns-else-steps-cell : goal.returns-else-steps-cell
returns-else-steps-cell c =
    let i = c.args.spot.cell in
    let steps = c.args.steps in
    let next : steps - 1 + 1 ≡ steps = omega (arith, c.if-steps-cell.false) in
    let below : steps - 1 < diagonal_of c.args.graph.now = omega (arith, c.requires.steps, c.if-steps-cell.false) in
    let is = path_along c.args.graph.now i c.args.spot.at (steps - 1) (omega (arith, c.if-steps-cell.false)) below in
    cc (c.index-else-steps-cell.ensures.value)
