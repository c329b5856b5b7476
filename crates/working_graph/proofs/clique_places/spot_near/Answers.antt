use Rattle.working_graph.proofs.Common.{◌≡◌, ◌+◌, ◌-◌, ◌*◌, ◌/◌, ◌%◌, ◌<◌, ◌≤◌, ap, sym, ◌∙◌, arith, nat_tests, div-mul-add, mod-mul-add}
use Rattle.working_graph.proofs.clique_places.spot_near.Goals as goal

pub returns-then-node-start-clause-spot : goal.returns-then-node-start-clause-spot
returns-then-node-start-clause-spot c =
    let shore = c.args.graph.now.shore in
    let cell = c.args.other.cell in
    let node = c.args.node in
    let low = c.if-start-node.true in
    let high = c.if-node-start.true in
    let from : cell * shore ≤ node = grind (arith, nat_tests) in
    let inside : node - cell * shore < shore = grind (arith, nat_tests) in
    let back : cell * shore + (node - cell * shore) ≡ node = omega (arith, from) in
    let is = sym (ap (λ n. n / shore) (sym back) ∙ div-mul-add cell shore (node - cell * shore) inside) in
    let at = sym (ap (λ n. n % shore) (sym back) ∙ mod-mul-add cell shore (node - cell * shore) inside) in
    λ i. record { cell = is i; at = at i }
