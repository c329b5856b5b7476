use Rattle.quadratization.proofs.Common.{nat_tests, ◌≡◌, length, ap, arith, rules, terms_of}
use Rattle.quadratization.proofs.LongPlaces.{length-first_nodes, few_terms}
use Rattle.quadratization.proofs.long_table.LongTable.len.Goals as goal

pub returns-clause-count : goal.returns-clause-count
returns-clause-count c = grind (arith, nat_tests, length-first_nodes)

pub returns-clause-narrow : goal.returns-clause-narrow
returns-clause-narrow c =
    let t = terms_of c.self.inside.width c.self.inside.products in
    let here : c.len.result ≡ length c.self.inside.first_nodes.items = search rules in
    omega (arith, here, ap length c.self.invariant.numbered, length-first_nodes t.width t.terms, few_terms t c.self.invariant.kept)
