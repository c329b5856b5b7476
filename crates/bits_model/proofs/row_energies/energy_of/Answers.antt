use Rattle.bits_model.proofs.Common.{◌≡◌, ◌+ℤ◌, ap, sym, ◌∙◌, to_z, of_z, arith, w128, ints, total_by, total_by-append, bits_energy, weight_total}
use Rattle.bits_model.specs.declared.output.Kind.TheVariants.{Qubo}
use Rattle.bits_model.proofs.Energies.{size-energy, weights-append}
use Rattle.bits_model.proofs.row_energies.energy_of.Goals as goal

pub overflow_add-result : goal.overflow_add-result
overflow_add-result c =
    let y = c.args.y.now in
    let ns = c.entries.inside.nodes in
    let cs = c.entries.inside.couplers in
    let weights = sym (weights-append ns cs) ∙ ap weight_total c.entries.view_is in
    let first = size-energy Qubo y ns in
    let second = size-energy Qubo y cs in
    omega (arith, ints, weights, first, second, c.nodes_energy.ensures, c.rows_energy.ensures, c.requires)

pub returns-in-Qubo : goal.returns-in-Qubo
returns-in-Qubo c =
    let y = c.args.y.now in
    let ns = c.entries.inside.nodes in
    let cs = c.entries.inside.couplers in
    let weights = sym (weights-append ns cs) ∙ ap weight_total c.entries.view_is in
    let energies =
    sym (total_by-append (bits_energy y) ns cs) ∙ ap (total_by (bits_energy y)) c.entries.view_is in
    let first = size-energy Qubo y ns in
    let second = size-energy Qubo y cs in
    let value : to_z w128 (of_z w128 (to_z w128 (of_z w128 c.nodes_energy.result) +ℤ to_z w128 (of_z w128 c.rows_energy.result)))
    ≡ total_by (bits_energy y) c.args.entries.now =
    omega (arith, ints, energies, weights, first, second, c.nodes_energy.ensures, c.rows_energy.ensures, c.requires) in
    rw c.in-Qubo.is value
