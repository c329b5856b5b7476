use Rattle.posiform_check.proofs.Common.{rules, ◌≡◌, [], ◌∷◌, List, pos, neg_ℤ, ◌*ℤ◌, OnOk, sym, subst, arith, is_eq, to_z, of_z, w128, ints, on_ok_weaker, set_cmp, Term, entry_terms, coupling_sets, node_set, HasMore}
use Rattle.posiform_check.proofs.Sums.{nothing-given}
use Rattle.posiform_check.proofs.quick.take_entry.Goals as goal

pub returns-in-Qubo : goal.returns-in-Qubo
returns-in-Qubo c =
    rw c.in-Qubo.is (
    on_ok_weaker c.take_bits.result
    (λ more set. omega (arith, ints, more set, nothing-given (is_eq (set_cmp set []))))
    c.take_bits.ensures
    )

pub returns-then-entry : goal.returns-then-entry
returns-then-entry c =
    let e = c.args.entry in
    let terms : entry_terms c.args.kind e
    ≡ ([], neg_ℤ e.weight) ∷ (node_set e.first, pos 2 *ℤ e.weight) ∷ [] = search rules in
    let own : to_z w128 (of_z w128 e.weight) ≡ e.weight = search rules in
    let P = λ (ts : List Term).
    OnOk c.take_field.result (HasMore c.take_field.new.sums ts c.args.sums.now) in
    subst P (sym terms) (rw own at c.take_field.ensures)

pub returns-else-entry : goal.returns-else-entry
returns-else-entry c =
    let e = c.args.entry in
    let terms : entry_terms c.args.kind e
    ≡ ([], e.weight) ∷ coupling_sets e.first e.second e.weight = search rules in
    let P = λ (ts : List Term).
    OnOk c.take_coupling.result (HasMore c.take_coupling.new.sums ts c.args.sums.now) in
    subst P (sym terms) c.take_coupling.ensures
