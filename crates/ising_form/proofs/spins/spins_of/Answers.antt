use Rattle.ising_form.proofs.Common.{nat_tests, ℕ, ◌<◌, pos, to_z, of_z, w128, rules, ints, to_z-of_z, ◌+ℤ◌, unsigned_abs, take, get_or, length, sym, ap, ◌∙◌, arith, All-get_or, Entry, weight_within, weights-append, QuadContent, IsQuad, IsCoupler, node_entries, spins_constant, spins_fields, raised, length-fields}
use Rattle.ising_form.proofs.CouplerSteps.{taken, next_taken, all_taken}
use Rattle.ising_form.proofs.FieldSums.{node_total, size-fields, size-constant, constant_coupled, fields_coupled}
use Rattle.ising_form.proofs.spins.spins_of.Goals as goal

-- a coupler of the list is one of the form
place : (q : QuadContent) (i : ℕ) → IsQuad q → i < length q.couplers
    → IsCoupler (length q.diagonal) (get_or q.couplers i (record { first = 0; second = 0; weight = pos 0 }))
place q i quad h = All-get_or (IsCoupler (length q.diagonal)) q.couplers i _ h quad.couplers

pub add-requires : goal.add-requires
add-requires c =
    let q : QuadContent = record { constant = c.args.constant; diagonal = c.args.nodes.items; couplers = c.args.couplers.now } in
    let d : Entry = record { first = 0; second = 0; weight = pos 0 } in
    let i = taken q.couplers c.loop-coupler.coupler-iterator in
    let step = next_taken q.couplers _ _ c.in-Some.coupler d c.loop-coupler.invariant.here c.in-Some.ensures.steps in
    let is = place q i c.requires.quad step.below in
    let width = ap length c.loop-coupler.invariant.fields ∙ length-fields _ 0 q.diagonal in
    let back = ap unsigned_abs (to_z-of_z w128 c.args.constant (search rules)) in
    let sum = ap unsigned_abs c.loop-coupler.invariant.constant in
    let sizes = ap (node_total 0) c.loop-coupler.invariant.fields in
    let own = ap (λ (e : Entry). unsigned_abs e.weight) step.item in
    let within = weight_within q.couplers i d step.below in
    let both = weights-append (node_entries 0 q.diagonal) q.couplers in record {
      first = omega (arith, is.upward, is.within, width, ap (λ (e : Entry). e.first) step.item);
      second = omega (arith, is.within, width, ap (λ (e : Entry). e.second) step.item);
      constant = omega (arith, sum, back, size-constant, within, own, both, c.requires.small);
      fields = omega (arith, sizes, size-fields q.diagonal (take i q.couplers), within, own, both, c.requires.small);
    }

pub loop-coupler-preserved : goal.loop-coupler-preserved
loop-coupler-preserved c =
    let k = to_z w128 (of_z w128 c.args.constant) in
    let q : QuadContent = record { constant = c.args.constant; diagonal = c.args.nodes.items; couplers = c.args.couplers.now } in
    let es = q.couplers in
    let d : Entry = record { first = 0; second = 0; weight = pos 0 } in
    let e = c.in-Some.coupler in
    let i = taken es c.loop-coupler.coupler-iterator in
    let step = next_taken es _ _ e d c.loop-coupler.invariant.here c.in-Some.ensures.steps in
    let is = place q i c.requires.quad step.below in
    let first : (get_or es i d).first < length q.diagonal = omega (arith, is.upward, is.within) in
    record {
      here = step.here;
      constant = c.add.ensures.constant ∙ ap (λ z. z +ℤ e.weight) c.loop-coupler.invariant.constant
          ∙ ap (λ (x : Entry). spins_constant k q.diagonal (take i es) +ℤ x.weight) step.item
          ∙ sym (constant_coupled k q.diagonal es i d step.below)
          ∙ ap (λ n. spins_constant k q.diagonal (take n es)) (sym step.next);
      fields = c.add.ensures.fields
          ∙ ap (λ hs. raised (raised hs e.first e.weight) e.second e.weight) c.loop-coupler.invariant.fields
          ∙ ap (λ (x : Entry). raised (raised (spins_fields q.diagonal (take i es)) x.first x.weight) x.second x.weight) step.item
          ∙ sym (fields_coupled q.diagonal es i d step.below first is.within)
          ∙ ap (λ n. spins_fields q.diagonal (take n es)) (sym step.next);
    }

pub returns-clause-constant : goal.returns-clause-constant
returns-clause-constant c = grind (arith, nat_tests, ints, to_z-of_z, all_taken)

pub returns-clause-fields : goal.returns-clause-fields
returns-clause-fields c = grind (arith, nat_tests, all_taken)
