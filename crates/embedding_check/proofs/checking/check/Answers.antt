use Rattle.embedding_check.proofs.Common.{refl, err_from_is_err_and, IsValid, IsFault}
use Rattle.embedding_check.proofs.Checked.{checked_embeds}
use Rattle.embedding_check.proofs.Faulty.{if_fault, fault_invalid}
use Rattle.embedding_check.proofs.checking.check.Goals as goal

pub returns-in_err-layout : goal.returns-in_err-layout
returns-in_err-layout g c =
    let map = c.args.map.now in
    let p = err_from_is_err_and c.from_residual.result c.from_residual.ensures.1 in
    let fault = c.in_err-layout.ensures.fault in
    rw (p.1, p.2) (record {
      valid = tt;
      checked = tt;
      invalid = if_fault c.in_err-layout.field-0.0 (IsFault (g.H.Hardware.joined c.args.hardware.now) (g.H.Hardware.exists c.args.hardware.now) c.args.ising map)
          (λ x. IsValid (g.H.Hardware.joined c.args.hardware.now) (g.H.Hardware.exists c.args.hardware.now) c.args.ising map → ⊥)
          (fault_invalid (g.H.Hardware.joined c.args.hardware.now) (g.H.Hardware.exists c.args.hardware.now) c.args.ising map) fault;
      fault = fault;
    })

pub invariant_of-result : goal.invariant_of-result
invariant_of-result g c =
    let laid = c.in_ok-layout.ensures.laid in
    checked_embeds (g.H.Hardware.joined c.args.hardware.now) (g.H.Hardware.exists c.args.hardware.now) _ c.args.ising
    c.in_ok-layout.layout.chains _ (g.met.H.Hardware.few c.args.hardware.now) (g.met.H.Hardware.below c.args.hardware.now) laid.form laid.valid
    (record { ising = refl; chains = refl; qubits = c.qubits.ensures; parents = laid.parents; places = laid.places })
