use Rattle.posiform_check.proofs.Common.{rules, sym, ◌∙◌, ℤ, first_of, ◌≡◌, ◌≢◌, None, Some, ◌-ℤ◌, refl, to_z, of_z, arith, w128, ints, to_z-of_z, energy, form_of, size-energy, certificate_list, model_list, first_negative, difference, nat_tests}
use Rattle.posiform_check.proofs.FirstFaults.{first_faults_tell}
use Rattle.posiform_check.specs.declared.faults.ProofFault.TheVariants.{NotZero}
use Rattle.posiform_check.proofs.proving.prove.Goals as goal

-- ---- what an energy tells where nothing else is wrong

equal_tells : (e bound : ℤ) → e ≡ bound → first_of None None (e -ℤ bound) ≡ None
equal_tells e bound same = grind (arith, nat_tests, ints)

above_tells : (e bound : ℤ) → e ≢ bound → first_of None None (e -ℤ bound) ≡ Some (NotZero (e -ℤ bound))
above_tells e bound differ = grind (arith, nat_tests, ints)

pub returns-in-Some-clause-first : goal.returns-in-Some-clause-first
returns-in-Some-clause-first c =
    let line : first_negative c.args.certificate.now.lines ≡ Some c.in-Some.line = search rules in
    rw line refl

pub returns-in-Some-2-clause-first : goal.returns-in-Some-2-clause-first
returns-in-Some-2-clause-first c =
    let cert = c.args.certificate.now in
    let none : first_negative cert.lines ≡ None = search rules in
    let ours = c.in-Some-2.ours in
    let theirs = c.in-Some-2.theirs in
    let found : Some (ours, theirs)
    ≡ difference (model_list c.args.model.now) (certificate_list cert) = search rules in
    let our_own : to_z w128 (of_z w128 ours) ≡ ours = to_z-of_z w128 ours (search rules) in
    let their_own : to_z w128 (of_z w128 theirs) ≡ theirs = to_z-of_z w128 theirs (search rules) in
    rw (our_own, their_own, none, ← found) refl

pub returns-in-Some-2-clause-refused : goal.returns-in-Some-2-clause-refused
returns-in-Some-2-clause-refused c =
    (first_faults_tell c.args.model.now c.args.certificate.now c.args.y.now).some _
    (returns-in-Some-2-clause-first c)

pub above-requires-clause-energy : goal.above-requires-clause-energy
above-requires-clause-energy c =
    let m = c.args.model.now in
    let value : to_z w128 (of_z w128 c.total_energy-energy.result)
    ≡ energy (form_of m) c.args.y.now = search rules in
    rw value (omega (arith, size-energy m.kind c.args.y.now m.entries, c.requires.small))

pub returns-then-energy-certificate-clause-first : goal.returns-then-energy-certificate-clause-first
returns-then-energy-certificate-clause-first c =
    let m = c.args.model.now in
    let cert = c.args.certificate.now in
    let none : first_negative cert.lines ≡ None = search rules in
    let found : None ≡ difference (model_list m) (certificate_list cert) = search rules in
    let value : c.total_energy-energy.result ≡ energy (form_of m) c.args.y.now = search rules in
    let over : to_z w128 (of_z w128 c.above.result) ≡ c.total_energy-energy.result -ℤ cert.bound =
    search rules in
    let differ : c.total_energy-energy.result ≢ cert.bound = search rules in
    rw (over, none, ← found, value) (above_tells _ cert.bound (λ e. differ (value ∙ e)))

pub returns-then-energy-certificate-clause-refused :
    goal.returns-then-energy-certificate-clause-refused
returns-then-energy-certificate-clause-refused c =
    (first_faults_tell c.args.model.now c.args.certificate.now c.args.y.now).some _
    (returns-then-energy-certificate-clause-first c)

pub returns-clause-faultless : goal.returns-clause-faultless
returns-clause-faultless c =
    let m = c.args.model.now in
    let cert = c.args.certificate.now in
    let none : first_negative cert.lines ≡ None = search rules in
    let found : None ≡ difference (model_list m) (certificate_list cert) = search rules in
    let value : c.total_energy-energy.result ≡ energy (form_of m) c.args.y.now = search rules in
    let equal : c.total_energy-energy.result ≡ cert.bound = search rules in
    rw (none, ← found) (equal_tells _ cert.bound (sym value ∙ equal))

pub returns-clause-proved : goal.returns-clause-proved
returns-clause-proved c =
    (first_faults_tell c.args.model.now c.args.certificate.now c.args.y.now).none.0
    (returns-clause-faultless c)
