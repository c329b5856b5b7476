use Rattle.ising_form.proofs.Common.{◌≡◌, rules, spins_reaches}
use Rattle.ising_form.proofs.to_spins.ToSpinsLayer.extend.Goals as goal

pub returns-clause-reaches : goal.returns-clause-reaches
returns-clause-reaches c =
    let same : c.in_ok-to_vec.field-0.items ≡ c.args.x.now = search rules in
    rw same
    (spins_reaches c.args._link.now c.args._source.now c.args.x.now c.requires.fits c.requires.width)
