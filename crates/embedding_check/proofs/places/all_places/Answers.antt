use Rattle.embedding_check.proofs.Common.{◌∙◌, arith, err_from_is_err_and}
use Rattle.embedding_check.proofs.places.all_places.Goals as goal

pub owners_of-requires : goal.owners_of-requires
owners_of-requires g c = record {
  within = rw c.qubits.ensures c.requires.chains.within;
  once = c.requires.chains.once;
  few = omega (arith, c.requires.few);
}

pub push_rows-requires : goal.push_rows-requires
push_rows-requires g c = record {
  none = c.in_ok-places.ensures.items;
  len = c.in_ok-noted.ensures.len ∙ c.len-2.ensures;
  owners = c.in_ok-owners.ensures.owners;
  all = c.in_ok-owners.ensures.len ∙ c.qubits.ensures;
  nodes = c.requires.nodes;
  chains = c.requires.chains;
  sorted = c.requires.sorted;
}

pub returns : goal.returns
returns g c = record { places = rw c.new-2.ensures c.in_ok-push_rows.ensures.places; fault = tt }

pub returns-in_err-push_rows : goal.returns-in_err-push_rows
returns-in_err-push_rows g c =
    let r = c.from_residual-in_err-push_rows in
    let p = err_from_is_err_and r.result r.ensures.1 in
    rw (p.1, p.2) (record { places = tt; fault = c.in_err-push_rows.ensures.fault })
