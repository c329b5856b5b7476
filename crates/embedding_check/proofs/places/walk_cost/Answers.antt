use Rattle.embedding_check.proofs.Common.{◌<◌, length, get_or, arith, IsCoupler}
use Rattle.embedding_check.proofs.PlacedRows.{no_entry}
use Rattle.embedding_check.proofs.places.walk_cost.Goals as goal

pub list-requires : goal.list-requires
list-requires c =
    let row = c.args.row.now in
    let k = c.loop-k.k in
    let below : k < length row = omega arith in
    let coupler : IsCoupler (length c.args.chains.now) (get_or row k no_entry) = c.requires k no_entry below in
    omega (arith, coupler.within, c.second.ensures no_entry)
