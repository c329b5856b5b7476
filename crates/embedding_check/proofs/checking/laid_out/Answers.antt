use Rattle.embedding_check.proofs.Common.{err_from_is_err_and}
use Rattle.embedding_check.proofs.checking.laid_out.Goals as goal

pub sorted_chains-requires : goal.sorted_chains-requires
sorted_chains-requires g c = rw c.in_ok-chains.ensures.same c.in_ok-check_apart.ensures.apart.once

pub parents_and_places-requires-clause-apart : goal.parents_and_places-requires-clause-apart
parents_and_places-requires-clause-apart g c =
    rw c.in_ok-chains.ensures.same c.in_ok-check_apart.ensures.apart

pub returns-in_err-parents : goal.returns-in_err-parents
returns-in_err-parents g c =
    let r = c.from_residual-in_err-parents in
    let p = err_from_is_err_and r.result r.ensures.1 in
    let fault = rw c.in_ok-chains.ensures.same at c.in_err-parents.ensures.fault in
    rw (p.1, p.2) (record { same = tt; laid = tt; fault = fault })
