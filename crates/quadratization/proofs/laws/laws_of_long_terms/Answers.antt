use Rattle.quadratization.proofs.LongTerms.{constants_close, shares_close, couplers_close}
use Rattle.quadratization.proofs.laws.laws_of_long_terms.Goals as goal

pub returns : goal.returns
returns c = record { constants = constants_close; shares = shares_close; couplers = couplers_close }
