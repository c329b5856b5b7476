use Rattle.quadratization.proofs.Common.{rules, w128, to_z-of_z}
use Rattle.quadratization.proofs.ProblemTerms.{place_set, place_small, places_if_ok}
use Rattle.quadratization.proofs.gathered.DirectTermsGather.gather.Goals as goal

pub add-requires-clause-set : goal.add-requires-clause-set
add-requires-clause-set c =
    place_set c.args.self.now c.args.literals.now c.args.coefficient c.requires.0 c.requires.1

pub add-requires-clause-small : goal.add-requires-clause-small
add-requires-clause-small c =
    let back = to_z-of_z w128 c.args.coefficient (search rules) in
    rw back (place_small c.args.self.now c.args.literals.now c.args.coefficient c.requires.0 c.requires.1)

pub returns-clause-takes : goal.returns-clause-takes
returns-clause-takes c more room =
    places_if_ok _ _ _ _ _ _ _ (to_z-of_z w128 c.args.coefficient (search rules)) room c.add.ensures.width c.add.ensures.total
