use Rattle.elimination_order.proofs.Carried.{energy-carried, taken_back, first-taken_back}
use Rattle.elimination_order.proofs.Widths.{first_wider-named, none_wider-named}
use Rattle.elimination_order.proofs.laws.laws_of_numbers.Goals as goal

pub returns-clause-energies : goal.returns-clause-energies
returns-clause-energies c = energy-carried

pub returns-clause-back : goal.returns-clause-back
returns-clause-back c = taken_back

pub returns-clause-first : goal.returns-clause-first
returns-clause-first c = first-taken_back

pub returns-clause-widths : goal.returns-clause-widths
returns-clause-widths c most names numbers m r v w formed are same =
    first_wider-named names numbers m r formed are same most v w

pub returns-clause-narrow : goal.returns-clause-narrow
returns-clause-narrow c most names numbers m r formed are same =
    none_wider-named names numbers m r formed are same most
