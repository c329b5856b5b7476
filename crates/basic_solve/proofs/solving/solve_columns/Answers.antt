use Rattle.basic_solve.proofs.Eliminated.{narrow_all}
use Rattle.basic_solve.proofs.solving.solve_columns.Goals as goal

pub chosen_state-requires-clause-narrow : goal.chosen_state-requires-clause-narrow
chosen_state-requires-clause-narrow c =
    narrow_all c.args.model.now c.in_ok-sets.sets c.in_ok-sets.ensures.sets
