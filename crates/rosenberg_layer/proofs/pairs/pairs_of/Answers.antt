use Rattle.rosenberg_layer.proofs.LongRuns.{all_long, table_long}
use Rattle.rosenberg_layer.proofs.pairs.pairs_of.Goals as goal

pub run_of_long-requires-clause-table : goal.run_of_long-requires-clause-table
run_of_long-requires-clause-table c =
    table_long c.args.table.now.content c.args.width c.in_ok-long.long c.in_ok-long.ensures.kept
    c.requires.width c.in_ok-long.ensures.long

pub run_of_long-requires-clause-long : goal.run_of_long-requires-clause-long
run_of_long-requires-clause-long c =
    all_long c.args.table.now.content.terms c.in_ok-long.long c.in_ok-long.ensures.long
