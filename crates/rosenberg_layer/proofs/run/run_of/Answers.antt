use Rattle.rosenberg_layer.proofs.Common.{arith, IfOk-weaker}
use Rattle.rosenberg_layer.proofs.LongRuns.{all_long, fewer, nodes-narrow, table_long, terms-narrow}
use Rattle.rosenberg_layer.proofs.run.run_of.Goals as goal

pub run_of_long-requires-clause-table : goal.run_of_long-requires-clause-table
run_of_long-requires-clause-table c =
    table_long c.args.table.now.content c.args.width c.in_ok-long.long c.in_ok-long.ensures.kept
    c.requires.width c.in_ok-long.ensures.long

pub run_of_long-requires-clause-long : goal.run_of_long-requires-clause-long
run_of_long-requires-clause-long c =
    all_long c.args.table.now.content.terms c.in_ok-long.long c.in_ok-long.ensures.long

pub run_of_long-requires-clause-few : goal.run_of_long-requires-clause-few
run_of_long-requires-clause-few c =
    terms-narrow c.args.table.now.content c.in_ok-long.long c.requires.size c.in_ok-long.ensures.long

pub run_of_long-requires-clause-narrow : goal.run_of_long-requires-clause-narrow
run_of_long-requires-clause-narrow c =
    let t = c.args.table.now.content in
    omega (arith, c.requires.width, nodes-narrow t c.args.turns c.requires.size c.requires.turns)

pub returns-clause-few : goal.returns-clause-few
returns-clause-few c =
    IfOk-weaker c.run_of_long.result _ _
    (λ made few. fewer c.args.table.now.content.terms c.in_ok-long.long _ c.in_ok-long.ensures.long few)
    c.run_of_long.ensures.few
