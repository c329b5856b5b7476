use Rattle.command_words.proofs.Graphs.{made_is_graph_with}
use Rattle.command_words.proofs.keys.graph_of.Goals as goal

pub returns : goal.returns
returns c =
    rw (c.in_ok-rows.was, c.in_ok-cols.was, c.in_ok-shore.was)
    (made_is_graph_with c.in_ok-rows.rows c.in_ok-cols.cols c.in_ok-shore.shore c.new.result
    c.new.ensures.made c.new.ensures.numbers)
