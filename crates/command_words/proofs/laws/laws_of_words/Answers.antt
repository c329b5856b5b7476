use Rattle.command_words.proofs.AskedWords.{each_alone, each_graph, each_job, each_sample, no_graph_without, no_larger_graph}
use Rattle.command_words.proofs.KeyTable.{each_key, each_value, no_chains_twice}
use Rattle.command_words.proofs.SaidWords.{each_command, each_notice, no_others}
use Rattle.command_words.proofs.laws.laws_of_words.Goals as goal

pub returns : goal.returns
returns c = record {
  each_job = each_job;
  each_sample = each_sample;
  each_alone = each_alone;
  each_graph = each_graph;
  each_key = each_key;
  each_value = each_value;
  chains = no_chains_twice;
  without = no_graph_without;
  larger = no_larger_graph;
  each_notice = each_notice;
  each_command = each_command;
  no_other = no_others;
}
