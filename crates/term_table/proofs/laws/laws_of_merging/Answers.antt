use Rattle.term_table.proofs.RunLaws.{merging_sums, merging_keeps_terms}
use Rattle.term_table.proofs.laws.laws_of_merging.Goals as goal

pub returns : goal.returns
returns c = record { sums = merging_sums; terms = merging_keeps_terms }
