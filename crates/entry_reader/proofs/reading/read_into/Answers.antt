use Rattle.entry_reader.proofs.Common.{nat_tests, arith, err_from_is_err_and, few_words}
use Rattle.entry_reader.proofs.Puttings.{problem_of_words-header, problem_of_words-bad}
use Rattle.entry_reader.proofs.reading.read_into.Goals as goal

pub returns-in_err-counts : goal.returns-in_err-counts
returns-in_err-counts c = grind (arith, nat_tests, err_from_is_err_and, problem_of_words-bad)

pub entries-requires-clause-short : goal.entries-requires-clause-short
entries-requires-clause-short c = grind (arith, nat_tests, few_words)

pub returns : goal.returns
returns c = grind (arith, nat_tests, problem_of_words-header)
