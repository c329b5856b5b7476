use Rattle.wcnf_reader.proofs.Common.{nat_tests, ap, length, arith, few_words}
use Rattle.wcnf_reader.proofs.reading.read_into.Goals as goal

pub older-requires-clause-short : goal.older-requires-clause-short
older-requires-clause-short c = grind (arith, nat_tests, few_words)

pub headerless-requires-clause-short : goal.headerless-requires-clause-short
headerless-requires-clause-short c =
    omega (arith, c.requires.short, few_words c.args.text.now, ap length c.words.ensures)
