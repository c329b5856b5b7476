use Rattle.poly_reader.proofs.Common.{length, ap, arith, few_words}
use Rattle.poly_reader.proofs.reading.read_poly_tokens.Goals as goal

pub read_with-requires-clause-few : goal.read_with-requires-clause-few
read_with-requires-clause-few c =
    omega (arith, c.requires, few_words c.args.text.now, ap length c.words.ensures)
