use Rattle.std.proofs.Common.{refl}
use Rattle.whole_text.specs.Numbers.{digits_number, size_of, number_of}
use Rattle.whole_text.specs.Steps.{integer_at, natural_at}
use Rattle.whole_text.specs.Tokens.{words, pieces, is_comment, tokens_of_line, tokens_from, tokens_of}
use Rattle.wcnf_reader.specs.Wcnf.{wanted_word, header_number, at_line_end, top_at, header_at, literal_at, literals_at, clause_at, clauses_at, older_of, reading_of_words, reading}
use Rattle.run_tests.proofs.worked.the_reading.Goals as goal

pub returns : goal.returns
unfolding digits_number size_of number_of integer_at natural_at words pieces is_comment tokens_of_line tokens_from tokens_of wanted_word header_number at_line_end top_at header_at literal_at literals_at clause_at clauses_at older_of reading_of_words reading
returns c = refl
