-- The problem that a text is read into stands for the source that the text says, and costs what it
-- does, and has its names, and the words of a text are read as the text is: a line a format.
use Rattle.source_texts.proofs.Common.{nat_tests, arith, ◌≡◌, ℕ, List, Ok, refl, None, Source, Format, Slack, Read, names_of, source_of, StandsBounded, CostsAs, ProblemsCostAsSources, WordsAreReadAsTexts}
use Rattle.command_words.specs.declared.commands.Format.TheVariants.{Wcnf, Opb, Wbo, Poly, Ising, Qubo}
use Rattle.entry_reader.specs.declared.layout.Layout.TheVariants as layouts
use Rattle.source_texts.specs.Sources.{problem_of}
use Rattle.source_texts.proofs.Bounded.{costs_bounded}
use Rattle.source_texts.proofs.Readings.{read_stands, read_costs}
use Rattle.source_texts.proofs.WcnfTexts.{wcnf_read}
use Rattle.source_texts.proofs.OpbTexts.{opb_read}
use Rattle.source_texts.proofs.WboTexts.{wbo_read}
use Rattle.source_texts.proofs.PolyTexts.{poly_read}
use Rattle.source_texts.proofs.EntryTexts.{entries_read}

pub problem_stands : (slack : Slack) (format : Format) (text : List ℕ) (r : Read) → problem_of slack format text ≡ Ok r
    → (s : Source) × (source_of slack format text ≡ Ok s) × StandsBounded s r
problem_stands slack Wcnf text r e = read_stands _ _ _ r wcnf_read e
problem_stands slack Opb text r e = read_stands _ _ _ r opb_read e
problem_stands slack Wbo text r e = read_stands _ _ _ r (wbo_read slack) e
problem_stands slack Poly text r e = read_stands _ _ _ r poly_read e
problem_stands slack Ising text r e = read_stands _ _ _ r (entries_read layouts.Ising) e
problem_stands slack Qubo text r e = read_stands _ _ _ r (entries_read layouts.Qubo) e

own_costs : (slack : Slack) (format : Format) (text : List ℕ) (r : Read) (s : Source)
    → problem_of slack format text ≡ Ok r → source_of slack format text ≡ Ok s → CostsAs None s r
own_costs slack Wcnf text r s e said = read_costs _ _ _ r s wcnf_read e said
own_costs slack Opb text r s e said = read_costs _ _ _ r s opb_read e said
own_costs slack Wbo text r s e said = read_costs _ _ _ r s (wbo_read slack) e said
own_costs slack Poly text r s e said = read_costs _ _ _ r s poly_read e said
own_costs slack Ising text r s e said = read_costs _ _ _ r s (entries_read layouts.Ising) e said
own_costs slack Qubo text r s e said = read_costs _ _ _ r s (entries_read layouts.Qubo) e said

pub problem_costs : ProblemsCostAsSources
problem_costs slack format text r s most e said =
    costs_bounded s r most (own_costs slack format text r s e said)

-- what is read has the names that the text says
pub names_read : (slack : Slack) (format : Format) (text : List ℕ) (r : Read) → problem_of slack format text ≡ Ok r
    → names_of format text ≡ r.names
names_read slack format text r e = grind (arith, nat_tests)

pub words_read : WordsAreReadAsTexts
words_read slack format text = refl
