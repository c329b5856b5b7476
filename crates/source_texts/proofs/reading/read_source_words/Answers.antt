-- What the reader of a format makes of words is what they are read into.
use Rattle.source_texts.proofs.Common.{rules, ◌≡◌, List, Result, Ok, TextFault, TextAnswer, Gives, Word, words_of, Slack, Format, Read, problem_of_words, own, named, arith, nat_tests}
use Rattle.source_texts.proofs.Readings.{given}
use Rattle.source_texts.proofs.WcnfTexts.{wcnf_words}
use Rattle.source_texts.proofs.OpbTexts.{opb_words}
use Rattle.source_texts.proofs.WboTexts.{wbo_words}
use Rattle.source_texts.proofs.PolyTexts.{poly_words}
use Rattle.source_texts.proofs.EntryTexts.{ising_words, qubo_words}
use Rattle.source_texts.proofs.reading.read_source_words.Goals as goal

is_read : (slack : Slack) (format this : Format) (ws : List Word) (said : Result Read TextFault) (made : Result Read TextAnswer)
    → format ≡ this → problem_of_words slack this ws ≡ said → Gives (λ read. read) made said
    → Gives (λ read. read) made (problem_of_words slack format ws)
is_read slack format this ws said made is same g = rw (is, same) g

pub returns-in-Wcnf-clause-read : goal.returns-in-Wcnf-clause-read
returns-in-Wcnf-clause-read c =
    is_read c.args.slack _ _ (words_of c.args.text.now) _ _ c.in-Wcnf.is (wcnf_words c.args.slack _) (given own _ _ _ c.own.ensures.read c.read_wcnf_tokens.ensures)

pub returns-in-Opb-clause-read : goal.returns-in-Opb-clause-read
returns-in-Opb-clause-read c =
    is_read c.args.slack _ _ (words_of c.args.text.now) _ _ c.in-Opb.is (opb_words c.args.slack _) (given own _ _ _ c.own-in-Opb.ensures.read c.read_opb_tokens.ensures)

pub returns-in-Poly-clause-read : goal.returns-in-Poly-clause-read
returns-in-Poly-clause-read c =
    is_read c.args.slack _ _ (words_of c.args.text.now) _ _ c.in-Poly.is (poly_words c.args.slack _) (given named _ _ _ c.named.ensures.read c.read_poly_tokens.ensures)

pub returns-in-Ising-clause-read : goal.returns-in-Ising-clause-read
returns-in-Ising-clause-read c =
    is_read c.args.slack _ _ (words_of c.args.text.now) _ _ c.in-Ising.is (ising_words c.args.slack _) (given own _ _ _ c.own-in-Ising.ensures.read c.read_ising_tokens.ensures)

pub returns-in-Qubo-clause-read : goal.returns-in-Qubo-clause-read
returns-in-Qubo-clause-read c =
    is_read c.args.slack _ _ (words_of c.args.text.now) _ _ c.in-Qubo.is (qubo_words c.args.slack _) (given own _ _ _ c.own-in-Qubo.ensures.read c.read_qubo_tokens.ensures)

pub returns-in_err-read_wbo_tokens-in-Wbo-clause-read :
    goal.returns-in_err-read_wbo_tokens-in-Wbo-clause-read
returns-in_err-read_wbo_tokens-in-Wbo-clause-read c = grind (arith, nat_tests, wbo_words)

pub returns-in_ok-eased-in-Wbo-clause-read : goal.returns-in_ok-eased-in-Wbo-clause-read
returns-in_ok-eased-in-Wbo-clause-read c =
    is_read c.args.slack _ _ (words_of c.args.text.now) _ (Ok _) c.in-Wbo.is (wbo_words c.args.slack _) (search rules)
