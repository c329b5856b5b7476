-- Weighted CNF texts: their problems stand for what they say.
use Rattle.source_texts.proofs.Common.{nat_tests, arith, ◌≡◌, ℕ, List, Ok, refl, append-nil, HasSameCosts, Word, ◌>>=◌, normal_form, Wcnf, reading, normal_reading, Read, Slack, own, plain, words_in}
use Rattle.problem_form.specs.Problems as problems
use Rattle.command_words.specs.declared.commands.Format.TheVariants as formats
use Rattle.wcnf_reader.specs.Wcnf.{reading_of_words}
use Rattle.wcnf_reader.specs.Cost.{form_of, problem_of, problem_of_words}
use Rattle.wcnf_reader.proofs.ReadCosts.{reading_keeps_costs}
use Rattle.source_texts.specs.Sources as sources
use Rattle.source_texts.proofs.Readings.{AreRead, kept_as, read_alike}

-- the problem of what a text says
abbrev kept : Wcnf → Read
kept s = plain (problem_of s)

same : (s : Wcnf) → HasSameCosts (problems.form_of (kept s).problem) (form_of s)
same s = record { width = refl; costs = reading_keeps_costs s }

pub wcnf_read : AreRead form_of (λ s. plain (problem_of s))
wcnf_read = read_alike form_of kept same (λ s. (refl, refl, refl, refl))

-- words are read into the problem of their reader
pub wcnf_words : (slack : Slack) (ws : List Word)
    → sources.problem_of_words slack formats.Wcnf ws ≡ (problem_of_words ws >>= λ p. Ok (own p))
unfolding problem_of_words
wcnf_words slack ws = kept_as (reading_of_words ws) (λ s. normal_form (problem_of s)) own

-- and so are texts
pub wcnf_problem : (slack : Slack) (text : List ℕ)
    → sources.problem_of slack formats.Wcnf text ≡ (normal_reading text >>= λ p. Ok (own p))
unfolding normal_reading reading
wcnf_problem slack text =
    kept_as (reading_of_words (words_in formats.Wcnf text)) (λ s. normal_form (problem_of s)) own

-- and have no constraints, so that there are no conflicts and no covers to be replaced
pub clauses_have_no_conflicts : sources.ClausesHaveNoConflicts
clauses_have_no_conflicts slack text r e = grind (arith, nat_tests, append-nil, same)
