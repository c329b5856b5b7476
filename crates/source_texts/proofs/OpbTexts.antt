-- OPB texts: their problems stand for what they say.
use Rattle.source_texts.proofs.Common.{◌≡◌, List, Ok, refl, Word, ◌>>=◌, normal_form, reading_of_words, Slack, own, plain}
use Rattle.command_words.specs.declared.commands.Format.TheVariants as formats
use Rattle.opb_reader.specs.Cost.{form_of, problem_of, problem_of_words}
use Rattle.opb_reader.proofs.ReadCosts.{reading_keeps_costs}
use Rattle.source_texts.specs.Sources as sources
use Rattle.source_texts.proofs.Readings.{AreRead, kept_as, read_alike}

pub opb_read : AreRead form_of (λ s. plain (problem_of s))
opb_read =
    read_alike form_of _ (λ s. record { width = refl; costs = reading_keeps_costs s })
    (λ s. (refl, refl, refl, refl))

-- words are read into the problem of their reader
pub opb_words : (slack : Slack) (ws : List Word)
    → sources.problem_of_words slack formats.Opb ws ≡ (problem_of_words ws >>= λ p. Ok (own p))
unfolding problem_of_words
opb_words slack ws = kept_as (reading_of_words ws) (λ s. normal_form (problem_of s)) own
