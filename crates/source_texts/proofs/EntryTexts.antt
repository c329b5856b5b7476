-- Texts of entries, QUBO and Ising: their problems stand for what they say.
use Rattle.source_texts.proofs.Common.{◌≡◌, List, Ok, refl, Word, ◌>>=◌, normal_form, Layout, listing_of, problem_of, reading_keeps_costs, Slack, own, plain}
use Rattle.command_words.specs.declared.commands.Format.TheVariants as formats
use Rattle.entry_reader.specs.declared.layout.Layout.TheVariants as layouts
use Rattle.entry_reader.specs.Problems.{problem_of_words}
use Rattle.entry_reader.specs.Cost.{form_of}
use Rattle.source_texts.specs.Sources as sources
use Rattle.source_texts.proofs.Readings.{AreRead, kept_as, read_alike}

pub entries_read : (layout : Layout) → AreRead (form_of layout) (λ s. plain (problem_of layout s))
entries_read layout =
    read_alike (form_of layout) _ (λ s. record { width = refl; costs = reading_keeps_costs layout s })
    (λ s. (refl, refl, refl, refl))

-- words are read into the problem of their reader
pub ising_words : (slack : Slack) (ws : List Word) → sources.problem_of_words slack formats.Ising ws
    ≡ (problem_of_words layouts.Ising ws >>= λ p. Ok (own p))
unfolding problem_of_words
ising_words slack ws =
    kept_as (listing_of layouts.Ising ws) (λ s. normal_form (problem_of layouts.Ising s)) own

pub qubo_words : (slack : Slack) (ws : List Word) → sources.problem_of_words slack formats.Qubo ws
    ≡ (problem_of_words layouts.Qubo ws >>= λ p. Ok (own p))
unfolding problem_of_words
qubo_words slack ws =
    kept_as (listing_of layouts.Qubo ws) (λ s. normal_form (problem_of layouts.Qubo s)) own
