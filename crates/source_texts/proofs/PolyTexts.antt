-- Polynomial texts: their problems stand for what they say.
use Rattle.source_texts.proofs.Common.{◌≡◌, List, Ok, refl, Word, ◌>>=◌, polynomial_of, polynomial_of_words, Slack, named}
use Rattle.command_words.specs.declared.commands.Format.TheVariants as formats
use Rattle.poly_reader.specs.Poly.{reading_of_words}
use Rattle.poly_reader.specs.Cost.{form_of}
use Rattle.poly_reader.proofs.ReadCosts.{reading_keeps_costs}
use Rattle.source_texts.specs.Sources as sources
use Rattle.source_texts.proofs.Readings.{AreRead, kept_as, read_alike}

pub poly_read : AreRead form_of (λ ts. named (polynomial_of ts))
poly_read =
    read_alike form_of _ (λ ts. record { width = refl; costs = reading_keeps_costs ts })
    (λ ts. (refl, refl, refl, refl))

-- words are read into the polynomial of their reader
pub poly_words : (slack : Slack) (ws : List Word)
    → sources.problem_of_words slack formats.Poly ws ≡ (polynomial_of_words ws >>= λ q. Ok (named q))
unfolding polynomial_of_words
poly_words slack ws = kept_as (reading_of_words ws) polynomial_of named
