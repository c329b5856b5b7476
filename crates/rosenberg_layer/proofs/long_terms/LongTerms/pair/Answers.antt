use Rattle.rosenberg_layer.proofs.Common.{◌≡◌, ◌∙◌, rules, term_at}
use Rattle.rosenberg_layer.proofs.RingTerms.{pair-codes}
use Rattle.rosenberg_layer.proofs.long_terms.LongTerms.pair.Goals as goal

pub returns : goal.returns
returns c =
    let t = term_at c.args.self.now c.args.i in
    let first : c.from-first.result ≡ c.first.result = search rules in
    let second : c.from-second.result ≡ c.second.result = search rules in
    (λ k. (c.literal_of.ensures k, c.literal_of-2.ensures k))
    ∙ pair-codes t c.from-first.result c.from-second.result c.requires.two (first ∙ c.first.ensures)
    (second ∙ c.second.ensures)
