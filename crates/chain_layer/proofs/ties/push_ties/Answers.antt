use Rattle.chain_layer.proofs.Common.{◌≡◌, ◌+◌, ◌++◌, [], ◌∷◌, pos, neg_ℤ, drop, get_or, ap, ◌∙◌, refl, arith, rules, ties, coupling_entry}
use Rattle.chain_layer.proofs.Added.{ties_of_more}
use Rattle.chain_layer.proofs.ties.push_ties.Goals as goal

pub loop-i-preserved : goal.loop-i-preserved
loop-i-preserved c =
    let chain = c.args.chain.now in
    let parents = c.args.parents.now in
    let n = c.args.strength in
    let i = c.loop-i.i in
    let made = c.loop-i.couplings in
    let pushed : c.push.new.self ≡ made ++ coupling_entry (get_or chain (i + 1) 0) (get_or parents i 0) (neg_ℤ (pos n)) ∷ [] =
    search rules in
    ap (λ es. es ++ ties (λ _. n) (drop (i + 1 + 1) chain) (drop (i + 1) parents)) pushed
    ∙ ties_of_more made (c.args.couplings.now ++ ties (λ _. n) (drop 1 chain) parents) (λ _. n) chain
    parents i n (omega arith) (omega arith) refl c.loop-i.invariant
