use Rattle.cut_chains.proofs.Common.{ties_of_more, ◌≡◌, ◌+◌, ◌++◌, [], ◌∷◌, pos, neg_ℤ, get_or, arith, rules, first_of, coupling_entry, strength_in}
use Rattle.cut_chains.proofs.ties.push_ties.Goals as goal

pub loop-i-preserved : goal.loop-i-preserved
loop-i-preserved c =
    let chain = c.args.chain.now in
    let parents = c.args.parents.now in
    let n = c.strength-strength.result in
    let i = c.loop-i.i in
    let made = c.loop-i.couplings in
    let pushed : c.push.new.self
    ≡ made ++ coupling_entry (get_or chain (i + 1) 0) (get_or parents i 0) (neg_ℤ (pos n)) ∷ [] =
    search rules in
    cc (ties_of_more made _ (strength_in c.args.sums.now (first_of chain)) chain parents i n
    (omega arith) (omega arith) c.strength-strength.ensures c.loop-i.invariant)
