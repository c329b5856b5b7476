use Rattle.pair_sums.proofs.Common.{◌≡◌, ◌≢◌, ◌++◌, ◌∷◌, [], List, sym, subst, rules, pos, Entry, AreGathered}
use Rattle.pair_sums.proofs.PairSums.{gathered-push}
use Rattle.pair_sums.proofs.gathered_pairs.GatheredPairs.push.Goals as goal

pub invariant_of-self-then-weight-ne0 : goal.invariant_of-self-then-weight-ne0
invariant_of-self-then-weight-ne0 c =
    let es = c.self.inside.ordered in
    let e : Entry = record { first = c.args.first; second = c.args.second; weight = c.args.weight } in
    let some : c.args.weight ≢ pos 0 = search rules in
    let pushed : c.push.new.self ≡ es ++ e ∷ [] = search rules in
    subst (λ (fs : List Entry). AreGathered fs c.pair_number-number.result) (sym pushed)
    (gathered-push es e c.self.inside.last c.pair_number-number.result c.self.invariant c.if-self-number.true
    c.pair_number-number.ensures some)
