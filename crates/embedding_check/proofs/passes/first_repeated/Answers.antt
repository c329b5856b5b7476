use Rattle.embedding_check.proofs.Common.{◌≡◌, ◌+◌, ℕ, ◌<◌, ◌==◌, List, length, take, get_or, refl, sym, ap, ◌∙◌, arith, count_by, chain_of, occurrences, IsNew, occurrences_more, take_all}
use Rattle.embedding_check.proofs.Passing.{places_more, marked-le}
use Rattle.embedding_check.proofs.passes.first_repeated.Goals as goal

pub loop-node-preserved : goal.loop-node-preserved
loop-node-preserved c =
    let map = c.args.map.now in
    let node = c.loop-node.node in
    let below : node < length map = omega arith in
    let chain : List ℕ = c.chain.result.now in
    let same : chain ≡ chain_of map node = c.chain.ensures in
    let none = c.in-None.ensures in
    record {
      same = c.mark.auto.seen ∙ c.loop-node.invariant.same;
      all = λ q.
          let one = none.all refl q in
          let count = ap (λ (xs : List ℕ). count_by (λ p. p == q) xs) same in
          omega (arith, one, count, c.loop-node.invariant.all q, occurrences_more q map node below);
      before = places_more map (IsNew map) node c.loop-node.invariant.before (rw (← same)
          (λ j low. sym (ap (λ n. n + count_by (λ p. p == get_or chain j 0) (take j chain)) (c.loop-node.invariant.all (get_or chain j 0))) ∙ none.first j low));
    }

pub returns-clause-once : goal.returns-clause-once
returns-clause-once c = λ none q.
    let map = c.args.map.now in
    let all : take c.loop-node.node map ≡ map = take_all c.loop-node.node map (omega arith) in
    omega (arith, marked-le c.loop-node.seen q, c.loop-node.invariant.all q, ap (occurrences q) all)
