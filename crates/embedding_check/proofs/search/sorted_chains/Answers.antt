use Rattle.embedding_check.proofs.Common.{◌≡◌, ◌<◌, ◌+◌, ℕ, List, [], ◌∷◌, ◌++◌, length, get_or, sym, subst, ap, ◌∙◌, arith, length-append, chain_of, IsSortedChain}
use Rattle.embedding_check.proofs.Passing.{once_each}
use Rattle.embedding_check.proofs.Faulty.{pushed_more}
use Rattle.embedding_check.proofs.search.sorted_chains.Goals as goal

pub sort_chain-requires : goal.sort_chain-requires
sort_chain-requires c = λ q.
    rw c.list.ensures.listed (once_each c.args.chains.now c.requires c.loop-node.node (omega arith) q)

pub loop-node-preserved : goal.loop-node-preserved
loop-node-preserved c =
    let chains = c.args.chains.now in
    let node = c.loop-node.node in
    let old = c.loop-node.sorted in
    let new = c.sort_chain.new.sorted in
    let here = subst (λ (xs : List ℕ). IsSortedChain xs new.items) c.list.ensures.listed c.in_ok-sort_chain.ensures in
    let pushed : c.push.new.self ≡ old ++ new.items ∷ [] = c.in_ok-push.ensures.pushed ∙ ap (λ xs. old ++ xs ∷ []) c.deref.ensures.value in
    record {
      len = ap length pushed ∙ (let l : length (old ++ new.items ∷ []) ≡ node + 1 = omega (arith, length-append old (new.items ∷ [])) in l);
      sorted = subst (λ (ys : List (List ℕ)). (u : ℕ) → u < node + 1 → IsSortedChain (chain_of chains u) (get_or ys u [])) (sym pushed)
          (pushed_more (λ u ys. IsSortedChain (chain_of chains u) ys) old node new.items []
          c.loop-node.invariant.len c.loop-node.invariant.sorted here);
    }
