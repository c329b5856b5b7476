use Rattle.embedding_check.proofs.Common.{Disconnected, ◌≡◌, ◌+◌, ℕ, ◌<◌, ◌≤◌, List, [], ◌∷◌, length, take, get_or, ◌++◌, ◌∙◌, sym, subst, ap, arith, AllZip, take_all, all_zip_more, chain_of, AreParents, IsReachedAt, get_or_default}
use Rattle.embedding_check.proofs.Passing.{chain_within, once_each, places_more, first_at}
use Rattle.embedding_check.proofs.passes.all_parents.Goals as goal

pub parents_of-requires : goal.parents_of-requires
parents_of-requires g c =
    let node = c.loop-node.node in
    let below : node < length c.args.chains.now = omega arith in
    record {
      filled = rw c.list-listed.ensures.listed (c.requires.chains.filled node below);
      within = chain_within (g.H.Hardware.qubits c.args.hardware.now) c.args.chains.now node
          c.list-listed.result.now c.list-listed.ensures.listed below c.requires.chains.within;
      once = λ q. rw c.list-listed.ensures.listed (once_each c.args.chains.now c.requires.chains.once node below q);
      sorted = rw (c.list-listed.ensures.listed, c.list.ensures.listed) (c.requires.sorted.each node below);
    }

pub returns-in-Unreached : goal.returns-in-Unreached
returns-in-Unreached g c =
    let joined = g.H.Hardware.joined c.args.hardware.now in
    let chains = c.args.chains.now in
    let node = c.loop-node.node in
    let k = c.in-Unreached.k in
    let same : c.list-listed.result.now ≡ chain_of chains node = c.list-listed.ensures.listed in
    let bad = rw (c.in-Unreached.is, same) at c.in_ok-found.ensures in
    record {
      parents = tt;
      connected = tt;
      fault = (
        node,
        k,
        first_at chains (IsReachedAt joined chains) node k (omega arith) c.loop-node.invariant.reached bad,
        ap (λ (xs : List ℕ). Disconnected node (get_or xs k 0)) same,
      );
    }

pub loop-node-preserved : goal.loop-node-preserved
loop-node-preserved g c =
    let joined = g.H.Hardware.joined c.args.hardware.now in
    let chains = c.args.chains.now in
    let node = c.loop-node.node in
    let below : node < length chains = omega arith in
    let same : c.list-listed.result.now ≡ chain_of chains node = c.list-listed.ensures.listed in
    let both = rw (c.in-All.is, same) at c.in_ok-found.ensures in
    record {
      parents = subst (AllZip (AreParents joined) (take (node + 1) chains))
          (sym (c.in_ok-push-in-All.ensures.pushed ∙ ap (λ xs. c.loop-node.parents ++ xs ∷ []) c.deref.ensures.value))
          (all_zip_more (AreParents joined) chains c.loop-node.parents node (chain_of chains node)
          c.in-All.found.items below (get_or_default chains node [] (chain_of chains node) below)
          c.loop-node.invariant.parents both.0);
      reached = places_more chains (IsReachedAt joined chains) node c.loop-node.invariant.reached (λ j low. both.1 j 0 low);
    }

pub returns : goal.returns
returns g c =
    let all : length c.args.chains.now ≤ c.loop-node.node = omega arith in
    record {
      parents = rw (← (take_all c.loop-node.node c.args.chains.now all)) c.loop-node.invariant.parents;
      connected = λ u h. c.loop-node.invariant.reached u (omega (arith, h, all));
      fault = tt;
    }
