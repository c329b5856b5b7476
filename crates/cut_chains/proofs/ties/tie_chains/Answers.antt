use Rattle.cut_chains.proofs.Common.{◌≡◌, ◌<◌, ◌≤◌, ◌+◌, ℕ, true, false, All, length, get_or, flat_map, append_assoc, ap, subst, ◌∙◌, arith, range_with_len, false_from_ne_true, All-from_recursion, is_in, chain_of, each_in, one_chain, zip_lengths, flat_range, node_ties}
use Rattle.cut_chains.proofs.Noting.{tree_lengths}
use Rattle.cut_chains.proofs.NodeTies.{IsNext, next_tree, next_small, all_small, parts_small, node_made}
use Rattle.cut_chains.proofs.CutWeights.{chain_below}
use Rattle.cut_chains.proofs.ties.tie_chains.Goals.{After-list-parents}
use Rattle.cut_chains.proofs.ties.tie_chains.Goals as goal

pub list-parents-requires : goal.list-parents-requires
list-parents-requires c =
    omega (arith, ap length c.chains.ensures, ap length c.parents.ensures, zip_lengths)

-- the node whose chain is tied next
next_at : (c : After-list-parents)
    → IsNext c.args.source.now c.loop-i.i c.loop-i.sums c.list-qubits.result.now
    c.list-parents.result.now
next_at c =
    let i = c.loop-i.i in
    let within : i < length c.args.source.now.ising.fields =
    omega (arith, ap length c.chains.ensures) in
    record {
      kept = c.requires.kept;
      within = within;
      chain_is = c.list-qubits.ensures.listed ∙ ap (λ cs. chain_of cs i) c.chains-in-loop-i.ensures;
      parents_is = c.list-parents.ensures.listed ∙ ap (λ cs. chain_of cs i) c.parents.ensures;
      held = λ q in'. c.loop-i.invariant.held i (omega arith) within q in';
    }

pub weigh_chain-requires-clause-tree : goal.weigh_chain-requires-clause-tree
weigh_chain-requires-clause-tree c =
    next_tree _ _ _ _ _ (next_at (goal.at.weigh_chain-requires-clause-tree c).After-list-parents)

pub weigh_chain-requires-clause-unseen : goal.weigh_chain-requires-clause-unseen
weigh_chain-requires-clause-unseen c =
    let next = next_at (goal.at.weigh_chain-requires-clause-unseen c).After-list-parents in
    let chain = chain_of c.args.source.now.chains c.loop-i.i in
    rw next.chain_is
    (All-from_recursion _ chain (each_in (λ q. get_or c.loop-i.seen q true ≡ false) chain
    (λ q in'. c.loop-i.invariant.unseen c.loop-i.i (omega arith) next.within q in')))

pub weigh_chain-requires-clause-small : goal.weigh_chain-requires-clause-small
weigh_chain-requires-clause-small c =
    next_small _ _ _ _ _ (next_at (goal.at.weigh_chain-requires-clause-small c).After-list-parents)

pub push_ties-requires : goal.push_ties-requires
push_ties-requires c =
    let next = next_at (goal.at.push_ties-requires c).After-list-parents in
    let e = c.args.source.now in
    let chain = chain_of e.chains c.loop-i.i in
    let weighed = c.in_ok-weigh_chain.ensures in
    record {
      matched = tree_lengths c.list-qubits.result.now c.list-parents.result.now (next_tree _ _ _ _ _ next);
      inside = rw (next.chain_is, weighed.sized, c.loop-i.invariant.sized)
          (All-from_recursion _ chain (each_in (λ q. q < e.qubits) chain (λ q in'. chain_below e next.kept c.loop-i.i next.within q in')));
      parts = parts_small _ _ _ _ _ next c.weigh_chain.new.sums (record { below = weighed.below; all = weighed.all });
      small = all_small _ _ _ _ _ next c.weigh_chain.new.sums (record { below = weighed.below; all = weighed.all });
    }

pub loop-i-preserved : goal.loop-i-preserved
loop-i-preserved c =
    let e = c.args.source.now in
    let i = c.loop-i.i in
    let so_far = c.loop-i.invariant in
    let weighed = c.in_ok-weigh_chain.ensures in
    let next = next_at (goal.at.loop-i-preserved c).After-list-parents in
    let tied = node_made _ _ _ _ _ next c.weigh_chain.new.sums
    (record { below = weighed.below; all = weighed.all }) in
    let before = flat_map (node_ties e) (range_with_len 0 i) in
    let apart : (j : ℕ) → i + 1 ≤ j → j < length e.ising.fields → (q : ℕ)
    → is_in (chain_of e.chains j) q ≡ true → is_in c.list-qubits.result.now q ≡ false =
    λ j later j_in q q_in. ap (λ qs. is_in qs q) next.chain_is ∙ false_from_ne_true _ (λ here.
    omega (
      arith,
      one_chain e.chains q i j (next.kept.once q) (omega (arith, next.within, next.kept.counted))
          (omega (arith, j_in, next.kept.counted)) here q_in,
    )) in
    record {
      made =
          let joined = append_assoc c.args.made.now before (node_ties e i) in
          cc (c.in_ok-push_ties.ensures, flat_range (node_ties e) i);
      sized = weighed.sized ∙ so_far.sized;
      ups = weighed.ups ∙ so_far.ups;
      known = subst (λ n. All (λ q. q < n) c.weigh_chain.new.up) so_far.sized weighed.known;
      seens = weighed.seens ∙ so_far.seens;
      empty = weighed.empty;
      held = λ j later j_in q q_in. weighed.others q (apart j later j_in q q_in)
          ∙ so_far.held j (omega (arith, later)) j_in q q_in;
      unseen = λ j later j_in q q_in.
          let below_all = chain_below e next.kept j j_in q q_in in
          weighed.listed q (omega (arith, below_all, so_far.seens)) (apart j later j_in q q_in)
          ∙ so_far.unseen j (omega (arith, later)) j_in q q_in;
    }
