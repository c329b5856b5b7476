use Rattle.cut_chains.proofs.Common.{◌≡◌, ◌<◌, ◌-◌, length, get_or, drop, take, All-from_recursion, refl, ap, ◌∙◌, arith, take_more, take_all, length-drop, is_in, first_of, is_in_at}
use Rattle.cut_chains.proofs.Reaching.{reach_more, reach_end, reach_others, chain_parts}
use Rattle.cut_chains.proofs.orders.reach.Goals as goal

pub bounds-seen-chain : goal.bounds-seen-chain
bounds-seen-chain c = c.requires.tree.inside.0

pub climb-requires : goal.climb-requires
climb-requires c =
    let chain = c.args.chain.now in
    let cs = drop 1 chain in
    let whole = take_all (length chain - 1) cs (omega (arith, length-drop 1 chain)) in
    let inside = All-from_recursion (λ q. q < length c.args.seen.now) cs c.requires.tree.inside.1 in
    let sized = (c.loop-qubit.invariant.reaching c.requires.tree).sized in
    record {
      empty = c.loop-qubit.invariant.empty;
      from = rw (whole, sized) (inside c.loop-qubit.qubit-index 0 (omega (arith, ap length whole)));
      sized = rw sized c.requires.sized;
      within = rw sized c.requires.within;
    }

pub loop-qubit-preserved : goal.loop-qubit-preserved
loop-qubit-preserved c =
    let chain = c.args.chain.now in
    let first = first_of chain in
    let cs = drop 1 chain in
    let i = c.loop-qubit.qubit-index in
    let whole : take (length chain - 1) cs ≡ cs =
    take_all (length chain - 1) cs (omega (arith, length-drop 1 chain)) in
    let within : i < length cs = omega (arith, ap length whole) in
    let from = get_or (take (length chain - 1) cs) i 0 in
    let same : from ≡ get_or cs i 0 = ap (λ qs. get_or qs i 0) whole in
    record {
      empty = c.in_ok-list_path.ensures.empty;
      reaching = λ t. rw (take_more cs i 0 within, ← same, c.in_ok-list_path.ensures.listed)
          (reach_more c.args.up.now c.args.seen.now first cs t c.loop-qubit.seen c.climb.new.seen
          c.loop-qubit.order.items (take i cs) c.climb.new.path.items from
          (c.loop-qubit.invariant.reaching t)
          (ap (is_in cs) same ∙ is_in_at cs i (get_or cs i 0) within refl) c.in_ok-climb.ensures.climbed);
    }

pub returns : goal.returns
returns c =
    let chain = c.args.chain.now in
    let first = first_of chain in
    let cs = drop 1 chain in
    let reaching = c.loop-qubit.invariant.reaching in
    record {
      ordered = λ t.
          let whole : take (length chain - 1) cs ≡ cs = take_all (length chain - 1) cs (omega (arith, length-drop 1 chain)) in
          let all = take_all c.loop-qubit.qubit-index cs (omega (arith, ap length whole)) in
          reach_end c.args.up.now c.args.seen.now first cs t c.loop-qubit.seen c.loop-qubit.order.items (rw all at reaching t);
      empty = c.loop-qubit.invariant.empty;
      sized = (reaching c.requires.tree).sized;
      others = λ q within out.
          reach_others c.args.up.now c.args.seen.now first cs c.requires.tree _ _ _ (reaching c.requires.tree) q within
          (ap (λ qs. is_in qs q) (chain_parts chain c.requires.filled) ∙ out);
    }
