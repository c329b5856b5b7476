use Rattle.cut_chains.proofs.Common.{get_or, ap, ◌∙◌, is_in, Sinkable, is_below, side_weight, subst, ℕ, ◌≡◌}
use Rattle.cut_chains.proofs.Reaching.{chain_parts}
use Rattle.cut_chains.proofs.Noting.{climbable, sinkable, parents_within, all_below}
use Rattle.cut_chains.proofs.sums.weigh_chain.Goals.{After-deref}
use Rattle.cut_chains.proofs.sums.weigh_chain.Goals as goal

pub reach-requires-clause-within : goal.reach-requires-clause-within
reach-requires-clause-within c =
    rw c.requires.seens
    (c.note_parents.ensures.within _ c.requires.known
    (parents_within _ _ _ c.requires.tree c.requires.inside))

pub reach-requires-clause-tree : goal.reach-requires-clause-tree
reach-requires-clause-tree c =
    climbable c.note_parents.new.up c.args.seen.now c.args.chain.now c.args.parents.now c.requires.tree
    (rw c.requires.seens c.requires.inside) c.requires.unseen c.note_parents.ensures.parents

-- the order of the chain, and what it asks of the sums
abbrev able_at : (c : After-deref)
    → Sinkable c.note_parents.new.up c.args.sums.now c.deref.result.now
able_at c =
    let walks =
    climbable c.note_parents.new.up c.args.seen.now c.args.chain.now c.args.parents.now c.requires.tree
    (rw c.requires.seens c.requires.inside) c.requires.unseen c.note_parents.ensures.parents in
    sinkable c.note_parents.new.up c.args.sums.now c.deref.result.now c.args.chain.now
    c.args.parents.now
    c.requires.tree (rw c.deref.ensures.value (c.in_ok-reach.ensures.ordered walks)) c.requires.inside
    (c.note_parents.ensures.sized ∙ c.requires.ups) c.note_parents.ensures.parents c.requires.small

pub sink-requires : goal.sink-requires
sink-requires c = record { able = able_at (goal.at.sink-requires c).After-deref }

pub returns : goal.returns
returns c =
    let able = able_at (goal.at.returns c).After-deref in
    let chain = c.args.chain.now in
    let parts = chain_parts chain c.requires.tree.filled in
    let weight : ℕ → ℕ = λ r. get_or c.args.sums.now r 0 in record {
      below = λ q in'. subst (λ qs. get_or c.sink.new.sums q 0 ≡ side_weight weight qs (is_below qs c.args.parents.now q)) parts
          (c.sink.ensures.below able q in');
      all = c.sink.ensures.all able ∙ all_below weight chain c.args.parents.now c.requires.tree;
      sized = c.sink.ensures.sized;
      ups = c.note_parents.ensures.sized;
      known = c.note_parents.ensures.within _ c.requires.known (parents_within _ _ _ c.requires.tree c.requires.inside);
      seens = c.in_ok-reach.ensures.sized;
      listed = c.in_ok-reach.ensures.others;
      empty = c.in_ok-reach.ensures.empty;
      others = λ q out. c.sink.ensures.others able q (ap (λ qs. is_in qs q) parts ∙ out);
    }
