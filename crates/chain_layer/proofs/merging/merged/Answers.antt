use Rattle.chain_layer.proofs.Common.{◌≡◌, ◌++◌, [], ◌∷◌, subst, ◌∙◌, append-nil, rules, IsPermutation-refl, placed, AreOrdered}
use Rattle.chain_layer.proofs.OneList.{ordered_from_sorted, sorted_from_ordered, placed_ordered, merged_next}
use Rattle.chain_layer.proofs.merging.merged.Goals as goal

pub loop-tie-init : goal.loop-tie-init
loop-tie-init c =
    let all = c.into_iter-tie-iterator.ensures.into_iter_gives ∙ c.iter-tie-items.ensures in
    rw (c.in_ok-list.ensures, c.new-left.ensures, all) (record {
      same = IsPermutation-refl _;
      ties = ordered_from_sorted _ c.requires.ties;
      places = placed_ordered _ _ c.requires.places;
    })

pub loop-tie-preserved : goal.loop-tie-preserved
loop-tie-preserved c =
    let pushed : c.push.new.self ≡ c.push_up_to.new.list ++ c.in-Some.tie ∷ [] = search rules in
    let up = rw c.pair_number.ensures at c.in_ok-push_up_to.ensures in
    rw pushed
    (merged_next (c.args.ties.now ++ placed c.args.couplings.now c.args.places.now) c.loop-tie.list
    c.loop-tie.tie-iterator c.loop-tie.left c.push_up_to.new.list c.next.new.self c.push_up_to.new.left
    c.in-Some.tie c.loop-tie.invariant c.in-Some.ensures.steps up.moved up.above up.ordered)

pub returns-clause-ordered : goal.returns-clause-ordered
returns-clause-ordered c =
    let last = c.in_ok-push_up_to-2.ensures.ordered [] tt c.loop-tie.invariant.places
    (subst (λ es. AreOrdered (c.loop-tie.list ++ es)) c.in-None.ensures.steps.0 c.loop-tie.invariant.ties) in
    sorted_from_ordered _ (subst AreOrdered (append-nil c.push_up_to-2.new.list) last)
