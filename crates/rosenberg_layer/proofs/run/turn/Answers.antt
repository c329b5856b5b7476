use Rattle.rosenberg_layer.proofs.Common.{IsPair, ◌∷◌, ◌≡◌, ◌+◌, ◌∙◌, [], rules, arith, refl, ap, sym, subst, length, length-append, Some, filter, AllByRecursion, Term, IsTermSet, is_long, node, IsStep, first_pair, keys_left, AreWaiting}
use Rattle.rosenberg_layer.proofs.PartlyTerms.{first_none, none-long}
use Rattle.rosenberg_layer.proofs.WaitingTerms.{wait_end}
use Rattle.rosenberg_layer.proofs.Bags.{step-pair}
use Rattle.rosenberg_layer.proofs.run.turn.Goals.{In_ok-weight-in-Some}
use Rattle.rosenberg_layer.proofs.run.turn.Goals as goal

-- the pair is of two variables below the new node
pair_within : (c : In_ok-weight-in-Some) → IsPair (c.args.width + length c.args.made.now.pairs) c.in-Some.pair
pair_within c =
    let ts = filter is_long c.args.long.now in
    let is = sym c.in_ok-next_pair.ensures.pair ∙ c.in-Some.is in
    step-pair _ c.in-Some.pair _ ts _ _ _ _ (c.in_ok-weight-in-Some.ensures.step c.in-Some.pair is) c.requires.sets

pub push-requires-clause-first : goal.push-requires-clause-first
push-requires-clause-first c =
    let pair = pair_within (goal.at.push-requires-clause-first c).In_ok-weight-in-Some in
    omega (arith, pair.order, pair.within, c.requires.narrow)

pub push-requires-clause-second : goal.push-requires-clause-second
push-requires-clause-second c =
    let pair = pair_within (goal.at.push-requires-clause-second c).In_ok-weight-in-Some in
    omega (arith, pair.within, c.requires.narrow)

pub substitute-requires-clause-sets : goal.substitute-requires-clause-sets
substitute-requires-clause-sets c =
    let number : c.args.width + length c.args.made.now.pairs ≡ c.args.width + c.len.result =
    omega (arith, c.len.ensures) in
    subst (λ n. AllByRecursion (λ (t : Term). IsTermSet n t.0) (filter is_long c.args.long.now)) number
    c.requires.sets

pub returns-in_ok-push-in-Some-2-clause-lists : goal.returns-in_ok-push-in-Some-2-clause-lists
returns-in_ok-push-in-Some-2-clause-lists c =
    let pairs = c.args.made.now.pairs in
    let more = length-append pairs (c.in-Some.pair ∷ []) in
    let lists = c.in_ok-weight-in-Some.ensures.lists in
    omega (arith, lists, c.len.ensures, ap length c.in_ok-push-in-Some.ensures, more)

pub returns-in-None-clause-turn : goal.returns-in-None-clause-turn
returns-in-None-clause-turn c =
    let ts = c.args.long.now in
    let w = c.next_pair.new.self in
    let found = c.in_ok-next_pair.ensures in
    let none = first_none ts (keys_left w) (sym found.pair ∙ c.in-None.is) in
    let all = subst (AreWaiting ts (length ts) w.buckets.lists w.cursor) none found.wait.all in
    (none-long ts (wait_end ts w.buckets.lists w.cursor all (found.end none)), refl, refl, refl, refl)

pub returns-in_ok-push-in-Some-2-clause-turn : goal.returns-in_ok-push-in-Some-2-clause-turn
returns-in_ok-push-in-Some-2-clause-turn c =
    let ts = c.args.long.now in
    let n = c.args.width + length c.args.made.now.pairs in
    let w = c.next_pair.new.self in
    let pair = c.in-Some.pair in
    let is : first_pair ts (keys_left w) ≡ Some pair = sym c.in_ok-next_pair.ensures.pair ∙ c.in-Some.is in
    let number : c.args.width + c.len.result ≡ n = search rules in
    let step =
    subst (λ k. IsStep pair (node k) (filter is_long ts) c.args.made.now.low.items
    (filter is_long c.substitute.new.long) c.substitute.new.low.items c.in_ok-weight-in-Some.weight) number
    (c.in_ok-weight-in-Some.ensures.step pair is) in
    (c.in_ok-weight-in-Some.weight, step, c.in_ok-push-in-Some.ensures, c.in_ok-push-in-Some-2.ensures.items)
