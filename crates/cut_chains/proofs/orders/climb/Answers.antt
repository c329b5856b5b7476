use Rattle.cut_chains.proofs.Common.{◌<◌, ℕ, length, get_or, true, false, refl, ◌∙◌, arith, get_or_default, set, sym}
use Rattle.cut_chains.proofs.Paths.{walking_more}
use Rattle.cut_chains.proofs.orders.climb.Goals as goal

pub loop-seen-preserved : goal.loop-seen-preserved
loop-seen-preserved c =
    let up : ℕ → ℕ = λ q. get_or c.args.up.now q 0 in
    let before = c.args.seen.now in
    let seen = c.loop-seen.seen in
    let q = c.loop-seen.q in
    let walking = c.loop-seen.invariant in
    let within : q < length seen = omega (arith, walking.bound, walking.sized) in
    let known : q < length c.args.up.now = omega (arith, walking.bound) in
    rw c.in_ok-push.ensures.items
    (walking_more up before seen (set seen q true) c.args.from q c.loop-seen.path.items walking
    (get_or_default seen q true false within ∙ c.loop-seen-test.true)
    (c.requires.within q 0 known) refl)

pub returns : goal.returns
returns c =
    let q = c.loop-seen.q in
    let walking = c.loop-seen.invariant in
    let within : q < length c.loop-seen.seen = omega (arith, walking.bound, walking.sized) in
    let there = get_or_default c.loop-seen.seen q true false within ∙ c.loop-seen-test.false in
    record {
      climbed = record {
        sized = walking.sized;
        walk = (q, walking.walk, walking.bound, sym (walking.marked q walking.bound) ∙ there);
        unmarked = walking.unmarked;
        different = walking.different;
        marked = walking.marked;
      };
    }
