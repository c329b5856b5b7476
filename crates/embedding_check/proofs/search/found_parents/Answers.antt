use Rattle.embedding_check.proofs.Common.{◌≡◌, ◌≢◌, ◌+◌, ◌-◌, ◌≤◌, ◌<◌, ℕ, true, false, List, length, drop, sym, subst, ap, ◌∙◌, arith, AllZip, all_zip_more, length-drop, get_or_default_zero, IsReached, first_of, IsParent, Found, qubit_at, waits_at, parent_at, below_more}
use Rattle.embedding_check.proofs.Sorting.{one_place, rest_at, rest_all}
use Rattle.embedding_check.proofs.search.found_parents.Goals as goal

pub returns-then-has : goal.returns-then-has
returns-then-has c = λ joined found.
    let at = c.position_in-at.result in
    let waits : waits_at c.args.search.now at ≡ true =
    subst (λ (f : Found). waits_at f at ≡ true) c.search.view_is (sym c.has.ensures ∙ c.if-has.true) in
    let place = c.position_in-at.ensures in
    record {
      below = c.loop-i-test.true;
      bad = λ reaches. found.unreached at place.within waits (rw place.same reaches);
      before = (c.loop-i.invariant joined found).reached;
    }

pub loop-i-preserved : goal.loop-i-preserved
loop-i-preserved c = λ joined found.
    let chain = c.args.chain.now in
    let i = c.loop-i.i in
    let at = c.position_in-at.result in
    let place = c.position_in-at.ensures in
    let view = c.search.view_is in
    let waits : waits_at c.args.search.now at ≡ false =
    rw (← view) (sym c.has.ensures ∙ c.if-has.false) in
    let reached = rw place.same at (found.reached at place.within waits) in
    let not_first : qubit_at c.args.sorted.now at ≢ first_of chain = λ e.
    one_place chain c.requires.once 0 i (omega arith) c.loop-i-test.true (sym e ∙ place.same) in
    let parent = rw place.same at (found.parent at place.within waits not_first) in
    let inner = c.search.inside.parents.items in
    let few : at < length inner = omega (arith, place.within, found.parents, ap (λ (f : Found). length f.parents) view) in
    let pushed : c.index.result.now ≡ parent_at c.args.search.now at =
    c.index.ensures ∙ get_or_default_zero inner at c.index.result.now few ∙ ap (λ (f : Found). parent_at f at) view in
    let some : 1 ≤ i = omega arith in
    let R = IsParent joined chain in
    let more = all_zip_more R (drop 1 chain) c.loop-i.parents.items (i - 1) _ c.index.result.now
    (omega (arith, some, length-drop 1 chain))
    (sym (rest_at chain i _ some ∙ get_or_default_zero chain i _ c.loop-i-test.true))
    (c.loop-i.invariant joined found).parents (rw pushed parent) in
    let step : i + 1 - 1 ≡ i - 1 + 1 = omega (arith, some) in
    record {
      parents = rw (c.in_ok-push.ensures.items, step) more;
      reached = below_more (λ j. IsReached joined chain (qubit_at chain j)) i (c.loop-i.invariant joined found).reached reached;
    }

pub returns : goal.returns
returns c = λ joined found.
    let chain = c.args.chain.now in
    let i = c.loop-i.i in
    let end : length chain ≤ i = c.loop-i-test.false in (
      subst (λ (xs : List ℕ). AllZip (IsParent joined chain) xs c.loop-i.parents.items) (rest_all chain i end) (c.loop-i.invariant joined found).parents,
      λ k d below. subst (λ q. IsReached joined chain q) (sym (get_or_default_zero chain k d below)) ((c.loop-i.invariant joined found).reached k (omega (arith, below, end))),
    )
