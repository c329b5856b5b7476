use Rattle.rosenberg_layer.proofs.Common.{◌≡◌, ◌+◌, ◌*◌, ◌<◌, ◌++◌, arith, refl, sym, ap, ◌∙◌, subst, length, true, filter, AllByRecursion, All-from_recursion, recursion_from_All, Term, IsTermSet, TableContent, OfSet, is_long, pairs_of, run, is_short, code_at, ties_of, weights, AreParts}
use Rattle.rosenberg_layer.proofs.Bags.{held-small}
use Rattle.rosenberg_layer.proofs.Parts.{filter-yes}
use Rattle.rosenberg_layer.proofs.LongRuns.{alone, turn_made}
use Rattle.rosenberg_layer.proofs.PartlyTerms.{codes_within}
use Rattle.rosenberg_layer.proofs.Turns.{run-start, run-width, turn-few, turn-run}
use Rattle.rosenberg_layer.proofs.run.turns_of.Goals as goal

pub new-requires-clause-lists : goal.new-requires-clause-lists
new-requires-clause-lists c =
    let ts = c.args.long.now in
    All-from_recursion (λ (t : Term). code_at t 0 < 2 * c.args.width) ts
    (codes_within c.args.width ts
    (recursion_from_All (λ (t : Term). IsTermSet c.args.width t.0) ts c.requires.table.terms.sets)
    (recursion_from_All (λ (t : Term). is_long t ≡ true) ts c.requires.long))

pub loop-done-init : goal.loop-done-init
loop-done-init c =
    let ts = c.args.long.now in
    let own = alone ts c.requires.long in
    record {
      runs = λ t table width e.
          run-start t c.args.width _ (filter is_long ts) _ _ table (own ∙ sym e) c.new-2.ensures.items
          c.empty.ensures c.new-3.ensures.items;
      wait = c.in_ok-waiting.ensures.wait;
      lists =
          let count = c.in_ok-waiting.ensures.lists in
          omega (arith, count, ap length c.empty.ensures);
      few = omega (arith, ap length own, ap length c.new-2.ensures.items);
      count = refl;
      made = omega (arith, ap length c.empty.ensures);
    }

pub turn-requires-clause-sets : goal.turn-requires-clause-sets
turn-requires-clause-sets c =
    let t : TableContent = record { width = c.args.width; terms = c.args.long.now } in
    let so_far = c.loop-done.invariant.runs t c.requires.table refl (alone _ c.requires.long) in
    subst (λ n. AllByRecursion (OfSet (IsTermSet n)) (filter is_long c.loop-done.long))
    (sym (run-width t c.loop-done._done c.args.width _ _ _ _ so_far refl)) so_far.held.sets

pub turn-requires-clause-small : goal.turn-requires-clause-small
turn-requires-clause-small c =
    let t : TableContent = record { width = c.args.width; terms = c.args.long.now } in
    let so_far = c.loop-done.invariant.runs t c.requires.table refl (alone _ c.requires.long) in
    held-small (run c.loop-done._done t) _ (filter is_long c.loop-done.long) (weights t.terms)
    so_far.held

pub loop-done-preserved : goal.loop-done-preserved
loop-done-preserved c =
    let n = c.args.width + length c.loop-done.made.pairs in
    let old = c.loop-done.invariant in
    let turn = c.in_ok-turn.ensures in
    record {
      runs = λ t table width e.
          let so_far = old.runs t table width e in
          turn-run t c.loop-done._done c.args.width _ _ _ _ _ _ _ _ _ so_far (filter-yes is_long c.loop-done.long)
          width turn.turn;
      wait = turn.wait;
      lists = turn.lists;
      few = turn-few _ n _ _ _ _ _ _ _ _ _ old.few turn.turn;
      count = turn.few ∙ old.count;
      made =
          let made = old.made in
          omega (arith, made, turn_made _ n _ _ _ _ _ _ _ _ turn.turn);
    }

pub returns-clause-parts : goal.returns-clause-parts
returns-clause-parts c = λ t table width e.
    let so_far = c.loop-done.invariant.runs t table width e in
    let made = c.loop-done.made in
    let done : c.loop-done._done ≡ c.args.turns = let past = c.loop-done-test.false in omega (arith, past) in
    let adds =
    filter is_short t.terms
    ++ (made.low.items ++ ties_of c.args.width made.pairs made.weights.items) in
    subst (λ k. AreParts (run k t) adds (filter is_long (run k t).terms) (weights t.terms)) done
    so_far.held.parts

pub returns-clause-pairs : goal.returns-clause-pairs
returns-clause-pairs c = λ t table width e.
    let so_far = c.loop-done.invariant.runs t table width e in
    let done : c.loop-done._done ≡ c.args.turns = let past = c.loop-done-test.false in omega (arith, past) in
    so_far.pairs_are ∙ ap (λ k. pairs_of k t) done

pub returns-clause-each : goal.returns-clause-each
returns-clause-each c =
    let t : TableContent = record { width = c.args.width; terms = c.args.long.now } in
    (c.loop-done.invariant.runs t c.requires.table refl
    (alone _ c.requires.long)).each
