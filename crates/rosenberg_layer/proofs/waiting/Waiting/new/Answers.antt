use Rattle.rosenberg_layer.proofs.Common.{◌≡◌, ◌<◌, ℕ, List, [], pos, true, length, refl, sym, ap, ◌∙◌, subst, arith, length-set, length-replicate, All-get_or, Term, is_long, code_at, list_at, listed_count, AreWaiting}
use Rattle.rosenberg_layer.proofs.WaitingTerms.{apart_start, wait_none, wait_more, none-at, none-count}
use Rattle.rosenberg_layer.proofs.waiting.Waiting.new.Goals as goal

pub loop-term-init : goal.loop-term-init
loop-term-init c =
    let none = c.in_ok-buckets.ensures.lists in
    record {
      wait =
          wait_none c.args.terms.now _ []
          (λ b. ap (λ (ls : List (List ℕ)). list_at ls b) none ∙ none-at c.args.lists b)
          (ap listed_count none ∙ none-count c.args.lists) refl;
      room = omega (arith, c.in_ok-buckets.ensures.room, c.len.ensures);
      count = ap length none ∙ length-replicate c.args.lists [];
    }

pub put-requires-clause-list : goal.put-requires-clause-list
put-requires-clause-list c =
    let ts = c.args.terms.now in
    let t = c.loop-term.term in
    let within : t < length ts = let h = c.loop-term-test.true in omega (arith, h, c.len.ensures) in
    omega (
      arith,
      c.first.ensures,
      All-get_or (λ (u : Term). code_at u 0 < c.args.lists) ts t ([], pos 0) within c.requires.lists,
      c.loop-term.invariant.count,
    )

pub put-requires-clause-apart : goal.put-requires-clause-apart
put-requires-clause-apart c =
    apart_start c.args.terms.now c.loop-term.term c.loop-term.buckets.lists 0 []
    c.loop-term.invariant.wait

pub loop-term-preserved : goal.loop-term-preserved
loop-term-preserved c =
    let ts = c.args.terms.now in
    let t = c.loop-term.term in
    let within : t < length ts = let h = c.loop-term-test.true in omega (arith, h, c.len.ensures) in
    let one = All-get_or (λ (u : Term). code_at u 0 < c.args.lists) ts t ([], pos 0) within c.requires.lists in
    record {
      wait =
          wait_more ts t c.loop-term.buckets.lists _ c.first.result c.loop-term.invariant.wait
          c.first.ensures (All-get_or (λ u. is_long u ≡ true) ts t ([], pos 0) within c.requires.long)
          (omega (arith, one, c.first.ensures, c.loop-term.invariant.count)) c.put.ensures.lists;
      room = omega (arith, c.put.ensures.room, c.loop-term.invariant.room);
      count =
          ap length c.put.ensures.lists ∙ length-set c.loop-term.buckets.lists c.first.result _
          ∙ c.loop-term.invariant.count;
    }

pub returns-clause-wait : goal.returns-clause-wait
returns-clause-wait c =
    let ts = c.args.terms.now in
    let old = c.loop-term.invariant in
    let none : [] ≡ c.new-2.result.items = sym c.new-2.ensures.items in
    let count : c.loop-term.term ≡ length ts =
    let past = c.loop-term-test.false in omega (arith, past, c.len-term-end.ensures, c.loop-term.auto.term-end) in
    record {
      all =
          subst (λ n. AreWaiting ts n c.loop-term.buckets.lists 0 c.new-2.result.items) count
          (subst (AreWaiting ts c.loop-term.term c.loop-term.buckets.lists 0) none old.wait);
      room = old.room;
      narrow = omega (arith, c.requires.narrow);
      place = omega arith;
    }
