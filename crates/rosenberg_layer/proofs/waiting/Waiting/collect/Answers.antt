use Rattle.rosenberg_layer.proofs.Common.{◌≡◌, ◌++◌, ℕ, List, length, map, ap, ◌∙◌, subst, arith, IsNonDecreasingBy-from_sort, list_at, key_of, keys_left, AreWaiting}
use Rattle.rosenberg_layer.proofs.WaitingTerms.{listed_within, wait_collected, wait_skipped}
use Rattle.rosenberg_layer.proofs.waiting.Waiting.collect.Goals as goal

pub add_seconds-requires-clause-terms : goal.add_seconds-requires-clause-terms
add_seconds-requires-clause-terms c =
    let old = c.args.self.now in
    let own = list_at old.buckets.lists old.cursor in
    let taken : c.take.new.terms.items ≡ own =
    c.in_ok-take.ensures.taken ∙ ap (λ (xs : List ℕ). xs ++ own) c.clear.ensures.items in
    listed_within c.args.terms.now old.buckets.lists old.cursor (keys_left old) _ old.cursor
    c.requires.wait.all taken

pub returns-clause-wait : goal.returns-clause-wait
returns-clause-wait c =
    let ts = c.args.terms.now in
    let old = c.args.self.now in
    let own = list_at old.buckets.lists old.cursor in
    let wait = c.requires.wait in
    let taken : c.take.new.terms.items ≡ own =
    c.in_ok-take.ensures.taken ∙ ap (λ (xs : List ℕ). xs ++ own) c.clear.ensures.items in
    let none =
    subst (AreWaiting ts (length ts) old.buckets.lists old.cursor) c.requires.none wait.all in
    record {
      all =
          wait_collected ts old.buckets.lists _ old.cursor c.add_seconds.new.keys.items
          c.sort_unstable.new.self.items none wait.narrow c.requires.more
          (c.add_seconds.ensures ∙ ap (map (key_of ts)) taken) c.sort_unstable.ensures.permutation
          (IsNonDecreasingBy-from_sort (λ k. k) c.sort_unstable.new.self.items c.sort_unstable.ensures.sorted)
          c.in_ok-take.ensures.lists;
      room = c.in_ok-take.ensures.room ∙ wait.room;
      narrow = wait.narrow;
      place = omega arith;
    }

pub returns-then-is_empty-clause-wait : goal.returns-then-is_empty-clause-wait
returns-then-is_empty-clause-wait c =
    let old = c.args.self.now in
    let wait = c.requires.wait in
    record {
      all =
          wait_skipped c.args.terms.now old.buckets.lists old.cursor (keys_left old) c.requires.none wait.all
          wait.narrow c.requires.more (c.is_empty.ensures.0 c.if-is_empty.true);
      room = wait.room;
      narrow = wait.narrow;
      place = wait.place;
    }
