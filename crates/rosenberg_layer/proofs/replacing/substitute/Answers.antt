use Rattle.rosenberg_layer.proofs.Common.{◌≡◌, ◌+◌, ◌*◌, ◌/◌, ◌^◌, ℕ, List, [], ◌∷◌, ◌++◌, length, get_or, drop, set, refl, sym, ap, ◌∙◌, subst, arith, rules, unsigned_abs, Some, Option, filter, unwrap_or, drop_more, get_or_read, length-append, length-set, Term, is_long, node, Pair, front_term, is_short, IsStep, term_at, IsApart, TermLists, first_pair, keys_left, lists_with, AreWaiting, IsBeyond}
use Rattle.rosenberg_layer.proofs.PartlyTerms.{partly_small}
use Rattle.rosenberg_layer.proofs.PutBack.{length_with}
use Rattle.rosenberg_layer.proofs.Under.{IsReady, under_end, under_ready, under_start, under_step, wait_stepped, pair_at, IsUnder}
use Rattle.rosenberg_layer.proofs.WaitingTerms.{apart_first, keyed_first, wait_wider}
use Rattle.rosenberg_layer.proofs.replacing.substitute.Goals.{In-Some}
use Rattle.rosenberg_layer.proofs.replacing.substitute.Goals as goal

pub loop-term-init : goal.loop-term-init
loop-term-init c =
    let start = c.args.long.now in
    let w = c.args.waiting.now in
    let key = get_or w.keys.items w.at 0 in
    let rest = drop (w.at + 1) w.keys.items in
    let low : List Term = c.args.low.now.items in
    let wait = c.requires.wait in
    let left : keys_left w ≡ key ∷ rest = drop_more w.keys.items w.at 0 c.requires.some in
    let all = subst (AreWaiting start (length start) w.buckets.lists w.cursor) left wait.all in
    let one =
    wait_wider start (length start) w.buckets.lists _ w.cursor (keys_left w) wait.all
    c.in_ok-add.ensures.lists in
    let two =
    wait_wider start (length start) _ _ w.cursor (keys_left w) one c.in_ok-add-2.ensures.lists in
    record {
      wait = record {
        all = two;
        room = c.in_ok-add-2.ensures.room ∙ c.in_ok-add.ensures.room ∙ wait.room;
        narrow = wait.narrow;
        place = wait.place;
      };
      lists =
          omega (
            arith,
            ap length c.in_ok-add.ensures.lists,
            ap length c.in_ok-add-2.ensures.lists,
            length-append w.buckets.lists ([] ∷ []),
            length-append c.add.new.self.lists ([] ∷ []),
            c.requires.lists,
          );
      under =
          subst (λ ks. IsUnder start key c.args.number low start low 0 w.cursor ks) (sym left)
          (under_start start w.buckets.lists w.cursor key c.args.number rest low all wait.narrow);
    }

-- the term that an iteration takes
module _ (c : In-Some) where
  abbrev start : List Term
  start = c.args.long.now

  abbrev low : List Term
  low = c.args.low.now.items

  abbrev now : List Term
  now = c.loop-term.long

  abbrev key : ℕ
  key = get_or c.args.waiting.now.keys.items c.args.waiting.now.at 0

  abbrev k : ℕ
  k = key / 2 ^ 32 * 2 ^ 32 + c.in-Some.term

  abbrev rest : List ℕ
  rest = keys_left c.pop.new.self

  abbrev lists : List (List ℕ)
  lists = c.loop-term.waiting.buckets.lists

  abbrev cursor : ℕ
  cursor = c.loop-term.waiting.cursor

  -- what it becomes
  abbrev replaced : Term
  replaced = front_term (node c.args.number) (term_at now c.in-Some.term)

  -- its key is the first of those left
  taken : keys_left c.loop-term.waiting ≡ k ∷ rest
  taken =
      let w = c.args.waiting.now in
      let d = c.index.result.now in
      let first = get_or_read w.keys.items w.at d c.requires.some (search rules) 0 in
      c.in-Some.ensures.taken ∙ ap (λ q. (q / 2 ^ 32 * 2 ^ 32 + c.in-Some.term) ∷ rest) first

  -- all terms of the keys wait
  wait : AreWaiting now (length now) lists cursor (k ∷ rest)
  wait = subst (AreWaiting now (length now) lists cursor) taken c.loop-term.invariant.wait.all

  -- the terms before it are replaced
  under : IsUnder start key c.args.number low now c.loop-term.low.items c.loop-term.weight cursor
      (k ∷ rest)
  under =
      let old = c.loop-term in
      subst (IsUnder start key c.args.number low now old.low.items old.weight cursor) taken
      old.invariant.under

  -- it can be replaced
  ready : IsReady now lists cursor c.args.number k c.in-Some.term rest
  ready =
      under_ready start lists cursor key c.args.number k c.in-Some.term rest low now
      c.loop-term.low.items c.loop-term.weight under wait c.loop-term.invariant.wait.narrow
      c.in-Some.ensures.term refl c.requires.sets

  -- once it is replaced, the terms up to it are
  stepped : (now' low' : List Term) (m : ℕ) → now' ≡ set now c.in-Some.term replaced
      → low' ≡ c.loop-term.low.items ++ filter is_short (replaced ∷ [])
      → m ≡ c.loop-term.weight + unsigned_abs (term_at now c.in-Some.term).1
      → IsUnder start key c.args.number low now' low' m cursor rest
  stepped now' low' m =
      under_step start lists cursor key c.args.number k c.in-Some.term rest low now now'
      c.loop-term.low.items low' c.loop-term.weight m under wait c.loop-term.invariant.wait.narrow
      c.in-Some.ensures.term refl

pub coefficient-requires : goal.coefficient-requires
coefficient-requires c = (ready c).first.term

pub overflow_add-weight : goal.overflow_add-weight
overflow_add-weight c =
    let some = (goal.at.overflow_add-weight c).In-Some in
    let size : c.unsigned_abs-weight.result ≡ unsigned_abs c.coefficient.result = search rules in
    let after = stepped some _ _ _ refl refl refl in
    let small =
    partly_small (pair_at (start some) (key some)) (node c.args.number) _ _ _ _ _ after.place
    (2 ^ 124) after.partly c.requires.small in
    omega (arith, size, ap unsigned_abs c.coefficient.ensures, small)

pub replace-requires-clause-within : goal.replace-requires-clause-within
replace-requires-clause-within c =
    (ready (goal.at.replace-requires-clause-within c).In-Some).first.term

pub replace-requires-clause-degree : goal.replace-requires-clause-degree
replace-requires-clause-degree c = (ready (goal.at.replace-requires-clause-degree c).In-Some).three

pub replace-requires-clause-lists : goal.replace-requires-clause-lists
replace-requires-clause-lists c =
    let listed = (ready (goal.at.replace-requires-clause-lists c).In-Some).listed in
    let count = c.loop-term.invariant.lists in
    omega (arith, listed, count, ap (λ (b : TermLists). length b.lists) c.pop.ensures.buckets)

pub replace-requires-clause-room : goal.replace-requires-clause-room
replace-requires-clause-room c =
    let inside = (ready (goal.at.replace-requires-clause-room c).In-Some).first.term in
    let room = c.loop-term.invariant.wait.room in
    omega (arith, inside, room, ap (λ (b : TermLists). b.room) c.pop.ensures.buckets)

pub replace-requires-clause-apart : goal.replace-requires-clause-apart
replace-requires-clause-apart c =
    let some = (goal.at.replace-requires-clause-apart c).In-Some in
    subst (λ (b : TermLists). IsApart b.lists c.in-Some.term) (sym c.pop.ensures.buckets)
    (apart_first (now some) (lists some) (cursor some) (k some) c.in-Some.term (rest some)
    (ready some).first)

pub loop-term-preserved : goal.loop-term-preserved
loop-term-preserved c =
    let some = (goal.at.loop-term-preserved c).In-Some in
    let old = c.loop-term.invariant in
    let t = c.in-Some.term in
    let new = c.replace.new.buckets in
    let done = c.in_ok-replace.ensures in
    let size : c.unsigned_abs-weight.result ≡ unsigned_abs c.coefficient.result = search rules in
    let u = replaced some in
    let placed = done.lists ∙ ap (λ (b : TermLists). lists_with b.lists t u) c.pop.ensures.buckets in
    let listed = (ready some).listed in
    let after =
    wait_stepped (now some) c.replace.new.long (lists some) new.lists (cursor some) (k some) t
    (rest some) u (ready some).first done.terms placed (ready some).later
    (omega (arith, listed, old.lists)) in
    let same = ap length done.terms ∙ length-set (now some) t u in
    record {
      wait = record {
        all =
            subst (λ (i : ℕ). AreWaiting c.replace.new.long (length c.replace.new.long) new.lists i
            (rest some)) (sym c.pop.ensures.cursor) after;
        room =
            done.room ∙ ap (λ (b : TermLists). b.room) c.pop.ensures.buckets ∙ old.wait.room
            ∙ sym same;
        narrow = let narrow = old.wait.narrow in omega (arith, narrow, same);
        place = c.pop.ensures.place;
      };
      lists = ap length placed ∙ length_with (lists some) t u ∙ old.lists;
      under =
          subst (λ (i : ℕ). IsUnder (start some) (key some) c.args.number (low some)
          c.replace.new.long c.replace.new.low.items
          (c.loop-term.weight + c.unsigned_abs-weight.result) i (rest some))
          (sym c.pop.ensures.cursor)
          (stepped some c.replace.new.long c.replace.new.low.items _ done.terms done.low
          (ap (λ m. c.loop-term.weight + m) (size ∙ ap unsigned_abs c.coefficient.ensures)));
    }

pub returns-clause-step : goal.returns-clause-step
returns-clause-step c = λ pair is.
    let start : List Term = c.args.long.now in
    let w0 = c.args.waiting.now in
    let key = get_or w0.keys.items w0.at 0 in
    let rest = drop (w0.at + 1) w0.keys.items in
    let n = c.args.number in
    let low : List Term = c.args.low.now.items in
    let now : List Term = c.loop-term.long in
    let w = c.loop-term.waiting in
    let old = c.loop-term.invariant in
    let second = c.index.result.now in
    let first = get_or_read w0.keys.items w0.at second c.requires.some (search rules) 0 in
    let left : keys_left w0 ≡ key ∷ rest = drop_more w0.keys.items w0.at 0 c.requires.some in
    let all =
    subst (AreWaiting start (length start) w0.buckets.lists w0.cursor) left c.requires.wait.all in
    let own = keyed_first start (length start) w0.buckets.lists w0.cursor key rest all c.requires.wait.narrow in
    let cursor : w.cursor ≡ w0.cursor = sym old.under.cursor_is ∙ own.3 in
    let under =
    subst (λ i. IsUnder start key n low now c.loop-term.low.items c.loop-term.weight i (keys_left w)) cursor
    old.under in
    let wait =
    subst (λ i. AreWaiting now (length now) w.buckets.lists i (keys_left w)) cursor old.wait.all in
    let beyond = subst (λ q. IsBeyond (q / 2 ^ 32) (keys_left w)) first c.in_default.ensures.others in
    let found : Some (pair_at start key) ≡ Some pair = ap (first_pair start) (sym left) ∙ is in
    let same : pair_at start key ≡ pair = ap (λ (o : Option Pair). unwrap_or o pair) found in
    subst (λ p. IsStep p (node n) (filter is_long start) low (filter is_long now) c.loop-term.low.items
    c.loop-term.weight) same
    (under_end start w0.buckets.lists w.buckets.lists w0.cursor key n rest (keys_left w) low now
    c.loop-term.low.items c.loop-term.weight all c.requires.wait.narrow under wait beyond)
