use Rattle.rosenberg_layer.proofs.Common.{◌≡◌, ◌+◌, ◌-◌, ◌≤◌, ◌/◌, ◌%◌, ◌^◌, ◌<◌, ◌∷◌, ℕ, List, Term, length, get_or, drop, sym, ap, ◌∙◌, subst, arith, rules, Some, drop_more, get_or_read, code_at, term_at, first_pair, keys_left, AreWaiting, Wait, Waiting}
use Rattle.rosenberg_layer.proofs.PairOrder.{two-long}
use Rattle.rosenberg_layer.proofs.RingTerms.{pair-codes}
use Rattle.rosenberg_layer.proofs.WaitingTerms.{keyed_first}
use Rattle.rosenberg_layer.proofs.waiting.Waiting.next_pair.Goals as goal

-- the first key left is that of a term of degree 3 or more, whose first literal is before the cursor
module _ (ts : List Term) (w : Waiting) (wait : Wait ts w) (inside : w.at < length w.keys.items) where
  abbrev key : ℕ
  key = get_or w.keys.items w.at 0

  abbrev rest : List ℕ
  rest = drop (w.at + 1) w.keys.items

  abbrev t : Term
  t = term_at ts (key % 2 ^ 32)

  left : keys_left w ≡ key ∷ rest
  left = drop_more w.keys.items w.at 0 inside

  all : AreWaiting ts (length ts) w.buckets.lists w.cursor (key ∷ rest)
  all = subst (AreWaiting ts (length ts) w.buckets.lists w.cursor) left wait.all

  first : code_at t 0 + 1 ≡ w.cursor
  first = (keyed_first ts (length ts) w.buckets.lists w.cursor key rest all wait.narrow).3

  second : key / 2 ^ 32 ≡ code_at t 1
  second = let is = (keyed_first ts (length ts) w.buckets.lists w.cursor key rest all wait.narrow).0 in omega (arith, is)

  two : 2 ≤ length t.0
  two = two-long t (keyed_first ts (length ts) w.buckets.lists w.cursor key rest all wait.narrow).2

pub overflow_sub-first : goal.overflow_sub-first
overflow_sub-first c =
    let w = c.advance.new.self in
    let wait = c.in_ok-advance.ensures.wait in
    let other = c.if-self-len.false in
    let is = first c.args.terms.now w wait (omega (arith, other, wait.place, c.len.ensures)) in
    omega (arith, is)

pub returns-clause-pair : goal.returns-clause-pair
returns-clause-pair c =
    let ts = c.args.terms.now in
    let w = c.advance.new.self in
    let wait = c.in_ok-advance.ensures.wait in
    let other = c.if-self-len.false in
    let inside : w.at < length w.keys.items = omega (arith, other, wait.place, c.len.ensures) in
    let read = get_or_read w.keys.items w.at c.index.result.now inside (search rules) 0 in
    let before : w.cursor - 1 ≡ code_at (t ts w wait inside) 0 = let is = first ts w wait inside in omega (arith, is) in
    ap Some ((λ k. (c.literal_of.ensures k, c.literal_of-2.ensures k))
    ∙ pair-codes (t ts w wait inside) _ _ (two ts w wait inside) before
    (ap (λ k. k / 2 ^ 32) read ∙ second ts w wait inside))
    ∙ sym (ap (first_pair ts) (left ts w wait inside))
