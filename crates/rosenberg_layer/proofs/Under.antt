-- A substitution under way: the terms of the first pair are replaced in their order, and no other
-- terms begin with it.
use Rattle.rosenberg_layer.proofs.Common.{code_of, nat_tests, ◌≡◌, ℕ, ◌+◌, ◌*◌, ◌-◌, ◌/◌, ◌%◌, ◌<◌, ◌≤◌, ◌^◌, true, false, ◌&&◌, arith, refl, ap, ◌∙◌, subst, List, [], ◌∷◌, ◌++◌, length, set, unsigned_abs, Contains, AllByRecursion, filter, and_parts, length-set, Term, IsTermSet, node, Pair, is_long, begins, front_term, is_short, pair_of, IsStep, code_at, term_at, is_touched, key_of, lists_with, AreWaiting, ArePartly, IsBeyond}
use Rattle.rosenberg_layer.proofs.PartlyTerms.{code-later, code-same, least, long_at, pair-first, pair-second, partly_at, partly_skip, partly_start, partly_touch, whole_step}
use Rattle.rosenberg_layer.proofs.PutBack.{three-long}
use Rattle.rosenberg_layer.proofs.PairOrder.{begins-pair, pair-begins, two-long}
use Rattle.rosenberg_layer.proofs.WaitingTerms.{in-cons, in-first, keyed_first, keys_after, wait_less, wait_put, IsFirst}

-- the pair of the term of a key
abbrev pub pair_at : List Term → ℕ → Pair
pair_at start key = pair_of (term_at start (key % 2 ^ 32)).0

-- the terms before a place are replaced, and keys of the pair are those of later terms
pub record IsUnder (start : List Term) (key number : ℕ) (low now low' : List Term) (m cursor : ℕ)
    (keys : List ℕ) : Type 0 where
  pub place : ℕ
  pub partly : ArePartly (pair_at start key) (node number) start now low low' m place
  pub after : (k : ℕ) → Contains keys k → k / 2 ^ 32 ≡ key / 2 ^ 32 → place ≤ k % 2 ^ 32
  pub above : (k : ℕ) → Contains keys k → key ≤ k
  pub cursor_is : code_at (term_at start (key % 2 ^ 32)) 0 + 1 ≡ cursor
  pub second : code_at (term_at start (key % 2 ^ 32)) 1 ≡ key / 2 ^ 32
  pub long : is_long (term_at start (key % 2 ^ 32)) ≡ true
  pub count : length now ≡ length start

-- a key is that of its term, which has degree 3 or more and begins with the literal before the cursor
abbrev IsOwn : List Term → ℕ → ℕ → Type 0
IsOwn ts cursor k = (k ≡ key_of ts (k % 2 ^ 32)) × (k % 2 ^ 32 < length ts)
    × (is_long (term_at ts (k % 2 ^ 32)) ≡ true)
    × (code_at (term_at ts (k % 2 ^ 32)) 0 + 1 ≡ cursor)

pub under_start : (start : List Term) (lists : List (List ℕ)) (cursor key number : ℕ) (keys : List ℕ)
    (low : List Term) → AreWaiting start (length start) lists cursor (key ∷ keys)
    → length start ≤ 2 ^ 32 → IsUnder start key number low start low 0 cursor (key ∷ keys)
under_start start lists cursor key number keys low wait narrow =
    let first = keyed_first start (length start) lists cursor key keys wait narrow in
    record {
      place = 0;
      partly = partly_start (pair_at start key) (node number) start low;
      after = λ k in' same. omega arith;
      above = λ k in'.
          let rest = keys_after start (length start) lists cursor key keys wait k in
          grind (arith, nat_tests, in-cons key keys k in');
      cursor_is = first.3;
      second = omega (arith, first.0);
      long = first.2;
      count = refl;
    }

-- a later term that begins with the pair has a key
touched-key : (start : List Term) (lists : List (List ℕ)) (cursor key number : ℕ) (keys : List ℕ)
    (low now low' : List Term) (m : ℕ) → (under : IsUnder start key number low now low' m cursor keys)
    → AreWaiting now (length now) lists cursor keys → (x : ℕ) → under.place ≤ x → x < length start
    → is_touched (pair_at start key) (term_at start x) ≡ true
    → Contains keys (key / 2 ^ 32 * 2 ^ 32 + x)
touched-key start lists cursor key number keys low now low' m under wait x from below touched =
    let t = term_at start x in
    let u = term_at start (key % 2 ^ 32) in
    let parts = and_parts (is_long t) (begins (pair_at start key) t.0) touched in
    let same = partly_at (pair_at start key) (node number) start now low low' m under.place x under.partly from in
    let pair = pair-begins (pair_at start key) t.0 parts.1 in
    let ft = pair-first t (two-long t parts.0) in
    let st = pair-second t (two-long t parts.0) in
    let fu = pair-first u (two-long u under.long) in
    let su = pair-second u (two-long u under.long) in
    let found = wait.found x in
    let listed = wait.listed (code_at (term_at now x) 0) x in
    grind (arith, nat_tests)

-- terms that begin with the same codes begin with the same pair
same-pair : (t u : Term) → is_long t ≡ true → is_long u ≡ true → code_at t 0 ≡ code_at u 0
    → code_at t 1 ≡ code_at u 1 → pair_of t.0 ≡ pair_of u.0
same-pair t u long high one two =
    let p : code_of (pair_of t.0).0 ≡ code_of (pair_of u.0).0 =
    cc (pair-first t (two-long t long), pair-first u (two-long u high)) in
    let q : code_of (pair_of t.0).1 ≡ code_of (pair_of u.0).1 =
    cc (pair-second t (two-long t long), pair-second u (two-long u high)) in
    λ i. (code-same _ _ p i, code-same _ _ q i)

-- a key of the pair is not among those beyond it
none-left : (now : List Term) (lists : List (List ℕ)) (cursor key : ℕ) (keys : List ℕ) (x : ℕ)
    → AreWaiting now (length now) lists cursor keys → IsBeyond (key / 2 ^ 32) keys
    → ((k : ℕ) → Contains keys k → key ≤ k) → x < 2 ^ 32
    → Contains keys (key / 2 ^ 32 * 2 ^ 32 + x) → ⊥
none-left now lists cursor key [] x wait beyond above small in' = absurd (omega (arith, in'.1))
none-left now lists cursor key (j ∷ ks) x wait beyond above small in' =
    let after = keys_after now (length now) lists cursor j ks wait (key / 2 ^ 32 * 2 ^ 32 + x) in
    let low = above j (in-first j ks) in
    let place = in-cons j ks (key / 2 ^ 32 * 2 ^ 32 + x) in' in
    grind (arith, nat_tests)

-- the term of the next key is replaced
pub under_step : (start : List Term) (lists : List (List ℕ)) (cursor key number k t : ℕ)
    (keys : List ℕ) (low now now' low' low'' : List Term) (m m' : ℕ)
    → IsUnder start key number low now low' m cursor (k ∷ keys)
    → AreWaiting now (length now) lists cursor (k ∷ keys) → length now ≤ 2 ^ 32
    → t < 2 ^ 32 → k ≡ key / 2 ^ 32 * 2 ^ 32 + t
    → now' ≡ set now t (front_term (node number) (term_at now t))
    → low'' ≡ low' ++ filter is_short (front_term (node number) (term_at now t) ∷ [])
    → m' ≡ m + unsigned_abs (term_at now t).1
    → IsUnder start key number low now' low'' m' cursor keys
under_step start lists cursor key number k t keys low now now' low' low'' m m' under wait narrow below
    is new down more =
    let a = pair_at start key in
    let w = node number in
    let here = term_at start t in
    let t-is : k % 2 ^ 32 ≡ t = omega arith in
    let h = under.after k (in-first k keys) (omega arith) in
    let from : under.place ≤ t = omega (arith, h) in
    let same = partly_at a w start now low low' m under.place t under.partly from in
    let own = rw (t-is, same) at (keyed_first now (length now) lists cursor k keys wait narrow) in
    let within : t < length start = omega (arith, own.1, under.count) in
    let pair =
    same-pair (term_at start (key % 2 ^ 32)) here under.long own.2 (omega (arith, own.3, under.cursor_is))
    (omega (arith, own.0, under.second)) in
    let begin = begins-pair a here.0 (two-long here own.2) pair in
    let others : (x : ℕ) → under.place ≤ x → x < t → is_touched a (term_at start x) ≡ false =
    λ x later before.
    let in' =
    touched-key start lists cursor key number (k ∷ keys) low now low' m under wait x later
    (omega (arith, before, within)) in
    let place = in-cons k keys (key / 2 ^ 32 * 2 ^ 32 + x) in
    let after = keys_after now (length now) lists cursor k keys wait (key / 2 ^ 32 * 2 ^ 32 + x) in
    grind (arith, nat_tests) in
    let place : under.place + (t - under.place) ≡ t = omega (arith, from) in
    let skipped : ArePartly a w start now low low' m t =
    subst (ArePartly a w start now low low' m) place
    (partly_skip (t - under.place) a w start now low low' m under.place under.partly
    (omega (arith, from, within)) (λ x later before. others x later (omega (arith, before, from)))) in
    record {
      place = t + 1;
      partly =
          partly_touch a w start now now' low low' low'' m m' t skipped within (λ i. own.2 i && begin i) new
          down more;
      after = λ j in' same.
          let above = keys_after now (length now) lists cursor k keys wait j in' in
          omega (arith, above, is, same, below);
      above = λ j in'.
          let above = keys_after now (length now) lists cursor k keys wait j in' in
          let old = under.above k (in-first k keys) in
          omega (arith, above, old);
      cursor_is = under.cursor_is;
      second = under.second;
      long = under.long;
      count = ap length new ∙ length-set now t (front_term w (term_at now t)) ∙ under.count;
    }

-- no key of the pair is left: all its terms are replaced
pub under_end : (start : List Term) (lists lists' : List (List ℕ)) (cursor key number : ℕ)
    (keys keys' : List ℕ) (low now low' : List Term) (m : ℕ)
    → AreWaiting start (length start) lists cursor (key ∷ keys) → length start ≤ 2 ^ 32
    → IsUnder start key number low now low' m cursor keys'
    → AreWaiting now (length now) lists' cursor keys' → IsBeyond (key / 2 ^ 32) keys'
    → IsStep (pair_at start key) (node number) (filter is_long start) low (filter is_long now) low' m
under_end start lists lists' cursor key number keys keys' low now low' m wait narrow under left beyond =
    let a = pair_at start key in
    let w = node number in
    let t = key % 2 ^ 32 in
    let first = keyed_first start (length start) lists cursor key keys wait narrow in
    let long = first.2 in
    let begin = begins-pair a (term_at start t).0 (two-long (term_at start t) long) refl in
    let others : (x : ℕ) → under.place ≤ x → x < length start → is_touched a (term_at start x) ≡ false =
    λ x later below.
    let in' = touched-key start lists' cursor key number keys' low now low' m under left x later below in
    let none = none-left now lists' cursor key keys' x left beyond under.above in
    grind (arith, nat_tests) in
    let inside = under.partly.place in
    let place : under.place + (length start - under.place) ≡ length start = omega (arith, inside) in
    let ended : ArePartly a w start now low low' m (length start) =
    subst (ArePartly a w start now low low' m) place
    (partly_skip (length start - under.place) a w start now low low' m under.place under.partly
    (omega (arith, inside)) (λ x later below. others x later (omega (arith, below, inside)))) in
    whole_step a w start now low low' m t ended first.1 (λ i. long i && begin i)
    (least start lists cursor key keys t wait narrow first.1 first.0 long first.3)

-- ---- the term of the next key

-- it waits, has three literals at least, and begins with a later literal without the first two
pub record IsReady (now : List Term) (lists : List (List ℕ)) (cursor number k t : ℕ) (keys : List ℕ)
    : Type 0 where
  pub first : IsFirst now lists cursor k t keys
  pub three : 3 ≤ length (term_at now t).0
  pub later : cursor ≤ code_at (front_term (node number) (term_at now t)) 0
  pub listed : code_at (front_term (node number) (term_at now t)) 0 < 2 * (number + 1)

pub under_ready : (start : List Term) (lists : List (List ℕ)) (cursor key number k t : ℕ)
    (keys : List ℕ) (low now low' : List Term) (m : ℕ)
    → IsUnder start key number low now low' m cursor (k ∷ keys)
    → AreWaiting now (length now) lists cursor (k ∷ keys) → length now ≤ 2 ^ 32
    → t < 2 ^ 32 → k ≡ key / 2 ^ 32 * 2 ^ 32 + t
    → AllByRecursion (λ (u : Term). IsTermSet number u.0) (filter is_long start)
    → IsReady now lists cursor number k t keys
under_ready start lists cursor key number k t keys low now low' m under wait narrow below is sets =
    let t-is : k % 2 ^ 32 ≡ t = omega arith in
    let h = under.after k (in-first k keys) (omega arith) in
    let from : under.place ≤ t = omega (arith, h) in
    let same = partly_at (pair_at start key) (node number) start now low low' m under.place t under.partly from in
    let own = rw t-is at (keyed_first now (length now) lists cursor k keys wait narrow) in
    let long : is_long (term_at start t) ≡ true = rw (← same) own.2 in
    let count = under.count in
    let set : IsTermSet number (term_at now t).0 =
    rw same (long_at (λ (u : Term). IsTermSet number u.0) start t sets (omega (arith, own.1, count)) long) in
    let three = three-long (term_at now t) own.2 in
    let code = code-later number (term_at now t) set three in
    record {
      first = record { wait = wait; narrow = narrow; term = own.1; key = own.0; first = own.3 };
      three = three;
      later = omega (arith, own.3, code.0);
      listed = code.1;
    }

-- what waits after it
pub wait_stepped : (now now' : List Term) (lists lists' : List (List ℕ)) (cursor k t : ℕ)
    (keys : List ℕ) (u : Term) → IsFirst now lists cursor k t keys → now' ≡ set now t u
    → lists' ≡ lists_with lists t u → cursor ≤ code_at u 0 → code_at u 0 < length lists
    → AreWaiting now' (length now') lists' cursor keys
wait_stepped now now' lists lists' cursor k t keys u first new placed later within =
    let put = wait_put now lists lists' cursor k t (code_at u 0) keys u first in
    let less = wait_less now lists cursor k t keys u first in
    grind (arith, nat_tests)
