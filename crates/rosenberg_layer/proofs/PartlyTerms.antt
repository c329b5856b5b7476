-- One substitution, term by term in the order of a list: those that begin with the first pair are
-- replaced where they stand.
use Rattle.rosenberg_layer.proofs.Common.{nat_tests, ◌≡◌, ◌≢◌, ◌⊎◌, inl, inr, ℕ, zero, suc, ◌+◌, ◌*◌, ◌<◌, ◌≤◌, ◌^◌, Bool, true, false, not, cond, arith, refl, sym, ap, ◌∙◌, subst, List, [], ◌∷◌, ◌++◌, length, map, get_or, set, take, drop, pos, unsigned_abs, None, AllByRecursion, filter, sum_by, IsPermutation, IsStrictlySortedBy, ordering_then, append_assoc, append-nil, map-append, take_all, drop_all, length-append, length-map, length-take-le, length-drop, get_or-append_right, get_or-drop, set-get_or, get_or_default, map_over_more, filter_more, filter-append, recursion_from_All, IsPermutation-refl, IsPermutation-cons, IsPermutation-trans, IsPermutation-middle, IsPermutation-filter_both, sum_by-append, sum_by-cons, Literal, literal_cmp, code_of, literal_of, Term, terms_total, IsTermSet, node, Pair, is_long, begins, front_term, is_short, pair_of, Follow, IsStep, code_at, term_at, first_pair, is_touched, key_of, turned, AreWaiting, ArePartly}
use Rattle.std.specs.declared.cmp.Ordering.TheVariants.{Less}
use Rattle.rosenberg_layer.proofs.Parts.{filter-yes}
use Rattle.rosenberg_layer.proofs.RingTerms.{literal_of-code_of}
use Rattle.rosenberg_layer.proofs.PairOrder.{begins-pair, two-long, From}
use Rattle.rosenberg_layer.proofs.WaitingTerms.{in-cons, keys_after}

-- ---- codes are in the order of literals

code-less : (a b : Literal) → code_of a < code_of b → literal_cmp a b ≡ Less
code-less a b less = grind (arith, nat_tests)

pub code-same : (a b : Literal) → code_of a ≡ code_of b → a ≡ b
code-same a b e = sym (literal_of-code_of a) ∙ ap literal_of e ∙ literal_of-code_of b

pub pair-first : (t : Term) → 2 ≤ length t.0 → code_at t 0 ≡ code_of (pair_of t.0).0
pair-first t two = grind (arith, nat_tests)

pub pair-second : (t : Term) → 2 ≤ length t.0 → code_at t 1 ≡ code_of (pair_of t.0).1
pair-second t two = grind (arith, nat_tests)

-- a pair whose literals have codes below
from-codes : (a b : Pair)
    → (code_of a.0 < code_of b.0) ⊎ ((code_of a.0 ≡ code_of b.0) × (code_of a.1 ≤ code_of b.1))
    → From a b
from-codes a b (inl less) = inr (ap (λ o. ordering_then o (literal_cmp a.1 b.1)) (code-less a.0 b.0 less))
from-codes a b (inr both) = grind (arith, nat_tests)

-- ---- the pair of the first key comes first

pub least : (ts : List Term) (lists : List (List ℕ)) (cursor k : ℕ) (keys : List ℕ) (t : ℕ)
    → AreWaiting ts (length ts) lists cursor (k ∷ keys) → length ts ≤ 2 ^ 32 → t < length ts
    → k ≡ key_of ts t → is_long (term_at ts t) ≡ true → code_at (term_at ts t) 0 + 1 ≡ cursor
    → (x : ℕ) → x < length ts → is_long (term_at ts x) ≡ true
    → From (pair_of (term_at ts t).0) (pair_of (term_at ts x).0)
least ts lists cursor k keys t wait narrow within key long first x below high =
    let u = term_at ts t in
    let v = term_at ts x in
    let fu = pair-first u (two-long u long) in
    let su = pair-second u (two-long u long) in
    let fv = pair-first v (two-long v high) in
    let sv = pair-second v (two-long v high) in
    let found = wait.found x below high in
    let listed = wait.listed (code_at v 0) x in
    let place = in-cons k keys (key_of ts x) in
    let after = keys_after ts (length ts) lists cursor k keys wait (key_of ts x) in
    from-codes (pair_of u.0) (pair_of v.0) (grind (arith, nat_tests))

-- ---- what a substitution makes of all terms

-- those that are taken are those of degree 3 or more that begin with the pair
filter-touched : (a : Pair) (ts : List Term)
    → filter (λ t. begins a t.0) (filter is_long ts) ≡ filter (is_touched a) ts
filter-touched a [] = refl
filter-touched a (t ∷ ts) = grind (arith, nat_tests, filter-touched a ts)

-- the terms that stay and those that go back are all that are left
all_back : (a : Pair) (w : Literal) (ts : List Term)
    → IsPermutation (filter (λ t. not (begins a t.0)) (filter is_long ts)
    ++ filter is_long (map (front_term w) (filter (is_touched a) ts)))
    (filter is_long (map (turned a w) ts))
all_back a w [] = IsPermutation-refl []
all_back a w (t ∷ ts) =
    let stay = filter (λ u. not (begins a u.0)) (filter is_long ts) in
    let back = filter is_long (map (front_term w) (filter (is_touched a) ts)) in
    let all = filter is_long (map (turned a w) ts) in
    let rest = all_back a w ts in
    let keep = IsPermutation-cons t (stay ++ back) all rest in
    let put =
    IsPermutation-trans (stay ++ front_term w t ∷ back) (front_term w t ∷ (stay ++ back))
    (front_term w t ∷ all) (IsPermutation-middle stay (front_term w t) back)
    (IsPermutation-cons (front_term w t) (stay ++ back) all rest) in
    grind (arith, nat_tests)

-- ---- one term after another

-- the terms that are left are those of the start
pub partly_at : (a : Pair) (w : Literal) (start now low low' : List Term) (m i x : ℕ)
    → ArePartly a w start now low low' m i → i ≤ x → term_at now x ≡ term_at start x
partly_at a w start now low low' m i x partly upto =
    grind (arith, nat_tests, length-map, length-take-le, get_or-append_right, get_or-drop)

pub partly_start : (a : Pair) (w : Literal) (start low : List Term)
    → ArePartly a w start start low low 0 0
partly_start a w start low = record {
  place = omega arith;
  terms = refl;
  down = sym (append-nil low);
  weight = refl;
}

-- the sums and the terms below, with one more term that is taken or not
more-down : (a : Pair) (w : Literal) (start : List Term) (i : ℕ) → i < length start → (b : Bool)
    → is_touched a (term_at start i) ≡ b → filter (is_touched a) (take (i + 1) start)
    ≡ filter (is_touched a) (take i start) ++ cond b (term_at start i ∷ []) []
more-down a w start i within b is =
    filter_more (is_touched a) start i ([], pos 0) within
    ∙ ap (λ c. filter (is_touched a) (take i start) ++ cond c (term_at start i ∷ []) []) is

turned-is : (a : Pair) (w : Literal) (t : Term) (b : Bool) → is_touched a t ≡ b
    → turned a w t ≡ cond b (front_term w t) t
turned-is a w t b is = ap (λ c. cond c (front_term w t) t) is

zero_more : (i : ℕ) → i ≡ i + 0
zero_more i = omega arith

suc_more : (i n : ℕ) → i + 1 + n ≡ i + suc n
suc_more i n = omega arith

read : (ts : List Term) (i : ℕ) (t : Term) → term_at ts i ≡ t → i < length ts → t ≡ get_or ts i t
read ts i t is within = sym is ∙ get_or_default ts i ([], pos 0) t within

within_now : (a : Pair) (w : Literal) (start now low low' : List Term) (m i : ℕ)
    → ArePartly a w start now low low' m i → i < length start → i < length now
within_now a w start now low low' m i partly within =
    grind (arith, nat_tests, length-append, length-map, length-take-le, length-drop)

some-touched : (a : Pair) (ts : List Term) (t : ℕ) → t < length ts
    → is_touched a (term_at ts t) ≡ true → filter (is_touched a) ts ≢ []
some-touched a [] t within is none = absurd (omega (arith, within))
some-touched a (u ∷ us) zero within is none = grind (arith, nat_tests)
some-touched a (u ∷ us) (suc t) within is none =
    grind (arith, nat_tests, some-touched a us t (omega (arith, within)) is)

all-follow_rest : (a : Pair) (ts : List Term)
    → ((x : ℕ) → x < length ts → is_long (term_at ts x) ≡ true → From a (pair_of (term_at ts x).0))
    → Follow a (filter (λ u. not (begins a u.0)) (filter is_long ts))
all-follow_rest a [] from = tt
all-follow_rest a (t ∷ ts) from =
    let rest = all-follow_rest a ts (λ x below high. from (suc x) (omega (arith, below)) high) in
    let first = from 0 (omega arith) in
    let begin = begins-pair a t.0 in
    let two = two-long t in
    grind (arith, nat_tests)

-- a term that does not begin with the pair
partly_next : (a : Pair) (w : Literal) (start now low low' : List Term) (m i : ℕ)
    → ArePartly a w start now low low' m i → i < length start
    → is_touched a (term_at start i) ≡ false → ArePartly a w start now low low' m (i + 1)
partly_next a w start now low low' m i partly within other =
    let t = term_at start i in
    let here = partly_at a w start now low low' m i i partly (omega arith) in
    let same : turned a w t ≡ term_at now i = turned-is a w t false other ∙ sym here in
    let kept : now ≡ set now i (turned a w t) = rw same (sym (set-get_or now i ([], pos 0))) in
    let none = more-down a w start i within false other in
    let inside = within_now a w start now low low' m i partly within in
    record {
      place = omega (arith, within);
      terms = kept ∙ map_over_more (turned a w) start now i t within partly.terms (read now i t here inside);
      down = rw (none, append-nil) partly.down;
      weight = rw (none, append-nil) partly.weight;
    }

-- .. and those before a place
pub partly_skip : (n : ℕ) (a : Pair) (w : Literal) (start now low low' : List Term) (m i : ℕ)
    → ArePartly a w start now low low' m i → i + n ≤ length start
    → ((x : ℕ) → i ≤ x → x < i + n → is_touched a (term_at start x) ≡ false)
    → ArePartly a w start now low low' m (i + n)
partly_skip zero a w start now low low' m i partly within others =
    subst (ArePartly a w start now low low' m) (zero_more i) partly
partly_skip (suc n) a w start now low low' m i partly within others =
    let one = partly_next a w start now low low' m i partly (omega (arith, within))
    (others i (omega arith) (omega arith)) in
    let rest =
    partly_skip n a w start now low low' m (i + 1) one (omega (arith, within))
    (λ x from below. others x (omega (arith, from)) (omega (arith, below))) in
    subst (ArePartly a w start now low low' m) (suc_more i n) rest

-- a term that begins with it
pub partly_touch : (a : Pair) (w : Literal) (start now now' low low' low'' : List Term) (m m' i : ℕ)
    → ArePartly a w start now low low' m i → i < length start
    → is_touched a (term_at start i) ≡ true → now' ≡ set now i (front_term w (term_at now i))
    → low'' ≡ low' ++ filter is_short (front_term w (term_at now i) ∷ [])
    → m' ≡ m + unsigned_abs (term_at now i).1 → ArePartly a w start now' low low'' m' (i + 1)
partly_touch a w start now now' low low' low'' m m' i partly within touched new down more =
    let t = term_at start i in
    let here = partly_at a w start now low low' m i i partly (omega arith) in
    let turn = turned-is a w t true touched in
    let before = filter (is_touched a) (take i start) in
    let one = more-down a w start i within true touched in
    let over = map_over_more (turned a w) start now i t within partly.terms
    (read now i t here (within_now a w start now low low' m i partly within)) in
    let joined = append_assoc low (filter is_short (map (front_term w) before))
    (filter is_short (front_term w t ∷ [])) in
    let split = filter-append is_short (map (front_term w) before) (front_term w t ∷ []) in
    let mapped = map-append (front_term w) before (t ∷ []) in
    record {
      place = omega (arith, within);
      terms = cc;
      down = cc;
      weight = grind (arith, nat_tests, sum_by-append, sum_by-cons);
    }

-- ---- the whole substitution

-- where a term has the pair, and each term of degree 3 or more begins with it or follows it
pub whole_step : (a : Pair) (w : Literal) (start now low low' : List Term) (m t : ℕ)
    → ArePartly a w start now low low' m (length start) → t < length start
    → is_touched a (term_at start t) ≡ true
    → ((x : ℕ) → x < length start → is_long (term_at start x) ≡ true
    → From a (pair_of (term_at start x).0))
    → IsStep a w (filter is_long start) low (filter is_long now) low' m
whole_step a w start now low low' m t partly within first from =
    let all : take (length start) start ≡ start = take_all (length start) start (omega arith) in
    let none-left : drop (length start) start ≡ [] = drop_all (length start) start (omega arith) in
    let nothing = append-nil (map (turned a w) start) in
    let end : now ≡ map (turned a w) start = cc in
    let taken = filter-touched a start in
    record {
      touched = filter (λ u. begins a u.0) (filter is_long start);
      rest = filter (λ u. not (begins a u.0)) (filter is_long start);
      taken = record {
        whole =
            IsPermutation-filter_both (λ u. begins a u.0) (λ u. not (begins a u.0)) (λ u. refl)
            (filter is_long start);
        some = λ none. some-touched a start t within first (sym taken ∙ none);
        begin = filter-yes (λ u. begins a u.0) (filter is_long start);
        others = all-follow_rest a start from;
      };
      put_back = rw (end, taken) (all_back a w start);
      put_down = rw (taken, ← all) partly.down;
      weight = rw (taken, ← all) partly.weight;
    }

-- ---- literals in order

less-code : (a b : Literal) → literal_cmp a b ≡ Less → code_of a < code_of b
less-code a b e = grind (arith, nat_tests)

code-within : (l : Literal) (n : ℕ) → l.variable < n → code_of l < 2 * n
code-within l n below = grind (arith, nat_tests)

-- without its first two literals a term begins with a later one, which has a list
pub code-later : (n : ℕ) (t : Term) → IsTermSet n t.0 → 3 ≤ length t.0
    → (code_at t 0 + 1 ≤ code_at (front_term (node n) t) 0)
    × (code_at (front_term (node n) t) 0 < 2 * (n + 1))
unfolding IsStrictlySortedBy
code-later n t set three = go t.0 three set.set.ordered (recursion_from_All (λ l. l.variable < n) t.0 set.set.within)
  where
    go : (ls : List Literal) → 3 ≤ length ls → IsStrictlySortedBy literal_cmp ls
        → AllByRecursion (λ l. l.variable < n) ls
        → (get_or (map code_of ls) 0 0 + 1 ≤ get_or (map code_of (drop 2 ls ++ node n ∷ [])) 0 0)
        × (get_or (map code_of (drop 2 ls ++ node n ∷ [])) 0 0 < 2 * (n + 1))
    go [] three ordered within = absurd (omega (arith, three))
    go (p ∷ []) three ordered within = absurd (omega (arith, three))
    go (p ∷ q ∷ []) three ordered within = absurd (omega (arith, three))
    go (p ∷ q ∷ r ∷ ls) three ordered within =
        let less = less-code p r ordered.0.1.0 in
        let inside = code-within r n within.1.1.0 in
        (omega (arith, less), omega (arith, inside))

-- what all terms of degree 3 or more have, one of them has
pub long_at : (P : Term → Type 0) (ts : List Term) (t : ℕ) → AllByRecursion P (filter is_long ts)
    → t < length ts → is_long (term_at ts t) ≡ true → P (term_at ts t)
long_at P [] t all within long = absurd (omega (arith, within))
long_at P (u ∷ us) zero all within long = (rw long at all).0
long_at P (u ∷ us) (suc t) all within long = grind (arith, nat_tests, long_at P us t)

pub none-long : (ts : List Term)
    → ((t : ℕ) → t < length ts → is_long (term_at ts t) ≡ true → ⊥) → filter is_long ts ≡ []
none-long [] none = refl
none-long (t ∷ ts) none =
    let rest = none-long ts (λ x below. none (suc x) (omega (arith, below))) in
    let first = none 0 (omega arith) in
    grind (arith, nat_tests)

-- the sizes of the coefficients of the terms that are taken sum to at most those of all
pub sum-filter_le : (test : Term → Bool) (f : Term → ℕ) (ts : List Term)
    → sum_by f (filter test ts) ≤ sum_by f ts
sum-filter_le test f [] = omega arith
sum-filter_le test f (t ∷ ts) = grind (arith, nat_tests, sum-filter_le test f ts, sum_by-cons)

filter-take_le : (f : Term → ℕ) (n : ℕ) (ts : List Term)
    → sum_by f (filter is_long (take n ts)) ≤ sum_by f (filter is_long ts)
filter-take_le f zero ts = omega arith
filter-take_le f (suc n) [] = omega arith
filter-take_le f (suc n) (t ∷ ts) = grind (arith, nat_tests, filter-take_le f n ts, sum_by-cons)

pub partly_small : (a : Pair) (w : Literal) (start now low low' : List Term) (m i bound : ℕ)
    → ArePartly a w start now low low' m i → terms_total (filter is_long start) ≤ bound → m ≤ bound
partly_small a w start now low low' m i bound partly small =
    let size : Term → ℕ = λ t. unsigned_abs t.1 in
    let most = sum-filter_le (λ t. begins a t.0) size (filter is_long (take i start)) in
    let same = ap terms_total (filter-touched a (take i start)) in
    omega (arith, partly.weight, same, most, filter-take_le size i start, small)

-- each term of degree 3 or more begins with a literal that has a list
pub codes_within : (n : ℕ) (ts : List Term) → AllByRecursion (λ t. IsTermSet n t.0) ts
    → AllByRecursion (λ t. is_long t ≡ true) ts → AllByRecursion (λ t. code_at t 0 < 2 * n) ts
codes_within n [] sets long = tt
codes_within n (t ∷ ts) sets long =
    (first t.0 (two-long t long.0) inside, codes_within n ts sets.1 long.1)
  where
    inside : AllByRecursion (λ l. l.variable < n) t.0
    inside = recursion_from_All (λ l. l.variable < n) t.0 sets.0.set.within

    first : (ls : List Literal) → 2 ≤ length ls → AllByRecursion (λ l. l.variable < n) ls
        → get_or (map code_of ls) 0 0 < 2 * n
    first [] two within = absurd (omega (arith, two))
    first (l ∷ ls) two within = code-within l n within.0

-- where there is no pair, there is no key
pub first_none : (ts : List Term) (keys : List ℕ) → first_pair ts keys ≡ None → keys ≡ []
first_none ts [] e = refl
first_none ts (k ∷ ks) e = absurd cc
