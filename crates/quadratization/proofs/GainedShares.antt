-- How large what terms give is, by sizes: constants, shares of nodes, and couplers of pairs.
--
-- With d literals a term of coefficient c gives each of its at most d / 2 new nodes at most
-- 4 * c * d.
use Rattle.quadratization.proofs.Common.{nat_tests, ◌≡◌, ◌⊎◌, ℕ, zero, suc, ◌+◌, ◌*◌, ◌≤◌, ◌^◌, arith, List, [], ◌∷◌, map, length, ℤ, pos, ◌-ℤ◌, ◌*ℤ◌, unsigned_abs, AllByRecursion, mul-le-mul, mul-le-mul_left, mul-le-mul_right, ints, unsigned_abs-mul, sum_by-cons, sum_by-append, count_by-le-length, total_by, size-plus, Literal, Term, terms_total, terms_total-cons, factor, nodes_for, new_nodes, factor_cases, abs_times, Share, complements, literal_share, node_shares, term_shares, all_shares, long_constant, shares_total, ◌-◌, ◌<◌, refl, sym, subst, ap, ◌∙◌, append_assoc, append-nil, get_or, ◌++◌, ◌+ℤ◌, Some, slice_get, take, sum_by, take_more, All-take, recursion_from_All, slice_get_within, get_or_from_slice_get, total_by_more, sum_by-take-le, get_or-le-sum_by, IsTermSet, TableContent, size_of, Gain, gain-both, node_share, AreLong, node_at}

-- ---- long terms: shares

pub literal_share-size : (e : ℕ) (c : ℤ) (l : Literal)
    → unsigned_abs (literal_share e c l).1 ≤ unsigned_abs c * e
literal_share-size e c l = grind (arith, nat_tests, ints, abs_times, mul-le-mul_left)

pub literal_shares-size : (e : ℕ) (c : ℤ) (ls : List Literal)
    → shares_total (map (literal_share e c) ls) ≤ length ls * (unsigned_abs c * e)
literal_shares-size e c [] = omega arith
literal_shares-size e c (l ∷ ls) =
    simp sum_by-cons (omega (arith, literal_share-size e c l, literal_shares-size e c ls))

pub node-size : (f a e d : ℕ) → (f ≡ 1) ⊎ (f ≡ 2) → a ≤ d → e ≤ d → 1 ≤ d
    → unsigned_abs (pos f *ℤ (pos a -ℤ pos e) -ℤ pos 1) ≤ 4 * d
node-size f a e d is up in' some = grind (arith, nat_tests, ints)

pub node_shares-size : (d e : ℕ) (c : ℤ) (n k : ℕ) → e ≤ d → 1 ≤ d → 2 * k ≤ d
    → shares_total (node_shares d e c n k) ≤ k * (unsigned_abs c * (4 * d))
node_shares-size d e c n zero in' some few = omega arith
node_shares-size d e c n (suc k) in' some few =
    let z = pos (factor d k) *ℤ (pos (2 * k + 2) -ℤ pos e) -ℤ pos 1 in
    let small = node-size (factor d k) (2 * k + 2) e d (factor_cases d k) (omega arith) in' some in
    let rest = node_shares-size d e c n k in' some (omega arith) in
    simp sum_by-append (omega (arith, rest, unsigned_abs-mul c z, mul-le-mul_left (unsigned_abs c) small))

-- with x the size of the coefficient
pub squares : (x d : ℕ) → d ≤ 2048 → d * (x * d) ≤ x * 2 ^ 22
squares x d short = grind (arith, nat_tests)

pub complements-le : (ls : List Literal) → complements ls ≤ length ls
complements-le ls = count_by-le-length (λ (l : Literal). l.negated) ls

pub term_shares-size : (t : Term) (n : ℕ) → 3 ≤ length t.0 → length t.0 ≤ 2048
    → shares_total (term_shares t n) ≤ unsigned_abs t.1 * 2 ^ 24
term_shares-size t n long short =
    let d = length t.0 in
    let e = complements t.0 in
    let x = unsigned_abs t.1 in
    let some = complements-le t.0 in
    let most : unsigned_abs (pos (e + 1) -ℤ pos d) ≤ 2 ^ 24 = omega (arith, ints, some, short) in
    let half : 2 * nodes_for d ≤ d = omega arith in
    let own : d * (x * e) ≤ d * (x * d) = mul-le-mul_left d (mul-le-mul_left x some) in
    let nodes : 2 * nodes_for d * (x * (2 * d)) ≤ d * (x * (2 * d)) = mul-le-mul_right (x * (2 * d)) half in
    let new = node_shares-size d e t.1 n (nodes_for d) some (omega (arith, long)) half in
    let joined = sum_by-append (λ (s : Share). unsigned_abs s.1) (map (literal_share e t.1) t.0) (node_shares d e t.1 n (nodes_for d)) in
    grind (arith, unsigned_abs-mul, mul-le-mul_left x most, own, nodes, literal_shares-size e t.1 t.0, new, joined, squares x d short)

-- ---- long terms: constants

pub long_constant-size : (t : Term) → length t.0 ≤ 2048
    → unsigned_abs (long_constant t) ≤ unsigned_abs t.1 * 2 ^ 22
long_constant-size t short =
    grind (arith, nat_tests, complements-le, mul-le-mul, abs_times, mul-le-mul_left)

-- ---- all terms

abbrev pub AreShort : List Term → Type 0
AreShort ts = AllByRecursion (λ (t : Term). (3 ≤ length t.0) × (length t.0 ≤ 2048)) ts

pub all_shares-size : (ts : List Term) (n : ℕ) → AreShort ts
    → shares_total (all_shares ts n) ≤ terms_total ts * 2 ^ 24
all_shares-size [] n long = omega arith
all_shares-size (t ∷ ts) n long =
    let one = term_shares-size t n long.0.0 long.0.1 in
    simp sum_by-append (omega (arith, one, all_shares-size ts (n + new_nodes t) long.1, terms_total-cons t ts))

pub long_constants-size : (ts : List Term) → AreShort ts
    → unsigned_abs (total_by long_constant ts) ≤ terms_total ts * 2 ^ 22
long_constants-size [] long = omega arith
long_constants-size (t ∷ ts) long =
    omega (arith, size-plus, long_constant-size, long_constants-size ts long.1, terms_total-cons)

-- Shares that are added to weights one after another: what is added so far, and what is left.

-- ---- sizes

pub product_bound : (c z : ℤ) → unsigned_abs c ≤ 2 ^ 102 → unsigned_abs z ≤ 2 ^ 21
    → unsigned_abs (c *ℤ z) ≤ 2 ^ 123
product_bound c z h k = omega (arith, unsigned_abs-mul c z, mul-le-mul h k)

pub count_bound : (d e k : ℕ) → d ≤ 2048 → e ≤ d → 2 * k + 2 ≤ d
    → unsigned_abs (pos (factor d k) *ℤ (pos (2 * k + 2) -ℤ pos e) -ℤ pos 1) ≤ 2 ^ 13
count_bound d e k short few place = grind (arith, nat_tests, ints)

-- ---- shares from a list

-- what is left to add makes all of it, and fits
pub record Gaining (start now : List ℤ) (left all : List Share) : Type 0 where
  pub rest : (new : List ℤ) → Gain left (shares_total left) now new → Gain all (shares_total all) start new
  pub width : length now ≡ length start
  pub small : size_of now + shares_total left ≤ 2 ^ 126

pub gain-weaker : (s : List Share) (m k : ℕ) (a b : List ℤ) → m ≤ k → Gain s m a b → Gain s k a b
gain-weaker s m k a b low gain = record {
  width = gain.width;
  weights = gain.weights;
  small = omega (arith, low, gain.small);
}

-- nothing is added
pub gain-none : (w : List ℤ) → Gain [] 0 w w
gain-none w = record { width = refl; weights = λ i. omega (arith, ints); small = omega arith }

pub gaining-first : (start now : List ℤ) (left rest all : List Share) (s : Share) (z : ℤ)
    → left ≡ s ∷ rest → z ≡ s.1 → Gaining start now left all → size_of now + unsigned_abs z ≤ 2 ^ 126
gaining-first start now left rest all s z step is before =
    omega (arith, ap unsigned_abs is, ap shares_total step, sum_by-cons)

pub gaining-more : (start now next : List ℤ) (left rest all : List Share) (s : Share)
    → left ≡ s ∷ rest → Gain (s ∷ []) (unsigned_abs s.1) now next → Gaining start now left all
    → Gaining start next rest all
gaining-more start now next left rest all s step one before =
    let total : shares_total left ≡ unsigned_abs s.1 + shares_total rest =
    ap shares_total step ∙ sum_by-cons (λ (u : Share). unsigned_abs u.1) s rest in
    record {
      rest = λ new gain. before.rest new (gain-weaker _ _ _ _ _ (omega (arith, total))
          (subst (λ us. Gain us (unsigned_abs s.1 + shares_total rest) now new) (sym step)
          (gain-both (s ∷ []) rest (unsigned_abs s.1) (shares_total rest) now next new one gain)));
      width = one.width ∙ before.width;
      small = omega (arith, before.small, total, one.small);
    }

-- ---- shares of new nodes

-- one node more
pub total-node_shares : (d e : ℕ) (c : ℤ) (n k : ℕ)
    → shares_total (node_shares d e c n (suc k)) ≡ shares_total (node_shares d e c n k) + unsigned_abs (node_share d e c n k).1
total-node_shares d e c n k = grind (arith, nat_tests, ints, sum_by-append)

-- fewer nodes give less
fewer : (d e : ℕ) (c : ℤ) (n k i : ℕ)
    → shares_total (node_shares d e c n k) ≤ shares_total (node_shares d e c n (k + i))
fewer d e c n k zero = grind (arith, nat_tests, ints)
fewer d e c n k (suc i) =
    let more : k + suc i ≡ suc (k + i) = omega arith in
    grind (arith, nat_tests, ints, fewer d e c n k i, total-node_shares)

pub fewer_nodes : (d e : ℕ) (c : ℤ) (n k m : ℕ) → k < m
    → shares_total (node_shares d e c n k) + unsigned_abs (node_share d e c n k).1 ≤ shares_total (node_shares d e c n m)
fewer_nodes d e c n k m less =
    let i = m - suc k in
    let whole : suc k + i ≡ m = omega (arith, less) in
    let all = subst (λ j. shares_total (node_shares d e c n (suc k)) ≤ shares_total (node_shares d e c n j)) whole (fewer d e c n (suc k) i) in
    omega (arith, all, total-node_shares d e c n k)

pub gain-node : (d e : ℕ) (c : ℤ) (n k : ℕ) (old now new : List ℤ) (z : ℤ) → z ≡ (node_share d e c n k).1
    → Gain (node_shares d e c n k) (shares_total (node_shares d e c n k)) old now
    → Gain ((n + k, z) ∷ []) (unsigned_abs z) now new
    → Gain (node_shares d e c n (k + 1)) (shares_total (node_shares d e c n (k + 1))) old new
gain-node d e c n k old now new z is before one =
    let s = node_share d e c n k in
    let next : suc k ≡ k + 1 = omega arith in
    let last = subst (λ w. Gain ((n + k, w) ∷ []) (unsigned_abs w) now new) is one in
    subst (λ j. Gain (node_shares d e c n j) (shares_total (node_shares d e c n j)) old new) next
    (gain-weaker (node_shares d e c n (suc k)) (shares_total (node_shares d e c n k) + unsigned_abs s.1)
    (shares_total (node_shares d e c n (suc k))) old new (omega (arith, total-node_shares d e c n k))
    (gain-both (node_shares d e c n k) (s ∷ []) (shares_total (node_shares d e c n k)) (unsigned_abs s.1) old now new before last))

-- ---- terms one after another

pub all_shares-append : (ts us : List Term) (n : ℕ)
    → all_shares (ts ++ us) n ≡ all_shares ts n ++ all_shares us (n + sum_by new_nodes ts)
all_shares-append [] us n = grind (arith, nat_tests)
all_shares-append (t ∷ ts) us n =
    let more : n + new_nodes t + sum_by new_nodes ts ≡ n + sum_by new_nodes (t ∷ ts) =
    omega (arith, sum_by-cons new_nodes t ts) in
    grind (arith, nat_tests, all_shares-append ts us (n + new_nodes t), append_assoc)

module _ (t : TableContent) (i : ℕ) (u : Term) (kept : AreLong t) (at : slice_get t.terms i ≡ Some u) where
  in' : i < length t.terms
  in' = slice_get_within t.terms i u at

  is : get_or t.terms i u ≡ u
  is = get_or_from_slice_get t.terms i u u at

  -- one term more
  pub shares-term : all_shares (take (i + 1) t.terms) t.width ≡ all_shares (take i t.terms) t.width ++ term_shares u (node_at t i)
  shares-term =
      ap (λ ts. all_shares ts t.width) (take_more t.terms i u in' ∙ ap (λ v. take i t.terms ++ v ∷ []) is)
      ∙ all_shares-append (take i t.terms) (u ∷ []) t.width
      ∙ ap (λ s. all_shares (take i t.terms) t.width ++ s) (append-nil (term_shares u (node_at t i)))

  pub constant-term : total_by long_constant (take (i + 1) t.terms) ≡ total_by long_constant (take i t.terms) +ℤ long_constant u
  constant-term = total_by_more long_constant t.terms i u in' ∙ ap (λ v. total_by long_constant (take i t.terms) +ℤ long_constant v) is

  pub long-fits : 3 ≤ length u.0
  long-fits = subst (λ (v : Term). 3 ≤ length v.0) is (kept.long i u in')

  -- the sets are not too long
  lengths : (k : ℕ) → AreShort (take k t.terms)
  lengths k =
      recursion_from_All _ (take k t.terms) (All-take (λ (v : Term). (3 ≤ length v.0) × (length v.0 ≤ 2048)) k t.terms
      (λ j d h. (kept.long j d h, (kept.terms.sets j d h).short)))

  total-front : (k : ℕ) → terms_total (take k t.terms) ≤ terms_total t.terms
  total-front k = sum_by-take-le (λ (v : Term). unsigned_abs v.1) t.terms k

  -- what is added so far, and what the term gives
  pub shares-fit : shares_total (all_shares (take i t.terms) t.width) + shares_total (term_shares u (node_at t i))
      ≤ terms_total t.terms * 2 ^ 24
  shares-fit =
      let sizes = all_shares-size (take (i + 1) t.terms) t.width (lengths (i + 1)) in
      let both = sum_by-append (λ (s : Share). unsigned_abs s.1) (all_shares (take i t.terms) t.width) (term_shares u (node_at t i)) in
      omega (arith, sizes, total-front (i + 1), ap shares_total shares-term, both)

  pub constant-fits : unsigned_abs (total_by long_constant (take (i + 1) t.terms)) ≤ terms_total t.terms * 2 ^ 22
  constant-fits = omega (arith, long_constants-size (take (i + 1) t.terms) (lengths (i + 1)), total-front (i + 1))

  pub coefficient-fits : unsigned_abs u.1 ≤ terms_total t.terms
  coefficient-fits = omega (arith, ap (λ (v : Term). unsigned_abs v.1) is, get_or-le-sum_by (λ (v : Term). unsigned_abs v.1) t.terms i u in')

  pub set-fits : IsTermSet t.width u.0
  set-fits = subst (λ (v : Term). IsTermSet t.width v.0) is (kept.terms.sets i u in')

  pub gain-term : (old now new : List ℤ)
      → Gain (all_shares (take i t.terms) t.width) (shares_total (all_shares (take i t.terms) t.width)) old now
      → Gain (term_shares u (node_at t i)) (shares_total (term_shares u (node_at t i))) now new
      → Gain (all_shares (take (i + 1) t.terms) t.width) (shares_total (all_shares (take (i + 1) t.terms) t.width)) old new
  gain-term old now new before one =
      let a = all_shares (take i t.terms) t.width in
      let b = term_shares u (node_at t i) in
      subst (λ s. Gain s (shares_total s) old new) (sym shares-term)
      (gain-weaker _ _ _ _ _ (omega (arith, sum_by-append (λ (s : Share). unsigned_abs s.1) a b))
      (gain-both a b (shares_total a) (shares_total b) old now new before one))
