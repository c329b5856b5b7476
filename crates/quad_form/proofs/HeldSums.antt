-- Sums of what terms of at most two literals give: one addition more, and more nodes.
use Rattle.quad_form.proofs.Common.{get_or-replicate, nat_tests, ◌≡◌, ℕ, zero, suc, ◌+◌, ◌*◌, ◌<◌, ◌≤◌, ◌^◌, arith, refl, sym, subst, ap, ◌∙◌, List, [], ◌∷◌, ◌++◌, length, length-append, replicate, get_or, ℤ, pos, ◌+ℤ◌, unsigned_abs, All, Result, Ok, Err, flat_map, OnOk, ints, flat_map_more, get_or-append_right, get_or_append_left, get_or_past, length-replicate, length-set, All-append, All-from_recursion, All-push, All-tail, All-weaker, recursion_from_All, sum_by-append, sum_by-set, size-plus, total_by_push, Entry, weight_total, weights-append, Literal, Term, terms_total, IsTermSet, HasRoomFor, TableContent, IsLow, IsTable, with_appended, terms_total-append, terms_total-cons, room_own, IsLiteralSet-ascends, IsTermSet-wider, IsPair, Share, share_at, short_constant, short_couplers, short_shares, SumsContent, AreSummed, Gain, HasRoom, IsSums, size_of, widened, with_weight}
use Rattle.quad_form.proofs.ShortTerms.{share_at-append, short_constant-size, short_couplers-few, short_couplers-pairs, short_couplers-size}
use Rattle.quad_form.proofs.UniqueForms.{grown}

-- ---- shares added

pub size-with_weight : (sums : List ℤ) (j : ℕ) (c : ℤ) → j < length sums
    → size_of (with_weight sums j c) ≤ size_of sums + unsigned_abs c
size-with_weight sums j c in' = grind (arith, nat_tests, ints, sum_by-set, size-plus)

-- one share, added to the weight of its node
pub gain-one : (ws new : List ℤ) (i most : ℕ) (c z : ℤ) → i < length ws → z ≡ c
    → unsigned_abs c ≤ most → new ≡ with_weight ws i z → Gain ((i, c) ∷ []) most ws new
gain-one ws new i most c z in' is low made =
    grind (arith, nat_tests, ints, length-set, grown, size-with_weight)

-- first some, and then others
pub gain-both : (s u : List Share) (m k : ℕ) (a b c : List ℤ) → Gain s m a b → Gain u k b c
    → Gain (s ++ u) (m + k) a c
gain-both s u m k a b c first second = record {
  width = second.width ∙ first.width;
  weights = λ i. omega (arith, ints, second.weights i, first.weights i, share_at-append i s u);
  small = omega (arith, first.small, second.small);
}

-- ---- one addition more

-- a term, whose coefficient the code has as z, was added
pub record Added (s k : SumsContent) (ls : List Literal) (z : ℤ) : Type 0 where
  pub total : k.total ≡ s.total + unsigned_abs z
  pub constant : k.constant ≡ s.constant +ℤ short_constant (ls, z)
  pub gain : Gain (short_shares (ls, z)) (2 * unsigned_abs z) s.weights k.weights
  pub pairs : k.pairs ≡ s.pairs ++ short_couplers (ls, z)

module _ (s k : SumsContent) (ls : List Literal) (z : ℤ) (set : IsTermSet (length s.weights) ls) (added : Added s k ls z) where
  -- what is held has it after what it had
  pub held-more : (t : TableContent) (c : ℤ) → z ≡ c → length ls ≤ 2 → AreSummed t s
      → AreSummed (with_appended t ls c) k
  held-more t c is low held =
      let one : List Term = (ls, z) ∷ [] in
      let shares = flat_map_more short_shares [] t.terms (ls, z) in
      subst (λ w. AreSummed (with_appended t ls w) k) is (record {
        width = added.gain.width ∙ held.width;
        sets = All-push (λ (u : Term). IsTermSet t.width u.0) t.terms (ls, z) held.sets (rw held.width at set);
        low = All-push (λ (u : Term). length u.0 ≤ 2) t.terms (ls, z) held.low low;
        total = omega (arith, added.total, held.total, terms_total-append t.terms one, terms_total-cons (ls, z) []);
        constant = omega (arith, ints, added.constant, held.constant, total_by_push short_constant t.terms (ls, z));
        weights = λ i.
            let both = share_at-append i (flat_map short_shares t.terms) (short_shares (ls, z)) in
            omega (arith, ints, added.gain.weights i, held.weights i, ap (share_at i) shares, both);
        pairs = rw (added.pairs, held.pairs) (flat_map_more short_couplers [] t.terms (ls, z));
      })

  -- and it fits
  pub fits-more : IsSums s → s.total + unsigned_abs z ≤ 2 ^ 122 → IsSums k
  fits-more fits low =
      let n = length s.weights in
      let up = IsLiteralSet-ascends n ls set.set in
      let below = recursion_from_All (λ (l : Literal). l.variable < n) ls set.set.within in
      let both : All (IsPair n) (s.pairs ++ short_couplers (ls, z)) =
      All-append (IsPair n) s.pairs (short_couplers (ls, z)) fits.pairs
      (All-from_recursion (IsPair n) (short_couplers (ls, z)) (short_couplers-pairs n (ls, z) up below)) in
      record {
        narrow = omega (arith, added.gain.width, fits.narrow);
        total = omega (arith, added.total, low);
        constant = omega (arith, ap unsigned_abs added.constant, size-plus, short_constant-size);
        weights = omega (arith, added.gain.small, fits.weights, added.total);
        pairs = rw (added.gain.width, added.pairs) both;
        pairs_total = omega (arith, ap weight_total added.pairs, weights-append, short_couplers-size);
      }

  pub few-more : length ls ≤ 2 → 4 * length k.pairs ≤ 4 * length s.pairs + length ls ^ 2
  few-more low = grind (arith, nat_tests, length-append, short_couplers-few)

-- ---- room for terms

-- after a term there is room for those after it
room-next : (s k : SumsContent) (ls : List Literal) (z c : ℤ) (more : List Term) → z ≡ c
    → HasRoom s ((ls, c) ∷ more) → length k.weights ≡ length s.weights
    → k.total ≡ s.total + unsigned_abs z → HasRoom k more
room-next s k ls z c more is room width total = record {
  sets = rw width (All-tail (λ (u : Term). IsTermSet (length s.weights) u.0) (ls, c) more room.sets);
  low = All-tail (λ (u : Term). length u.0 ≤ 2) (ls, c) more room.low;
  total = omega (arith, room.total, total, ap unsigned_abs is, terms_total-cons (ls, c) more);
}

-- where the answer is good
pub room_if_ok : {V E : Type 0} (r : Result V E) (s k : SumsContent) (ls : List Literal) (z c : ℤ) (more : List Term)
    → z ≡ c → HasRoom s ((ls, c) ∷ more) → OnOk r (length k.weights ≡ length s.weights)
    → OnOk r (k.total ≡ s.total + unsigned_abs z) → OnOk r (HasRoom k more)
room_if_ok (Ok v) s k ls z c more is room width total = room-next s k ls z c more is room width total
room_if_ok (Err e) s k ls z c more is room width total = tt

-- where nothing is held, there is room for the terms of a table
pub room-table : (t : TableContent) (s : SumsContent) → IsTable t → IsLow t
    → terms_total t.terms ≤ 2 ^ 122 → AreSummed (record t { terms = [] }) s → HasRoomFor HasRoom s t.terms
room-table t s table low small none =
    room_own HasRoom s t.terms (record {
      sets = subst (λ n. All (λ (u : Term). IsTermSet n u.0) t.terms) (sym none.width) table.terms.sets;
      low = low;
      total = omega (arith, none.total, small);
    })

-- ---- more nodes

pub size-zeros : (n : ℕ) → size_of (replicate n (pos 0)) ≡ 0
size-zeros zero = refl
size-zeros (suc n) = size-zeros n

pub length-widened : (nodes : ℕ) (ws : List ℤ) → length ws ≤ nodes → length (widened nodes ws) ≡ nodes
length-widened nodes ws le = grind (arith, nat_tests, ints, length-append, length-replicate)

pub size-widened : (nodes : ℕ) (ws : List ℤ) → size_of (widened nodes ws) ≡ size_of ws
size-widened nodes ws = grind (arith, nat_tests, ints, sum_by-append, size-zeros)

-- each weight is as it was, and 0 past the last one
pub value-widened : (nodes : ℕ) (ws : List ℤ) (i : ℕ)
    → get_or (widened nodes ws) i (pos 0) ≡ get_or ws i (pos 0)
value-widened nodes ws i =
    grind (arith, get_or_append_left, get_or-append_right, get_or_past, get_or-replicate, length-append, length-replicate)

module _ (s k : SumsContent) (nodes : ℕ) (wider : length s.weights ≤ nodes) (total : k.total ≡ s.total) (constant : k.constant ≡ s.constant) (weights : k.weights ≡ widened nodes s.weights) (pairs : k.pairs ≡ s.pairs) where
  wide : length k.weights ≡ nodes
  wide = ap length weights ∙ length-widened nodes s.weights wider

  -- the additions are held over them
  pub held-wider : (t : TableContent) → AreSummed t s → AreSummed (record t { width = nodes }) k
  held-wider t held = record {
    width = wide;
    sets =
        All-weaker (λ (u : Term). IsTermSet t.width u.0) (λ (u : Term). IsTermSet nodes u.0)
        (λ (u : Term) set. IsTermSet-wider t.width nodes u.0 (omega (arith, held.width, wider)) set) t.terms held.sets;
    low = held.low;
    total = total ∙ held.total;
    constant = constant ∙ held.constant;
    weights = λ i. rw weights (value-widened nodes s.weights i ∙ held.weights i);
    pairs = pairs ∙ held.pairs;
  }

  -- and fit
  pub fits-wider : nodes < 2 ^ 32 → IsSums s → IsSums k
  fits-wider narrow fits =
      let n = length s.weights in
      let more : All (IsPair nodes) s.pairs =
      All-weaker (IsPair n) (IsPair nodes)
      (λ (e : Entry) p. record { upward = p.upward; within = omega (arith, p.within, wider) }) s.pairs fits.pairs in
      record {
        narrow = omega (arith, wide, narrow);
        total = omega (arith, total, fits.total);
        constant = omega (arith, ap unsigned_abs constant, total, fits.constant);
        weights = omega (arith, ap size_of weights, size-widened nodes s.weights, total, fits.weights);
        pairs = rw (wide, pairs) more;
        pairs_total = omega (arith, ap weight_total pairs, total, fits.pairs_total);
      }
