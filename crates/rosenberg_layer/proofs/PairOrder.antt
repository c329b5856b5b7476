-- The order of pairs, and the pairs that terms in order begin with.
use Rattle.rosenberg_layer.proofs.Common.{◌≡◌, ◌⊎◌, ◌≤◌, true, arith, ap, List, [], ◌∷◌, length, IsTotalOrder, on_total, then_total, nat_tests, Literal, literal_total, Term, set_cmp, Under, Pair, is_long, begins, pair_cmp, pair_of, Follow, AllLong}
use Rattle.std.specs.declared.cmp.Ordering.TheVariants.{Less}
use Rattle.rosenberg_layer.proofs.PairTerms.{begins-is}

-- ---- the order of pairs

pub pair_total : IsTotalOrder pair_cmp
pair_total =
    then_total (on_total (λ (p : Pair). p.0) literal_total) (on_total (λ (p : Pair). p.1) literal_total)

-- the other pair is this one, or comes after it
abbrev pub From : Pair → Pair → Type 0
From a b = (a ≡ b) ⊎ (pair_cmp a b ≡ Less)

less-from : (a b c : Pair) → pair_cmp a b ≡ Less → From b c → pair_cmp a c ≡ Less
less-from a b c less from = let trans = pair_total.trans a b c less in grind (arith, nat_tests)

-- ---- the pairs of terms in order

pub two-long : (t : Term) → is_long t ≡ true → 2 ≤ length t.0
two-long t e = grind (arith, nat_tests)

pub pairs-rise : (ls ks : List Literal) → 2 ≤ length ls → 2 ≤ length ks → set_cmp ls ks ≡ Less
    → From (pair_of ls) (pair_of ks)
pairs-rise ls ks two also less = grind (arith, nat_tests)

pub all-follow : (a : Pair) (t : Term) (ts : List Term) → Under t.0 ts → AllLong (t ∷ ts)
    → pair_cmp a (pair_of t.0) ≡ Less → Follow a ts
all-follow a t [] under long first = tt
all-follow a t (u ∷ us) under long first =
    let next = pairs-rise t.0 u.0 (two-long t long.0) (two-long u long.1.0) under.0 in
    grind (arith, nat_tests, all-follow a t us under.1 (long.0, long.1.1) first, less-from)

pub begins-pair : (a : Pair) (ls : List Literal) → 2 ≤ length ls → a ≡ pair_of ls
    → begins a ls ≡ true
begins-pair a ls two e = grind (arith, nat_tests)

pub pair-begins : (a : Pair) (ls : List Literal) → begins a ls ≡ true → pair_of ls ≡ a
pair-begins a ls e = ap pair_of (begins-is a.0 a.1 ls e).1
