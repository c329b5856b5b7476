-- The numbers of pairs: which pairs have one, and that couplers are ordered by them.
use Rattle.pair_sums.proofs.Common.{◌≡◌, ◌⊎◌, ℕ, ◌+◌, ◌*◌, ◌<◌, ◌^◌, List, [], ◌∷◌, arith, AllByRecursion, IsStrictlySortedBy, nat_cmp, ⊤, nat_tests, Entry, entry_cmp, pair_number, IsPair}
use Rattle.std.specs.declared.cmp.Ordering.TheVariants.{Less}

pub same_pair : (a b c d : ℕ) → b < 2 ^ 32 → d < 2 ^ 32
    → a * 2 ^ 32 + b ≡ c * 2 ^ 32 + d → (a ≡ c) × (b ≡ d)
same_pair a b c d in' in2 same = (omega arith, omega arith)

-- ---- their order

-- pairs of nodes that an entry can name
abbrev pub ArePairs : List Entry → Type 0
ArePairs es = AllByRecursion (IsPair (2 ^ 32)) es

-- the number of the pair is below those of all others
abbrev pub Before : Entry → List Entry → Type 0
Before e es = AllByRecursion (λ f. pair_number e < pair_number f) es

-- the numbers ascend, and none occurs twice
abbrev pub Rises : List Entry → Type 0
Rises [] = ⊤
Rises (e ∷ es) = Before e es × Rises es

pub compared : (m n : ℕ) → (m < n) ⊎ ((m ≡ n) ⊎ (n < m))
compared m n = grind arith

below : (b d : ℕ) → nat_cmp b d ≡ Less → b < d
below b d less = grind (arith, nat_tests)

numbers_in_order : (e f : Entry) → IsPair (2 ^ 32) e → IsPair (2 ^ 32) f
    → pair_number e < pair_number f → entry_cmp e f ≡ Less
numbers_in_order e f a b less = grind (arith, nat_tests)

order_of_numbers : (e f : Entry) → IsPair (2 ^ 32) e → IsPair (2 ^ 32) f
    → entry_cmp e f ≡ Less → pair_number e < pair_number f
order_of_numbers e f a b less = grind (arith, nat_tests)

all_in_order : (e : Entry) (es : List Entry) → IsPair (2 ^ 32) e → ArePairs es → Before e es
    → AllByRecursion (λ f. entry_cmp e f ≡ Less) es
all_in_order e [] a b h = tt
all_in_order e (f ∷ fs) a b h = (numbers_in_order e f a b.0 h.0, all_in_order e fs a b.1 h.1)

all_by_number : (e : Entry) (es : List Entry) → IsPair (2 ^ 32) e → ArePairs es
    → AllByRecursion (λ f. entry_cmp e f ≡ Less) es → Before e es
all_by_number e [] a b h = tt
all_by_number e (f ∷ fs) a b h = (order_of_numbers e f a b.0 h.0, all_by_number e fs a b.1 h.1)

pub ordered_from_rising : (es : List Entry) → ArePairs es → Rises es
    → IsStrictlySortedBy entry_cmp es
unfolding IsStrictlySortedBy
ordered_from_rising [] pairs rises = tt
ordered_from_rising (e ∷ es) pairs rises =
    (all_in_order e es pairs.0 pairs.1 rises.0, ordered_from_rising es pairs.1 rises.1)

pub rising_from_ordered : (es : List Entry) → ArePairs es → IsStrictlySortedBy entry_cmp es
    → Rises es
unfolding IsStrictlySortedBy
rising_from_ordered [] pairs ordered = tt
rising_from_ordered (e ∷ es) pairs ordered =
    (all_by_number e es pairs.0 pairs.1 ordered.0, rising_from_ordered es pairs.1 ordered.1)
