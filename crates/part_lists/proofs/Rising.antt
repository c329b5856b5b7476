-- Where in a rising list numbers stand.
use Rattle.part_lists.proofs.Common.{◌≡◌, ℕ, ◌≤◌, nat_lt, List, arith, IsPartitionedBy, nat_tests, get_or_default_zero, AreRising}

-- the numbers below a bound come first
pub rising_parted : (xs : List ℕ) (from : ℕ) → AreRising xs
    → IsPartitionedBy (λ n. nat_lt n from) xs
rising_parted xs from rising = λ i j d le low test.
    let up = rising i j le low in
    let one = get_or_default_zero xs i d (omega (arith, le, low)) in
    let two = get_or_default_zero xs j d low in
    grind (arith, nat_tests)
