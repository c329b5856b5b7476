-- Numbers that are at least another.
use Rattle.wbo_reader.proofs.Common.{◌≡◌, ◌≢◌, ℕ, ◌≤◌, Some, Result, Ok, arith, nat_tests, TextFault, Word, natural_at}

abbrev number : ℕ → Result ℕ TextFault
number n = Ok n

-- a number that is read is at least what it is to be
pub natural_least : (least n : ℕ) (w : Word) → natural_at least w ≡ Ok n → least ≤ n
unfolding natural_at
natural_least least n w h = grind (arith, nat_tests)

pub not_zero : (n : ℕ) → 1 ≤ n → Some n ≢ Some 0
not_zero n le e = let zero : n ≡ 0 = cc in absurd (omega (arith, zero, le))
