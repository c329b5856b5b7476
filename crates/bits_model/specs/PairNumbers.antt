-- The number of a pair of nodes, and the way back.
use Rattle.std.specs.Prelude.{ℕ, ◌+◌, ◌*◌, ◌/◌, ◌%◌, ◌^◌, ℤ}
use Rattle.bits_model.specs.declared.output.Entry.{Entry}

-- the number of a pair, which rises with its first node, and then with its second
abbrev pub pair_number : Entry → ℕ
pair_number e = e.first * 2 ^ 32 + e.second

-- the entry with this number of its pair
abbrev pub numbered : ℕ → ℤ → Entry
numbered n w = record { first = n / 2 ^ 32; second = n % 2 ^ 32; weight = w }
