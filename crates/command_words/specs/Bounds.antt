-- The bound of a cost that a command gives.
use Rattle.std.specs.Prelude.{ℤ, pos, neg_ℤ, Option, if◌then◌else◌}
use Rattle.std.specs.Option.{option_map}
use Rattle.command_words.specs.declared.commands.Bound.{Bound}

-- the number that a bound is: its size, negated where it is negative
abbrev pub number_of : Bound → ℤ
number_of bound = if bound.negative then neg_ℤ (pos bound.size) else pos bound.size

-- the most that an assignment may cost, where a bound is given
abbrev pub most_of : Option Bound → Option ℤ
most_of bound = option_map number_of bound
