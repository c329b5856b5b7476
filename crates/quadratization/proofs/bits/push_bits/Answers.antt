use Rattle.std.proofs.Common.{rules}
use Rattle.quadratization.proofs.LongPlaces.{bits-negative}
use Rattle.quadratization.proofs.bits.push_bits.Goals as goal

pub returns-then-coefficient-lt0 : goal.returns-then-coefficient-lt0
returns-then-coefficient-lt0 c =
    search (rules, bits-negative c.args.x.now c.args.literals c.args.coefficient c.requires.long (search rules))
