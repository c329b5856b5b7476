use Rattle.std.proofs.Common.{◌*◌, sym, length}
use Rattle.basic_solve.proofs.BitPlaces.{bits-at}
use Rattle.basic_solve.proofs.bits.bit.Goals as goal

pub returns : goal.returns
returns c = sym (bits-at c.args.bytes.now (8 * length c.args.bytes.now) c.args.index c.requires)
