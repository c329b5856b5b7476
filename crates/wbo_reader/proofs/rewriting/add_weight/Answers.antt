use Rattle.std.proofs.Math.Seq.{get_or-append_seam}
use Rattle.wbo_reader.proofs.Common.{[], false, Product, length, pos, arith, length-append, bit_product}
use Rattle.wbo_reader.proofs.rewriting.add_weight.Goals as goal

pub add_weighed-requires-clause-within : goal.add_weighed-requires-clause-within
add_weighed-requires-clause-within c =
    let ts = c.args.problem.now.objective in
    let t = bit_product c.args.variable (pos c.args.weight) in
    let is = rw (get_or-append_seam ts t [] t) at (c.requires.0.objective (length ts) t (omega (arith, length-append {A = Product}))) in
    is.set.within 0 (record { variable = c.args.variable; negated = false }) (omega arith)
