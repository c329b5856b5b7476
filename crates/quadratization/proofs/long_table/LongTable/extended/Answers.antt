use Rattle.quadratization.proofs.Common.{rules, ◌∙◌, ◌++◌, ap, w128, to_z-of_z, new_bits}
use Rattle.quadratization.proofs.LongPlaces.{bits_at, long_at, short_at}
use Rattle.quadratization.proofs.long_table.LongTable.extended.Goals as goal

pub push_bits-requires-clause-long : goal.push_bits-requires-clause-long
push_bits-requires-clause-long c =
    long_at c.args.self.now c.loop-i.i _ c.at-term.ensures.term c.at-term.ensures.kept

pub push_bits-requires-clause-short : goal.push_bits-requires-clause-short
push_bits-requires-clause-short c =
    short_at c.args.self.now c.loop-i.i _ c.at-term.ensures.term c.at-term.ensures.kept

pub loop-i-preserved : goal.loop-i-preserved
loop-i-preserved c =
    let back = to_z-of_z w128 c.at-term.result.coefficient (search rules) in
    let pushed = c.in_ok-push_bits.ensures
    ∙ ap (λ k. c.loop-i.bits.items ++ new_bits c.args.x.now (c.at-term.result.literals, k)) back in
    bits_at c.args.self.now c.loop-i.i _ c.at-term.ensures.term c.args.x.now c.loop-i.bits.items _ _ pushed c.loop-i.invariant
