use Rattle.elimination_order.proofs.Common.{nat_tests, length, length-set, ◌∙◌, arith, at_place}
use Rattle.elimination_order.proofs.Numbered.{numbers_complete, numbers_more}
use Rattle.elimination_order.proofs.numbering.numbers_of.Goals as goal

pub loop-k-preserved : goal.loop-k-preserved
loop-k-preserved c =
    let names = c.args.names.now in
    let numbers = c.loop-k.numbers.items in
    let k = c.loop-k.k in
    let so_far = c.loop-k.invariant in record {
      long = length-set numbers (at_place names k) k ∙ so_far.long;
      so_far = numbers_more (length names) names numbers k c.requires.nodes so_far.long
          c.loop-k-test.true so_far.so_far;
    }

pub returns : goal.returns
returns c = grind (arith, nat_tests, numbers_complete)
