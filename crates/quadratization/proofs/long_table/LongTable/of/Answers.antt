use Rattle.quadratization.proofs.Common.{arith, nat_tests, List, ap, sym, ◌∙◌, subst, Term, sums_of, summed_is, additions_at, AreLong}
use Rattle.quadratization.proofs.SortedAdditions.{AreLong-table}
use Rattle.quadratization.proofs.long_table.LongTable.of.Goals as goal

pub numbered-requires : goal.numbered-requires
numbered-requires c = grind (arith, nat_tests, summed_is)

pub invariant_of-result : goal.invariant_of-result
invariant_of-result c =
    let made = c.in_ok-products.ensures ∙ ap (λ ks. sums_of (additions_at c.args.additions.now ks)) c.deref.ensures.value ∙ summed_is _ _ c.in_ok-order.ensures.permuted c.in_ok-order.ensures.ordered in
    let table = AreLong-table c.args.width c.args.additions.now c.requires.additions c.requires.long c.requires.narrow in
    record {
      kept = subst (λ (ts : List Term). AreLong (record { width = c.args.width; terms = ts })) (sym made) table;
      numbered = c.in_ok-first_nodes.ensures.firsts;
      counted = c.in_ok-first_nodes.ensures.next;
    }

pub returns : goal.returns
returns c = grind (arith, nat_tests, summed_is)
