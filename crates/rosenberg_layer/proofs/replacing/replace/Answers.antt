use Rattle.rosenberg_layer.proofs.Common.{◌≡◌, List, length, arith, rules, w128, to_z-of_z, Term, node, front_term, term_at}
use Rattle.rosenberg_layer.proofs.PutBack.{low_down, put_at}
use Rattle.rosenberg_layer.proofs.replacing.replace.Goals as goal

pub returns-then-degree-eq2-clause-low : goal.returns-then-degree-eq2-clause-low
returns-then-degree-eq2-clause-low c =
    let t = c.args.term in
    let u = front_term (node c.args.number) (term_at c.args.long.now t) in
    let v = term_at c.replace.new.self t in
    let low : List Term = c.args.low.now.items in
    let same = put_at c.args.long.now c.replace.new.self t u c.requires.within c.replace.ensures in
    let two : length v.0 ≡ 2 = omega (arith, c.degree.ensures.degree, c.if-degree-eq2.true) in
    let back = to_z-of_z w128 c.coefficient.result (search rules) in
    let more = rw back at c.in_ok-push.ensures.items in
    low_down u v low _ c.pair.result c.coefficient.result same two c.pair.ensures c.coefficient.ensures more
