use Rattle.working_graph.proofs.Common.{◌++◌, map, sym, ap, ◌∙◌, arith, map-append, IsCoupler, clique_places, rows_before, rows_more, rows_all, all_in_row, some_in_row, clique_place}
use Rattle.working_graph.proofs.clique_places.all_places.Goals as goal

pub push_places-requires-clause-some : goal.push_places-requires-clause-some
push_places-requires-clause-some c =
    rw c.row-row.ensures (some_in_row c.args.couplings.now c.loop-k.k
    (omega (arith, c.loop-k-test.true, c.row_count-k-end.ensures)))

pub push_places-requires-clause-nodes : goal.push_places-requires-clause-nodes
push_places-requires-clause-nodes c =
    let P = IsCoupler (clique_places c.args.graph.now) in
    rw c.row-row.ensures (all_in_row P c.args.couplings.now c.loop-k.k
    (omega (arith, c.loop-k-test.true, c.row_count-k-end.ensures)) c.requires)

pub loop-k-preserved : goal.loop-k-preserved
loop-k-preserved c =
    let couplings = c.args.couplings.now in
    let k = c.loop-k.k in
    let place = clique_place c.args.graph.now in
    c.in_ok-push_places.ensures ∙ (λ i. c.loop-k.invariant i ++ map place (c.row-row.ensures i))
    ∙ sym (map-append place (rows_before couplings k) _) ∙ ap (map place)
    (sym (rows_more couplings k (omega (arith, c.loop-k-test.true, c.row_count-k-end.ensures))))

pub returns : goal.returns
returns c =
    c.new.ensures ∙ c.loop-k.invariant ∙ ap (map (clique_place c.args.graph.now))
    (rows_all c.args.couplings.now c.loop-k.k
    (omega (arith, c.loop-k-test.false, c.row_count-k-end.ensures, c.loop-k.auto.k-end)))
