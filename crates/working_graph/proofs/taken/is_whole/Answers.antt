use Rattle.working_graph.proofs.Common.{◌≡◌, ◌<◌, ◌&&◌, true, false, sym, ap, subst, ◌∙◌, arith, list_all, and_left, Chimera, clique_places, clique_chain, exists_in, joined_in, are_linked}
use Rattle.working_graph.proofs.EmptyForm.{clique_within}
use Rattle.working_graph.proofs.taken.is_whole.Goals as goal

pub fill_chain-requires : goal.fill_chain-requires
fill_chain-requires c =
    subst (λ (h : Chimera). c.args.place < clique_places h) (sym c.graph-graph.ensures) c.requires

pub are_linked-requires : goal.are_linked-requires
are_linked-requires c =
    let graph = c.args.working.now.graph in
    let same = c.deref.ensures.value ∙ c.in_ok-fill_chain.ensures
    ∙ ap (λ (h : Chimera). clique_chain h c.args.place) c.graph-graph.ensures in
    rw same (λ j low. clique_within graph c.args.place c.requires j 0 low)

pub returns-then-not-all_exist-clause-whole : goal.returns-then-not-all_exist-clause-whole
returns-then-not-all_exist-clause-whole c =
    let w = c.args.working.now in
    let broken : c.all_exist.result ≡ false = grind (arith, c.if-not-all_exist.true) in
    sym (and_left (list_all (exists_in w) _) (are_linked (joined_in w) _)
    (sym c.all_exist.ensures ∙ broken))

pub returns-clause-whole : goal.returns-clause-whole
returns-clause-whole c =
    let w = c.args.working.now in
    let chain = clique_chain w.graph c.args.place in
    let same = c.deref.ensures.value ∙ c.in_ok-fill_chain.ensures
    ∙ ap (λ (h : Chimera). clique_chain h c.args.place) c.graph-graph.ensures in
    let kept : c.all_exist.result ≡ true = grind (arith, c.if-not-all_exist.false) in
    let alive : list_all (exists_in w) chain ≡ true = sym c.all_exist.ensures ∙ kept in
    c.are_linked.ensures ∙ ap (are_linked (joined_in w)) same
    ∙ sym (ap (λ b. b && are_linked (joined_in w) chain) alive)

pub returns-clause-filled : goal.returns-clause-filled
returns-clause-filled c = λ linked.
    c.in_ok-fill_chain.ensures
    ∙ ap (λ (h : Chimera). clique_chain h c.args.place) c.graph-graph.ensures
