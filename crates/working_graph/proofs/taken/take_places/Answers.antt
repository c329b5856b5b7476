use Rattle.working_graph.proofs.Common.{◌≡◌, ℕ, ◌+◌, ◌<◌, List, [], ◌∷◌, Bool, true, length, map, refl, sym, ap, ◌∙◌, arith, length-append, length-set, clique_places, clique_chain, at_of_in, fabric_of, taken_of, map-append}
use Rattle.working_graph.proofs.WorkingCliques.{are_taken}
use Rattle.working_graph.proofs.FreePlaces.{next_free, next_barred, mark_more, chains_front, chains_all}
use Rattle.working_graph.proofs.taken.take_places.Goals.{then-free+in_ok-push_qubits, else-free}
use Rattle.working_graph.proofs.taken.take_places.Goals as goal

pub returns-then-len-nodes : goal.returns-then-len-nodes
returns-then-len-nodes c =
    let places = c.clique_places-places.ensures ∙ ap clique_places c.graph-graph.ensures in
    chains_front c.args.working.now c.loop-place.place c.args.nodes c.loop-place.taken
    (omega (arith, c.loop-place-test.true, places)) c.loop-place.invariant.0
    (omega (arith, c.len.ensures, c.if-len-nodes.true))

pub returns : goal.returns
returns c =
    let w = c.args.working.now in
    let places = c.clique_places-places.ensures ∙ ap clique_places c.graph-graph.ensures in
    let last : c.loop-place.place ≡ clique_places w.graph =
    omega (arith, c.loop-place-test.false, places, c.loop-place.auto.place-end) in
    chains_all w c.loop-place.place c.args.nodes c.loop-place.taken last c.loop-place.invariant.0
    c.loop-place.invariant.3

pub is_free-requires-clause-earlier : goal.is_free-requires-clause-earlier
is_free-requires-clause-earlier c = λ u marked.
    let taken = are_taken (fabric_of c.args.working.now) _ c.loop-place.place in
    let at = at_of_in (taken_of (fabric_of c.args.working.now) _ c.loop-place.place) u
    (sym (c.loop-place.invariant.1 u) ∙ marked) in
    rw at.2 at (taken.below at.0 at.1)

pub loop-place-preserved : goal.loop-place-preserved
loop-place-preserved c =
    let f = fabric_of c.args.working.now in
    let chain = clique_chain c.args.working.now.graph in
    let place = c.loop-place.place in
    let xs = taken_of f chain place in
    let next = taken_of f chain (place + 1) in
    let seen = c.loop-place.marks in
    let old = c.loop-place.taken in
    let inv = c.loop-place.invariant in
    let free = c.in_ok-free.ensures.free xs inv.1 (are_taken f chain place) in
    let places = c.clique_places-places.ensures ∙ ap clique_places c.graph-graph.ensures in
    let below : place < length seen = omega (arith, c.loop-place-test.true, places, inv.2) in
    elim c.if-free.branch [
      | then-free+in_ok-push_qubits w ↦
          let more = next_free f chain place xs refl (sym free ∙ w.if-free.true) in
          let marks = w.marks-is in
          let pushed = w.taken-is ∙ w.in_ok-push_qubits.ensures.pushed in
          let here = w.deref.ensures.value ∙ c.in_ok-free.ensures.filled w.if-free.true in
          let count = length-append old (w.deref.result.now ∷ []) in
          let size = ap (λ (m : List (List ℕ)). length m) pushed in (
            pushed ∙ rw (inv.0, here, ← more) (sym (map-append chain xs (place ∷ []))),
            λ u. cc (marks, mark_more seen xs place below inv.1 u, more),
            ap (λ (ms : List Bool). length ms) marks ∙ length-set seen place true ∙ inv.2,
            omega (arith, inv.3, c.len.ensures, c.if-len-nodes.false, count, size),
          )
      | else-free w ↦
          let same = next_barred f chain place xs refl (sym free ∙ w.if-free.false) in
          let marks = w.marks-is in (
            w.taken-is ∙ inv.0 ∙ ap (map chain) same,
            λ u. cc (marks, inv.1 u, same),
            ap (λ (ms : List Bool). length ms) marks ∙ inv.2,
            omega (arith, inv.3, ap (λ (m : List (List ℕ)). length m) w.taken-is),
          )
    ]
