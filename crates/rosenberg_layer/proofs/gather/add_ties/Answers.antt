use Rattle.rosenberg_layer.proofs.Common.{◌<◌, ◌∙◌, length, get_or_from_slice_get, ◌≡◌, ◌+◌, ◌++◌, ℕ, List, arith, ap, get_or, drop, terms_total, Term, terms_total-append, rest_room, Pair, tie_terms, ties_of}
use Rattle.term_table.proofs.Filling.{rest_more}
use Rattle.rosenberg_layer.proofs.Gathered.{rest-start, ties-next}
use Rattle.rosenberg_layer.proofs.gather.add_ties.Given.{Over}
use Rattle.rosenberg_layer.proofs.gather.add_ties.Goals.{After-node}
use Rattle.rosenberg_layer.proofs.gather.add_ties.Goals as goal

pub loop-index-init : goal.loop-index-init
loop-index-init g c =
    let pairs : List Pair = c.args.pairs.now in
    let ms : List ℕ = c.args.weights.now in
    let start : c.args.start + 0 ≡ c.args.start = omega arith in
    let same = ap (λ n. ties_of n pairs ms) start in
    record {
      rest = rest-start g.G.Gather.takes g.G.Gather.holds c.args.terms.now _ (ties_of c.args.start pairs ms) same;
      small = omega (arith, c.requires.small, ap terms_total same);
    }

-- the ties of the next pair, and those of the pairs after it
module _ (g : Over) (c : After-node g) where
  abbrev pairs : List Pair
  pairs = c.args.pairs.now

  abbrev ms : List ℕ
  ms = c.args.weights.now

  abbrev i : ℕ
  i = c.loop-index.index

  abbrev first : List Term
  first = tie_terms c.at.result c.node.result (get_or ms i 0)

  abbrev rest : List Term
  rest = ties_of (c.args.start + (i + 1)) (drop (i + 1) pairs) (drop (i + 1) ms)

  next : ties_of (c.args.start + i) (drop i pairs) (drop i ms) ≡ first ++ rest
  next =
      let inside : i < length pairs = omega (arith, c.loop-index-test.true, c.len-index-end.ensures) in
      let same = get_or_from_slice_get pairs i c.at.result c.at.result c.at.ensures in
      ties-next c.args.start i pairs ms c.at.result 0 c.node.result inside
      (omega (arith, inside, c.requires.each)) c.node.ensures
      ∙ ap (λ (p : Pair). tie_terms p c.node.result (get_or ms i 0) ++ rest) same

pub add_tie-requires-clause-room : goal.add_tie-requires-clause-room
add_tie-requires-clause-room g c =
    let at = (goal.at.add_tie-requires-clause-room g c).After-node in
    rest_room g.G.Gather.takes g.G.Gather.holds c.args.terms.now c.loop-index.terms _ (rest g at) _
    (first g at) (next g at) c.loop-index.invariant.rest c.requires.room

pub add_tie-requires-clause-small : goal.add_tie-requires-clause-small
add_tie-requires-clause-small g c =
    let at = (goal.at.add_tie-requires-clause-small g c).After-node in
    let more = terms_total-append (first g at) (rest g at) in
    omega (arith, c.loop-index.invariant.small, ap terms_total (next g at), more)

pub loop-index-preserved : goal.loop-index-preserved
loop-index-preserved g c =
    let at = (goal.at.loop-index-preserved g c).After-node in
    let more = terms_total-append (first g at) (rest g at) in
    record {
      rest =
          rest_more g.G.Gather.takes g.G.Gather.holds c.args.terms.now c.loop-index.terms
          c.add_tie.new.terms _ (rest g at) _ (first g at) (next g at) c.in_ok-add_tie.ensures
          c.loop-index.invariant.rest;
      small = omega (arith, c.loop-index.invariant.small, ap terms_total (next g at), more);
    }
