use Rattle.rosenberg_layer.proofs.Common.{ℕ, [], drop, arith, refl, ints, on_ok_weaker, Literal, fills_if_ok, rest_none, Rest, tie_terms, Pair}
use Rattle.term_table.proofs.Filling.{rest_all, rest_more}
use Rattle.rosenberg_layer.proofs.Gathered.{rest_term, room_term}
use Rattle.rosenberg_layer.proofs.gather.add_tie.Given.{Over}
use Rattle.rosenberg_layer.proofs.gather.add_tie.Goals.{In_ok-gather, In_ok-gather-2, In_ok-gather-3}
use Rattle.rosenberg_layer.proofs.gather.add_tie.Goals as goal

-- the first terms of a tie are taken in, and the others are left
abbrev Left : (g : Over) → g.row.G.Denot → g.row.G.Denot → Pair → Literal → ℕ → ℕ → Type 0
Left g start now pair w m i =
    let all = tie_terms pair w m in
    Rest g.G.Gather.takes g.G.Gather.holds start now (drop i all) all

-- none is at the start ..
at_start : (g : Over) (start : g.row.G.Denot) (pair : Pair) (w : Literal) (m : ℕ)
    → Left g start start pair w m 0
at_start g start pair w m = rest_none g.G.Gather.takes g.G.Gather.holds start (tie_terms pair w m)

-- .. and one more is after each call
one : (g : Over) (c : In_ok-gather g)
    → Left g c.args.terms.now c.gather.new.self c.args.pair c.args.node c.args.weight 1
one g c =
    let ok = c.in_ok-gather.ensures in
    rest_term g.G.Gather.takes g.G.Gather.holds _ _ _ _ _ _ _ _
    (at_start g c.args.terms.now c.args.pair c.args.node c.args.weight)
    (omega (arith, ints, c.requires.small)) ok.added ok.takes

two : (g : Over) (c : In_ok-gather-2 g)
    → Left g c.args.terms.now c.gather.new.self c.args.pair c.args.node c.args.weight 1
    → Left g c.args.terms.now c.gather-2.new.self c.args.pair c.args.node c.args.weight 2
two g c before =
    let ok = c.in_ok-gather-2.ensures in
    rest_term g.G.Gather.takes g.G.Gather.holds _ _ _ _ _ _ _ _ before
    (omega (arith, ints, c.requires.small)) ok.added ok.takes

three : (g : Over) (c : In_ok-gather-3 g)
    → Left g c.args.terms.now c.gather-2.new.self c.args.pair c.args.node c.args.weight 2
    → Left g c.args.terms.now c.gather-3.new.self c.args.pair c.args.node c.args.weight 3
three g c before =
    let ok = c.in_ok-gather-3.ensures in
    rest_term g.G.Gather.takes g.G.Gather.holds _ _ _ _ _ _ _ _ before
    (omega (arith, ints, c.requires.small)) ok.added ok.takes

pub gather-requires : goal.gather-requires
gather-requires g c =
    room_term g.G.Gather.takes g.G.Gather.holds _ _ _ _ _ _ _
    (at_start g c.args.terms.now c.args.pair c.args.node c.args.weight) c.requires.room
    (omega (arith, ints, c.requires.small))

pub gather-requires-2 : goal.gather-requires-2
gather-requires-2 g c =
    let first = one g (goal.at.gather-requires-2 g c).In_ok-gather in
    room_term g.G.Gather.takes g.G.Gather.holds _ _ _ _ _ _ _ first c.requires.room
    (omega (arith, ints, c.requires.small))

pub gather-requires-3 : goal.gather-requires-3
gather-requires-3 g c =
    let first = one g (goal.at.gather-requires-3 g c).In_ok-gather in
    let second = two g (goal.at.gather-requires-3 g c).In_ok-gather-2 first in
    room_term g.G.Gather.takes g.G.Gather.holds _ _ _ _ _ _ _ second c.requires.room
    (omega (arith, ints, c.requires.small))

pub gather-requires-4 : goal.gather-requires-4
gather-requires-4 g c =
    let first = one g (goal.at.gather-requires-4 g c).In_ok-gather in
    let second = two g (goal.at.gather-requires-4 g c).In_ok-gather-2 first in
    let third = three g (goal.at.gather-requires-4 g c).In_ok-gather-3 second in
    room_term g.G.Gather.takes g.G.Gather.holds _ _ _ _ _ _ _ third c.requires.room
    (omega (arith, ints, c.requires.small))

pub returns : goal.returns
returns g c =
    let first = one g (goal.at.returns g c).In_ok-gather in
    let second = two g (goal.at.returns g c).In_ok-gather-2 first in
    let third = three g (goal.at.returns g c).In_ok-gather-3 second in
    let Takes = g.G.Gather.takes in
    let Holds = g.G.Gather.holds in
    on_ok_weaker c.gather-4.result
    (λ more.
    rest_all Takes Holds _ _ _ _ refl (rest_more Takes Holds _ _ _ _ [] _ _ refl more third))
    (fills_if_ok Takes Holds c.gather-3.new.self c.gather-4.new.self c.gather-4.result _ _ _ _ refl
    (omega (arith, ints, c.requires.small)) c.gather-4.ensures.added c.gather-4.ensures.takes)
