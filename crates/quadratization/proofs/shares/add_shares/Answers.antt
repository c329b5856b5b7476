use Rattle.quadratization.proofs.Common.{elements, nat_tests, rules, ◌≡◌, ◌+◌, ◌∙◌, ap, refl, sym, arith, take, ◌+ℤ◌, to_z, of_z, unsigned_abs, w128, to_z-of_z, take_all, get_or_from_slice_get, total_by, Term, complements, term_shares, long_constant, shares_total}
use Rattle.quadratization.proofs.LongPlaces.{nodes_below}
use Rattle.quadratization.proofs.GainedShares.{gain-none, long-fits, shares-fit, constant-term, constant-fits, coefficient-fits, set-fits, gain-term, complements-le}
use Rattle.quadratization.proofs.shares.add_shares.Goals.{After-at-term, After-long_constant-constant}
use Rattle.quadratization.proofs.shares.add_shares.Goals as goal

-- the term of this step
abbrev here : (c : After-at-term) → Term
here c = (c.at-term.result.literals, c.at-term.result.coefficient)

-- it is read twice
read_again : (c : After-at-term) → (c.at.result.literals, c.at.result.coefficient) ≡ here c
read_again c =
    let first : Term = (c.at.result.literals, c.at.result.coefficient) in
    sym (get_or_from_slice_get _ c.loop-i.i first (here c) c.at.ensures.term)
    ∙ get_or_from_slice_get _ c.loop-i.i (here c) (here c) c.at-term.ensures.term

-- with its part of the constant, the constant is that of the terms up to it
constant_more : (c : After-long_constant-constant)
    → to_z w128 c.loop-i.constant-bits +ℤ to_z w128 (of_z w128 c.long_constant-constant.result)
    ≡ total_by long_constant (take (c.loop-i.i + 1) c.args.long.now.terms)
constant_more c =
    let t = c.args.long.now in
    let i = c.loop-i.i in
    let u : Term = (c.at-term.result.literals, c.at-term.result.coefficient) in
    let terms = read_again (goal.at.overflow_add-constant c).After-at-term in
    let negated = c.complements-negated.ensures ∙ ap (λ (v : Term). complements v.0) terms in
    let back = to_z-of_z w128 c.at-term.result.coefficient (search rules) in
    let own : to_z w128 (of_z w128 c.long_constant-constant.result) ≡ long_constant u =
    to_z-of_z w128 c.long_constant-constant.result (search rules)
    ∙ c.long_constant-constant.ensures c.at-term.result.literals negated
    ∙ ap (λ w. long_constant (c.at-term.result.literals, w)) back in
    let so_far : to_z w128 c.loop-i.constant-bits ≡ total_by long_constant (take i t.terms) =
    search (rules, c.loop-i.invariant.constant) in
    (λ j. so_far j +ℤ own j) ∙ sym (constant-term t i u c.at-term.ensures.kept c.at-term.ensures.term)

pub add_term_shares-requires-clause-nodes : goal.add_term_shares-requires-clause-nodes
add_term_shares-requires-clause-nodes c =
    let at = (goal.at.add_term_shares-requires-clause-nodes c).After-at-term in
    let below = nodes_below c.args.long.now c.loop-i.i (here at) c.at-term.ensures.term in
    omega (arith, c.at-term.ensures.node, below, c.requires.nodes, c.loop-i.invariant.gain.width)

pub add_term_shares-requires-clause-coefficient : goal.add_term_shares-requires-clause-coefficient
add_term_shares-requires-clause-coefficient c =
    let at = (goal.at.add_term_shares-requires-clause-coefficient c).After-at-term in
    let term = c.at-term.ensures in
    omega (arith, coefficient-fits c.args.long.now c.loop-i.i (here at) term.kept term.term, c.requires.small)

pub add_term_shares-requires-clause-small : goal.add_term_shares-requires-clause-small
add_term_shares-requires-clause-small c =
    let at = (goal.at.add_term_shares-requires-clause-small c).After-at-term in
    omega (arith, shares-fit, ap (λ n. shares_total (term_shares (here at) n)) c.at-term.ensures.node)

pub long_constant-constant-requires-clause-negated : goal.long_constant-constant-requires-clause-negated
long_constant-constant-requires-clause-negated c =
    grind (arith, nat_tests, elements, complements-le, set-fits)

pub long_constant-constant-requires-clause-coefficient : goal.long_constant-constant-requires-clause-coefficient
long_constant-constant-requires-clause-coefficient c =
    let at = (goal.at.long_constant-constant-requires-clause-coefficient c).After-at-term in
    let term = c.at-term.ensures in
    let fits = coefficient-fits c.args.long.now c.loop-i.i (here at) term.kept term.term in
    omega (arith, ap unsigned_abs (to_z-of_z w128 c.at-term.result.coefficient (search rules)), fits, c.requires.small)

pub overflow_add-constant : goal.overflow_add-constant
overflow_add-constant c =
    let at = (goal.at.overflow_add-constant c).After-at-term in
    let term = c.at-term.ensures in
    let fits = constant-fits c.args.long.now c.loop-i.i (here at) term.kept term.term in
    search (rules, constant_more c, fits, c.requires.small)

pub loop-i-preserved : goal.loop-i-preserved
loop-i-preserved c =
    let at = (goal.at.loop-i-preserved c).After-at-term in
    let t = c.args.long.now in
    let i = c.loop-i.i in
    let term = c.at-term.ensures in
    let old = c.loop-i.weights in
    let new = c.add_term_shares.new.weights in
    record {
      gain =
          gain-term t i (here at) term.kept term.term c.args.weights.now old new c.loop-i.invariant.gain
          (rw term.node at c.add_term_shares.ensures);
      constant =
          ap (λ w. to_z w128 (of_z w128 w)) (constant_more c)
          ∙ to_z-of_z w128 (total_by long_constant (take (i + 1) t.terms))
          (search (rules, constant-fits t i (here at) term.kept term.term, c.requires.small));
    }

pub loop-i-init : goal.loop-i-init
loop-i-init c = record { gain = gain-none c.args.weights.now; constant = refl }

pub add_term_shares-requires-clause-set : goal.add_term_shares-requires-clause-set
add_term_shares-requires-clause-set c = grind (arith, nat_tests, elements, set-fits, here)

pub add_term_shares-requires-clause-long : goal.add_term_shares-requires-clause-long
add_term_shares-requires-clause-long c =
    let at = (goal.at.add_term_shares-requires-clause-long c).After-at-term in
    long-fits c.args.long.now c.loop-i.i (here at) c.at-term.ensures.kept c.at-term.ensures.term

pub add_term_shares-requires-clause-negated : goal.add_term_shares-requires-clause-negated
add_term_shares-requires-clause-negated c = grind (arith, nat_tests, read_again)

pub returns-clause-weights : goal.returns-clause-weights
returns-clause-weights c = grind (arith, nat_tests, take_all)

pub returns-clause-constant : goal.returns-clause-constant
returns-clause-constant c = grind (arith, nat_tests, take_all)
