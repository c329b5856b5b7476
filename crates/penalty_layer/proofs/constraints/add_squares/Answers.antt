use Rattle.penalty_layer.proofs.Common.{nat_tests, ◌≡◌, ◌+◌, ◌*◌, ◌^◌, ◌∙◌, ◌++◌, ap, subst, sym, rules, arith, ℕ, List, All, sum_by, All-head, All-tail, sum_by-cons, Constraint, constraint_total, reach, slack_bits, Term, terms_total, mul-le, own, IsSet, square_terms, slack_form, constraint_terms, fills_same, rest_all, rest_more, rest_none, rest_room, room_same}
use Rattle.penalty_layer.proofs.Sets.{slack_form-sets}
use Rattle.penalty_layer.proofs.Sums.{own-le, slack_form-total}
use Rattle.penalty_layer.proofs.constraints.add_squares.Goals as goal

pub loop-constraint-init : goal.loop-constraint-init
loop-constraint-init g c =
    let items : c.into_iter-constraint-iterator.result ≡ c.args.constraints.now = search rules in
    record {
      rest = rw items (rest_none g.T.Gather.takes g.T.Gather.holds c.args.terms.now _);
      small = rw items c.requires.small;
      place = ap (λ (ks : List Constraint). c.args.first + sum_by slack_bits ks) items;
      sets = rw items c.requires.sets;
      totals = rw items c.requires.totals;
    }

pub fill-requires-clause-small : goal.fill-requires-clause-small
fill-requires-clause-small g c =
    omega (arith, ap (sum_by constraint_total) c.in-Some.ensures.steps, sum_by-cons)

pub add_square-requires-clause-parts : goal.add_square-requires-clause-parts
add_square-requires-clause-parts g c =
    let k = c.in-Some.constraint in
    let P : Constraint → Type 0 = λ j. All (λ t. IsSet t.literals) j.products in
    let products =
    All-head P k c.next.new.self
    (subst (λ (ks : List Constraint). All P ks) c.in-Some.ensures.steps c.loop-constraint.invariant.sets) in
    subst (λ (ts : List Term). All (λ (t : Term). IsSet t.0) ts) (sym c.in_ok-fill.ensures)
    (slack_form-sets c.loop-constraint.next k products)

pub add_square-requires-clause-factor : goal.add_square-requires-clause-factor
add_square-requires-clause-factor g c =
    omega (arith, c.own_or.ensures, own-le c.args.penalty c.loop-constraint.left.now, c.requires.penalty)

pub add_square-requires-clause-small : goal.add_square-requires-clause-small
add_square-requires-clause-small g c =
    let n = c.args.penalty in
    let ns = c.loop-constraint.left.now in
    let k = c.in-Some.constraint in
    let size : Constraint → ℕ = λ j. n * reach j ^ 2 in
    let form = ap (λ (ts : List Term). c.own_or.result * terms_total ts ^ 2) c.in_ok-fill.ensures
    ∙ ap (λ m. c.own_or.result * m ^ 2) (slack_form-total c.loop-constraint.next k)
    ∙ ap (λ m. m * reach k ^ 2) c.own_or.ensures in
    let less = mul-le (own n ns) (reach k ^ 2) n (reach k ^ 2) (own-le n ns) (omega arith) in
    omega (arith, form, less, ap (sum_by size) c.in-Some.ensures.steps, sum_by-cons size k c.next.new.self)

pub add_square-requires-clause-room : goal.add_square-requires-clause-room
add_square-requires-clause-room g c =
    let n = c.args.penalty in
    let ns = c.loop-constraint.left.now in
    let k = c.in-Some.constraint in
    let next = c.loop-constraint.next in
    room_same g.T.Gather.takes c.loop-constraint.terms _ _
    (λ i. square_terms (sym c.own_or.ensures i) (sym c.in_ok-fill.ensures i))
    (rest_room _ _ _ _ _ _ _ (square_terms (own n ns) (slack_form next k))
    (ap (constraint_terms n ns next) c.in-Some.ensures.steps) c.loop-constraint.invariant.rest
    c.requires.room)

pub slack_bits_of-next-requires : goal.slack_bits_of-next-requires
slack_bits_of-next-requires g c =
    omega (arith, ap (sum_by constraint_total) c.in-Some.ensures.steps, sum_by-cons)

pub overflow_add-next : goal.overflow_add-next
overflow_add-next g c = omega (arith, ap (sum_by slack_bits) c.in-Some.ensures.steps, sum_by-cons)

pub loop-constraint-preserved : goal.loop-constraint-preserved
loop-constraint-preserved g c =
    let n = c.args.penalty in
    let ns = c.loop-constraint.left.now in
    let k = c.in-Some.constraint in
    let left = c.loop-constraint.constraint-iterator in
    let others = c.next.new.self in
    let step = c.in-Some.ensures.steps in
    let next = c.loop-constraint.next in
    let count = c.slack_bits_of-next.ensures in
    let so_far = c.loop-constraint.invariant in
    let one =
    fills_same _ _ _ _ _ _ (λ i. square_terms (c.own_or.ensures i) (c.in_ok-fill.ensures i)) c.in_ok-add_square.ensures in
    let terms : constraint_terms n ns next left
    ≡ square_terms (own n ns) (slack_form next k)
    ++ constraint_terms n c.after_first-left.result.now (next + c.slack_bits_of-next.result) others =
    ap (constraint_terms n ns next) step
    ∙ (λ i. square_terms (own n ns) (slack_form next k)
    ++ constraint_terms n (sym c.after_first-left.ensures i) (next + sym count i) others) in
    let size : Constraint → ℕ = λ j. n * reach j ^ 2 in
    let P : Constraint → Type 0 = λ j. All (λ t. IsSet t.literals) j.products in
    record {
      rest = rest_more _ _ _ _ _ _ _ _ _ terms one so_far.rest;
      small = omega (arith, so_far.small, ap (sum_by size) step, sum_by-cons size k others);
      place = omega (arith, count, so_far.place, ap (sum_by slack_bits) step, sum_by-cons slack_bits k others);
      sets = All-tail P k others (subst (λ (ks : List Constraint). All P ks) step so_far.sets);
      totals = omega (arith, so_far.totals, ap (sum_by constraint_total) step, sum_by-cons constraint_total k others);
    }

pub returns : goal.returns
returns g c = grind (arith, nat_tests, rest_all)
