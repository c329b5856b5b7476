use Rattle.penalty_layer.proofs.Common.{nat_tests, rules, arith, ◌≡◌, ◌*◌, ◌^◌, ◌++◌, ◌∷◌, [], ap, refl, sym, ◌∙◌, map, List, append_assoc, w128, sum_by, to_z-of_z, ProblemContent, penalty, reach, Constraint, Term, HasRoomFor, product_term, constraint_terms, clause_terms, contributions, ℕ, fills_as, fills_same, room_as, room_first, room_next, room_same}
use Rattle.penalty_layer.proofs.Bounds.{within_limits, all_within}
use Rattle.penalty_layer.proofs.Admitted.{nodes_within}
use Rattle.penalty_layer.proofs.Sets.{problem_sets}
use Rattle.penalty_layer.proofs.adding.add_contributions.Given.{Over}
use Rattle.penalty_layer.proofs.adding.add_contributions.Goals.{In_ok-gather, In_ok-add_products}
use Rattle.penalty_layer.proofs.adding.add_contributions.Goals as goal

-- what the clauses and the constraints contribute
abbrev hard_terms : ProblemContent → List Term
hard_terms p = clause_terms (penalty p) p.penalties.clauses p.clauses

abbrev squared_terms : ProblemContent → List Term
squared_terms p = constraint_terms (penalty p) p.penalties.constraints p.variables p.constraints

-- all but the constant
abbrev others : ProblemContent → List Term
others p = (map product_term p.objective ++ hard_terms p) ++ squared_terms p

same_clauses : {p q : ProblemContent} {n : ℕ} {ns : List ℕ} → n ≡ penalty p → ns ≡ q.penalties.clauses
    → q ≡ p → clause_terms n ns q.clauses ≡ hard_terms p
same_clauses n ns same = λ i.
    clause_terms (n i) ((ns ∙ ap (λ (r : ProblemContent). r.penalties.clauses) same) i) (same i).clauses

same_constraints : {p q : ProblemContent} {n : ℕ} {ns : List ℕ} → n ≡ penalty p
    → ns ≡ q.penalties.constraints → q ≡ p
    → constraint_terms n ns q.variables q.constraints ≡ squared_terms p
same_constraints n ns same = λ i.
    constraint_terms (n i) ((ns ∙ ap (λ (r : ProblemContent). r.penalties.constraints) same) i)
    (same i).variables (same i).constraints

-- after the constant there is room for all else
room_for_products : (g : Over) (c : In_ok-gather g)
    → HasRoomFor g.T.Gather.takes c.gather.new.self (others c.args.problem.now)
room_for_products g c =
    let p = c.args.problem.now in
    room_next g.T.Gather.takes g.T.Gather.holds _ _ _ (([], p.constant) ∷ []) (others p) refl
    (fills_as g.T.Gather.takes g.T.Gather.holds _ _ _ _ _ _ refl
    (to_z-of_z w128 c.problem.inside.constant (search rules) ∙ ap (λ (q : ProblemContent). q.constant) c.problem.view_is)
    c.in_ok-gather.ensures.added c.in_ok-gather.ensures.takes) c.requires.room

-- after the products there is room for the clauses and the squares
room_for_clauses : (g : Over) (c : In_ok-add_products g)
    → HasRoomFor g.T.Gather.takes c.gather.new.self (others c.args.problem.now)
    → HasRoomFor g.T.Gather.takes c.add_products.new.terms
    (hard_terms c.args.problem.now ++ squared_terms c.args.problem.now)
room_for_clauses g c =
    let p = c.args.problem.now in
    let products = map product_term p.objective in
    room_next g.T.Gather.takes g.T.Gather.holds _ _ _ _ _ (append_assoc products (hard_terms p) (squared_terms p))
    (fills_same _ _ _ _ _ _ (ap (λ (q : ProblemContent). map product_term q.objective) c.problem.view_is)
    c.in_ok-add_products.ensures)

pub gather-requires : goal.gather-requires
gather-requires g c =
    let p = c.args.problem.now in
    room_as g.T.Gather.takes c.args.terms.now [] _ p.constant _ refl
    (to_z-of_z w128 c.problem.inside.constant (search rules)
    ∙ ap (λ (q : ProblemContent). q.constant) c.problem.view_is)
    (room_first g.T.Gather.takes c.args.terms.now (contributions p) (([], p.constant) ∷ []) _ refl
    c.requires.room)

pub add_products-requires : goal.add_products-requires
add_products-requires g c =
    let p = c.args.problem.now in
    let products = map product_term p.objective in
    room_same g.T.Gather.takes c.gather.new.self products _
    (ap (λ (q : ProblemContent). map product_term q.objective) (sym c.problem.view_is))
    (room_first g.T.Gather.takes c.gather.new.self (others p) products _
    (append_assoc products (hard_terms p) (squared_terms p))
    (room_for_products g (goal.at.add_products-requires g c).In_ok-gather))

pub add_clauses-requires-clause-room : goal.add_clauses-requires-clause-room
add_clauses-requires-clause-room g c =
    let p = c.args.problem.now in
    let at = goal.at.add_clauses-requires-clause-room g c in
    room_same g.T.Gather.takes c.add_products.new.terms (hard_terms p) _
    (sym (same_clauses c.penalty-penalty.ensures.value c.as_slice.ensures c.problem.view_is))
    (room_first g.T.Gather.takes c.add_products.new.terms _ (hard_terms p) (squared_terms p) refl
    (room_for_clauses g at.In_ok-add_products (room_for_products g at.In_ok-gather)))

pub add_constraints-requires-clause-sets : goal.add_constraints-requires-clause-sets
add_constraints-requires-clause-sets g c = grind (arith, nat_tests, problem_sets)

pub add_constraints-requires-clause-narrow : goal.add_constraints-requires-clause-narrow
add_constraints-requires-clause-narrow g c = grind (arith, nat_tests, nodes_within)

pub add_constraints-requires-clause-small : goal.add_constraints-requires-clause-small
add_constraints-requires-clause-small g c =
    let p = c.args.problem.now in
    let squares : sum_by (λ (k : Constraint). c.penalty-penalty.result * reach k ^ 2) c.problem.inside.constraints
    ≡ sum_by (λ (k : Constraint). penalty p * reach k ^ 2) p.constraints =
    λ i. sum_by (λ (k : Constraint). c.penalty-penalty.ensures.value i * reach k ^ 2) (c.problem.view_is i).constraints in
    omega (arith, all_within p, (within_limits p c.requires.admits.within).weight, squares)

pub add_constraints-requires-clause-room : goal.add_constraints-requires-clause-room
add_constraints-requires-clause-room g c =
    let p = c.args.problem.now in
    let at = goal.at.add_constraints-requires-clause-room g c in
    let third =
    fills_same _ _ _ _ _ _
    (same_clauses c.penalty-penalty.ensures.value c.as_slice.ensures c.problem.view_is)
    c.in_ok-add_clauses.ensures in
    room_same g.T.Gather.takes c.add_clauses.new.terms (squared_terms p) _
    (sym (same_constraints c.penalty-penalty.ensures.value c.as_slice-2.ensures c.problem.view_is))
    (room_next g.T.Gather.takes g.T.Gather.holds _ _ _ (hard_terms p) (squared_terms p) refl third
    (room_for_clauses g at.In_ok-add_products (room_for_products g at.In_ok-gather)))
