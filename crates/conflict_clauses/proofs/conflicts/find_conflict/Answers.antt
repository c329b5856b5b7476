use Rattle.conflict_clauses.proofs.Common.{◌≡◌, ◌&&◌, ◌∙◌, List, ap, sym, not, true, count_by, list_all, Constraint, Product, are_apart, each_two, is_needed, is_single}
use Rattle.conflict_clauses.proofs.Finding.{is_found, seen, stays_beyond}
use Rattle.conflict_clauses.proofs.conflicts.find_conflict.Goals as goal

pub returns-then-spent-pairs-gt-MOST_PAIRS : goal.returns-then-spent-pairs-gt-MOST_PAIRS
returns-then-spent-pairs-gt-MOST_PAIRS c =
    let k : Constraint = c.args.constraint.now in
    let r = c.in_ok-room.room in
    let n = c.pair_count-pairs.result in
    let products = c.again.ensures ∙ ap (λ (l : Constraint). l.products) c.constraint.view_is in
    let counted = c.count_others.ensures
    ∙ ap (λ (ts : List Product). count_by (λ t. not (is_needed r t)) ts) products in
    let s = seen k r c.count_others.result n c.in_ok-room.ensures.room counted c.pair_count-pairs.ensures.result in
    stays_beyond c.args.spent k r n s c.if-spent-pairs-gt-MOST_PAIRS.true

pub returns : goal.returns
returns c =
    let k : Constraint = c.args.constraint.now in
    let r = c.in_ok-room.room in
    let inside = ap (λ (l : Constraint). l.products) c.constraint.view_is in
    let counted = c.count_others.ensures
    ∙ ap (λ (ts : List Product). count_by (λ t. not (is_needed r t)) ts) (c.again.ensures ∙ inside) in
    let s = seen k r c.count_others.result _ c.in_ok-room.ensures.room counted c.pair_count-pairs.ensures.result in
    let apart : (list_all is_single k.products && each_two (are_apart r) k.products) ≡ true =
    ap (λ (ts : List Product). list_all is_single ts && each_two (are_apart r) ts)
    (sym (c.again-2.ensures ∙ inside)) ∙ sym c.are_conflicting.ensures
    ∙ c.if-not-are_conflicting.false in
    is_found c.args.spent k r _ s c.if-spent-pairs-gt-MOST_PAIRS.false apart
