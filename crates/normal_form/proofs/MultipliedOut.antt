-- What a problem contributes, multiplied out as it comes, is small.
use Rattle.normal_form.proofs.Common.{nat_tests, ◌+◌, ◌≤◌, ◌^◌, ℕ, List, [], ◌∷◌, arith, All, All-nil, recursion_from_All, ProblemContent, Term, terms_total, IsTermSet, AreAdditions, contributions, terms_total-cons, OfSet, contributions-sets, AreFew, contributions-grow, contribution_sets, contributions-total, multiplied, Admits, IsSmall}
use Rattle.penalty_layer.specs.Penalty as penalty
use Rattle.normal_form.proofs.Complements.{few-contributions}
use Rattle.normal_form.proofs.Limits.{within_limits, penalty_admits}

few-additions : (p : ProblemContent) → Admits p → AreFew 8 (penalty.contributions p)
few-additions p admitted = few-contributions p (within_limits p admitted.within).negations

pub total-multiplied : (p : ProblemContent) → Admits p
    → terms_total (contributions (penalty.contributions p)) + 1 ≤ 2 ^ 72
total-multiplied p admitted =
    let contributions_grow = contributions-grow 8 (penalty.contributions p) (few-additions p admitted) in
    omega (arith, contributions-total p, (within_limits p admitted.within).weight)

pub AreAdditions-multiplied_out : (p : ProblemContent) → Admits p →
    AreAdditions (multiplied (record { width = penalty.node_count p; terms = penalty.contributions p }))
AreAdditions-multiplied_out p admitted =
    let sets = contribution_sets p (penalty_admits p admitted) in
    let P = OfSet (IsTermSet (penalty.node_count p)) in
    let each = recursion_from_All P (penalty.contributions p) sets in
    record {
      sets = contributions-sets (penalty.node_count p) (penalty.contributions p) each;
      small = omega (arith, total-multiplied p admitted);
    }

-- a coefficient is no greater than all of them
small-all : (most : ℕ) (ts : List Term) → terms_total ts ≤ most → most ≤ 2 ^ 124 → All IsSmall ts
small-all most [] total high = All-nil IsSmall
small-all most (t ∷ ts) total high =
    grind (arith, nat_tests, small-all most ts (omega (arith, total, terms_total-cons t ts)) high, terms_total-cons)

pub small-additions : (p : ProblemContent) → Admits p → All IsSmall (penalty.contributions p)
small-additions p admitted =
    small-all (2 ^ 64) (penalty.contributions p)
    (omega (arith, contributions-total p, (within_limits p admitted.within).weight)) (omega arith)
