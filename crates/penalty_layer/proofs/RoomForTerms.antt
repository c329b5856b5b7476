-- There is room in a table for what a problem contributes.
use Rattle.penalty_layer.proofs.Common.{◌≡◌, List, [], arith, ProblemContent, HasRoomFor, Term, TableContent, AreAdditions, with_more, room-additions, Admits, contributions, node_count}
use Rattle.penalty_layer.proofs.Bounds.{within_limits}
use Rattle.penalty_layer.proofs.Sets.{contribution_sets}
use Rattle.penalty_layer.proofs.Sums.{contributions-total}

-- what a problem contributes are additions
pub AreAdditions-contributions : (p : ProblemContent) → Admits p
    → AreAdditions (record { width = node_count p; terms = contributions p })
AreAdditions-contributions p admitted = record {
  sets = contribution_sets p admitted;
  small = omega (arith, contributions-total p, (within_limits p admitted.within).weight);
}

-- there is room for them in an empty table
pub room-contributions : (p : ProblemContent) (t : TableContent) → Admits p
    → t ≡ record { width = node_count p; terms = [] }
    → HasRoomFor (λ (s : TableContent) (ts : List Term). AreAdditions (with_more s ts)) t (contributions p)
room-contributions p t admitted made =
    room-additions (node_count p) (contributions p) t (AreAdditions-contributions p admitted) made
