-- The joins of the working graph are some of the graph's, and go both ways. Nothing here has to be
-- believed.
use Rattle.std.specs.Prelude.{◌≡◌, ℕ, ◌<◌, Bool, true, false, not, ◌&&◌}
use Rattle.std.specs.List.{list_any}
use Rattle.std.proofs.Common.{arith}
use Rattle.std.proofs.lemmas.Bool.Decides.{nat_tests}
use Rattle.chimera_graph.specs.Graph.{qubits_of, place_of}
use Rattle.chimera_graph.specs.Places.{are_joined}
use Rattle.hardware.specs.Others.{CanBeJoined}
use Rattle.chimera_graph.specs.Lines.{facing_of, others_of, other_of}
use Rattle.chimera_graph.specs.laws.Joins.{are_joined-comm, are_joined-self}
use Rattle.chimera_graph.specs.laws.Findable.{joins_findable}
use Rattle.part_lists.specs.Pairs.{is_coupler}
use Rattle.part_lists.specs.laws.Couplers.{is_coupler-comm}
use Rattle.working_graph.specs.Working.{WorkingGraph, exists_in, joined_in}

turned : (j k e f c d : Bool) → j ≡ k → c ≡ d → (j && e && f && not c) ≡ (k && f && e && not d)
turned j k e f c d same other = grind arith

-- a join of the working graph goes both ways
pub joined_in-comm : (w : WorkingGraph) (a b : ℕ) → joined_in w a b ≡ joined_in w b a
joined_in-comm w a b =
    turned _ _ (exists_in w a) (exists_in w b) _ _
    (are_joined-comm (place_of w.graph a) (place_of w.graph b))
    (λ i. list_any (λ part. is_coupler-comm a b part i) w.parts)

-- no qubit of the working graph is joined to itself
pub joined_in-self : (w : WorkingGraph) (a : ℕ) → joined_in w a a ≡ false
joined_in-self w a =
    λ i. are_joined-self (place_of w.graph a) i
    && exists_in w a && exists_in w a && not (list_any (is_coupler a a) w.parts)

first_true : (j e f c : Bool) → (j && e && f && c) ≡ true → j ≡ true
first_true true e f c h = λ i. true
first_true false e f c h = h

-- a join of the working graph is one of the graph
pub joined_in-plain : (w : WorkingGraph) (a b : ℕ) → joined_in w a b ≡ true
    → are_joined (place_of w.graph a) (place_of w.graph b) ≡ true
joined_in-plain w a b =
    first_true (are_joined (place_of w.graph a) (place_of w.graph b)) (exists_in w a)
    (exists_in w b) (not (list_any (is_coupler a b) w.parts))

second_true : (j e f c : Bool) → (j && e && f && c) ≡ true → e ≡ true
second_true j e f c h = grind (arith, nat_tests)

-- a join of the working graph is between qubits that exist
pub joined_in-exists : (w : WorkingGraph) (a b : ℕ) → joined_in w a b ≡ true → exists_in w a ≡ true
joined_in-exists w a b =
    second_true (are_joined (place_of w.graph a) (place_of w.graph b)) (exists_in w a)
    (exists_in w b) (not (list_any (is_coupler a b) w.parts))

-- a qubit of the working graph is one of the graph
pub exists_in-below : (w : WorkingGraph) (q : ℕ) → exists_in w q ≡ true → q < qubits_of w.graph
exists_in-below w q h = grind (arith, nat_tests)

-- each qubit that the working graph joins to a is one that a faces, or the one before or after it
pub joined_in-findable : (w : WorkingGraph) (a b : ℕ) → a < qubits_of w.graph
    → b < qubits_of w.graph → joined_in w a b ≡ true
    → CanBeJoined (facing_of w.graph a) (others_of w.graph a) (other_of w.graph a) b
joined_in-findable w a b below_a below_b h =
    joins_findable w.graph a b below_a below_b (joined_in-plain w a b h)
