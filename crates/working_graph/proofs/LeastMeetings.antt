-- The least joined pair of the chains of two nodes.
--
-- Two chains have different lines, so that they meet in cells alone: where the later one goes down
-- its column through the row of the earlier one. Only in one cell of the diagonal the earlier one
-- also goes down through the row of the later one, and there it stands before it.
use Rattle.working_graph.proofs.Common.{and_parts, nat_tests, ◌≡◌, ℕ, ◌<◌, ◌≤◌, ◌⊎◌, inl, inr, true, ◌&&◌, List, refl, sym, ap, ◌∙◌, arith, cases_lt, or_cases, is_in, Chimera, Place, index_of, place_of, are_joined, are_joined-comm, number_again, Joins, IsCrossing, diagonal_of, down_qubit, along_qubit, path_of, IsBefore, IsPlace, down_place, along_place, place_again, down_in, along_in, cell_joined, joined_on, and_from, or_left, or_right}
use Rattle.working_graph.proofs.CliquePaths.{IsStep, step_of, joined_at}
use Rattle.working_graph.proofs.Meetings.{in_down, in_along}

-- ---- where two chains meet

-- the later one goes down through the row of the earlier one
record MeetsLater (i k j l : ℕ) (p q : Place) : Type 0 where
  first : p ≡ along_place i k j
  second : q ≡ down_place j l i

-- the earlier one goes down through the row of the later one, in its own cell of the diagonal
record MeetsEarlier (i k j l : ℕ) (p q : Place) : Type 0 where
  cell : i ≡ j
  first : p ≡ down_place i k i
  second : q ≡ along_place j l j

meets : (i k j l m n : ℕ) (p q : Place) → i ≤ j → (i ≡ j → k < l) → IsStep i k m p → IsStep j l n q
    → are_joined p q ≡ true → MeetsLater i k j l p q ⊎ MeetsEarlier i k j l p q
meets i k j l m n p q before apart s t linked =
    let here = s.down in
    let there = s.along in
    let this = t.down in
    let that = t.along in
    elim (cases_lt i m) [
      | inr low ↦ elim (cases_lt j n) [
        | inr below ↦ grind (arith, nat_tests)
        | inl above ↦ grind (arith, nat_tests)
      ]
      | inl high ↦ elim (cases_lt j n) [
        | inr below ↦ grind (arith, nat_tests)
        | inl above ↦ grind (arith, nat_tests)
      ]
    ]

-- a qubit by its place
numbered : (graph : Chimera) (q : ℕ) (p : Place) → place_of graph q ≡ p → q ≡ index_of graph p
numbered graph q p is = sym (number_again graph.cols graph.shore q) ∙ ap (index_of graph) is

-- side 0 of a cell stands before side 1
side_before : (graph : Chimera) (i j k l : ℕ) → l < graph.shore
    → down_qubit graph j l i < along_qubit graph i k j
side_before graph i j k l at = omega (arith, at)

-- ---- the ends of a crossing

-- two qubits are a pair, in one order or the other
abbrev AreEnds : ℕ × ℕ → ℕ → ℕ → Type 0
AreEnds pair a b = ((pair.0 ≡ a) × (pair.1 ≡ b)) ⊎ ((pair.0 ≡ b) × (pair.1 ≡ a))

-- a qubit of the one chain and a joined one of the other are the pair
record HasEnds (joined : Joins) (c d : List ℕ) (pair : ℕ × ℕ) (a b : ℕ) : Type 0 where
  first : is_in c a ≡ true
  second : is_in d b ≡ true
  linked : joined a b ≡ true
  ordered : AreEnds pair a b

ends_of : (graph : Chimera) (c d : List ℕ) (pair : ℕ × ℕ) → IsCrossing (joined_on graph) c d pair
    → (a : ℕ) × (b : ℕ) × HasEnds (joined_on graph) c d pair a b
ends_of graph c d pair crossing =
    let back = are_joined-comm (place_of graph pair.1) (place_of graph pair.0) in
    elim (or_cases (is_in c pair.0 && is_in d pair.1) (is_in d pair.0 && is_in c pair.1) crossing.between.ends) [
      | inl ends ↦
          let both = and_parts (is_in c pair.0) (is_in d pair.1) ends in
          (pair.0, pair.1, record { first = both.0; second = both.1; linked = crossing.linked; ordered = inl (refl, refl) })
      | inr ends ↦
          let both = and_parts (is_in d pair.0) (is_in c pair.1) ends in
          (pair.1, pair.0, record { first = both.1; second = both.0; linked = back ∙ crossing.linked; ordered = inr (refl, refl) })
    ]

-- a pair whose lesser qubit is before both ends, or that has these ends
before_both : (x y a b : ℕ) (pair : ℕ × ℕ) → AreEnds pair a b → x < a → x < b → IsBefore (x, y) pair
before_both x y a b pair e low low' = grind (arith, nat_tests)

before_same : (x y a b : ℕ) (pair : ℕ × ℕ) → AreEnds pair a b → a ≡ x → b ≡ y → x < y
    → IsBefore (x, y) pair
before_same x y a b pair e f g low = grind (arith, nat_tests)

swapped : (a b : ℕ) (pair : ℕ × ℕ) → AreEnds pair a b → AreEnds pair b a
swapped a b pair e = grind (arith, nat_tests)

-- ---- the place

joined_in_cell : (graph : Chimera) (i j k l : ℕ) → i ≤ j → j < diagonal_of graph → k < graph.shore
    → l < graph.shore → joined_on graph (down_qubit graph j l i) (along_qubit graph i k j) ≡ true
joined_in_cell graph i j k l before cell at at' =
    joined_at _ _ _ _
    (sym (place_again graph (down_place j l i) (down_in graph j l i cell at' before)))
    (sym (place_again graph (along_place i k j)
    (along_in graph i k j (omega (arith, before, cell)) at cell))) (cell_joined i j k l)

-- of two nodes of one cell
pub same_cell : (graph : Chimera) (i k l : ℕ) → i < diagonal_of graph → k < l → l < graph.shore
    → IsPlace (joined_on graph) (path_of graph i k) (path_of graph i l)
    (down_qubit graph i k i, along_qubit graph i l i)
same_cell graph i k l cell less at =
    let at' : k < graph.shore = omega (arith, less, at) in
    let here : i ≤ i = omega arith in
    let up = side_before graph i i l k at' in
    let ends = or_left _ _ (and_from _ _ (in_down graph i k i cell here) (in_along graph i l i cell here cell)) in
    record {
      crossing = record {
        between = record { upward = up; ends = ends };
        linked = joined_in_cell graph i i l k here cell at at';
      };
      least = λ pair crossing.
          let ends = ends_of graph (path_of graph i k) (path_of graph i l) pair crossing in
          let s = step_of graph i k ends.0 cell at' ends.2.first in
          let t = step_of graph i l ends.1 cell at ends.2.second in
          elim (meets i k i l s.0 t.0 _ _ here (λ _. less) s.2 t.2 ends.2.linked) [
            | inl later ↦
                let a = numbered graph ends.0 _ later.first in
                let b = numbered graph ends.1 _ later.second in
                before_both _ _ ends.0 ends.1 pair ends.2.ordered
                (omega (arith, a, side_before graph i i k k at')) (omega (arith, b, less))
            | inr earlier ↦
                before_same _ _ ends.0 ends.1 pair ends.2.ordered
                (numbered graph ends.0 _ earlier.first) (numbered graph ends.1 _ earlier.second) up
          ];
    }

-- of nodes of two cells
pub other_cell : (graph : Chimera) (i k j l : ℕ) → i < j → j < diagonal_of graph → k < graph.shore
    → l < graph.shore → IsPlace (joined_on graph) (path_of graph i k) (path_of graph j l)
    (down_qubit graph j l i, along_qubit graph i k j)
other_cell graph i k j l before cell at at' =
    let first : i < diagonal_of graph = omega (arith, before, cell) in
    let order : i ≤ j = omega (arith, before) in
    let ends = or_right _ _ (and_from _ _ (in_down graph j l i cell order) (in_along graph i k j first order cell)) in
    record {
      crossing = record {
        between = record { upward = side_before graph i j k l at'; ends = ends };
        linked = joined_in_cell graph i j k l order cell at at';
      };
      least = λ pair crossing.
          let ends = ends_of graph (path_of graph i k) (path_of graph j l) pair crossing in
          let s = step_of graph i k ends.0 first at ends.2.first in
          let t = step_of graph j l ends.1 cell at' ends.2.second in
          let none = λ (same : i ≡ j). absurd (omega (arith, same, before)) in
          elim (meets i k j l s.0 t.0 _ _ order none s.2 t.2 ends.2.linked) [
            | inl later ↦
                before_same _ _ ends.1 ends.0 pair (swapped ends.0 ends.1 pair ends.2.ordered)
                (numbered graph ends.1 _ later.second) (numbered graph ends.0 _ later.first) (side_before graph i j k l at')
            | inr earlier ↦ absurd (omega (arith, earlier.cell, before))
          ];
    }
