-- Each join is where it can be found. Nothing here has to be believed.
--
-- A join is of one of three kinds, each seen from both of its ends: across the cell it lies in the span,
-- and along a line it is the qubit before or after, whose number its coordinates give.
use Rattle.std.specs.Prelude.{◌≡◌, ℕ, ◌+◌, ◌-◌, ◌*◌, ◌/◌, ◌<◌, ◌≤◌, ◌==◌, Bool, true, false, cond, if◌then◌else◌, nat_lt}
use Rattle.std.proofs.Common.{inl, inr, refl, sym, ap, ◌∙◌, mod-lt, arith}
use Rattle.std.proofs.lemmas.Nat.{div-add-mod'}
use Rattle.std.proofs.Math.Nat.{div-lt_iff_lt-mul}
use Rattle.std.proofs.lemmas.Bool.{or_cases, cases_Bool}
use Rattle.std.proofs.lemmas.Bool.Decides.{nat_tests}
use Rattle.chimera_graph.specs.declared.chimera.Chimera.{Chimera}
use Rattle.chimera_graph.specs.declared.place.Place.{Place}
use Rattle.chimera_graph.specs.Graph.{qubits_of, index_of, place_of}
use Rattle.chimera_graph.specs.Places.{are_in_one_cell, is_join, are_joined}
use Rattle.hardware.specs.Others.{IsFaced, CanBeJoined}
use Rattle.chimera_graph.specs.Lines.{facing_of, others_of, other_of, step_of, is_first, is_last}

-- ---- their numbers

-- the same coordinates give the same number
same_index : (graph : Chimera) (p q : Place) → q.row ≡ p.row → q.col ≡ p.col → q.side ≡ p.side
    → q.at ≡ p.at → index_of graph q ≡ index_of graph p
same_index graph p q row col side at =
    λ i. ((row i * graph.cols + col i) * 2 + side i) * graph.shore + at i

-- what is across the cell lies in the span of numbers there
faced : (graph : Chimera) (p q : Place) (b : ℕ) → index_of graph q ≡ b → q.at < graph.shore
    → q.row ≡ p.row → q.col ≡ p.col → q.side ≡ 1 - p.side → IsFaced
    (let start = index_of graph (record { row = p.row; col = p.col; side = 1 - p.side; at = 0 }) in
    record { start = start; end = start + graph.shore }) b
faced graph p q b number at row col side =
    let base : (((q.row * graph.cols + q.col) * 2 + q.side) * graph.shore) ≡ (((p.row * graph.cols + p.col) * 2 + (1 - p.side)) * graph.shore) =
    λ i. ((row i * graph.cols + col i) * 2 + side i) * graph.shore in
    record {
      from = omega (arith, number, at, base);
      below = omega (arith, number, at, base);
    }

-- the digits of a number give it back
number_back : (graph : Chimera) (b : ℕ) → index_of graph (place_of graph b) ≡ b
number_back graph b = simp div-add-mod'

-- the row of a qubit is one of the graph's rows
pub row_below : (graph : Chimera) (b : ℕ) → b < qubits_of graph
    → (place_of graph b).row < graph.rows
row_below graph b h =
    let few : b < graph.rows * graph.cols * 2 * graph.shore = omega (arith, h) in
    (div-lt_iff_lt-mul graph.shape.some_cols).1
    ((div-lt_iff_lt-mul (omega arith)).1 ((div-lt_iff_lt-mul graph.shape.some_shore).1 few))

-- The next place along a line, down a column on side 0 and along a row on side 1. A join that does
-- not lead across the cell leads there.
record IsNext (p q : Place) : Type 0 where
  at : q.at ≡ p.at
  side : q.side ≡ p.side
  row : q.row ≡ cond (p.side == 0) (p.row + 1) p.row
  col : q.col ≡ cond (p.side == 0) p.col (p.col + 1)

next : (p q : Place) → is_join p q ≡ true → are_in_one_cell p q ≡ false → IsNext p q
next p q join line = record {
  at = grind (arith, nat_tests);
  side = grind (arith, nat_tests);
  row = grind (arith, nat_tests);
  col = grind (arith, nat_tests);
}

-- their numbers are a step apart
step_on : (graph : Chimera) (p q : Place) → IsNext p q
    → index_of graph q ≡ index_of graph p + (if p.side == 0 then 2 * graph.cols * graph.shore else 2 * graph.shore)
step_on graph p q next = elim (cases_Bool (p.side == 0)) [
  | inl down ↦
      let row : q.row ≡ p.row + 1 = grind (arith, nat_tests, next.row) in
      let col : q.col ≡ p.col = grind (arith, nat_tests, next.col) in
      rw (down, row, col, next.side, next.at) (omega arith)
  | inr on ↦
      let row : q.row ≡ p.row = grind (arith, nat_tests, next.row) in
      let col : q.col ≡ p.col + 1 = grind (arith, nat_tests, next.col) in
      rw (on, row, col, next.side, next.at) (omega arith)
]

-- it is not the last cell, and the other one not the first
not_last : (graph : Chimera) (p q : Place) → q.row < graph.rows → q.col < graph.cols → IsNext p q
    → 1 < (if (if p.side == 0 then p.row + 1 == graph.rows else p.col + 1 == graph.cols) then 1 else 2)
not_last graph p q row col next =
    let down = next.row in
    let on = next.col in
    grind (arith, nat_tests)

not_first : (p q : Place) → IsNext q p → (if (if p.side == 0 then p.row == 0 else p.col == 0) then 1 else 0) ≤ 0
not_first p q next =
    let down = next.row in
    let on = next.col in
    let side = next.side in
    grind (arith, nat_tests)

first_at : (b : Bool) → (if b then 1 else 0) ≤ 1
first_at true = omega arith
first_at false = omega arith

last_at : (b : Bool) → 0 < (if b then 1 else 2)
last_at true = omega arith
last_at false = omega arith

-- the one before
before : (graph : Chimera) (p q : Place) (a b : ℕ) → index_of graph p ≡ a → index_of graph q ≡ b → IsNext q p
    → a - (if p.side == 0 then 2 * graph.cols * graph.shore else 2 * graph.shore) ≡ b
before graph p q a b from number next =
    let on : index_of graph p ≡ index_of graph q + (if p.side == 0 then 2 * graph.cols * graph.shore else 2 * graph.shore) =
    step_on graph q p next
    ∙ ap (λ (side : ℕ). index_of graph q + (if side == 0 then 2 * graph.cols * graph.shore else 2 * graph.shore)) (sym next.side) in
    omega (arith, on, from, number)

-- a qubit that is not in the first cell of its line has a number of at least a step
pub step_below : (graph : Chimera) (a : ℕ) → (others_of graph a).start ≤ 0 → step_of graph a ≤ a
step_below graph a start =
    let p = place_of graph a in
    let q : Place = record {
      row = cond (p.side == 0) (p.row - 1) p.row;
      col = cond (p.side == 0) p.col (p.col - 1);
      side = p.side;
      at = p.at;
    } in
    let next : IsNext q p = record {
      at = refl;
      side = refl;
      row = grind (arith, nat_tests, start);
      col = grind (arith, nat_tests, start);
    } in
    omega (arith, number_back graph a, step_on graph q p next)

-- Each qubit that a is joined to is one that a faces, or the one before a or after it. So all
-- qubits that are joined to one are found without looking at all others.
pub joins_findable : (graph : Chimera) (a b : ℕ) → a < qubits_of graph → b < qubits_of graph
    → are_joined (place_of graph a) (place_of graph b) ≡ true
    → CanBeJoined (facing_of graph a) (others_of graph a) (other_of graph a) b
joins_findable graph a b below_a below_b h =
    let p = place_of graph a in
    let q = place_of graph b in
    let from = number_back graph a in
    let number = number_back graph b in
    let at = mod-lt b graph.shape.some_shore in
    let row = row_below graph b below_b in
    let col = mod-lt (b / graph.shore / 2) graph.shape.some_cols in
    elim (or_cases (is_join p q) (is_join q p) h) [
      | inl to ↦ elim (cases_Bool (are_in_one_cell p q)) [
        | inl cell ↦ inl (faced graph p q b number at (grind (arith, nat_tests)) (grind (arith, nat_tests)) (grind (arith, nat_tests)))
        | inr line ↦
            let on = next p q to line in
            inr (
              1,
              record { from = first_at (is_first graph a); below = not_last graph p q row col on },
              sym (sym number ∙ step_on graph p q on ∙ ap (λ n. n + step_of graph a) from),
            )
      ]
      | inr back ↦ elim (cases_Bool (are_in_one_cell q p)) [
        | inl cell ↦ inl (faced graph p q b number at (grind (arith, nat_tests)) (grind (arith, nat_tests)) (grind (arith, nat_tests)))
        | inr line ↦
            let on = next q p back line in
            inr (0, record { from = not_first p q on; below = last_at (is_last graph a) }, before graph p q a b from number on)
      ]
    ]

-- the places are in order
pub others_ordered : (graph : Chimera) (a : ℕ) → (others_of graph a).start ≤ (others_of graph a).end
others_ordered graph a = grind arith

-- a number below the count is a qubit
pub below_exists : (a n : ℕ) → a < n → nat_lt a n ≡ true
below_exists a n low = grind (arith, nat_tests)

pub exists_below : (a n : ℕ) → nat_lt a n ≡ true → a < n
exists_below a n low = grind (arith, nat_tests)
