-- The graph of three numbers.
use Rattle.command_words.proofs.Common.{nat_tests, ◌≡◌, ◌<◌, ◌*◌, ◌^◌, ◌↔◌, ℕ, Bool, true, false, Option, Some, None, IsSome, refl, ap, subst, arith, IfSome, nat_le, nat_lt, le_prop, le-leb, leb-true, lt-ltb, ltb-true, IsShape, HasNumbers, Chimera, graph_with, passing}

shape_prop : (rows cols shore : ℕ) → IsProp (IsShape rows cols shore)
shape_prop rows cols shore = hlevel le_prop

-- the graph of these numbers
graph_by : (rows cols shore : ℕ) → IsShape rows cols shore → Chimera
graph_by rows cols shore shape = record { rows = rows; cols = cols; shore = shore; shape = shape }

same_made : (rows cols shore others across beside : ℕ) (p : IsShape rows cols shore)
    → rows ≡ others → cols ≡ across → shore ≡ beside → (q : IsShape others across beside)
    → graph_by rows cols shore p ≡ graph_by others across beside q
same_made rows cols shore others across beside p e f g =
    let made = graph_by rows cols shore p in
    subst (λ s. (q : IsShape others across s) → made ≡ graph_by others across s q) g
    (subst (λ c. (q : IsShape others c shore) → made ≡ graph_by others c shore q) f
    (subst (λ r. (q : IsShape r cols shore) → made ≡ graph_by r cols shore q) e
    (λ q. ap (graph_by rows cols shore) (shape_prop rows cols shore p q))))

-- ---- tests that pass

passing-some : {A : Type 0} (test : Bool) (next : test ≡ true → Option A) (x : A) → test ≡ true
    → ((e : test ≡ true) → next e ≡ Some x) → passing test next ≡ Some x
passing-some true next x e each = each refl
passing-some false next x e each = absurd cc

passing-none : {A : Type 0} (test : Bool) (next : test ≡ true → Option A)
    → ((e : test ≡ true) → next e ≡ None) → passing test next ≡ None
passing-none true next each = each refl
passing-none false next each = refl

-- the graph of its own numbers
pub graph_with-its : (graph : Chimera) → graph_with graph.rows graph.cols graph.shore ≡ Some graph
unfolding graph_by
graph_with-its graph =
    let rows = graph.rows in
    let cols = graph.cols in
    let shore = graph.shore in
    let shape = graph.shape in
    passing-some (nat_lt 0 rows) _ graph (lt-ltb 0 rows shape.some_rows) (λ r.
    passing-some (nat_lt 0 cols) _ graph (lt-ltb 0 cols shape.some_cols) (λ c.
    passing-some (nat_lt 0 shore) _ graph (lt-ltb 0 shore shape.some_shore) (λ s.
    passing-some (nat_le (2 * rows * cols * shore) (2 ^ 20)) _ graph
    (le-leb (2 * rows * cols * shore) (2 ^ 20) shape.few)
    (λ q. ap Some (same_made rows cols shore rows cols shore _ refl refl refl shape)))))

-- none where the numbers are no shape
pub graph_with-none : (rows cols shore : ℕ) → ¬ (IsShape rows cols shore)
    → graph_with rows cols shore ≡ None
graph_with-none rows cols shore none =
    passing-none (nat_lt 0 rows) _ (λ r. passing-none (nat_lt 0 cols) _ (λ c.
    passing-none (nat_lt 0 shore) _ (λ s. passing-none (nat_le (2 * rows * cols * shore) (2 ^ 20)) _
    (λ q. absurd (none (record {
      some_rows = ltb-true 0 rows r;
      some_cols = ltb-true 0 cols c;
      some_shore = ltb-true 0 shore s;
      few = leb-true (2 * rows * cols * shore) (2 ^ 20) q;
    }))))))

-- so it is where there were too many qubits
pub graph_with-larger : (rows cols shore : ℕ) → 2 ^ 20 < 2 * rows * cols * shore
    → graph_with rows cols shore ≡ None
graph_with-larger rows cols shore larger = grind (arith, nat_tests, graph_with-none)

nothing_is_some : (made : Option Chimera) → made ≡ None → IsSome made → ⊥
nothing_is_some made e some = grind (arith, nat_tests)

-- what is made of the numbers is their graph
pub made_is_graph_with : (rows cols shore : ℕ) (made : Option Chimera)
    → IsSome made ↔ IsShape rows cols shore → IfSome made (HasNumbers rows cols shore)
    → made ≡ graph_with rows cols shore
made_is_graph_with rows cols shore made exact has =
    grind (arith, nat_tests, graph_with-its, graph_with-none, nothing_is_some)
