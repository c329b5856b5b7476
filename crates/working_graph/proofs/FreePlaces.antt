-- Which place may be taken next, by what the code asks.
use Rattle.working_graph.proofs.Common.{nat_tests, ◌≡◌, ℕ, suc, ◌+◌, ◌-◌, ◌*◌, ◌/◌, ◌%◌, ◌<◌, ◌≤◌, ◌^◌, ◌==◌, Bool, true, false, not, ◌&&◌, ◌||◌, List, [], ◌∷◌, ◌++◌, length, map, take, set, min, max, get_or, refl, sym, ap, ◌∙◌, arith, mod-lt, list_all, cases_eq, eqb-true, list_all_at, list_any-append, get_or-set_same, get_or-set_other, length-map, length-take, take_all, mul-add-lt, div-add-mod', is_in, Chimera, index_below, Joins, cell_of, diagonal_of, clique_places, down_qubit, along_qubit, clique_chain, is_in_at, at_of_in, Fabric, WorkingGraph, joined_in, fabric_of, pair_number, has_pair, AreRising, first_across, is_cut, AreTaken, AreMarked, IsParted, are_linked, are_coupled, is_whole, is_free, is_marked, taken_of, taken_places, working_clique, false_from_ne_true, list_all-from_AllPass, All-from_get_or}
use Rattle.working_graph.proofs.WorkingCliques.{taken_front, any_of}
use Rattle.working_graph.proofs.Pairs.{number_of_ordered}
use Rattle.working_graph.proofs.Meetings.{unparted_coupled, parted_uncoupled}

-- ---- numbers of dead couplers that begin at one qubit

-- those from here on are not too low, and none before is of a number that is barred
pub record HasPassed (cuts : List ℕ) (from k : ℕ) (Bars : ℕ → Type 0) : Type 0 where
  pub after : (i : ℕ) → k ≤ i → i < length cuts → from ≤ get_or cuts i 0
  pub passed : (i other : ℕ) → i < k → get_or cuts i 0 ≡ from + other → Bars other → ⊥

pub passed_more : (cuts : List ℕ) (from k : ℕ) (Bars : ℕ → Type 0) → HasPassed cuts from k Bars
    → k < length cuts → (Bars (get_or cuts k 0 - from) → ⊥) → HasPassed cuts from (k + 1) Bars
passed_more cuts from k Bars inv below none = record {
  after = λ i high low. inv.after i (omega (arith, high)) low;
  passed = λ i other low is bars.
      let old = inv.passed i other in
      grind (arith, nat_tests, cases_eq i k);
}

-- once the numbers are too high, none is barred at all
pub passed_all : (cuts : List ℕ) (from k width : ℕ) (Bars : ℕ → Type 0) → AreRising cuts
    → HasPassed cuts from k Bars → (k < length cuts → get_or cuts k 0 - from < width → ⊥)
    → (i other : ℕ) → i < length cuts → other < width → get_or cuts i 0 ≡ from + other
    → Bars other → ⊥
passed_all cuts from k width Bars rising inv done i other low small is bars =
    let before = inv.passed i other in
    let up = rising k i in
    let here = inv.after k (omega arith) in
    grind (arith, nat_tests)

-- ---- tests of lists

pub all_from : (p : ℕ → Bool) (xs : List ℕ)
    → ((i : ℕ) → i < length xs → p (get_or xs i 0) ≡ true) → list_all p xs ≡ true
all_from p xs each = list_all-from_AllPass p xs (All-from_get_or (λ x. p x ≡ true) xs 0 each)

pub linked_from : (joined : Joins) (xs : List ℕ) → ((j : ℕ) → suc j < length xs
    → joined (get_or xs j 0) (get_or xs (suc j) 0) ≡ true) → are_linked joined xs ≡ true
linked_from joined [] each = refl
linked_from joined (a ∷ []) each = refl
linked_from joined (a ∷ b ∷ qs) each =
    let others = linked_from joined (b ∷ qs) (λ j low. each (suc j) (omega (arith, low))) in
    rw (each 0 (omega arith), others) refl

pub pair_before : (joined : Joins) (xs : List ℕ) (k : ℕ) → 1 ≤ k
    → ((j : ℕ) → suc j < k → joined (get_or xs j 0) (get_or xs (suc j) 0) ≡ true)
    → joined (get_or xs (k - 1) 0) (get_or xs k 0) ≡ true
    → (j : ℕ) → suc j < k + 1 → joined (get_or xs j 0) (get_or xs (suc j) 0) ≡ true
pair_before joined xs k some before here j low =
    let old = before j in
    let last : suc (k - 1) ≡ k = omega arith in
    grind (arith, nat_tests, cases_eq (suc j) k)

-- ---- a place

-- the number of a place by its cell and where it is in it
pub place_below : (graph : Chimera) (row other : ℕ) → row < diagonal_of graph → other < graph.shore
    → row * graph.shore + other < clique_places graph
place_below graph row other low below = mul-add-lt row graph.shore other
    (diagonal_of graph) low below

-- the cell of a place is one of the graph
pub place_in : (graph lent : Chimera) (place : ℕ) → lent ≡ graph → place < clique_places graph
    → (place / lent.shore < lent.rows) × (place / lent.shore < lent.cols)
place_in graph lent place same below =
    let cell = cell_of graph place below in rw same (omega (arith, cell), omega (arith, cell))

-- the chain of one place is coupled to that of another
abbrev meets : WorkingGraph → ℕ → ℕ → Bool
meets w place u = are_coupled (joined_in w) (clique_chain w.graph place) (clique_chain w.graph u)

-- the answer that dead couplers part a place from a marked one, and that they part it from none
abbrev IsBar : WorkingGraph → List Bool → ℕ → Type 0
IsBar w marks place = (u : ℕ) × (is_marked marks u ≡ true) × IsParted w place u

abbrev IsUnbarred : WorkingGraph → List Bool → ℕ → Type 0
IsUnbarred w marks place = (u : ℕ) → is_marked marks u ≡ true → IsParted w place u → ⊥

pub free_by : (w : WorkingGraph) (marks : List Bool) (place : ℕ) (xs : List ℕ) (b : Bool)
    → place < clique_places w.graph → (b ≡ true → IsBar w marks place)
    → (b ≡ false → IsUnbarred w marks place)
    → is_whole (fabric_of w) (clique_chain w.graph place) ≡ true → AreMarked marks xs
    → AreTaken (fabric_of w) (clique_chain w.graph) place xs
    → not b ≡ is_free (fabric_of w) (clique_chain w.graph) xs place
free_by w marks place xs true below found none whole marked taken =
    let bar = found refl in
    let at = at_of_in xs bar.0 (sym (marked bar.0) ∙ bar.1) in
    let before : bar.0 < place = rw at.2 at (taken.below at.0 at.1) in
    let apart = false_from_ne_true _ (parted_uncoupled w bar.0 place before below bar.2) in
    sym (list_all_at (meets w place) xs at.0 0 at.1 (rw at.2 apart))
    ∙ sym (λ i. whole i && list_all (meets w place) xs)
free_by w marks place xs false below found none whole marked taken =
    sym (all_from (meets w place) xs (λ i low.
    unparted_coupled w _ place (taken.below i low) below (taken.whole i low) whole
    (none refl _ (marked _ ∙ is_in_at xs i _ low refl))))
    ∙ sym (λ i. whole i && list_all (meets w place) xs)

-- ---- marks

listed_more : (xs : List ℕ) (v u : ℕ) → is_in (xs ++ v ∷ []) u ≡ (is_in xs u || ((v == u) || false))
listed_more xs v u = list_any-append (λ p. p == u) xs (v ∷ [])

-- a mark more, for a place more
pub mark_more : (marks : List Bool) (xs : List ℕ) (v : ℕ) → v < length marks → AreMarked marks xs
    → AreMarked (set marks v true) (xs ++ v ∷ [])
mark_more marks xs v low marked u =
    let all = listed_more xs v u in
    let old = marked u in
    let same = get_or-set_same marks v true false low in
    let other = get_or-set_other marks v u true false in
    grind (arith, nat_tests, cases_eq v u)

-- ---- the next place

pub next_free : (fabric : Fabric) (chain : ℕ → List ℕ) (n : ℕ) (xs : List ℕ)
    → xs ≡ taken_of fabric chain n
    → is_free fabric chain xs n ≡ true → xs ++ n ∷ [] ≡ taken_of fabric chain (n + 1)
next_free fabric chain n xs same free = let next : n + 1 ≡ suc n = omega arith in rw (next, ← same, free) refl

pub next_barred : (fabric : Fabric) (chain : ℕ → List ℕ) (n : ℕ) (xs : List ℕ)
    → xs ≡ taken_of fabric chain n
    → is_free fabric chain xs n ≡ false → xs ≡ taken_of fabric chain (n + 1)
next_barred fabric chain n xs same barred = let next : n + 1 ≡ suc n = omega arith in rw (next, ← same, barred) refl

-- ---- dead couplers of one row

-- the numbers of the couplers that part a place from the marked ones of a row
abbrev pub BarsIn : WorkingGraph → List Bool → ℕ → ℕ → ℕ → Type 0
BarsIn w marks place row at =
    let u = row * w.graph.shore + at in
    (is_marked marks u ≡ true) × IsParted w place u

pub unbarred : (w : WorkingGraph) (place row k : ℕ) (cuts : List ℕ) (from : ℕ) (marks : List Bool)
    → place < clique_places w.graph → row ≤ place / w.graph.shore → ((p q : ℕ) → p < 2 ^ 32
    → q < 2 ^ 32 → has_pair cuts p q ≡ is_cut w p q) → from ≡ first_across w.graph place row
    → AreRising cuts → HasPassed cuts from k (BarsIn w marks place row) → (k < length cuts
    → get_or cuts k 0 - from < w.graph.shore → ⊥) → (u : ℕ) → u / w.graph.shore ≡ row
    → is_marked marks u ≡ true → IsParted w place u → ⊥
unbarred w place row k cuts from marks below high said is_from rising inv done u e marked parted =
    let T = w.graph.shore in
    let some = w.graph.shape.some_shore in
    let a = down_qubit w.graph (place / T) (place % T) (u / T) in
    let b = along_qubit w.graph (u / T) (u % T) (place / T) in
    let cell = cell_of w.graph place below in
    let row_below : u / T < w.graph.rows = omega (arith, e, high, cell) in
    let col_below : place / T < w.graph.cols = omega (arith, cell) in
    let low_a = index_below w.graph (record { row = u / T; col = place / T; side = 0; at = place % T })
    (record { row_below = row_below; col_below = col_below; side_below = omega arith; at_below = mod-lt place some }) in
    let low_b = index_below w.graph (record { row = u / T; col = place / T; side = 1; at = u % T })
    (record { row_below = row_below; col_below = col_below; side_below = omega arith; at_below = mod-lt u some }) in
    let listed = said a b (omega (arith, low_a, w.graph.shape.few)) (omega (arith, low_b, w.graph.shape.few)) in
    let found = any_of (λ n. n == pair_number (min a b) (max a b)) cuts (listed ∙ parted.down) in
    let at = at_of_in cuts found.0 found.1 in
    let order : a ≤ b = omega (arith, mod-lt place some) in
    let number = eqb-true found.0 _ found.2 ∙ number_of_ordered a b order in
    let start : from ≡ first_across w.graph place (u / T) = rw e is_from in
    let again : row * T + u % T ≡ u = rw (← e) (div-add-mod' u T) in
    passed_all cuts from k T (BarsIn w marks place row) rising inv done at.0 (u % T) at.1
    (mod-lt u some) (omega (arith, at.2, number, start)) (rw again marked, rw again parted)

-- ---- the chains of the taken places

-- the chains of so many places, once so many are taken
pub chains_front : (w : WorkingGraph) (n nodes : ℕ) (m : List (List ℕ)) → n ≤ clique_places w.graph
    → m ≡ map (clique_chain w.graph) (taken_of (fabric_of w) (clique_chain w.graph) n) → length m
    ≡ nodes → m ≡ working_clique w nodes
chains_front w n nodes m low same len =
    let F = clique_chain w.graph in
    let xs = taken_of (fabric_of w) F n in
    let count : length xs ≡ nodes = sym (length-map xs F) ∙ sym (ap (λ (cs : List (List ℕ)). length cs) same) ∙ len in
    same ∙ ap (map F) (taken_front (fabric_of w) F n (clique_places w.graph) nodes xs low refl count)

-- the chains of all places that are taken, where they are few
pub chains_all : (w : WorkingGraph) (n nodes : ℕ) (m : List (List ℕ)) → n ≡ clique_places w.graph
    → m ≡ map (clique_chain w.graph) (taken_of (fabric_of w) (clique_chain w.graph) n)
    → length m ≤ nodes → m ≡ working_clique w nodes
chains_all w n nodes m last same few =
    let F = clique_chain w.graph in
    let all = taken_of (fabric_of w) F in
    let len = length-map (all n) F in
    let less : length (all n) ≤ nodes =
    omega (arith, len, few, ap (λ (cs : List (List ℕ)). length cs) same) in
    same ∙ ap (map F) (sym (take_all nodes (all n) less) ∙ ap (λ k. take nodes (all k)) last)

pub clique_len : (w : WorkingGraph) (nodes : ℕ)
    → length (working_clique w nodes) ≡ min nodes (length (taken_places w))
clique_len w nodes =
    length-map (take nodes (taken_places w)) (clique_chain w.graph)
    ∙ length-take nodes (taken_places w)
