-- The chains of a clique are valid for every Ising form of so many nodes.
--
-- Whose a qubit is can be read off its place: on side 0 by its column, on side 1 by its row. So no
-- qubit is listed twice. A chain is a path, whose neighbours are joined. And the part of a later node
-- that goes down its column meets the part of an earlier one that goes along its row in a cell.
use Rattle.chain_map.proofs.Common.{◌≡◌, ◌≢◌, ℕ, zero, suc, ◌+◌, ◌-◌, ◌*◌, ◌/◌, ◌%◌, ◌<◌, ◌≤◌, ◌==◌, inl, inr, true, List, [], length, map, get_or, All, if◌then◌else◌, refl, sym, ap, ◌∙◌, arith, mod-lt, nat_lt, count_by, sum_by, range_with_len, cases_eq, cases_lt, nat_tests, length-append, get_or_append_left, get_or-append_right, length-map-range_with_len, get_or-map-range_with_len, sum_by-append, sum_by-cons, div-add-mod', div-lt_iff_lt-mul, mul_comm, min-le_left, min-le_right, div-mul-le_self, le-div_iff_mul-le, Chimera, Place, IsPlaceIn, qubits_of, index_of, place_of, are_joined, index_below, Entry, IsConnected, IsCoupler, occurrences, IsCrossing, IsCoupled, diagonal_of, clique_places, down_qubit, along_qubit, path_of, clique_chain, clique_of, IsForClique}
pub use Rattle.chain_map.proofs.Common.{place_again}
use Rattle.chain_map.proofs.Occurrences.{occurrences-sum}
use Rattle.chain_map.proofs.Rows.{default_free}
use Rattle.chain_map.proofs.Paths.{is_in_at, path_connected}

-- ---- places

abbrev pub down_place : ℕ → ℕ → ℕ → Place
down_place i k row = record { row = row; col = i; side = 0; at = k }

abbrev pub along_place : ℕ → ℕ → ℕ → Place
along_place i k col = record { row = i; col = col; side = 1; at = k }

pub down_in : (graph : Chimera) (i k row : ℕ) → i < diagonal_of graph → k < graph.shore → row ≤ i
    → IsPlaceIn graph (down_place i k row)
down_in graph i k row cell at low = grind (arith, min-le_left, min-le_right)

pub along_in : (graph : Chimera) (i k col : ℕ) → i < diagonal_of graph → k < graph.shore
    → col < diagonal_of graph → IsPlaceIn graph (along_place i k col)
along_in graph i k col cell at high = grind (arith, min-le_left, min-le_right)

-- ---- one path

pub path_len : (graph : Chimera) (i k : ℕ) → i < diagonal_of graph
    → length (path_of graph i k) ≡ diagonal_of graph + 1
path_len graph i k cell =
    let down = length-map-range_with_len (down_qubit graph i k) 0 (i + 1) in
    let along = length-map-range_with_len (along_qubit graph i k) i (diagonal_of graph - i) in
    omega (arith, cell, length-append {A = ℕ})

pub path_down : (graph : Chimera) (i k j : ℕ) → j ≤ i → get_or (path_of graph i k) j 0 ≡ down_qubit graph i k j
path_down graph i k j low =
    let downs = map (down_qubit graph i k) (range_with_len 0 (i + 1)) in
    let len = length-map-range_with_len (down_qubit graph i k) 0 (i + 1) in
    rw (get_or_append_left downs _ 0 j (omega (arith, low, len)))
    (get_or-map-range_with_len (down_qubit graph i k) 0 (i + 1) j j 0 (omega arith) (omega arith))

pub path_along : (graph : Chimera) (i k col : ℕ) → i ≤ col → col < diagonal_of graph
    → get_or (path_of graph i k) (col + 1) 0 ≡ along_qubit graph i k col
path_along graph i k col high below =
    let len = length-map-range_with_len (down_qubit graph i k) 0 (i + 1) in
    let place : col + 1 - (i + 1) ≡ col - i = omega arith in
    let alongs = map (along_qubit graph i k) (range_with_len i (diagonal_of graph - i)) in
    let past = get_or-append_right _ alongs (i + 1) (col + 1) 0 len (omega (arith, high)) in
    let at = get_or-map-range_with_len (along_qubit graph i k) i (diagonal_of graph - i) (col - i) col 0 in
    cc (at (omega (arith, high, below)) (omega (arith, high)))

-- its qubits are those of the graph
path_within : (graph : Chimera) (i k : ℕ) → i < diagonal_of graph → k < graph.shore
    → All (λ q. q < qubits_of graph) (path_of graph i k)
path_within graph i k cell at = λ j d below.
    let less = path_len graph i k cell in
    let free = default_free (path_of graph i k) j 0 d below in
    let down = path_down graph i k j in
    let along = path_along graph i k (j - 1) in
    let back : i < j → j - 1 + 1 ≡ j = λ h. omega (arith, h) in
    let low = λ (h : j ≤ i). index_below graph (down_place i k j) (down_in graph i k j cell at h) in
    let high = λ (h : j - 1 < diagonal_of graph).
    index_below graph (along_place i k (j - 1)) (along_in graph i k (j - 1) cell at h) in
    grind (arith, nat_tests)

joined_places : (graph : Chimera) (p q : Place) → IsPlaceIn graph p → IsPlaceIn graph q
    → are_joined p q ≡ true
    → are_joined (place_of graph (index_of graph p)) (place_of graph (index_of graph q)) ≡ true
joined_places graph p q in_p in_q linked =
    (λ i. are_joined (place_again graph p in_p i) (place_again graph q in_q i)) ∙ linked

pub down_joined : (i k row : ℕ) → are_joined (down_place i k row) (down_place i k (row + 1)) ≡ true
down_joined i k row = grind (arith, nat_tests)

pub along_joined : (i k col : ℕ) → are_joined (along_place i k col) (along_place i k (col + 1)) ≡ true
along_joined i k col = grind (arith, nat_tests)

pub cell_joined : (i j k l : ℕ) → are_joined (down_place j l i) (along_place i k j) ≡ true
cell_joined i j k l = grind (arith, nat_tests)

-- the place of a listed qubit is known
place_down : (graph : Chimera) (i k v q : ℕ) → i < diagonal_of graph → k < graph.shore → v ≤ i
    → down_qubit graph i k v ≡ q → place_of graph q ≡ down_place i k v
place_down graph i k v q cell at low e = rw (← e) (place_again graph (down_place i k v) (down_in graph i k v cell at low))

place_along : (graph : Chimera) (i k v q : ℕ) → i < diagonal_of graph → k < graph.shore
    → v < diagonal_of graph → along_qubit graph i k v ≡ q → place_of graph q ≡ along_place i k v
place_along graph i k v q cell at high e =
    rw (← e) (place_again graph (along_place i k v) (along_in graph i k v cell at high))

-- neighbours are joined
path_joined : (graph : Chimera) (i k : ℕ) → i < diagonal_of graph → k < graph.shore
    → IsConnected (λ a b. are_joined (place_of graph a) (place_of graph b)) (path_of graph i k)
path_joined graph i k cell at =
    path_connected (λ a b. are_joined (place_of graph a) (place_of graph b)) (path_of graph i k) (λ j below.
    let len = path_len graph i k cell in
    let down = λ (m : ℕ) (low : m ≤ i). place_down graph i k m _ cell at low (sym (path_down graph i k m low)) in
    let along = λ (m : ℕ) (high : i ≤ m) (less : m < diagonal_of graph). place_along graph i k m _ cell at less
    (sym (path_along graph i k m high less)) in
    elim (cases_lt j i) [
      | inl low ↦ cc (down j (omega (arith, low)), down (j + 1) (omega (arith, low)), down_joined i k j)
      | inr high ↦
          let next = along j high (omega (arith, below, len)) in
          elim (cases_eq j i) [
            | inl e ↦ cc (down j (omega (arith, e)), e, cell_joined i i k k)
            | inr e ↦
                let before : j - 1 + 1 ≡ j = omega (arith, high, e) in
                let last = along (j - 1) (omega (arith, high, e)) (omega (arith, below, len)) in
                cc (along_joined i k (j - 1))
          ]
    ])

-- ---- how often a qubit is listed

sum_none : {X : Type 0} (h : X → ℕ) (F : ℕ → X) (a n : ℕ)
    → ((v : ℕ) → a ≤ v → v < a + n → h (F v) ≡ 0) → sum_by h (map F (range_with_len a n)) ≡ 0
sum_none h F a zero none = refl
sum_none h F a (suc n) none =
    let rest = sum_none h F (a + 1) n (λ v low high. none v (omega (arith, low)) (omega (arith, high))) in
    omega (arith, sum_by-cons, none a (omega arith) (omega arith))

sum_once : {X : Type 0} (h : X → ℕ) (F : ℕ → X) (w a n : ℕ)
    → ((v : ℕ) → a ≤ v → v < a + n → h (F v) ≤ 1) → ((v : ℕ) → a ≤ v → v < a + n → v ≢ w → h (F v) ≡ 0)
    → sum_by h (map F (range_with_len a n)) ≤ 1
sum_once h F w a zero once none = omega arith
sum_once h F w a (suc n) once none =
    let more = sum_by-cons h (F a) (map F (range_with_len (a + 1) n)) in
    let ones = λ (v : ℕ) (low : a + 1 ≤ v) (high : v < a + 1 + n). once v (omega (arith, low)) (omega (arith, high)) in
    let nones = λ (v : ℕ) (low : a + 1 ≤ v) (high : v < a + 1 + n). none v (omega (arith, low)) (omega (arith, high)) in
    let first = once a (omega arith) (omega arith) in
    elim (cases_eq a w) [
      | inl e ↦
          let rest = sum_none h F (a + 1) n (λ v low high. nones v low high (λ same. omega (arith, low, same, e))) in
          omega arith
      | inr e ↦ omega (arith, none a (omega arith) (omega arith) e, sum_once h F w (a + 1) n ones nones)
    ]

is_other : (a b : ℕ) → a ≢ b → ◌≡◌ {A = ℕ} (if a == b then 1 else 0) 0
is_other a b e = grind (arith, nat_tests)

count_path : (graph : Chimera) (i k q : ℕ) → count_by (λ p. p == q) (path_of graph i k)
    ≡ count_by (λ p. p == q) (map (down_qubit graph i k) (range_with_len 0 (i + 1)))
    + count_by (λ p. p == q) (map (along_qubit graph i k) (range_with_len i (diagonal_of graph - i)))
count_path graph i k q =
    sum_by-append (λ p. if p == q then 1 else 0) (map (down_qubit graph i k) (range_with_len 0 (i + 1)))
    (map (along_qubit graph i k) (range_with_len i (diagonal_of graph - i)))

-- a chain lists a qubit once at most
path_once : (graph : Chimera) (i k q : ℕ) → i < diagonal_of graph → k < graph.shore
    → count_by (λ p. p == q) (path_of graph i k) ≤ 1
path_once graph i k q cell at =
    let h : ℕ → ℕ = λ p. if p == q then 1 else 0 in
    let once : (p : ℕ) → h p ≤ 1 = λ p. grind (arith, nat_tests) in
    let place = place_of graph q in
    let crossed = place.row in
    let all = count_path graph i k q in
    let down = λ (v : ℕ) (low : v ≤ i). place_down graph i k v q cell at low in
    let along = λ (v : ℕ) (less : v < diagonal_of graph). place_along graph i k v q cell at less in
    let downs = sum_none h (down_qubit graph i k) 0 (i + 1) in
    let alongs = sum_none h (along_qubit graph i k) i (diagonal_of graph - i) in
    elim (cases_eq place.side 0) [
      | inl zero_side ↦
          let one = sum_once h (down_qubit graph i k) crossed 0 (i + 1) (λ v low high. once _)
          (λ v low high other. is_other _ _ (λ e.
          let is = down v (omega (arith, high)) e in other (cc))) in
          omega (arith, alongs (λ v low high. is_other _ _ (λ e. let is = along v (omega (arith, low, high, cell)) e in absurd (cc))))
      | inr one_side ↦
          let one = sum_once h (along_qubit graph i k) place.col i (diagonal_of graph - i)
          (λ v low high. once _)
          (λ v low high other. is_other _ _ (λ e.
          let is = along v (omega (arith, low, high, cell)) e in other (cc))) in
          omega (arith, downs (λ v low high. is_other _ _ (λ e. let is = down v (omega (arith, high)) e in one_side (cc))))
    ]

-- whose a qubit is, by its place
abbrev owner_at : Chimera → Place → ℕ
owner_at graph p = (if p.side == 0 then p.col else p.row) * graph.shore + p.at

-- and none that is another's
path_none : (graph : Chimera) (i k q : ℕ) → i < diagonal_of graph → k < graph.shore
    → owner_at graph (place_of graph q) ≢ i * graph.shore + k
    → count_by (λ p. p == q) (path_of graph i k) ≡ 0
path_none graph i k q cell at other =
    let h : ℕ → ℕ = λ p. if p == q then 1 else 0 in
    let down = sum_none h (down_qubit graph i k) 0 (i + 1)
    (λ v low high. is_other _ _ (λ e. other (ap (owner_at graph) (place_down graph i k v q cell at (omega (arith, high)) e)))) in
    let along = sum_none h (along_qubit graph i k) i (diagonal_of graph - i)
    (λ v low high. is_other _ _ (λ e. other (ap (owner_at graph) (place_along graph i k v q cell at (omega (arith, low, high, cell)) e)))) in
    omega (arith, count_path graph i k q)

-- ---- all chains

pub cell_of : (graph : Chimera) (v : ℕ) → v < clique_places graph → v / graph.shore < diagonal_of graph
cell_of graph v low =
    (div-lt_iff_lt-mul graph.shape.some_shore).1 (rw (mul_comm (diagonal_of graph) graph.shore) low)

-- a later node has no earlier cell
pub cells_rise : (graph : Chimera) (u v : ℕ) → u ≤ v → u / graph.shore ≤ v / graph.shore
cells_rise graph u v before =
    (le-div_iff_mul-le graph.shape.some_shore).1 (omega (arith, before, div-mul-le_self u graph.shore))

clique_once : (graph : Chimera) (nodes q : ℕ) → nodes ≤ clique_places graph
    → occurrences q (clique_of graph nodes) ≤ 1
clique_once graph nodes q fits =
    let T = graph.shore in
    let cell = λ (v : ℕ) (high : v < nodes). cell_of graph v (omega (arith, high, fits)) in
    let all = sum_once (λ chain. count_by (λ p. p == q) chain) (clique_chain graph)
    (owner_at graph (place_of graph q)) 0 nodes
    (λ v low high. path_once graph (v / T) (v % T) q (cell v (omega (arith, high)))
    (mod-lt v graph.shape.some_shore))
    (λ v low high other. path_none graph (v / T) (v % T) q (cell v (omega (arith, high)))
    (mod-lt v graph.shape.some_shore) (λ e. other (sym (e ∙ div-add-mod' v T)))) in
    omega (arith, occurrences-sum q (clique_of graph nodes), all)

pub chain_at_node : (graph : Chimera) (nodes v : ℕ) (d : List ℕ) → v < nodes
    → get_or (clique_of graph nodes) v d ≡ clique_chain graph v
chain_at_node graph nodes v d below =
    get_or-map-range_with_len (clique_chain graph) 0 nodes v v d below (omega arith)

-- what holds of each chain holds of all
all_chains : (graph : Chimera) (nodes : ℕ) (P : List ℕ → Type 0) → nodes ≤ clique_places graph
    → ((i k : ℕ) → i < diagonal_of graph → k < graph.shore → P (path_of graph i k))
    → All P (clique_of graph nodes)
all_chains graph nodes P fits each = λ v d below.
    let low : v < nodes = omega (arith, below, length-map-range_with_len (clique_chain graph) 0 nodes) in
    rw (chain_at_node graph nodes v d low)
    (each (v / graph.shore) (v % graph.shore) (cell_of graph v (omega (arith, low, fits)))
    (mod-lt v graph.shape.some_shore))

-- the later one goes down its column through the cell that the earlier one goes along its row through
path_coupled : (graph : Chimera) (i j k l : ℕ) → i ≤ j → j < diagonal_of graph → k < graph.shore
    → l < graph.shore → (pair : ℕ × ℕ)
    × IsCrossing (λ a b. are_joined (place_of graph a) (place_of graph b)) (path_of graph i k) (path_of graph j l) pair
path_coupled graph i j k l before cell at at' =
    let a = down_qubit graph j l i in
    let b = along_qubit graph i k j in
    let first : i < diagonal_of graph = omega (arith, before, cell) in
    let one = is_in_at (path_of graph j l) i a
    (omega (arith, before, cell, path_len graph j l cell)) (path_down graph j l i before) in
    let two = is_in_at (path_of graph i k) (j + 1) b (omega (arith, cell, path_len graph i k first))
    (path_along graph i k j before cell) in
    let linked = joined_places graph (down_place j l i) (along_place i k j)
    (down_in graph j l i cell at' before) (along_in graph i k j first at cell) (cell_joined i j k l) in
    ((a, b), record { between = record { upward = omega (arith, at'); ends = grind (arith, nat_tests) }; linked = linked })

clique_coupled : (graph : Chimera) (nodes : ℕ) → nodes ≤ clique_places graph → (c : Entry)
    → IsCoupler nodes c
    → IsCoupled (λ a b. are_joined (place_of graph a) (place_of graph b)) (clique_of graph nodes) c
clique_coupled graph nodes fits c is =
    let T = graph.shore in
    let low : c.first < nodes = omega (arith, is.upward, is.within) in
    let some = graph.shape.some_shore in
    let crossing = path_coupled graph (c.first / T) (c.second / T) (c.first % T) (c.second % T)
    (cells_rise graph c.first c.second (omega (arith, is.upward))) (cell_of graph c.second (omega (arith, is.within, fits)))
    (mod-lt c.first some) (mod-lt c.second some) in
    (crossing.0, rw (chain_at_node graph nodes c.second [] is.within, chain_at_node graph nodes c.first [] low) crossing.1)

pub clique_valid : (graph : Chimera) (nodes : ℕ) → nodes ≤ clique_places graph
    → IsForClique graph nodes (clique_of graph nodes)
clique_valid graph nodes fits = λ f ising counted. record {
  counted = length-map-range_with_len (clique_chain graph) 0 nodes ∙ sym counted;
  filled = all_chains graph nodes (λ chain. chain ≢ []) fits
      (λ i k cell at none. omega (arith, path_len graph i k cell, ap length none));
  within = all_chains graph nodes (λ chain. All (λ q. nat_lt q (qubits_of graph) ≡ true) chain) fits
      (λ i k cell at j d low. let below = path_within graph i k cell at j d low in grind (arith, nat_tests));
  once = λ q. clique_once graph nodes q fits;
  connected = all_chains graph nodes (IsConnected _) fits (path_joined graph);
  coupled = λ k d below.
      clique_coupled graph nodes fits (get_or f.couplings k d) (rw (← counted) (ising.couplings k d below));
}
