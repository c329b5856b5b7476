-- Where two places of a clique meet, and that dead couplers there alone can part them.
--
-- A place goes down a column and on along a row. Of two places the later one goes down through the
-- row of the earlier one; in one cell of the diagonal the earlier one goes down through that of the
-- later one, too. Qubits of one kind are joined along a line, and no two places share one.
use Rattle.working_graph.proofs.Common.{cases_Bool, ◌≡◌, ℕ, ◌+◌, ◌-◌, ◌*◌, ◌/◌, ◌%◌, ◌<◌, ◌≤◌, ◌⊎◌, inl, inr, Bool, true, false, not, ◌&&◌, List, refl, sym, ap, ◌∙◌, arith, mod-lt, list_any, cases_eq, cases_lt, nat_tests, list_any_at, div-add-mod', is_in, Chimera, Place, IsPlaceIn, place_of, index_of, are_joined, Joins, diagonal_of, clique_places, down_qubit, along_qubit, path_of, clique_chain, down_place, along_place, place_again, down_in, along_in, path_len, path_down, path_along, cell_joined, cell_of, cells_rise, is_in_at, at_of_in, Fabric, WorkingGraph, exists_in, joined_in, fabric_of, are_coupled, is_whole, is_cut, is_cut_at, IsParted, joined_in-comm, joined_in-plain}
use Rattle.working_graph.proofs.WorkingCliques.{any_of, whole_exists}

-- ---- the qubits of a place

abbrev OnPath : Chimera → ℕ → ℕ → ℕ → Type 0
OnPath graph i k q =
    ((r : ℕ) × (r ≤ i) × (down_qubit graph i k r ≡ q))
    ⊎ ((c : ℕ) × (i ≤ c) × (c < diagonal_of graph) × (along_qubit graph i k c ≡ q))

on_path : (graph : Chimera) (i k q : ℕ) → i < diagonal_of graph
    → is_in (path_of graph i k) q ≡ true → OnPath graph i k q
on_path graph i k q cell inside =
    let at = at_of_in (path_of graph i k) q inside in
    let len = path_len graph i k cell in
    elim (cases_lt i at.0) [
      | inr low ↦ inl (at.0, low, sym (path_down graph i k at.0 low) ∙ at.2)
      | inl high ↦
          let col = at.0 - 1 in
          let next : col + 1 ≡ at.0 = omega (arith, high) in
          let below : col < diagonal_of graph = omega (arith, high, at.1, len) in
          let above : i ≤ col = omega (arith, high) in
          inr (col, above, below, rw (← path_along graph i k col above below, next) at.2)
    ]

pub in_down : (graph : Chimera) (i k r : ℕ) → i < diagonal_of graph → r ≤ i
    → is_in (path_of graph i k) (down_qubit graph i k r) ≡ true
in_down graph i k r cell low =
    is_in_at (path_of graph i k) r _ (omega (arith, low, cell, path_len graph i k cell))
    (path_down graph i k r low)

pub in_along : (graph : Chimera) (i k c : ℕ) → i < diagonal_of graph → i ≤ c → c < diagonal_of graph
    → is_in (path_of graph i k) (along_qubit graph i k c) ≡ true
in_along graph i k c cell high below =
    is_in_at (path_of graph i k) (c + 1) _ (omega (arith, below, path_len graph i k cell))
    (path_along graph i k c high below)

-- ---- which places of two paths are joined

record AreSame (a b c d : ℕ) : Type 0 where
  pub one : a ≡ b
  pub other : c ≡ d

down_down : (i j k l r s : ℕ) → are_joined (down_place j l r) (down_place i k s) ≡ true
    → AreSame j i l k
down_down i j k l r s h = grind (arith, nat_tests)

along_along : (i j k l c d : ℕ) → are_joined (along_place j l c) (along_place i k d) ≡ true
    → AreSame j i l k
along_along i j k l c d h = grind (arith, nat_tests)

down_along : (i j k l r c : ℕ) → are_joined (down_place j l r) (along_place i k c) ≡ true
    → AreSame r i c j
down_along i j k l r c h = grind (arith, nat_tests)

along_down : (i j k l c r : ℕ) → are_joined (along_place j l c) (down_place i k r) ≡ true
    → AreSame r j c i
along_down i j k l c r h = grind (arith, nat_tests)

-- ---- joins of the working graph

last_true : (j e f c : Bool) → (j && e && f && not c) ≡ true → c ≡ true → ⊥
last_true j e f c h is = grind (arith, nat_tests)

not_cut : (w : WorkingGraph) (a b : ℕ) → joined_in w a b ≡ true → is_cut w a b ≡ true → ⊥
not_cut w a b = last_true (are_joined (place_of w.graph a) (place_of w.graph b)) (exists_in w a)
    (exists_in w b) (is_cut w a b)

all_true : (j e f c : Bool) → j ≡ true → e ≡ true → f ≡ true → c ≡ false
    → (j && e && f && not c) ≡ true
all_true j e f c p q r s = rw (p, q, r, s) refl

-- two places of a graph are joined in what is left of it
left_joined : (w : WorkingGraph) (p q : Place) → IsPlaceIn w.graph p → IsPlaceIn w.graph q
    → are_joined p q ≡ true → exists_in w (index_of w.graph p) ≡ true
    → exists_in w (index_of w.graph q) ≡ true → is_cut w (index_of w.graph p) (index_of w.graph q)
    ≡ false → joined_in w (index_of w.graph p) (index_of w.graph q) ≡ true
left_joined w p q in_p in_q linked here there free =
    all_true _ _ _ _
    ((λ i. are_joined (place_again w.graph p in_p i) (place_again w.graph q in_q i)) ∙ linked)
    here there free

-- ---- the coupled ones

any_in : (p : ℕ → Bool) (xs : List ℕ) (q : ℕ) → is_in xs q ≡ true → p q ≡ true
    → list_any p xs ≡ true
any_in p xs q inside test =
    let at = at_of_in xs q inside in list_any_at p xs at.0 0 at.1 (rw at.2 test)

coupled_by : (joined : Joins) (c d : List ℕ) (a b : ℕ) → is_in c a ≡ true → is_in d b ≡ true
    → joined a b ≡ true → are_coupled joined c d ≡ true
coupled_by joined c d a b in_c in_d linked =
    any_in (λ p. list_any (joined p) d) c a in_c (any_in (joined a) d b in_d linked)

exists_of : (fabric : Fabric) (xs : List ℕ) (q : ℕ) → is_whole fabric xs ≡ true
    → is_in xs q ≡ true → fabric.exists q ≡ true
exists_of fabric xs q whole inside =
    let at = at_of_in xs q inside in rw at.2 at (whole_exists fabric xs whole at.0 0 at.1)

on_cell : (graph : Chimera) (row col side at : ℕ) → row < diagonal_of graph
    → col < diagonal_of graph → side < 2
    → at < graph.shore → IsPlaceIn graph (record { row = row; col = col; side = side; at = at })
on_cell graph row col side at low low' two below = grind (arith, nat_tests)

-- where no dead coupler names the qubits in which two places meet, they are joined
meet_joined : (w : WorkingGraph) (i j k l : ℕ) → i < diagonal_of w.graph → j < diagonal_of w.graph
    → k < w.graph.shore → l < w.graph.shore → exists_in w (down_qubit w.graph j l i) ≡ true
    → exists_in w (along_qubit w.graph i k j) ≡ true → is_cut w (down_qubit w.graph j l i)
    (along_qubit w.graph i k j) ≡ false → joined_in w (down_qubit w.graph j l i)
    (along_qubit w.graph i k j) ≡ true
meet_joined w i j k l cell cell' at at' here there free =
    left_joined w (down_place j l i) (along_place i k j) (on_cell w.graph i j 0 l cell cell' (omega arith) at')
    (on_cell w.graph i j 1 k cell cell' (omega arith) at) (cell_joined i j k l) here there free

-- two whole places that are not parted are coupled
pub unparted_coupled : (w : WorkingGraph) (u v : ℕ) → u < v → v < clique_places w.graph
    → is_whole (fabric_of w) (clique_chain w.graph u) ≡ true → is_whole (fabric_of w)
    (clique_chain w.graph v) ≡ true → (IsParted w v u → ⊥) → are_coupled (joined_in w)
    (clique_chain w.graph v) (clique_chain w.graph u) ≡ true
unparted_coupled w u v before below whole_u whole_v unparted =
    let graph = w.graph in
    let i = u / graph.shore in
    let j = v / graph.shore in
    let cell_u = cell_of graph u (omega (arith, before, below)) in
    let cell_v = cell_of graph v below in
    let order = cells_rise graph u v (omega (arith, before)) in
    let c = clique_chain graph u in
    let d = clique_chain graph v in
    let at_u = mod-lt u graph.shape.some_shore in
    let at_v = mod-lt v graph.shape.some_shore in
    let in_u = λ (q : ℕ) (inside : is_in c q ≡ true). exists_of (fabric_of w) c q whole_u inside in
    let in_v = λ (q : ℕ) (inside : is_in d q ≡ true). exists_of (fabric_of w) d q whole_v inside in
    let down_in_v = in_down graph j (v % graph.shore) i cell_v order in
    let along_in_u = in_along graph i (u % graph.shore) j cell_u order cell_v in
    elim (cases_Bool (is_cut_at w v u)) [
      | inr e ↦
          coupled_by (joined_in w) d c _ _ down_in_v along_in_u
          (meet_joined w i j _ _ cell_u cell_v at_u at_v (in_v _ down_in_v) (in_u _ along_in_u) e)
      | inl cut ↦ elim (cases_eq i j) [
        | inr other ↦ absurd (unparted (record { down = cut; across = λ same. absurd (other same) }))
        | inl same ↦ elim (cases_Bool (is_cut_at w u v)) [
          | inr e ↦
              let down_in_u = in_down graph i (u % graph.shore) j cell_u (omega (arith, same)) in
              let along_in_v = in_along graph j (v % graph.shore) i cell_v (omega (arith, same)) cell_u in
              coupled_by (joined_in w) d c _ _ along_in_v down_in_u (joined_in-comm w _ _
              ∙ meet_joined w j i _ _ cell_v cell_u at_v at_u (in_u _ down_in_u) (in_v _ along_in_v) e)
          | inl e ↦ absurd (unparted (record { down = cut; across = λ _. e }))
        ]
      ]
    ]

-- ---- the parted ones

at_down : (graph : Chimera) (i k r q : ℕ) → i < diagonal_of graph → k < graph.shore → r ≤ i
    → down_qubit graph i k r ≡ q → place_of graph q ≡ down_place i k r
at_down graph i k r q cell at low e = rw (← e) (place_again graph (down_place i k r) (down_in graph i k r cell at low))

at_along : (graph : Chimera) (i k c q : ℕ) → i < diagonal_of graph → k < graph.shore
    → c < diagonal_of graph → along_qubit graph i k c ≡ q → place_of graph q ≡ along_place i k c
at_along graph i k c q cell at high e =
    rw (← e) (place_again graph (along_place i k c) (along_in graph i k c cell at high))

as_places : (graph : Chimera) (x y : ℕ) (p q : Place) → place_of graph x ≡ p → place_of graph y ≡ q
    → are_joined (place_of graph x) (place_of graph y) ≡ true → are_joined p q ≡ true
as_places graph x y p q at at' linked = sym (λ i. are_joined (at i) (at' i)) ∙ linked

-- two places are not of one cell and one number in it
apart : (T u v : ℕ) → u < v → AreSame (v / T) (u / T) (v % T) (u % T) → ⊥
apart T u v before same =
    omega (arith, before, ap (λ n. n * T) same.one, same.other, div-add-mod' u T, div-add-mod' v T)

-- two places that are parted are not coupled
pub parted_uncoupled : (w : WorkingGraph) (u v : ℕ) → u < v → v < clique_places w.graph
    → IsParted w v u
    → are_coupled (joined_in w) (clique_chain w.graph v) (clique_chain w.graph u) ≡ true → ⊥
parted_uncoupled w u v before below parted coupled =
    let graph = w.graph in
    let i = u / graph.shore in
    let k = u % graph.shore in
    let j = v / graph.shore in
    let l = v % graph.shore in
    let cell_u : i < diagonal_of graph = cell_of graph u (omega (arith, before, below)) in
    let cell_v : j < diagonal_of graph = cell_of graph v below in
    let order : i ≤ j = cells_rise graph u v (omega (arith, before)) in
    let at_u : k < graph.shore = mod-lt u graph.shape.some_shore in
    let at_v : l < graph.shore = mod-lt v graph.shape.some_shore in
    let a = any_of (λ p. list_any (joined_in w p) (clique_chain graph u)) (clique_chain graph v) coupled in
    let x = a.0 in
    let b = any_of (joined_in w x) (clique_chain graph u) a.2 in
    let y = b.0 in
    let places = λ (p q : Place) (at_x : place_of graph x ≡ p) (at_y : place_of graph y ≡ q).
    as_places graph x y p q at_x at_y (joined_in-plain w x y b.2) in
    elim (on_path graph j l x cell_v a.1) [
      | inl p ↦
          let at_x = at_down graph j l p.0 x cell_v at_v p.1 p.2 in
          elim (on_path graph i k y cell_u b.1) [
            | inl q ↦
                apart graph.shore u v before
                (down_down i j k l p.0 q.0 (places _ _ at_x (at_down graph i k q.0 y cell_u at_u q.1 q.2)))
            | inr q ↦
                let same = down_along i j k l p.0 q.0 (places _ _ at_x (at_along graph i k q.0 y cell_u at_u q.2 q.3)) in
                let is_x : x ≡ down_qubit graph j l i = sym p.2 ∙ ap (down_qubit graph j l) same.one in
                let is_y : y ≡ along_qubit graph i k j = sym q.3 ∙ ap (along_qubit graph i k) same.other in
                not_cut w x y b.2 ((λ n. is_cut w (is_x n) (is_y n)) ∙ parted.down)
          ]
      | inr p ↦
          let at_x = at_along graph j l p.0 x cell_v at_v p.2 p.3 in
          elim (on_path graph i k y cell_u b.1) [
            | inl q ↦
                let same = along_down i j k l p.0 q.0 (places _ _ at_x (at_down graph i k q.0 y cell_u at_u q.1 q.2)) in
                let is_x : x ≡ along_qubit graph j l i = sym p.3 ∙ ap (along_qubit graph j l) same.other in
                let is_y : y ≡ down_qubit graph i k j = sym q.2 ∙ ap (down_qubit graph i k) same.one in
                let cut = parted.across (omega (arith, order, p.1, same.other)) in
                not_cut w y x (joined_in-comm w y x ∙ b.2) ((λ n. is_cut w (is_y n) (is_x n)) ∙ cut)
            | inr q ↦
                apart graph.shore u v before
                (along_along i j k l p.0 q.0 (places _ _ at_x (at_along graph i k q.0 y cell_u at_u q.2 q.3)))
          ]
    ]
