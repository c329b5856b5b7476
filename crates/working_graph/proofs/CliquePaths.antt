-- Distances and parents on a chain that is a path.
--
-- A step of a walk goes at most one place on in the chain. So the distance of a qubit is its place
-- in the chain, and the one qubit nearer to the first that it is joined to stands before it.
--
-- The chains of a clique are paths on the graph.
--
-- The qubits down a column are joined to their neighbours there alone, and so are those along a
-- row. The two parts of a chain meet in the cell of the diagonal, where the one ends and the other
-- begins.
use Rattle.working_graph.proofs.Common.{is_in_at, at_of_in, ◌≡◌, ℕ, zero, suc, ◌+◌, ◌-◌, ◌<◌, ◌≤◌, true, List, [], ◌∷◌, length, get_or, take, refl, ap, arith, AllZip, IsWalk, end_of, Joins, HasDistance, IsParent, AreParents, one_distance, but_last, sym, ◌∙◌, nat_tests, is_in, Chimera, Place, place_of, are_joined, down_place, along_place, place_again, down_in, along_in, path_len, path_down, path_along, diagonal_of, path_of}

-- each qubit is joined to the next one, and to none further on; and none stands twice
pub record IsPath (joined : Joins) (chain : List ℕ) : Type 0 where
  pub linked : (j : ℕ) → j + 1 < length chain
      → joined (get_or chain j 0) (get_or chain (j + 1) 0) ≡ true
  pub near : (j k : ℕ) → j < length chain → k < length chain
      → joined (get_or chain j 0) (get_or chain k 0) ≡ true → k ≤ j + 1
  pub once : (j k : ℕ) → j < length chain → k < length chain
      → get_or chain j 0 ≡ get_or chain k 0 → j ≡ k

-- ---- distances

-- the next m qubits after the j-th
steps_on : List ℕ → ℕ → ℕ → List ℕ
steps_on chain j zero = []
steps_on chain j (suc m) = get_or chain (j + 1) 0 ∷ steps_on chain (j + 1) m

long_on : (chain : List ℕ) (j m : ℕ) → length (steps_on chain j m) ≡ m
unfolding steps_on
long_on chain j zero = refl
long_on chain j (suc m) = ap suc (long_on chain (j + 1) m)

end_on : (chain : List ℕ) (j m k : ℕ) → j + m ≡ k
    → end_of (get_or chain j 0) (steps_on chain j m) ≡ get_or chain k 0
unfolding steps_on
end_on chain j zero k is = ap (λ n. get_or chain n 0) (omega (arith, is))
end_on chain j (suc m) k is = end_on chain (j + 1) m k (omega (arith, is))

walk_on : (joined : Joins) (chain : List ℕ) → IsPath joined chain → (j m : ℕ) → j + m < length chain
    → IsWalk joined chain (get_or chain j 0) (steps_on chain j m)
unfolding steps_on
walk_on joined chain path j zero below = tt
walk_on joined chain path j (suc m) below =
    let here = is_in_at chain (j + 1) (get_or chain (j + 1) 0) (omega (arith, below)) refl in (
      here,
      path.linked j (omega (arith, below)),
      walk_on joined chain path (j + 1) m (omega (arith, below)),
    )

-- a walk goes on by at most a place for each of its steps
walk_short : (joined : Joins) (chain : List ℕ) → IsPath joined chain → (steps : List ℕ) (j k : ℕ)
    → j < length chain → k < length chain → IsWalk joined chain (get_or chain j 0) steps
    → end_of (get_or chain j 0) steps ≡ get_or chain k 0 → k ≤ j + length steps
walk_short joined chain path [] j k low high walk ends = omega (arith, path.once j k low high ends)
walk_short joined chain path (q ∷ qs) j k low high walk ends =
    let next = at_of_in chain q walk.0 in
    let one = path.near j next.0 low next.1 (rw next.2 walk.1) in
    let rest = walk_short joined chain path qs next.0 k next.1 high (rw next.2 walk.2) (rw next.2 ends) in
    omega (arith, one, rest)

-- the distance of a qubit is its place
place_distance : (joined : Joins) (chain : List ℕ) → IsPath joined chain → (k : ℕ)
    → k < length chain → HasDistance joined chain (get_or chain k 0) k
place_distance joined chain path k below =
    let walk = walk_on joined chain path 0 k (omega (arith, below)) in
    record {
      reached =
          (steps_on chain 0 k, record { walk = walk; ends = end_on chain 0 k k (omega arith) }, long_on chain 0 k);
      least = λ steps walk.
          omega (arith, walk_short joined chain path steps 0 k (omega (arith, below)) below walk.walk walk.ends);
    }

-- ---- parents

-- the parent of a qubit stands before it
place_parent : (joined : Joins) (chain : List ℕ) → IsPath joined chain → (k : ℕ)
    → suc k < length chain → IsParent joined chain (get_or chain (suc k) 0) (get_or chain k 0)
place_parent joined chain path k below =
    let next : k + 1 ≡ suc k = omega arith in
    let here = place_distance joined chain path k (omega (arith, below)) in
    let further = place_distance joined chain path (suc k) below in
    record {
      nearer = record {
        inside = is_in_at chain k (get_or chain k 0) (omega (arith, below)) refl;
        linked = rw next at (path.linked k (omega (arith, below)));
        nearer = (k, here, further);
      };
      least = λ r near.
          let at = at_of_in chain r near.inside in
          let there = rw at.2 at (place_distance joined chain path at.0 at.1) in
          let one = one_distance joined chain r near.nearer.0 at.0 near.nearer.1 there in
          let two = one_distance joined chain _ (suc near.nearer.0) (suc k) near.nearer.2 further in
          let same : k ≡ at.0 = omega (arith, one, two) in
          omega (arith, ap (λ n. get_or chain n 0) same, at.2);
    }

-- what holds of each two neighbours
zip_neighbours : (R : ℕ → ℕ → Type 0) (c : ℕ) (cs : List ℕ) → ((k : ℕ) → suc k < length (c ∷ cs)
    → R (get_or (c ∷ cs) (suc k) 0) (get_or (c ∷ cs) k 0)) → AllZip R cs (take (length cs) (c ∷ cs))
zip_neighbours R c [] each = tt
zip_neighbours R c (d ∷ ds) each =
    (each 0 (omega arith), zip_neighbours R d ds (λ k below. each (suc k) (omega (arith, below))))

-- all qubits but the last are the parents of those from the second on
pub path_parents : (joined : Joins) (chain : List ℕ) → IsPath joined chain → 0 < length chain
    → AreParents joined chain (but_last chain)
path_parents joined [] path some = absurd (omega (arith, some))
path_parents joined (c ∷ cs) path some =
    let less : length cs ≡ length (c ∷ cs) - 1 = omega arith in
    rw (← less) (zip_neighbours (IsParent joined (c ∷ cs)) c cs (place_parent joined (c ∷ cs) path))

-- ---- the qubits of a path

-- the place p is that of the m-th qubit
pub record IsStep (i k m : ℕ) (p : Place) : Type 0 where
  pub down : m ≤ i → p ≡ down_place i k m
  pub along : i < m → p ≡ along_place i k (m - 1)

pub step_at : (graph : Chimera) (i k m : ℕ) → i < diagonal_of graph → k < graph.shore
    → m < length (path_of graph i k)
    → IsStep i k m (place_of graph (get_or (path_of graph i k) m 0))
step_at graph i k m cell at below =
    let long = path_len graph i k cell in
    record {
      down = λ low. rw (path_down graph i k m low) (place_again graph (down_place i k m) (down_in graph i k m cell at low));
      along = λ high.
          let back : m ≡ m - 1 + 1 = omega (arith, high) in
          let inside : m - 1 < diagonal_of graph = omega (arith, high, below, long) in
          let again = place_again graph (along_place i k (m - 1)) (along_in graph i k (m - 1) cell at inside) in
          cc (path_along graph i k (m - 1) (omega (arith, high)) inside);
    }

-- a qubit of a path has the place of one of its steps
pub step_of : (graph : Chimera) (i k q : ℕ) → i < diagonal_of graph → k < graph.shore
    → is_in (path_of graph i k) q ≡ true
    → (m : ℕ) × (m < diagonal_of graph + 1) × IsStep i k m (place_of graph q)
step_of graph i k q cell at in' =
    let found = at_of_in (path_of graph i k) q in' in (
      found.0,
      omega (arith, found.1, path_len graph i k cell),
      rw found.2 at (step_at graph i k found.0 cell at found.1),
    )

-- ---- joins between places of two lines

pub joined_at : (p q r s : Place) → p ≡ r → q ≡ s → are_joined p q ≡ true → are_joined r s ≡ true
joined_at p q r s e f linked = (λ x. are_joined (sym e x) (sym f x)) ∙ linked

-- ---- a path

-- a step is joined to the next one
step_on : (i k m : ℕ) (p q : Place) → IsStep i k m p → IsStep i k (m + 1) q → are_joined p q ≡ true
step_on i k m p q s t =
    let here = s.down in
    let there = s.along in
    let this = t.down in
    let that = t.along in
    grind (arith, nat_tests)

-- and to none further on
step_near : (i k m n : ℕ) (p q : Place) → IsStep i k m p → IsStep i k n q
    → are_joined p q ≡ true → n ≤ m + 1
step_near i k m n p q s t linked =
    let here = s.down in
    let there = s.along in
    let this = t.down in
    let that = t.along in
    grind (arith, nat_tests)

-- each step has a place of its own
step_once : (i k m n : ℕ) (p : Place) → IsStep i k m p → IsStep i k n p → m ≡ n
step_once i k m n p s t =
    let here = s.down in
    let there = s.along in
    let this = t.down in
    let that = t.along in
    grind (arith, nat_tests)

pub clique_path : (graph : Chimera) (i k : ℕ) → i < diagonal_of graph → k < graph.shore
    → IsPath (λ a b. are_joined (place_of graph a) (place_of graph b)) (path_of graph i k)
clique_path graph i k cell at =
    let step = λ (j : ℕ) (low : j < length (path_of graph i k)). step_at graph i k j cell at low in
    record {
      linked = λ j below. step_on i k j _ _ (step j (omega (arith, below))) (step (j + 1) below);
      near = λ j m low high linked. step_near i k j m _ _ (step j low) (step m high) linked;
      once = λ j m low high same. step_once i k j m _ (step j low) (rw same (step m high));
    }
