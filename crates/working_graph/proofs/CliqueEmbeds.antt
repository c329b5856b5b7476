-- The chains of a clique, with all qubits but the last as parents and the least joined pair of each
-- coupling, are what a check of the chains gives.
use Rattle.working_graph.proofs.Common.{nat_lt, exists_below, eqb-true, ◌≡◌, ℕ, suc, ◌*◌, ◌/◌, ◌%◌, ◌<◌, ◌≤◌, ◌==◌, List, [], ◌∷◌, length, map, get_or, All, refl, ap, ◌∙◌, arith, mod-lt, AllZip, length-map-range_with_len, div-add-mod', Entry, IsCoupler, IsingContent, IsIsing, Chimera, qubits_of, clique_places, spot_of, down_qubit, along_qubit, clique_chain, clique_of, path_len, cell_of, cells_rise, chain_at_node, clique_valid, AreParents, Embedding, IsEmbedding, IsPlace, IsPlaceOf, IsChecked, checked_embeds, but_last, place_of_spots, clique_place, joined_on, eqb-false, cond_both}
use Rattle.working_graph.proofs.CliquePaths.{path_parents, clique_path}
use Rattle.working_graph.proofs.LeastMeetings.{same_cell, other_cell}

-- ---- places

-- in one cell a later node comes later
at_order : (graph : Chimera) (u v : ℕ) → u < v → u / graph.shore ≡ v / graph.shore
    → u % graph.shore < v % graph.shore
at_order graph u v before cell =
    let one = div-add-mod' u graph.shore in
    let two = div-add-mod' v graph.shore in
    omega (arith, before, ap (λ n. n * graph.shore) cell)

-- the least joined pair of the chains of two nodes
least_place : (graph : Chimera) (u v : ℕ) → u < v → v < clique_places graph
    → IsPlace (joined_on graph) (clique_chain graph u) (clique_chain graph v)
    (place_of_spots graph (spot_of graph u) (spot_of graph v))
least_place graph u v before below =
    let T = graph.shore in
    let i = u / T in
    let j = v / T in
    let k = u % T in
    let l = v % T in
    let cell = cell_of graph v below in
    let order = cells_rise graph u v (omega (arith, before)) in
    let at = mod-lt u graph.shape.some_shore in
    let at' = mod-lt v graph.shape.some_shore in
    cond_both (i == j) (down_qubit graph i k i, along_qubit graph j l j) (down_qubit graph j l i, along_qubit graph i k j)
    (IsPlace (joined_on graph) (clique_chain graph u) (clique_chain graph v))
    (λ e.
    let same : i ≡ j = eqb-true i j e in
    rw (← same)
    (same_cell graph i k l (omega (arith, order, cell)) (at_order graph u v before same) at'))
    (λ e. other_cell graph i k j l (omega (arith, order, eqb-false i j e)) cell at at')

coupling_place : (graph : Chimera) (nodes : ℕ) (c : Entry) → nodes ≤ clique_places graph
    → IsCoupler nodes c
    → IsPlaceOf (joined_on graph) (clique_of graph nodes) c (clique_place graph c)
coupling_place graph nodes c fits is =
    let low : c.first < nodes = omega (arith, is.upward, is.within) in
    rw (chain_at_node graph nodes c.second [] is.within, chain_at_node graph nodes c.first [] low)
    (least_place graph c.first c.second is.upward (omega (arith, is.within, fits)))

-- ---- all of it

zip_map : {A B : Type 0} (R : A → B → Type 0) (f : A → B) (xs : List A) → All (λ x. R x (f x)) xs
    → AllZip R xs (map f xs)
zip_map R f [] all = tt
zip_map R f (x ∷ xs) all =
    (all 0 x (omega arith), zip_map R f xs (λ k d below. all (suc k) d (omega (arith, below))))

chain_parents : (graph : Chimera) (nodes : ℕ) → nodes ≤ clique_places graph
    → AllZip (AreParents (joined_on graph)) (clique_of graph nodes)
    (map but_last (clique_of graph nodes))
chain_parents graph nodes fits =
    zip_map (AreParents (joined_on graph)) but_last (clique_of graph nodes) (λ v d below.
    let low : v < nodes = omega (arith, below, length-map-range_with_len (clique_chain graph) 0 nodes) in
    let cell = cell_of graph v (omega (arith, low, fits)) in
    let path = clique_path graph (v / graph.shore) (v % graph.shore) cell (mod-lt v graph.shape.some_shore) in
    rw (chain_at_node graph nodes v d low)
    (path_parents (joined_on graph) (clique_chain graph v) path
    (omega (arith, path_len graph (v / graph.shore) (v % graph.shore) cell))))

coupling_places : (graph : Chimera) (f : IsingContent) → IsIsing f
    → length f.fields ≤ clique_places graph
    → AllZip (IsPlaceOf (joined_on graph) (clique_of graph (length f.fields))) f.couplings
    (map (clique_place graph) f.couplings)
coupling_places graph f kept fits =
    zip_map (IsPlaceOf (joined_on graph) (clique_of graph (length f.fields))) (clique_place graph)
    f.couplings (λ k d below.
    coupling_place graph (length f.fields) (get_or f.couplings k d) fits (kept.couplings k d below))

-- its parts, as they are made
pub record IsMade (graph : Chimera) (f : IsingContent) (e : Embedding) : Type 0 where
  pub ising : e.ising ≡ f
  pub chains : e.chains ≡ clique_of graph (length f.fields)
  pub qubits : e.qubits ≡ qubits_of graph
  pub parents : e.parents ≡ map but_last e.chains
  pub places : e.places ≡ map (clique_place graph) e.ising.couplings

pub made_of_parts : (graph : Chimera) (f : IsingContent) (nodes qubits : ℕ)
    (chains parents : List (List ℕ)) (places : List (ℕ × ℕ)) → nodes ≡ length f.fields
    → chains ≡ clique_of graph nodes → qubits ≡ qubits_of graph → parents ≡ map but_last chains
    → places ≡ map (clique_place graph) f.couplings → IsMade graph f
    (record { ising = f; chains = chains; qubits = qubits; parents = parents; places = places })
made_of_parts graph f nodes qubits chains parents places count cs qs ps rs =
    let same = ap (clique_of graph) count in
    record { ising = refl; chains = cs ∙ same; qubits = qs; parents = ps; places = rs }

pub made_checked : (graph : Chimera) (f : IsingContent) (e : Embedding) → IsIsing f
    → length f.fields ≤ clique_places graph → IsMade graph f e
    → IsChecked (joined_on graph) (qubits_of graph) f (clique_of graph (length f.fields)) e
made_checked graph f e kept fits made = record {
  ising = made.ising;
  chains = made.chains;
  qubits = made.qubits;
  parents = rw (made.parents, made.chains) (chain_parents graph (length f.fields) fits);
  places = rw (made.places, made.chains, made.ising) (coupling_places graph f kept fits);
}

pub made_embeds : (graph : Chimera) (f : IsingContent) (e : Embedding) → IsIsing f
    → length f.fields ≤ clique_places graph → IsMade graph f e → IsEmbedding e
made_embeds graph f e kept fits made =
    checked_embeds (joined_on graph) (λ q. nat_lt q (qubits_of graph)) (qubits_of graph) f
    (clique_of graph (length f.fields)) e graph.shape.few (λ q. exists_below q (qubits_of graph)) kept (clique_valid graph (length f.fields) fits f kept refl)
    (made_checked graph f e kept fits made)
