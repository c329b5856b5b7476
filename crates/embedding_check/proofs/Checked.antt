-- What a check gives is what an embedding keeps: parents by distances make a tree, and the least joined
-- pairs stand between their chains.
use Rattle.embedding_check.proofs.Common.{Bool, ◌<◌, nat_tests, ◌≡◌, ℕ, zero, suc, ◌≤◌, ◌^◌, ◌⊎◌, inl, inr, true, List, [], ◌∷◌, length, drop, sym, arith, AllZip, IsingContent, IsIsing, Joins, is_in, first_of, WalksTo, HasDistance, Embedding, IsEmbedding, IsTree, IsTie, parent_in, climbed, IsParent, AreParents, IsValid, IsChecked}

-- ---- distances

pub one_distance : (joined : Joins) (chain : List ℕ) (q d e : ℕ) → HasDistance joined chain q d
    → HasDistance joined chain q e → d ≡ e
one_distance joined chain q d e p r =
    let there = p.least r.reached.0 r.reached.1 in
    let back = r.least p.reached.0 p.reached.1 in
    omega (arith, there, back, p.reached.2, r.reached.2)

-- only the first qubit has the distance 0
pub nearest : (joined : Joins) (chain : List ℕ) (q : ℕ) (steps : List ℕ) → WalksTo joined chain q steps
    → length steps ≡ 0 → q ≡ first_of chain
nearest joined chain q [] walk none = sym walk.ends
nearest joined chain q (p ∷ ps) walk none = absurd (omega (arith, none))

-- ---- parents

-- the parent that a look-up gives is a parent
parent_found : (joined : Joins) (chain cs ps : List ℕ) (q : ℕ) → AllZip (IsParent joined chain) cs ps
    → is_in cs q ≡ true → IsParent joined chain q (parent_in cs ps q)
parent_found joined chain [] ps q all in' = absurd cc
parent_found joined chain (c ∷ cs) [] q all in' = absurd all
parent_found joined chain (c ∷ cs) (p ∷ ps) q all in' =
    let later = parent_found joined chain cs ps q all.1 in
    let first = all.0 in
    grind (arith, nat_tests)

ties_of : (joined : Joins) (chain cs ps : List ℕ) → AllZip (IsParent joined chain) cs ps
    → AllZip (IsTie chain) cs ps
ties_of joined chain [] [] all = tt
ties_of joined chain [] (p ∷ ps) all = all
ties_of joined chain (c ∷ cs) [] all = all
ties_of joined chain (c ∷ cs) (p ∷ ps) all =
    let near = all.0.nearer in
    let tie : IsTie chain c p = record {
      inside = near.inside;
      apart = λ same. omega (arith, one_distance joined chain p _ _ near.nearer.1 (rw same at near.nearer.2));
    } in
    (tie, ties_of joined chain cs ps all.1)

-- so many steps to the parent as its distance lead from a qubit to the first
climbs : (joined : Joins) (chain : List ℕ) (cs ps : List ℕ) → AllZip (IsParent joined chain) cs ps
    → ((q : ℕ) → is_in chain q ≡ true → (q ≡ first_of chain) ⊎ (is_in cs q ≡ true))
    → (d q : ℕ) → is_in chain q ≡ true → HasDistance joined chain q d
    → (n : ℕ) × (climbed cs ps n q ≡ first_of chain)
climbs joined chain cs ps all where_in zero q in' far =
    (0, nearest joined chain q far.reached.0 far.reached.1 far.reached.2)
climbs joined chain cs ps all where_in (suc d) q in' far = elim (where_in q in') [
  | inl first ↦ (0, first)
  | inr rest ↦
      let parent = parent_found joined chain cs ps q all rest in
      let near = parent.nearer.nearer in
      let same : near.0 ≡ d = omega (arith, one_distance joined chain q _ _ near.2 far) in
      let above = climbs joined chain cs ps all where_in d (parent_in cs ps q) parent.nearer.inside (rw same at near.1) in
      (suc above.0, above.1)
]

first_or_rest : (chain : List ℕ) (q : ℕ) → is_in chain q ≡ true
    → (q ≡ first_of chain) ⊎ (is_in (drop 1 chain) q ≡ true)
first_or_rest [] q in' = absurd cc
first_or_rest (c ∷ cs) q in' = grind (arith, nat_tests)

-- parents by distances make a tree
pub parents_tree : (joined : Joins) (chain parents : List ℕ) → AreParents joined chain parents
    → IsTree chain parents
parents_tree joined chain parents all = record {
  ties = ties_of joined chain (drop 1 chain) parents all;
  rooted = λ q in'. elim (first_or_rest chain q in') [
    | inl first ↦ (0, first)
    | inr rest ↦
        let near = (parent_found joined chain (drop 1 chain) parents q all rest).nearer.nearer in
        climbs joined chain (drop 1 chain) parents all (first_or_rest chain) (suc near.0) q in' near.2
  ];
}

-- ---- all of it

each_zip : {A B : Type 0} (R S : A → B → Type 0) → ((a : A) (b : B) → R a b → S a b)
    → (xs : List A) (ys : List B) → AllZip R xs ys → AllZip S xs ys
each_zip R S weaker [] [] all = tt
each_zip R S weaker [] (y ∷ ys) all = all
each_zip R S weaker (x ∷ xs) [] all = all
each_zip R S weaker (x ∷ xs) (y ∷ ys) all = (weaker x y all.0, each_zip R S weaker xs ys all.1)

-- a checked embedding of a valid map keeps what an embedding keeps
pub checked_embeds : (joined : Joins) (exists : ℕ → Bool) (qubits : ℕ) (f : IsingContent) (chains : List (List ℕ))
    (e : Embedding) → qubits ≤ 2 ^ 20 → ((q : ℕ) → exists q ≡ true → q < qubits) → IsIsing f
    → IsValid joined exists f chains → IsChecked joined qubits f chains e → IsEmbedding e
checked_embeds joined exists qubits f chains e few law kept valid checked = record {
  ising = rw checked.ising kept;
  counted = rw (checked.chains, checked.ising) valid.counted;
  filled = rw checked.chains valid.filled;
  few = omega (arith, few, checked.qubits);
  within = rw (checked.qubits, checked.chains)
      (λ k d h j e' low. law _ (valid.within k d h j e' low));
  once = λ q. rw checked.chains (valid.once q);
  trees = each_zip _ _ (parents_tree joined) e.chains e.parents checked.parents;
  placed = each_zip _ _ (λ c place p. p.crossing.between) e.ising.couplings e.places checked.places;
}
