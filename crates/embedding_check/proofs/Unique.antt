-- What a check gives is one embedding alone.
--
-- Two parents of one qubit are each at most the other, and so are two places of one coupling.
use Rattle.embedding_check.proofs.Common.{nat_tests, ◌≡◌, ℕ, List, [], ◌∷◌, drop, refl, sym, ◌∙◌, arith, AllZip, Entry, IsingContent, Joins, chain_of, Embedding, IsParent, AreParents, IsBefore, IsPlace, IsPlaceOf, IsChecked}

-- what stands for each item in turn is one list, where it is one item each
zip_unique : {A B : Type 0} (R : A → B → Type 0) → ((x : A) (y z : B) → R x y → R x z → y ≡ z)
    → (xs : List A) (ys zs : List B) → AllZip R xs ys → AllZip R xs zs → ys ≡ zs
zip_unique R one [] [] [] p q = refl
zip_unique R one [] [] (z ∷ zs) p q = absurd q
zip_unique R one [] (y ∷ ys) zs p q = absurd p
zip_unique R one (x ∷ xs) [] zs p q = absurd p
zip_unique R one (x ∷ xs) (y ∷ ys) [] p q = absurd q
zip_unique R one (x ∷ xs) (y ∷ ys) (z ∷ zs) p q =
    let head = one x y z p.0 q.0 in
    let tail = zip_unique R one xs ys zs p.1 q.1 in cc

-- ---- parents

parent_unique : (joined : Joins) (chain : List ℕ) (q a b : ℕ) → IsParent joined chain q a
    → IsParent joined chain q b → a ≡ b
parent_unique joined chain q a b this that =
    let up = this.least b that.nearer in
    let down = that.least a this.nearer in
    omega (arith, up, down)

parents_unique : (joined : Joins) (chains ps qs : List (List ℕ))
    → AllZip (AreParents joined) chains ps → AllZip (AreParents joined) chains qs → ps ≡ qs
parents_unique joined chains ps qs p q =
    zip_unique (AreParents joined) (λ chain ys zs a b.
    zip_unique (IsParent joined chain) (λ x y z c d. parent_unique joined chain x y z c d)
    (drop 1 chain) ys zs a b) chains ps qs p q

-- ---- places

both_before : (p q : ℕ × ℕ) → IsBefore p q → IsBefore q p → p ≡ q
both_before p q a b =
    let first : p.0 ≡ q.0 = grind (arith, nat_tests) in
    let second : p.1 ≡ q.1 = grind (arith, nat_tests) in
    λ i. (first i, second i)

place_unique : (joined : Joins) (c d : List ℕ) (p q : ℕ × ℕ) → IsPlace joined c d p
    → IsPlace joined c d q → p ≡ q
place_unique joined c d p q this that =
    both_before p q (this.least q that.crossing) (that.least p this.crossing)

places_unique : (joined : Joins) (chains : List (List ℕ)) (couplings : List Entry)
    (ps qs : List (ℕ × ℕ)) → AllZip (IsPlaceOf joined chains) couplings ps
    → AllZip (IsPlaceOf joined chains) couplings qs → ps ≡ qs
places_unique joined chains couplings ps qs p q =
    zip_unique (IsPlaceOf joined chains)
    (λ c y z a b. place_unique joined (chain_of chains c.first) (chain_of chains c.second) y z a b)
    couplings ps qs p q

-- ---- embeddings

pub checked_unique : (joined : Joins) (n : ℕ) (f : IsingContent) (map : List (List ℕ))
    (e e' : Embedding) → IsChecked joined n f map e → IsChecked joined n f map e' → e ≡ e'
checked_unique joined n f map e e' this that =
    let ising : e.ising ≡ e'.ising = this.ising ∙ sym that.ising in
    let chains : e.chains ≡ e'.chains = this.chains ∙ sym that.chains in
    let qubits : e.qubits ≡ e'.qubits = this.qubits ∙ sym that.qubits in
    let parents = parents_unique joined map e.parents e'.parents (rw this.chains at this.parents)
    (rw that.chains at that.parents) in
    let places = places_unique joined map f.couplings e.places e'.places
    (rw (this.ising, this.chains) at this.places) (rw (that.ising, that.chains) at that.places) in
    λ i. record {
      ising = ising i;
      chains = chains i;
      qubits = qubits i;
      parents = parents i;
      places = places i;
    }
