-- From the passes to a valid embedding, or to the first fault.
use Rattle.embedding_check.proofs.Common.{ChainCount, EmptyChain, TooManyNodes, NoSuchQubit, Repeated, Disconnected, NoCoupler, ◌≡◌, ◌≢◌, ℕ, zero, suc, ◌+◌, ◌<◌, ◌≤◌, ◌==◌, if◌then◌else◌, pos, inl, inr, Bool, true, ◌&&◌, ◌||◌, List, [], ◌∷◌, ◌++◌, length, get_or, All, refl, sym, ap, subst, ◌∙◌, arith, AllZip, cases_eq, get_or_append_left, get_or-append_seam, sum_by-take-le, sum_by_more, Entry, IsingContent, EmbedFault, CheckAnswer, Joins, is_in, chain_of, occurrences, IsCrossing, IsValid, qubit_at, IsSortedChain, IsPlaceIn, IfFault, IsFault, IsNew, number_at, IsApart, AreSearchable, Option, occurrences_more, occurrences-take-le, both_ways, is_in_at, get_or_default}
use Rattle.embedding_check.proofs.Noting.{least_pair_same}
use Rattle.chain_map.specs.declared.faults.CheckAnswer.TheVariants.{Fault, NoMemory}
use Rattle.embedding_check.proofs.Sorting.{at_of_in, same_test}

-- ---- a chain and its sorted one

pub sorted_members : (chain qs : List ℕ) → IsSortedChain chain qs → (q : ℕ) → is_in qs q ≡ is_in chain q
sorted_members chain qs sorted q =
    both_ways _ _
    (λ h. let i = at_of_in qs q h in subst (λ x. is_in chain x ≡ true) i.2 (sorted.inside i.0 i.1))
    (λ h. let i = sorted.found q h in is_in_at qs i.0 q i.1 i.2)

crossing_same : (joined : Joins) (c d c' d' : List ℕ) (p : ℕ × ℕ) → ((q : ℕ) → is_in c q ≡ is_in c' q)
    → ((q : ℕ) → is_in d q ≡ is_in d' q) → IsCrossing joined c d p → IsCrossing joined c' d' p
crossing_same joined c d c' d' p same same' x = record {
  between = record {
    upward = x.between.upward;
    ends = sym (λ i. (same p.0 i && same' p.1 i) || (same' p.0 i && same p.1 i)) ∙ x.between.ends;
  };
  linked = x.linked;
}

-- the places between two chains are those between their sorted ones
pub place_same : (joined : Joins) (c d c' d' : List ℕ) (r : Option (ℕ × ℕ)) → IsSortedChain c c'
    → IsSortedChain d d' → IsPlaceIn joined c' d' r → IsPlaceIn joined c d r
place_same joined c d c' d' r sorted sorted' =
    least_pair_same (IsCrossing joined c' d') (IsCrossing joined c d) r
    (λ p x. crossing_same joined c' d' c d p (sorted_members c c' sorted) (sorted_members d d' sorted') x)
    (λ p x. crossing_same joined c d c' d' p (λ q. sym (sorted_members c c' sorted q))
    (λ q. sym (sorted_members d d' sorted' q)) x)

-- ---- lists in step

pub zip_all : {A B : Type 0} (R : A → B → Type 0) (P : A → Type 0) (xs : List A) (ys : List B)
    → ((x : A) (y : B) → R x y → P x) → AllZip R xs ys → All P xs
zip_all R P [] ys weaker all = λ k d h. absurd (omega (arith, h))
zip_all R P (x ∷ xs) [] weaker all = absurd all
zip_all {A = A} R P (x ∷ xs) (y ∷ ys) weaker all = go (zip_all R P xs ys weaker all.1)
  where
    go : All P xs → (k : ℕ) (d : A) → k < length (x ∷ xs) → P (get_or (x ∷ xs) k d)
    go rest zero d h = weaker x y all.0
    go rest (suc k) d h = rest k d (omega (arith, h))

-- ---- what the passes before have shown

pub all_of_places : (map : List (List ℕ)) (P : List ℕ → ℕ → Type 0)
    → ((u : ℕ) → u < length map → (j : ℕ) → j < length (chain_of map u) → P (chain_of map u) (number_at map u j))
    → All (λ chain. All (P chain) chain) map
all_of_places map P all = λ k d h.
    subst (λ (chain : List ℕ). All (P chain) chain) (get_or_default map k [] d h)
    (λ j e low. subst (P (chain_of map k)) (get_or_default (chain_of map k) j 0 e low) (all k h j low))

-- ---- faults

pub if_fault : (e : CheckAnswer) (P Q : EmbedFault → Type 0) → ((f : EmbedFault) → P f → Q f) → IfFault e P → IfFault e Q
if_fault (Fault f) P Q weaker p = weaker f p
if_fault NoMemory P Q weaker p = tt

-- one more at the end
pub pushed_more : {B : Type 0} (R : ℕ → B → Type 0) (ys : List B) (k : ℕ) (y e : B)
    → length ys ≡ k → ((i : ℕ) → i < k → R i (get_or ys i e)) → R k y
    → (i : ℕ) → i < k + 1 → R i (get_or (ys ++ (y ∷ [])) i e)
pushed_more R ys k y e len before here i low = elim (cases_eq i k) [
  | inl same ↦
      let end : i ≡ length ys = omega (arith, same, len) in
      rw (end, get_or-append_seam, len) here
  | inr other ↦ rw (get_or_append_left ys (y ∷ []) e i (omega (arith, low, other, len))) (before i (omega (arith, low, other)))
]

-- the sorted chain is within, too
pub sorted_within : (n : ℕ) (chain qs : List ℕ) → ((j : ℕ) → j < length chain → qubit_at chain j < n)
    → IsSortedChain chain qs → All (λ q. q < n) qs
sorted_within n chain qs within sorted = λ k d h.
    let i = at_of_in chain (qubit_at qs k) (sorted.inside k h) in
    omega (arith, within i.0 i.1, i.2, get_or_default qs k 0 d h)

-- ---- a fault makes a map invalid

some_of_full : (chain : List ℕ) → chain ≢ [] → 0 < length chain
some_of_full [] full = absurd (full refl)
some_of_full (q ∷ chain) full = omega arith

-- chains that are apart can be searched
pub searchable : (exists : ℕ → Bool) (qubits : ℕ) (f : IsingContent) (map : List (List ℕ))
    → ((q : ℕ) → exists q ≡ true → q < qubits) → IsApart exists f map → AreSearchable qubits map
searchable exists qubits f map law apart = record {
  filled = λ u below. some_of_full (chain_of map u) (apart.inside.listed.filled u [] below);
  within = λ u below j low. law (number_at map u j) (apart.inside.within u [] below j 0 low);
  once = apart.once;
}

-- in a list without repeats, each number is new
new_of_once : (map : List (List ℕ)) → ((q : ℕ) → occurrences q map ≤ 1)
    → (u : ℕ) → u < length map → (j : ℕ) → j < length (chain_of map u) → IsNew map u j
new_of_once map once u below j low =
    let q = number_at map u j in
    let all = occurrences-take-le q map (u + 1) in
    let rows = occurrences_more q map u below in
    let some = sum_by-take-le (λ p. if p == q then 1 else 0) (chain_of map u) (j + 1) in
    let more = sum_by_more (λ p. if p == q then 1 else 0) (chain_of map u) j 0 low in
    omega (arith, once q, ap {B = ℕ} (λ (b : Bool). if b then 1 else 0) (same_test q q refl))

pub fault_invalid : (joined : Joins) (exists : ℕ → Bool) (f : IsingContent) (map : List (List ℕ))
    (x : EmbedFault) → IsFault joined exists f map x → IsValid joined exists f map → ⊥
fault_invalid joined exists f map (ChainCount n) h valid = h.1 valid.counted
fault_invalid joined exists f map (EmptyChain v) h valid =
    h.1.bad (valid.filled v [] h.1.below)
fault_invalid joined exists f map (NoSuchQubit v q) h valid =
    h.1.1.place.bad (valid.within v [] h.1.1.chain.below h.1.0 0 h.1.1.place.below)
fault_invalid joined exists f map (Repeated q) h valid =
    h.1.2.place.bad (new_of_once map valid.once h.1.0 h.1.2.chain.below h.1.1 h.1.2.place.below)
fault_invalid joined exists f map (Disconnected v q) h valid =
    h.1.1.place.bad (valid.connected v [] h.1.1.chain.below h.1.0 0 h.1.1.place.below)
fault_invalid joined exists f map (NoCoupler u v) h valid =
    let e : Entry = record { first = 0; second = 0; weight = pos 0 } in
    h.1.1.bad e (valid.coupled h.1.0 e h.1.1.below)
fault_invalid joined exists f map (TooManyNodes n m) h valid = h
