-- What a model on the qubits of a graph asks of an image.
use Rattle.chain_layer.proofs.Common.{nat_tests, ◌≡◌, inl, inr, ℕ, ◌<◌, Bool, true, false, cond, List, [], ◌∷◌, ◌++◌, length, drop, All, pos, neg_ℤ, ℤ, sym, subst, ◌∙◌, arith, nat_lt, AllByRecursion, AllZip, slice_index_or, cases_lt, get_or_past, take-map, All-from_recursion, AllZip-get_or, length-map-range_with_len, get_or-map-range_with_len, Entry, majority, is_chained, Joins, chain_of, Embedding, IsEmbedding, IsParent, AreParents, IsPlaceOf, coupling_entry, ties, all_shares, placed, field_at, image, ImageFitsOutput, ImageIsJoined, ReadOffTheChains, all_append, each_of_range, ties_by, by_node, image_by, IsingContent}
use Rattle.embedding_check.specs.Checked.{IsChecked}
use Rattle.chain_layer.proofs.Ordered.{all_in_order}
use Rattle.chain_layer.proofs.Unchained.{unchained_field}

-- ---- fields and chains

-- a qubit on no chain has no field
field_of_unchained : (e : Embedding) → IsEmbedding e → (q : ℕ) → is_chained e.chains q ≡ false
    → slice_index_or (image e).fields q (pos 0) ≡ pos 0
field_of_unchained e kept q none =
    let cases = cases_lt q e.qubits in
    let get = get_or-map-range_with_len (field_at (all_shares e)) 0 e.qubits q q (pos 0) in
    let unchained = unchained_field e kept q none in
    let length = length-map-range_with_len (field_at (all_shares e)) 0 e.qubits in
    let get_past = get_or_past (image e).fields q (pos 0) in grind (arith, nat_tests)

pub image_fits_output : ImageFitsOutput
image_fits_output e graph variables kept same enough = record {
  sized = length-map-range_with_len (field_at (all_shares e)) 0 e.qubits ∙ same;
  placed = subst (λ n. All (λ chain. All (λ q. q < n) chain) e.chains) same kept.within;
  filled = kept.filled;
  enough = enough;
  unchained = field_of_unchained e kept;
}

pub read_off_the_chains : ReadOffTheChains
read_off_the_chains link graph variables y = sym (take-map (majority y) variables link.chains)

-- ---- joined qubits

-- the qubits of an entry are joined
abbrev pub IsJoined : Joins → Entry → Type 0
IsJoined joined c = joined c.first c.second ≡ true

placed_joined : (joined : Joins) (chains : List (List ℕ)) (cs : List Entry) (ps : List (ℕ × ℕ))
    → AllZip (IsPlaceOf joined chains) cs ps → AllByRecursion (IsJoined joined) (placed cs ps)
placed_joined joined chains [] ps all = tt
placed_joined joined chains (c ∷ cs) [] all = tt
placed_joined joined chains (c ∷ cs) (p ∷ ps) all =
    (all.0.crossing.linked, placed_joined joined chains cs ps all.1)

tie_joined : (joined : Joins) → ((a b : ℕ) → joined a b ≡ joined b a) → (q p : ℕ) (w : ℤ)
    → joined p q ≡ true → IsJoined joined (coupling_entry q p w)
tie_joined joined both_ways q p w linked = go (nat_lt q p)
  where
    go : (b : Bool)
        → IsJoined joined (cond b (record { first = q; second = p; weight = w }) (record { first = p; second = q; weight = w }))
    go true = both_ways q p ∙ linked
    go false = linked

ties_joined : (joined : Joins) → ((a b : ℕ) → joined a b ≡ joined b a) → (chain qs ps : List ℕ)
    → (strong : ℕ → ℕ) → AllZip (IsParent joined chain) qs ps
    → AllByRecursion (IsJoined joined) (ties strong qs ps)
ties_joined joined both_ways chain [] ps strong all = tt
ties_joined joined both_ways chain (q ∷ qs) [] strong all = tt
ties_joined joined both_ways chain (q ∷ qs) (p ∷ ps) strong all = (
  tie_joined joined both_ways q p (neg_ℤ (pos (strong q))) all.0.nearer.linked,
  ties_joined joined both_ways chain qs ps strong all.1,
)

-- the ties of a node that has a chain, and there are none of another
node_joined : (joined : Joins) → ((a b : ℕ) → joined a b ≡ joined b a) → (e : Embedding)
    → AllZip (AreParents joined) e.chains e.parents → (i : ℕ) (strong : ℕ → ℕ)
    → AllByRecursion (IsJoined joined) (ties strong (drop 1 (chain_of e.chains i)) (chain_of e.parents i))
node_joined joined both_ways e parents i strong = elim (cases_lt i (length e.chains)) [
  | inl within ↦
      ties_joined joined both_ways (chain_of e.chains i) (drop 1 (chain_of e.chains i))
      (chain_of e.parents i) strong
      (AllZip-get_or (AreParents joined) e.chains e.parents i [] [] parents within)
  | inr past ↦
      subst
      (λ chain. AllByRecursion (IsJoined joined) (ties strong (drop 1 chain) (chain_of e.parents i)))
      (sym (get_or_past e.chains i [] past)) tt
]

-- so all couplings are on joined qubits, however strong the ties are
pub by_is_joined : (strong : ℕ → ℕ → ℕ) (joined : Joins) (n : ℕ) (f : IsingContent) (map : List (List ℕ))
    (e : Embedding) → ((a b : ℕ) → joined a b ≡ joined b a) → IsChecked joined n f map e
    → All (IsJoined joined) (image_by strong e).couplings
by_is_joined strong joined n f map e both_ways checked =
    All-from_recursion _ (image_by strong e).couplings
    (all_in_order (IsJoined joined) (placed e.ising.couplings e.places ++ ties_by strong e)
    (all_append (IsJoined joined) (placed e.ising.couplings e.places) (ties_by strong e)
    (placed_joined joined e.chains e.ising.couplings e.places checked.places)
    (each_of_range (IsJoined joined)
    (λ i. ties (strong i) (drop 1 (chain_of e.chains i)) (chain_of e.parents i)) 0 (length e.ising.fields)
    (λ i low high. node_joined joined both_ways e checked.parents i (strong i)))))

pub image_is_joined : ImageIsJoined
image_is_joined joined n f map e = by_is_joined (by_node e) joined n f map e
