-- The image keeps the costs of the embedded form, over all states of the qubits.
-- Nothing here has to be believed.
--
-- Decoding takes the majority of each chain. With no tie broken that is the one bit that the chain
-- has, and the energies agree, but for the offset. With a broken tie the image lies above, by the
-- law of chains, whatever the majority is.
use Rattle.std.specs.Prelude.{◌≡◌, ◌≢◌, ◌+◌, ◌-◌, ◌<◌, ◌≤◌, ◌+ℤ◌, ◌&&◌, ◌∷◌, ◌++◌, ◌==◌}
use Rattle.bits_model.proofs.Common.{ℕ, zero, suc, pos, Bool, true, false, List, [], length, take, drop, count_by, flat_map, map, All, arith, ap, sym, ◌∙◌, refl, subst, ints, nat_tests, recursion_from_All, total_by, bit_at, majority, times_spin}
use Rattle.ising_form.proofs.Common.{sum_by, inl, inr, spins_energy, node_entries, IsCoupler, ising_value, is_in, Entry}
use Rattle.std.specs.List.{AllByRecursion, AllZip, list_any, range_with_len, slice_index_or}
use Rattle.std.proofs.lemmas.Bool.{cases_Bool, cases_order, or_cases, and_from, and_parts, false_from_ne_true, eqb-true}
use Rattle.std.proofs.lemmas.List.{length-map, get_or-map, get_or-take, length-take}
use Rattle.std.proofs.lemmas.List.Folds.{list_any-from_Any, list_any_none}
use Rattle.std.proofs.lemmas.List.FromFn.{fill_by_all, length-range_with_len, get_or-range_with_len, length-map-range_with_len, get_or-map-range_with_len}
use Rattle.std.proofs.lemmas.List.Sums.{sum_by-cons, sum_by_more_le, get_or-le-sum_by}
use Rattle.base.proofs.Totals.{total_by-append, total_by-flat_map}
use Rattle.base.specs.Costs.{IsNeverInfinite}
use Rattle.form_steps.specs.Relations.{Keeps, Extends, Joins}
use Rattle.ising_form.specs.Isings as isings
use Rattle.embedding_check.specs.Embeddings.{Embedding, IsEmbedding, IsTie, form_of}
use Rattle.chain_map.specs.Chains.{IsBetween, chain_of, occurrences}
use Rattle.chain_map.proofs.Occurrences.{occurrences-sum}
use Rattle.chain_layer.specs.declared.link.ChainLink.{ChainLink}
use Rattle.chain_layer.specs.Image.{nodes_of, field_of, shares, ties, ties_by, by_node, all_shares, placed, field_at, in_order, image, image_by, offset, offset_by, decoding, IsSound, Fits, bit_on, extension}
use Rattle.chain_layer.specs.laws.SpinSums.{all_append, spin_energy, pair_energy, shares_spread, nodes_energy, fields_energy, IsUpward, couplings_energy, total_by-in_order}
use Rattle.chain_layer.specs.laws.Whole.{is_whole, HasBit, one_bit, each_in, in_rest, majority_of}
use Rattle.chain_layer.specs.laws.NodeEnergies.{ties_upward, shares_of}
use Rattle.chain_layer.specs.laws.Aligned.{node_at, whole_at, Reads, read_energy, shares_energy, chains_energy, chains_low, chains_equal, couplers_of}

-- ---- the value of a form, and that of its image

-- what is true of the entries of each node of a range is true of the entries of all of them
pub each_of_range : (P : Entry → Type 0) (f : ℕ → List Entry) (a n : ℕ)
    → ((i : ℕ) → a ≤ i → i < a + n → AllByRecursion P (f i))
    → AllByRecursion P (flat_map f (range_with_len a n))
each_of_range P f a zero h = tt
each_of_range P f a (suc n) h =
    all_append P (f a) (flat_map f (range_with_len (a + 1) n)) (h a (omega arith) (omega arith))
    (each_of_range P f (a + 1) n (λ i l u. h i (omega (arith, l)) (omega (arith, u))))

-- the qubits of a node's chain are qubits of the graph
pub chain_within : (e : Embedding) → IsEmbedding e → (i : ℕ) → i < length e.ising.fields
    → AllByRecursion (λ q. q < e.qubits) (chain_of e.chains i)
chain_within e kept i within =
    recursion_from_All _ _ (kept.within i [] (omega (arith, within, kept.counted)))

-- each share of a field is on a qubit of the graph
pub shares_within : (e : Embedding) → IsEmbedding e
    → AllByRecursion (λ s. s.first < e.qubits) (all_shares e)
shares_within e kept =
    each_of_range (λ s. s.first < e.qubits) (λ i. shares (chain_of e.chains i) (field_of e i)) 0
    (length e.ising.fields)
    (λ i a l. shares_of (λ q. q < e.qubits) (chain_of e.chains i) _ (chain_within e kept i (omega (arith, l))))

-- The fields of the qubits cost what the shares of the nodes do. So a sum over qubits is one over
-- nodes.
pub fields_spread : (e : Embedding) → IsEmbedding e → (s : ℕ → Bool)
    → total_by (λ q. times_spin (s q) (field_at (all_shares e) q)) (range_with_len 0 e.qubits)
    ≡ total_by (shares_energy e s) (nodes_of e)
fields_spread e kept s =
    shares_spread s e.qubits (all_shares e) (shares_within e kept)
    ∙ total_by-flat_map (spin_energy s) (λ i. shares (chain_of e.chains i) (field_of e i)) (nodes_of e)

-- each tie of any chain is of two different qubits, the lesser one first
all_ties_upward : (strong : ℕ → ℕ → ℕ) (e : Embedding) → IsEmbedding e
    → AllByRecursion IsUpward (ties_by strong e)
all_ties_upward strong e kept =
    each_of_range IsUpward (λ i. ties (strong i) (drop 1 (chain_of e.chains i)) (chain_of e.parents i)) 0
    (length e.ising.fields)
    (λ i a l. ties_upward (chain_of e.chains i) _ _ (strong i) (node_at e kept i (omega (arith, l))).tree.ties)

-- each placed coupling is of two different qubits, the lesser one first
pub placed_upward : (chains : List (List ℕ)) (cs : List Entry) (ps : List (ℕ × ℕ))
    → AllZip (λ c place. IsBetween (chain_of chains c.first) (chain_of chains c.second) place) cs ps
    → AllByRecursion IsUpward (placed cs ps)
placed_upward chains [] ps h = tt
placed_upward chains (c ∷ cs) [] h = tt
placed_upward chains (c ∷ cs) (p ∷ ps) h = (h.0.upward, placed_upward chains cs ps h.1)

-- each coupler of a form is of two different nodes, the lesser one first
pub couplings_upward : (n : ℕ) (cs : List Entry) → AllByRecursion (IsCoupler n) cs
    → AllByRecursion IsUpward cs
couplings_upward n [] h = tt
couplings_upward n (c ∷ cs) h = (h.0.upward, couplings_upward n cs h.1)

-- The value of a form is its constant, and the energy of its nodes and couplings. The constant
-- stands apart, since no bit changes it.
pub form_value : (e : Embedding) → IsEmbedding e → (x : List Bool)
    → ising_value e.ising x ≡ e.ising.constant +ℤ read_energy e (bit_at x)
form_value e kept x =
    let joined =
    total_by-append (spins_energy x) (node_entries 0 e.ising.fields) e.ising.couplings in
    let pairs = couplings_energy x e.ising.couplings (couplings_upward _ _ (couplers_of e kept)) in
    omega (arith, ints, joined, fields_energy x e.ising.fields, pairs)

-- and that of its image is the same constant, and the energy of the chains and placed couplings. The
-- image's couplings stand in the order of their pairs, and a sum does not depend on the order
pub image_value : (strong : ℕ → ℕ → ℕ) (e : Embedding) → IsEmbedding e → (y : List Bool)
    → ising_value (image_by strong e) y ≡ e.ising.constant +ℤ chains_energy strong e (bit_at y)
image_value strong e kept y =
    let s = bit_at y in
    let fields = map (field_at (all_shares e)) (range_with_len 0 e.qubits) in
    let pairs = placed e.ising.couplings e.places in
    let joined =
    total_by-append (spins_energy y) (node_entries 0 fields) (in_order (pairs ++ ties_by strong e)) in
    let nodes = nodes_energy y (field_at (all_shares e)) 0 0 e.qubits refl in
    let spread = fields_spread e kept s in
    let ordered = total_by-in_order (spins_energy y) (pairs ++ ties_by strong e) in
    let couplings_joined = total_by-append (spins_energy y) pairs (ties_by strong e) in
    let placed_pairs = couplings_energy y pairs (placed_upward e.chains _ _ kept.placed) in
    let tied_pairs = couplings_energy y (ties_by strong e) (all_ties_upward strong e kept) in
    let listed =
    total_by-flat_map (pair_energy s)
    (λ i. ties (strong i) (drop 1 (chain_of e.chains i)) (chain_of e.parents i))
    (nodes_of e) in
    omega (arith, ints, joined, nodes, spread, ordered, couplings_joined, placed_pairs, tied_pairs, listed)

-- ---- every state

-- among the majorities of all chains, bit i is that of chain i
pub bit_of_chain : (y : List Bool) (chains : List (List ℕ)) (i : ℕ) → i < length chains
    → bit_at (map (majority y) chains) i ≡ majority y (chain_of chains i)
bit_of_chain y chains i h = get_or-map (majority y) chains i [] false h

-- the majority is the bit of a chain on which no tie is broken, so it is a reading as the law of
-- chains asks for
pub majority_reads : (e : Embedding) → IsEmbedding e → (y : List Bool)
    → Reads e (bit_at y) (bit_at (map (majority y) e.chains))
majority_reads e kept y i within whole q in' =
    let node = node_at e kept i within in
    let has = one_bit (bit_at y) (chain_of e.chains i) (chain_of e.parents i) node.tree whole in
    has q in'
    ∙ sym (majority_of y (chain_of e.chains i) _ node.filled has)
    ∙ sym (bit_of_chain y e.chains i (omega (arith, within, kept.counted)))

-- ---- the extension

-- where a number of a range passes a test, some number of the range does
pub any_of_range : (p : ℕ → Bool) (i a n : ℕ) → a ≤ i → i < a + n → p i ≡ true
    → list_any p (range_with_len a n) ≡ true
any_of_range p i a n low high h =
    let at = get_or-range_with_len a n (i - a) i (omega arith) in
    list_any-from_Any p (range_with_len a n)
    (i - a, i, omega (arith, length-range_with_len a n, low, high), omega (arith, at, low), h)

-- and where none passes, no number of the range does
none_of_range : (p : ℕ → Bool) (a n : ℕ) → ((i : ℕ) → i < a + n → p i ≡ false)
    → list_any p (range_with_len a n) ≡ false
none_of_range p a n h =
    list_any_none p (range_with_len a n) (λ k d l.
    let below : k < n = omega (arith, l, length-range_with_len a n) in
    rw (get_or-range_with_len a n k d below) (h (a + k) (omega (arith, below))))

-- a qubit that is in a chain is listed there at least once
pub counted_in : (chain : List ℕ) (q : ℕ) → is_in chain q ≡ true → 1 ≤ count_by (λ p. p == q) chain
counted_in [] q h = absurd cc
counted_in (p ∷ ps) q h = let rest = counted_in ps q in simp sum_by-cons (grind (arith, nat_tests))

-- two places of a list come to no more than its sum
two_of : {X : Type 0} (f : X → ℕ) (xs : List X) (i j : ℕ) (d : X) → i < j → j < length xs
    → f (slice_index_or xs i d) + f (slice_index_or xs j d) ≤ sum_by f xs
two_of f xs i j d less within =
    let front : i < length (take j xs) = omega (arith, length-take j xs, less, within) in
    let one = get_or-le-sum_by f (take j xs) i d front in
    omega (arith, sum_by_more_le f xs j d within, one, ap f (get_or-take j xs i d less))

-- a qubit is in one chain at most: where it occurs once in all chains together, two chains that
-- have it are one
pub one_chain : (chains : List (List ℕ)) (q i j : ℕ) → occurrences q chains ≤ 1 → i < length chains
    → j < length chains → is_in (chain_of chains i) q ≡ true → is_in (chain_of chains j) q ≡ true
    → i ≡ j
one_chain chains q i j once i_in j_in here there =
    let one = counted_in (chain_of chains i) q here in
    let other = counted_in (chain_of chains j) q there in
    elim (cases_order i j) [
      | inl same ↦ same
      | inr (inl less) ↦
          absurd (omega (arith, one, other, once, occurrences-sum q chains, two_of (λ c. count_by (λ p. p == q) c) chains i j [] less j_in))
      | inr (inr more) ↦
          absurd (omega (arith, one, other, once, occurrences-sum q chains, two_of (λ c. count_by (λ p. p == q) c) chains j i [] more i_in))
    ]

-- A qubit of a chain has the bit of its node. This makes the extension well defined.
bit_of_node : (chains : List (List ℕ)) (x : List Bool) (q i : ℕ) → occurrences q chains ≤ 1
    → i < length chains → is_in (chain_of chains i) q ≡ true → bit_on chains x q ≡ bit_at x i
bit_of_node chains x q i once within in' = elim (cases_Bool (bit_at x i)) [
  | inl one ↦
      any_of_range test i 0 (length chains) (omega arith) (omega (arith, within))
      (and_from (bit_at x i) _ one in')
      ∙ sym one
  | inr none ↦
      none_of_range test 0 (length chains)
      (λ j l. false_from_ne_true _ (λ both.
      let parts = and_parts (bit_at x j) (is_in (chain_of chains j) q) both in
      let same = one_chain chains q i j once within (omega (arith, l)) in' parts.1 in
      let bit : true ≡ false = sym parts.0 ∙ sym (ap (bit_at x) same) ∙ none in
      cc))
      ∙ sym none
]
  where
    test : ℕ → Bool
    test j = bit_at x j && is_in (chain_of chains j) q

-- what is true of all qubits of a list is true of any qubit that is in it
pub each_at : (P : ℕ → Type 0) (qs : List ℕ) (q : ℕ) → AllByRecursion P qs → is_in qs q ≡ true → P q
each_at P [] q h in' = absurd cc
each_at P (p ∷ ps) q h in' = elim (or_cases (p == q) (is_in ps q) in') [
  | inl same ↦ subst P (eqb-true p q same) h.0
  | inr later ↦ each_at P ps q h.1 later
]

-- in the extension all qubits of a node's chain have the bit of the node
pub extension_bits : (e : Embedding) → IsEmbedding e → (x : List Bool) (i : ℕ)
    → i < length e.ising.fields → HasBit (bit_at (extension e x)) (chain_of e.chains i) (bit_at x i)
extension_bits e kept x i within q in' =
    let below : q < e.qubits = each_at (λ p. p < e.qubits) (chain_of e.chains i) q (chain_within e kept i within) in' in
    get_or-map-range_with_len (bit_on e.chains x) 0 e.qubits q q false below (omega arith)
    ∙ bit_of_node e.chains x q i (kept.once q) (omega (arith, within, kept.counted)) in'

-- a chain of one bit has no broken tie: each qubit and its parent have that bit
whole_of_bit : (s : ℕ → Bool) (chain : List ℕ) (b : Bool) (qs ps : List ℕ) → HasBit s chain b
    → AllByRecursion (λ q. is_in chain q ≡ true) qs → AllZip (IsTie chain) qs ps
    → is_whole s qs ps ≡ true
whole_of_bit s chain b [] ps has ins h = refl
whole_of_bit s chain b (q ∷ qs) [] has ins h = refl
whole_of_bit s chain b (q ∷ qs) (p ∷ ps) has ins h =
    let at_q = has q ins.0 in
    let at_p = has p h.0.inside in
    let rest = whole_of_bit s chain b qs ps has ins.1 h.1 in grind arith

-- the qubits of a chain behind its first one are in the chain
pub rest_in : (chain : List ℕ) → AllByRecursion (λ q. is_in chain q ≡ true) (drop 1 chain)
rest_in [] = tt
rest_in (q ∷ qs) = each_in (λ p. is_in (q ∷ qs) p ≡ true) qs (λ p in'. in_rest q p qs in')

-- in the extension no tie of a node's chain is broken
pub extension_whole : (e : Embedding) → IsEmbedding e → (x : List Bool) (i : ℕ)
    → i < length e.ising.fields → whole_at e (bit_at (extension e x)) i ≡ true
extension_whole e kept x i within =
    whole_of_bit (bit_at (extension e x)) (chain_of e.chains i) (bit_at x i) _ _
    (extension_bits e kept x i within)
    (rest_in (chain_of e.chains i))
    (node_at e kept i within).tree.ties

-- The value of the image at an extension is that of the form at its assignment, and the offset.
-- This is the other half: each assignment is reached with equality.
pub extension_value : (strong : ℕ → ℕ → ℕ) (e : Embedding) → IsEmbedding e → (x : List Bool)
    → ising_value (image_by strong e) (extension e x) ≡ ising_value e.ising x +ℤ offset_by strong e
extension_value strong e kept x =
    let chained =
    chains_equal strong e kept (bit_at (extension e x)) (bit_at x) (extension_whole e kept x) (extension_bits e kept x) in
    omega (arith, ints, form_value e kept x, image_value strong e kept (extension e x), chained)

-- each bit of an assignment is the majority of its chain in the extension; two lists of bits are
-- one where they are as long and have the same bits
same_bits : (xs ys : List Bool) → length xs ≡ length ys
    → ((i : ℕ) → i < length ys → bit_at xs i ≡ bit_at ys i) → xs ≡ ys
same_bits xs ys e h =
    fill_by_all (bit_at ys) xs (length ys) false e h
    ∙ sym (fill_by_all (bit_at ys) ys (length ys) false refl (λ i l. refl))

-- the majorities of the chains in an extension are its assignment
pub extension_decodes : (e : Embedding) → IsEmbedding e → (x : List Bool)
    → length x ≡ length e.ising.fields → map (majority (extension e x)) e.chains ≡ x
extension_decodes e kept x width =
    same_bits (map (majority (extension e x)) e.chains) x
    (length-map e.chains (majority (extension e x)) ∙ kept.counted ∙ sym width)
    (λ i l.
    let within : i < length e.ising.fields = omega (arith, l, width) in
    bit_of_chain (extension e x) e.chains i (omega (arith, within, kept.counted))
    ∙ majority_of (extension e x) (chain_of e.chains i) (bit_at x i) (node_at e kept i within).filled
    (extension_bits e kept x i within))

-- ---- the layer's laws

-- where a link fits, none of its chains is empty, and all their qubits exist
pub chains_sound : (link : ChainLink) (e : Embedding) → Fits link e → IsSound link
chains_sound link e fits = record {
  filled = subst (λ cs. All (λ chain. chain ≢ []) cs) (sym fits.chains) fits.kept.filled;
  within =
      subst (λ n. All (λ chain. All (λ q. q < n) chain) link.chains) (sym fits.qubits)
      (subst (λ cs. All (λ chain. All (λ q. q < e.qubits) chain) cs) (sym fits.chains) fits.kept.within);
}

-- a link that fits has the widths of the form and of its image
pub chains_join : (link : ChainLink) (e : Embedding) → Fits link e
    → Joins (form_of e) (isings.form_of (image e)) (decoding link)
chains_join link e fits = record {
  source = ap length fits.chains ∙ fits.kept.counted;
  target = fits.qubits ∙ sym (length-map-range_with_len (field_at (all_shares e)) 0 e.qubits);
}

-- The extension decodes to its assignment and reaches it. The scale is 1: the weights are not
-- multiplied.
pub images_reach : (strong : ℕ → ℕ → ℕ) (link : ChainLink) (e : Embedding) (x : List Bool) → Fits link e
    → length x ≡ length e.ising.fields
    → Extends (form_of e) (isings.form_of (image_by strong e)) (decoding link) (pos 1) (offset_by strong e) x
    (extension e x)
images_reach strong link e x fits width = record {
  width =
      length-map-range_with_len (bit_on e.chains x) 0 e.qubits
      ∙ sym (length-map-range_with_len (field_at (all_shares e)) 0 e.qubits);
  decodes = ap (map (majority (extension e x))) fits.chains ∙ extension_decodes e fits.kept x width;
  energy = omega (arith, ints, extension_value strong e fits.kept x);
}

-- so it is where all ties are as strong as their nodes ask
pub chains_reach : (link : ChainLink) (e : Embedding) (x : List Bool) → Fits link e
    → length x ≡ length e.ising.fields
    → Extends (form_of e) (isings.form_of (image e)) (decoding link) (pos 1) (offset e) x (extension e x)
chains_reach link e x fits width = images_reach (by_node e) link e x fits width

-- The image keeps the costs of the form. No state lies below what it decodes to, and each
-- assignment is reached, with the scale 1 and the offset of the ties.
pub chains_keep : (link : ChainLink) (e : Embedding) → Fits link e
    → Keeps (form_of e) (isings.form_of (image e)) (decoding link) (pos 1) (offset e)
chains_keep link e fits = record {
  positive = omega (arith, ints);
  width = λ z w. length-map link.chains (majority z) ∙ ap length fits.chains ∙ fits.kept.counted;
  bound = λ z w.
      let x = map (majority z) e.chains in
      omega (
        arith,
        ints,
        ap (λ cs. ising_value e.ising (map (majority z) cs)) fits.chains,
        form_value e fits.kept x,
        image_value (by_node e) e fits.kept z,
        chains_low e fits.kept (bit_at z) (bit_at x) (majority_reads e fits.kept z),
      );
  reached = λ x w. (extension e x, chains_reach link e x fits w);
}

-- the costs of an embedded form are whole
pub chains_whole_source : (e : Embedding) → IsNeverInfinite (form_of e)
chains_whole_source e y infinite = cc

-- the costs of an image are whole
pub chains_whole : (e : Embedding) → IsNeverInfinite (isings.form_of (image e))
chains_whole e y infinite = cc
