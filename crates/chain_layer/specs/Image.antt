-- An embedded Ising form, as an Ising form on the qubits.
--
-- Each field is split over its chain, each coupling is placed on one joined pair of qubits, and
-- each qubit of a chain but the first is tied to its parent. Ties as strong as a node asks are so
-- strong that a broken one never pays.
--
-- A node with field 5 on the chain 4, 7, 9 gives the qubits 4 and 7 the field 2 each and 9 the
-- field 1. If it has the couplings 3 and -1 with other nodes, its strength is 5 + 3 + 1 + 1 = 10:
-- the two ties have the coupling -10 each.
use Rattle.std.specs.Prelude.{◌≡◌, ◌≢◌, ℕ, ◌+◌, ◌<◌, ◌==◌, ℤ, pos, neg_ℤ, ◌+ℤ◌, unsigned_abs, Bool, ◌&&◌, ◌||◌, List, [], ◌∷◌, ◌++◌, map, length, take, drop, All, sum_by, flat_map, nat_lt, if◌then◌else◌}
use Rattle.std.specs.List.{list_any, range_with_len, slice_index_or}
use Rattle.std.specs.Int.{int_div_euclid, int_rem_euclid}
use Rattle.base.specs.Sums.{total_by, if_so}
use Rattle.bits_model.specs.declared.output.Entry.{Entry}
use Rattle.bits_model.specs.Output.{bit_at, majority}
use Rattle.form_steps.specs.Relations.{Decoding}
use Rattle.bits_model.specs.PairNumbers.{pair_number}
use Rattle.ising_form.specs.Isings.{IsingContent}
use Rattle.embedding_check.specs.Embeddings.{Embedding, IsEmbedding}
use Rattle.chain_map.specs.Chains.{chain_of}
use Rattle.bits_model.specs.Walks.{is_in}
use Rattle.chain_layer.specs.declared.link.ChainLink.{ChainLink}

-- ---- the nodes of the form

-- their numbers, from 0 upwards
abbrev pub nodes_of : Embedding → List ℕ
nodes_of e = range_with_len 0 (length e.ising.fields)

-- the field of a node, and 0 of one that the form does not have
abbrev pub field_of : Embedding → ℕ → ℤ
field_of e node = slice_index_or e.ising.fields node (pos 0)

-- The sizes of a node's couplings. A coupling counts at both of its nodes. The couplings 3 and -1
-- of a node come to 4.
abbrev pub couplings_at : ℕ → List Entry → ℕ
couplings_at node couplings =
    sum_by (λ c. if (node == c.first) || (node == c.second) then unsigned_abs c.weight else 0)
    couplings

-- how strongly the qubits of a node's chain are tied: one more than the sizes of its field and its
-- couplings. To break a tie costs twice that, and gives back at most twice those sizes
abbrev pub strength : Embedding → ℕ → ℕ
strength e node = unsigned_abs (field_of e node) + couplings_at node e.ising.couplings + 1

-- ---- what a chain has

-- a share of a field: an entry whose two nodes are the same qubit
abbrev pub field_entry : ℕ → ℤ → Entry
field_entry q w = record { first = q; second = q; weight = w }

-- A coupling of two qubits, the lesser one first. Of weight w it costs w where the two spins are
-- equal, and -w where they differ.
abbrev pub coupling_entry : ℕ → ℕ → ℤ → Entry
coupling_entry p q w =
    if nat_lt p q
    then record { first = p; second = q; weight = w }
    else record { first = q; second = p; weight = w }

-- the same share for each of these qubits
abbrev pub equal_shares : List ℕ → ℤ → List Entry
equal_shares qubits share = map (λ q. field_entry q share) qubits

-- A field h, split over a chain of n qubits: h is `share * n + rest`, with `rest` from 0 to n - 1,
-- and the first `rest` qubits get one more. The field 5 on three qubits is 2, 2, 1, and the field
-- -5 is -1, -2, -2, since -5 = -2 * 3 + 1. All shares have the sign of the field or are 0, so their
-- sizes add up to that of the field.
abbrev pub shares : List ℕ → ℤ → List Entry
shares chain h =
    let share = int_div_euclid h (pos (length chain)) in
    let rest = unsigned_abs (int_rem_euclid h (pos (length chain))) in
    equal_shares (take rest chain) (share +ℤ pos 1) ++ equal_shares (drop rest chain) share

-- The couplings of these qubits with their parents, each of -F, where F is the strength of the
-- qubit's tie: it costs -F where qubit and parent agree, and F where they don't. The qubits 7 and 9
-- with the parents 4 and 7 and the strengths 4 and 2 give the couplings (4, 7) of -4 and (7, 9) of
-- -2.
abbrev pub ties : (ℕ → ℕ) → List ℕ → List ℕ → List Entry
ties strong (q ∷ qs) (p ∷ ps) = coupling_entry q p (neg_ℤ (pos (strong q))) ∷ ties strong qs ps
ties strong (q ∷ qs) [] = []
ties strong [] ps = []

-- ---- what all have

-- the shares of all fields
abbrev pub all_shares : Embedding → List Entry
all_shares e = flat_map (λ node. shares (chain_of e.chains node) (field_of e node)) (nodes_of e)

-- The ties of all chains, by how strong the tie of a node's qubit is. A chain of n qubits has n - 1
-- of them.
abbrev pub ties_by : (ℕ → ℕ → ℕ) → Embedding → List Entry
ties_by strong e =
    flat_map
    (λ node. ties (strong node) (drop 1 (chain_of e.chains node)) (chain_of e.parents node))
    (nodes_of e)

-- Each coupling on its pair of qubits. The pair of qubits of a coupling is joined in the graph, and
-- has one end in each of the two chains.
abbrev pub placed : List Entry → List (ℕ × ℕ) → List Entry
placed (c ∷ cs) (p ∷ ps) = record { first = p.0; second = p.1; weight = c.weight } ∷ placed cs ps
placed (c ∷ cs) [] = []
placed [] ps = []

-- ---- the form on the qubits

-- the sum of what a qubit gets: the weights of those entries that are at it
abbrev pub field_at : List Entry → ℕ → ℤ
field_at es q = total_by (λ e. if_so (q == e.first) e.weight) es

-- An entry among entries in order of their pairs. It goes before the first entry whose pair is not
-- below its own.
abbrev pub inserted : Entry → List Entry → List Entry
inserted e [] = e ∷ []
inserted e (f ∷ fs) =
    if nat_lt (pair_number f) (pair_number e) then f ∷ inserted e fs else e ∷ f ∷ fs

-- entries in the order of their pairs
abbrev pub in_order : List Entry → List Entry
in_order [] = []
in_order (e ∷ es) = inserted e (in_order es)

-- The split fields, the placed couplings, the ties, and the same constant. A model of it has a
-- field for each qubit of the graph: 0 for those that are in no chain.
abbrev pub image_by : (ℕ → ℕ → ℕ) → Embedding → IsingContent
image_by strong e = record e.ising {
  fields = map (field_at (all_shares e)) (range_with_len 0 e.qubits);
  couplings = in_order (placed e.ising.couplings e.places ++ ties_by strong e);
}

-- what the ties cost where none is broken: the sum of their strengths
abbrev pub cost_by : (ℕ → ℕ → ℕ) → Embedding → ℕ
cost_by strong e =
    sum_by (λ node. sum_by (strong node) (drop 1 (chain_of e.chains node))) (nodes_of e)

-- so much lower are all energies: with no tie broken each tie adds minus its strength
abbrev pub offset_by : (ℕ → ℕ → ℕ) → Embedding → ℤ
offset_by strong e = neg_ℤ (pos (cost_by strong e))

-- ---- with ties that are as strong as their nodes ask

-- all ties of a chain are as strong as its node asks
abbrev pub by_node : Embedding → ℕ → ℕ → ℕ
by_node e = λ node q. strength e node

-- the ties of all chains
abbrev pub all_ties : Embedding → List Entry
all_ties e = ties_by (by_node e) e

-- the form on the qubits
abbrev pub image : Embedding → IsingContent
image e = image_by (by_node e) e

-- what the ties cost where none is broken
abbrev pub ties_cost : Embedding → ℕ
ties_cost e = cost_by (by_node e) e

-- so much lower are all energies
abbrev pub offset : Embedding → ℤ
offset e = offset_by (by_node e) e

-- ---- the link

-- The bit that most qubits of each chain have, and on a tie that of its first qubit. A state has a
-- bit for each qubit of the graph. The bits 0, 1, 1 of a chain decode to 1, and the bits 0, 1 of a
-- chain of two to 0, that of its first qubit.
abbrev pub decoding : ChainLink → Decoding
decoding link = record {
  source_width = length link.chains;
  target_width = link.qubits;
  decoded = λ y. map (majority y) link.chains;
}

-- a link between an embedding and its image
pub record Fits (link : ChainLink) (e : Embedding) : Type 0 where
  -- the link has the chains of the embedding, in the order of its nodes
  pub chains : link.chains ≡ e.chains
  -- and as many qubits
  pub qubits : link.qubits ≡ e.qubits
  -- what is embedded is well formed: chains that are filled and apart, a tree on each, a place for
  -- each coupling
  pub kept : IsEmbedding e

-- The bit of the node whose chain the qubit is in, and 0 in no chain. No qubit is in two chains, so
-- at most one node has a say.
abbrev pub bit_on : List (List ℕ) → List Bool → ℕ → Bool
bit_on chains x q =
    list_any (λ node. bit_at x node && is_in (chain_of chains node) q)
    (range_with_len 0 (length chains))

-- The state of so many qubits in which each has the bit of its node. Qubits that are in no chain
-- have the bit 0.
abbrev pub on_chains : List (List ℕ) → ℕ → List Bool → List Bool
on_chains chains qubits x = map (bit_on chains x) (range_with_len 0 qubits)

-- The state that stands for an assignment of the embedded form. All qubits of a chain have one bit,
-- so no tie is broken.
abbrev pub extension : Embedding → List Bool → List Bool
extension e x = on_chains e.chains e.qubits x

-- no chain is empty, and all its qubits exist
pub record IsSound (link : ChainLink) : Type 0 where
  -- so each chain has a majority and a first qubit
  pub filled : All (λ chain. chain ≢ []) link.chains
  -- so each of its bits stands in the state
  pub within : All (λ chain. All (λ q. q < link.qubits) chain) link.chains
