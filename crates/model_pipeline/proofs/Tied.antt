-- Forms on chains, counted in their greatest unit: they are on the same chains and the same joined
-- qubits.
use Rattle.model_pipeline.proofs.Common.{nat_tests, ◌≡◌, ℕ, zero, suc, true, false, ℤ, pos, List, [], ◌∷◌, ◌++◌, All, Graph, Kind, qubits_of, map, ap, ◌∙◌, arith, nat_lt, AllByRecursion, slice_index_or, zero-div, le-ltb, length-map, All-map, All-from_recursion, recursion_from_All, Entry, is_coupler, node_entries, counted_in, entry_in, IsingContent, FitsOutput, is_on_chain, written_entries, ising_unit, reduced, AllRec-filter, Joins, ◌≤◌, ◌+◌, ◌*◌, ◌^◌, Bool, length, refl, sym, subst, unsigned_abs, length-map-range_with_len, Figures, Form, figures_moved, Decoding, Extends, Reduces, decoding_after, StandsAtLeast, IsLeast, relaxed_stands, kept_stands, reduced_stands, ChainStrength, IsIsing, ising_total, Embedding, IsEmbedding, IsChecked, ChainLink, chains_keep, chains_reach, CutLink, cut_keeps, cut_reaches, cut_is_ising, cut_offset_small, cut_total_grows, cut_fits_output, cut_is_joined, chained_figures, image_tied, offset_tied, LeastStandBy, StandsBy, Choi, Cut, PenaltyScope, RelaxesBy, StaysAbove, keeps_after_by, keeps_stays_above, reduces_after_by, reduces_stays_above, by_alike, stays_above_alike, StaysBy}
use Rattle.bits_model.specs.declared.output.Kind.TheVariants.{Qubits}
use Rattle.ising_form.specs.Isings as isings
use Rattle.chain_layer.specs.Image as chains
use Rattle.chain_layer.proofs.Ordered as choi
use Rattle.chain_layer.proofs.Sizes as choi_sizes
use Rattle.chain_layer.proofs.Written as choi_written

-- ---- the same chains

-- a field that is 0 stays 0
field_stays_zero : (u : ℤ) (fields : List ℤ) (q : ℕ) → counted_in u (pos 0) ≡ pos 0
    → slice_index_or fields q (pos 0) ≡ pos 0
    → slice_index_or (map (counted_in u) fields) q (pos 0) ≡ pos 0
field_stays_zero u [] q nothing none = none
field_stays_zero u (h ∷ hs) zero nothing none = ap (counted_in u) none ∙ nothing
field_stays_zero u (h ∷ hs) (suc q) nothing none = field_stays_zero u hs q nothing none

-- what a form is counted in can be written where the form can
pub reduced_fits : (kind : Kind) (variables : ℕ) (chains : List (List ℕ)) (f : IsingContent)
    → FitsOutput kind chains variables f → FitsOutput kind chains variables (reduced f)
reduced_fits kind variables chains f fits =
    grind (arith, nat_tests, length-map, field_stays_zero, zero-div)

-- ---- joined qubits

-- the qubits of an entry are joined
abbrev pub AreEndsJoined : Joins → Entry → Type 0
AreEndsJoined joined e = joined e.first e.second ≡ true

-- they are, unless it is the entry of a node
abbrev IsCouplerJoined : Joins → Entry → Type 0
IsCouplerJoined joined e = is_coupler e ≡ true → AreEndsJoined joined e

pub reduced_joined : (joined : Joins) (f : IsingContent) → All (AreEndsJoined joined) f.couplings
    → All (AreEndsJoined joined) (reduced f).couplings
reduced_joined joined f all = All-map (AreEndsJoined joined) (entry_in (ising_unit f)) f.couplings all

couplers_joined : (joined : Joins) (cs : List Entry) → AllByRecursion (AreEndsJoined joined) cs
    → AllByRecursion (IsCouplerJoined joined) cs
couplers_joined joined [] all = tt
couplers_joined joined (c ∷ cs) all = (λ is. all.0, couplers_joined joined cs all.1)

-- no entry of a node is a coupler
nodes_joined : (joined : Joins) (n : ℕ) (fields : List ℤ) (cs : List Entry)
    → AllByRecursion (IsCouplerJoined joined) cs
    → AllByRecursion (IsCouplerJoined joined) (node_entries n fields ++ cs)
nodes_joined joined n [] cs all = all
nodes_joined joined n (h ∷ hs) cs all =
    let no : nat_lt n n ≡ false = le-ltb n n (omega arith) in
    (λ is. absurd (cc (is, no)), nodes_joined joined (suc n) hs cs all)

-- couplers of a model on a graph are on joined qubits where the form's couplings are
pub written_joined : (joined : Joins) (graph : Graph) (chains : List (List ℕ)) (f : IsingContent)
    → All (AreEndsJoined joined) f.couplings
    → All (IsCouplerJoined joined) (written_entries (Qubits graph) chains f)
written_joined joined graph chains f all =
    All-from_recursion _ _
    (AllRec-filter (IsCouplerJoined joined) (is_on_chain chains) (node_entries 0 f.fields) f.couplings
    (nodes_joined joined 0 f.fields f.couplings
    (couplers_joined joined f.couplings (recursion_from_All _ f.couplings all))))

-- What is known of an embedded form on its qubits, however its chains are tied.

-- ---- the form on the qubits

module _ (e : Embedding) (kept : IsEmbedding e) where
  pub tied_is_ising : (ties : ChainStrength) → (ising_total e.ising + 1) * 2 ^ 21 ≤ 2 ^ 124
      → IsIsing (image_tied ties e)
  tied_is_ising Choi small = choi.image_is_ising e kept small
  tied_is_ising Cut small = cut_is_ising e kept small

  pub tied_total : (ties : ChainStrength)
      → ising_total (image_tied ties e) + 1 ≤ (ising_total e.ising + 1) * 2 ^ 21
  tied_total ties = grind (arith, nat_tests, choi_sizes.total_grows e kept, cut_total_grows e kept)

  pub tied_offset : (ties : ChainStrength)
      → unsigned_abs (offset_tied ties e) ≤ (ising_total e.ising + 1) * 2 ^ 20
  tied_offset Choi = choi_sizes.offset_small e kept
  tied_offset Cut = cut_offset_small e kept

  -- a model of it can be written on its chains
  pub tied_fits_output : (ties : ChainStrength) (graph : Graph) (variables : ℕ)
      → e.qubits ≡ qubits_of graph → variables ≤ length e.chains
      → FitsOutput (Qubits graph) e.chains variables (image_tied ties e)
  tied_fits_output Choi graph variables same enough =
      choi_written.image_fits_output e graph variables kept same enough
  tied_fits_output Cut graph variables same enough =
      cut_fits_output e graph variables kept same enough

-- its couplings are on joined qubits
pub tied_is_joined : (ties : ChainStrength) (joined : Joins) (n : ℕ) (f : IsingContent)
    (map : List (List ℕ)) (e : Embedding) → ((a b : ℕ) → joined a b ≡ joined b a)
    → IsChecked joined n f map e
    → All (λ c. joined c.first c.second ≡ true) (image_tied ties e).couplings
tied_is_joined Choi joined n f map e both_ways checked =
    choi_written.image_is_joined joined n f map e both_ways checked
tied_is_joined Cut joined n f map e both_ways checked =
    cut_is_joined joined n f map e both_ways checked

-- it has a field for each qubit
pub tied_width : (ties : ChainStrength) (e : Embedding) → length (image_tied ties e).fields ≡ e.qubits
tied_width ties e = grind (arith, nat_tests, length-map-range_with_len)

-- ---- what it stands for

-- the chains of an embedding, as the layers link them
abbrev pub link_of : Embedding → ChainLink
link_of e = record { chains = e.chains; qubits = e.qubits }

abbrev cut_link_of : Embedding → CutLink
cut_link_of e = record { chains = e.chains; qubits = e.qubits }

pub link_fits : (e : Embedding) → IsEmbedding e → chains.Fits (link_of e) e
link_fits e kept = record { chains = refl; qubits = refl; kept = kept }

-- whatever the embedded form relaxes, it stands for
pub tied_stands : (ties : ChainStrength) (e : Embedding) → IsEmbedding e → (scope : PenaltyScope)
    (source : Form) (d : Decoding) (n : Figures)
    → RelaxesBy scope source (isings.form_of e.ising) d (pos 1) n
    → StandsBy ties scope source (isings.form_of (image_tied ties e))
    (decoding_after d (chains.decoding (link_of e))) (pos 1) (chained_figures ties e n)
tied_stands Choi e kept scope source d n relaxed =
    keeps_after_by scope source (isings.form_of e.ising) (isings.form_of (image_tied Choi e)) d
    (chains.decoding (link_of e)) n (pos 1) (offset_tied Choi e) relaxed
    (chains_keep (link_of e) e (link_fits e kept))
tied_stands Cut e kept scope source d n relaxed =
    kept_stands (relaxed_stands scope source (isings.form_of e.ising) d (pos 1) n relaxed)
    (cut_keeps (cut_link_of e) e (link_fits e kept))

-- and where no state of the embedded form lies below a whole cost, none does on the chains
pub tied_stays : (ties : ChainStrength) (e : Embedding) → IsEmbedding e → (source : Form)
    (d : Decoding) (n : Figures) → StaysAbove source (isings.form_of e.ising) d (pos 1) n
    → StaysBy ties source (isings.form_of (image_tied ties e))
    (decoding_after d (chains.decoding (link_of e))) (pos 1) (chained_figures ties e n)
tied_stays Choi e kept source d n stays =
    keeps_stays_above stays (chains_keep (link_of e) e (link_fits e kept))
tied_stays Cut e kept source d n stays = tt

-- the state on all qubits reaches an assignment of the nodes
pub tied_reach : (ties : ChainStrength) (e : Embedding) (x : List Bool) → IsEmbedding e
    → length x ≡ length e.ising.fields
    → Extends (isings.form_of e.ising) (isings.form_of (image_tied ties e))
    (chains.decoding (link_of e)) (pos 1) (offset_tied ties e) x (chains.extension e x)
tied_reach Choi e x kept width = chains_reach (link_of e) e x (link_fits e kept) width
tied_reach Cut e x kept width = cut_reaches (cut_link_of e) e x (link_fits e kept) width

-- its least states stand for the least assignments
pub least_stand_by : LeastStandBy
least_stand_by Choi scope f g d u n stands = relaxed_stands scope f g d u n stands
least_stand_by Cut scope f g d u n stands = stands

-- ---- other steps

-- counted in a unit it stands for the same
pub stands_reduced : (ties : ChainStrength) (scope : PenaltyScope) (f g h : Form) (d : Decoding)
    (n : Figures) (u b : ℤ) → StandsBy ties scope f g d (pos 1) n → Reduces g h u b
    → StandsBy ties scope f h d u (figures_moved n b)
stands_reduced Choi scope f g h d n u b stands reduces =
    reduces_after_by scope f g h d n u b stands reduces
stands_reduced Cut scope f g h d n u b stands reduces = reduced_stands f g h d n u b stands reduces

-- and no state lies lower
pub stays_reduced : (ties : ChainStrength) (f g h : Form) (d : Decoding) (n : Figures) (u b : ℤ)
    → StaysBy ties f g d (pos 1) n → Reduces g h u b → StaysBy ties f h d u (figures_moved n b)
stays_reduced Choi f g h d n u b stays reduces = reduces_stays_above stays reduces
stays_reduced Cut f g h d n u b stays reduces = tt

least_alike : (f g : Form) (d d' : Decoding) (u : ℤ) (n : Figures)
    → ((y : List Bool) → d.decoded y ≡ d'.decoded y) → StandsAtLeast f g d u n
    → StandsAtLeast f g d' u n
least_alike f g d d' u n same p = record {
  exact = λ feasible x. (
    λ least. let y = (p.exact feasible x).0 least in (y.0, y.1, sym (same y.0) ∙ y.2),
    λ s. (p.exact feasible x).1 (s.0, s.1, same s.0 ∙ s.2),
  );
  decodes = λ feasible y least. subst (IsLeast f) (same y) (p.decodes feasible y least);
  least_energy = p.least_energy;
  infeasible = p.infeasible;
}

-- only what states decode to matters
pub stands_alike : (ties : ChainStrength) (scope : PenaltyScope) (f g : Form) (d d' : Decoding)
    (u : ℤ) (n : Figures) → ((y : List Bool) → d.decoded y ≡ d'.decoded y)
    → StandsBy ties scope f g d u n → StandsBy ties scope f g d' u n
stands_alike Choi scope f g d d' u n same stands =
    by_alike scope f f g d d' u n (record { width = refl; costs = λ x. refl }) (λ y w. sym (same y)) stands
stands_alike Cut scope f g d d' u n same stands = least_alike f g d d' u n same stands

pub stays_alike : (ties : ChainStrength) (f g : Form) (d d' : Decoding) (u : ℤ) (n : Figures)
    → ((y : List Bool) → d.decoded y ≡ d'.decoded y) → StaysBy ties f g d u n
    → StaysBy ties f g d' u n
stays_alike Choi f g d d' u n same stays =
    stays_above_alike f f g d d' u n (record { width = refl; costs = λ x. refl }) (λ y w. sym (same y)) stays
stays_alike Cut f g d d' u n same stays = tt
