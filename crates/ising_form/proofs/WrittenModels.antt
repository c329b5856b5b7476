-- The models of an Ising form: they are well formed, and have the form's energies but for the constant.
use Rattle.ising_form.proofs.Common.{nat_tests, ◌≡◌, ◌⊎◌, ℕ, ◌<◌, ◌≤◌, Bool, ℤ, pos, ◌≤ℤ◌, List, ◌++◌, length, All, refl, sym, subst, arith, ints, recursion_from_All, All-from_recursion, total_by, total_by-append, Figures, Entry, Graph, Kind, Form, Decoding, IsMultiple, IsWellFormed, IsPlaced, decoding_of, entry_energy, spins_energy, read_off, weight_total, node_entries, RelaxesAsWritten, nodes_ordered, couplers_up, all_placed, has_each_node, all_nonzero, counted_coprime, IsingContent, IsIsing, entries_of, form_of, FitsOutput, AreNodes, is_on_chain, written_nodes, written_entries, written_of, ising_unit, reduced, IsReducedAsWritten, PenaltyScope, RelaxesBy, StaysAbove, StaysAsWritten, moved_by, moved_stays}
use Rattle.bits_model.specs.declared.output.Kind.TheVariants.{Qubo, Ising, Qubits}
use Rattle.ising_form.proofs.ChainedNodes.{AreUnchained, AllRec-filter, sorted-filter, chained_listed, chained_energy, all_from_chained, chained_total}
use Rattle.ising_form.proofs.ReducedForms.{weights}

-- ---- well formed

pub written_is_well_formed : (f : IsingContent) (variables : ℕ) (figures : Figures) (unit : ℤ)
    (kind : Kind) (chains : List (List ℕ)) → IsIsing f → FitsOutput kind chains variables f
    → pos 1 ≤ℤ figures.scale → pos 1 ≤ℤ unit
    → IsWellFormed (written_of f variables figures unit kind chains)
written_is_well_formed f variables figures unit Qubo chains ising fits scale one = absurd fits
written_is_well_formed f variables figures unit Ising chains ising fits scale one = record {
  unit = one;
  scale = scale;
  ordered = nodes_ordered 0 f.fields f.couplings
      (couplers_up (length f.fields) f.couplings (recursion_from_All _ f.couplings ising.couplings))
      ising.ordered;
  placed = all_placed f.fields f.couplings ising.couplings;
  kind = record {
    listed = λ i h. has_each_node 0 f.fields f.couplings i (omega arith) (omega arith);
    nonzero = all_nonzero f.fields f.couplings ising.couplings;
    unchained = fits.0;
    enough = fits.1;
  };
}
written_is_well_formed f variables figures unit (Qubits graph) chains ising fits scale one =
    record {
      unit = one;
      scale = scale;
      ordered = sorted-filter (is_on_chain chains) nodes f.couplings
          (nodes_ordered 0 f.fields f.couplings
          (couplers_up (length f.fields) f.couplings (recursion_from_All _ f.couplings ising.couplings))
          ising.ordered);
      placed = All-from_recursion _ _ (AllRec-filter (IsPlaced (length f.fields)) (is_on_chain chains) nodes f.couplings
          (recursion_from_All _ _ (all_placed f.fields f.couplings ising.couplings)));
      kind = record {
        sized = fits.sized;
        filled = fits.filled;
        listed = chained_listed chains f.fields f.couplings
            (subst (λ n. All (λ chain. All (λ q. q < n) chain) chains) (sym fits.sized) fits.placed)
            ising.couplings;
        enough = fits.enough;
      };
    }
  where
    nodes : List Entry
    nodes = node_entries 0 f.fields

-- ---- its energies

unchained_from : (f : IsingContent) (graph : Graph) (chains : List (List ℕ)) (variables : ℕ)
    → FitsOutput (Qubits graph) chains variables f → AreUnchained chains 0 f.fields
unchained_from f graph chains variables fits k not = grind (arith, nat_tests)

-- the entries of a model have the energy of all entries
pub written_energy : (f : IsingContent) (variables : ℕ) (kind : Kind) (chains : List (List ℕ))
    → FitsOutput kind chains variables f → (y : List Bool)
    → total_by (entry_energy kind y) (written_entries kind chains f)
    ≡ total_by (spins_energy y) (entries_of f)
written_energy f variables Qubo chains fits y = absurd fits
written_energy f variables Ising chains fits y = refl
written_energy f variables (Qubits graph) chains fits y =
    grind (arith, nat_tests, total_by-append, chained_energy, unchained_from)

pub written_total : (f : IsingContent) (kind : Kind) (chains : List (List ℕ))
    → weight_total (written_entries kind chains f) ≤ weight_total (entries_of f)
written_total f kind chains = grind (arith, nat_tests, chained_total)

pub written_relaxes : (scope : PenaltyScope) (source : Form) (f : IsingContent) (d : Decoding)
    (variables : ℕ) (figures : Figures) (unit : ℤ) (kind : Kind) (chains : List (List ℕ))
    → FitsOutput kind chains variables f → (unit ≡ pos 1) ⊎ (f.constant ≡ pos 0)
    → ((y : List Bool) → d.decoded y ≡ read_off kind variables chains y)
    → RelaxesBy scope source (form_of f) d unit figures
    → RelaxesAsWritten scope source (written_of f variables figures unit kind chains)
written_relaxes scope source f d variables n unit kind chains fits counted same p =
    let m = written_of f variables n unit kind chains in
    moved_by scope source (length f.fields) (λ y. total_by (spins_energy y) (entries_of f))
    (λ y. total_by (entry_energy kind y) m.entries) f.constant d (decoding_of m) n unit counted same
    (written_energy f variables kind chains fits) p

pub written_stays : (source : Form) (f : IsingContent) (d : Decoding) (variables : ℕ)
    (figures : Figures) (unit : ℤ) (kind : Kind) (chains : List (List ℕ))
    → FitsOutput kind chains variables f → (unit ≡ pos 1) ⊎ (f.constant ≡ pos 0)
    → ((y : List Bool) → d.decoded y ≡ read_off kind variables chains y)
    → StaysAbove source (form_of f) d unit figures
    → StaysAsWritten source (written_of f variables figures unit kind chains)
written_stays source f d variables n unit kind chains fits counted same p =
    let m = written_of f variables n unit kind chains in
    moved_stays source (length f.fields) (λ y. total_by (spins_energy y) (entries_of f))
    (λ y. total_by (entry_energy kind y) m.entries) f.constant d (decoding_of m) n unit counted same
    (written_energy f variables kind chains fits) p

-- ---- its unit

-- the entries of all weights, counted in a unit, and those of a model
all_counted : (P : ℤ → Type 0) (f : IsingContent) (variables : ℕ) (kind : Kind)
    (chains : List (List ℕ)) → P (pos 0) → FitsOutput kind chains variables f
    → All (λ (e : Entry). P e.weight) (written_entries kind chains f)
    → All (λ (e : Entry). P e.weight) (entries_of f)
all_counted P f variables Qubo chains of_zero fits all = absurd fits
all_counted P f variables Ising chains of_zero fits all = all
all_counted P f variables (Qubits graph) chains of_zero fits all =
    All-from_recursion _ _
    (all_from_chained P chains 0 f.fields f.couplings of_zero
    (unchained_from f graph chains variables fits) (recursion_from_All _ _ all))

all_written : (P : ℤ → Type 0) (f : IsingContent) (kind : Kind) (chains : List (List ℕ))
    → All (λ (e : Entry). P e.weight) (entries_of f)
    → All (λ (e : Entry). P e.weight) (written_entries kind chains f)
all_written P f Qubo chains all = all
all_written P f Ising chains all = all
all_written P f (Qubits graph) chains all =
    All-from_recursion _ _
    (AllRec-filter (λ (e : Entry). P e.weight) (is_on_chain chains) (node_entries 0 f.fields) f.couplings
    (recursion_from_All _ _ all))

zero_multiple : (d : ℕ) → IsMultiple d (pos 0)
zero_multiple d = (pos 0, omega (arith, ints))

reduced_is_reduced : (f : IsingContent) → IsReducedAsWritten (reduced f) (ising_unit f)
reduced_is_reduced f variables figures kind chains fits = record {
  coprime = λ d more all.
      all_written (λ z. z ≡ pos 0) (reduced f) kind chains
      ((counted_coprime (weights f)).coprime d more
      (all_counted (IsMultiple d) (reduced f) variables kind chains (zero_multiple d) fits all));
  zero = λ all.
      (counted_coprime (weights f)).zero
      (all_counted (λ z. z ≡ pos 0) (reduced f) variables kind chains refl fits all);
}

pub made_is_reduced : (f g : IsingContent) (unit : ℤ) → g ≡ reduced f → unit ≡ ising_unit f
    → IsReducedAsWritten g unit
made_is_reduced f g unit is same = rw (is, same) (reduced_is_reduced f)

-- ---- parts of its entries

pub nodes_and_couplings : (kind : Kind) (chains : List (List ℕ)) (f : IsingContent)
    → written_nodes kind chains f.fields ++ f.couplings ≡ written_entries kind chains f
nodes_and_couplings kind chains f = grind (arith, nat_tests)

pub are_nodes : (kind : Kind) (chains : List (List ℕ)) (variables : ℕ) (f : IsingContent)
    → FitsOutput kind chains variables f → AreNodes kind chains (length f.fields)
are_nodes kind chains variables f fits = grind (arith, nat_tests)
