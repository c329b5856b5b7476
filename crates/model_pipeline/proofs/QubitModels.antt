-- The model of an embedded Ising form on the qubits of a graph: what it promises of the form.
use Rattle.model_pipeline.proofs.Common.{nat_tests, ◌≡◌, ◌≤◌, ◌<◌, ℕ, ◌+◌, ◌*◌, ◌^◌, ℤ, pos, ◌+ℤ◌, ◌*ℤ◌, ◌≤ℤ◌, List, length, All, refl, sym, ap, ◌∙◌, subst, arith, FitsSigned, unsigned_abs, neg_ℤ, ◌-ℤ◌, w128, ints, fits_signed_from_abs, Figures, UnitChoice, decoding_after, figures_moved, IsConnected, AreBounded, HasUnit, HasNumbers, IsingContent, IsIsing, ising_total, FitsOutput, written_of, ising_unit, reduced, reduced_is_ising, made_total, one_le_ising_unit, written_is_well_formed, written_total, made_is_reduced, Graph, qubits_of, ChainStrength, Embedding, IsEmbedding, IsChecked, read_off_the_chains, Fabric, IsValidOn, chained_figures, image_tied, offset_tied, qubit_model, HasChainRoom, IsQubitModelOf, StandsForWhat, One, Reduce, true, RelaxesBy, StaysAbove, StaysForWhat}
use Rattle.bits_model.specs.declared.output.Kind.TheVariants as kinds
use Rattle.ising_form.specs.Isings as isings
use Rattle.chain_layer.specs.Image as chains
use Rattle.model_pipeline.proofs.Tied.{AreEndsJoined, reduced_fits, reduced_joined, written_joined, link_of, tied_fits_output, tied_is_ising, tied_is_joined, tied_offset, tied_stands, tied_stays, tied_total}
use Rattle.model_pipeline.proofs.FormModels.{minus_low, once_low, unit_low, AreFigures, figures_are_moved, figures_within, figures_fit}
use Rattle.model_pipeline.proofs.WrittenStates.{chained_counts, stands_written, stays_written}

-- ---- figures

-- figures of the same scale, whose threshold lies as far above the offset, none of them greater than
-- a number
abbrev pub AreMoved : (n r : Figures) → ℕ → Type 0
AreMoved n r most = AreFigures n.scale (n.threshold -ℤ n.offset) r most

-- what the ties of a form with room for the layer cost
offset_within : (ties : ChainStrength) (e : Embedding) → IsEmbedding e
    → (ising_total e.ising + 1) * 2 ^ 21 ≤ 2 ^ 124 → unsigned_abs (offset_tied ties e) ≤ 2 ^ 123
offset_within ties e kept small = omega (arith, tied_offset e kept ties, small)

-- a figure, moved by it
tied_low : (z b : ℤ) → unsigned_abs z < 2 ^ 122 → unsigned_abs b ≤ 2 ^ 123
    → unsigned_abs (pos 1 *ℤ z +ℤ b) < 2 ^ 124
tied_low z b h k = grind (arith, nat_tests, ints)

-- the same with what the ties of an embedded form give
pub tied_figure : (ties : ChainStrength) (e : Embedding) (z b : ℤ) → IsEmbedding e
    → (ising_total e.ising + 1) * 2 ^ 21 ≤ 2 ^ 124 → unsigned_abs z < 2 ^ 122
    → b ≡ offset_tied ties e → unsigned_abs (pos 1 *ℤ z +ℤ b) < 2 ^ 124
tied_figure ties e z b kept small low tied = grind (arith, nat_tests, ints, tied_low, offset_within)

pub tied_fits : (ties : ChainStrength) (e : Embedding) (z b : ℤ) → IsEmbedding e
    → (ising_total e.ising + 1) * 2 ^ 21 ≤ 2 ^ 124 → unsigned_abs z < 2 ^ 122
    → b ≡ offset_tied ties e → FitsSigned w128 (pos 1 *ℤ z +ℤ b)
tied_fits ties e z b kept small low tied =
    fits_signed_from_abs w128 (pos 1 *ℤ z +ℤ b)
    (omega (arith, tied_figure ties e z b kept small low tied))

-- the figures on chains
pub moved_by_ties : (ties : ChainStrength) (n : Figures) (e : Embedding) → IsEmbedding e
    → (ising_total e.ising + 1) * 2 ^ 21 ≤ 2 ^ 124
    → unsigned_abs n.offset < 2 ^ 122 → unsigned_abs n.threshold < 2 ^ 122
    → AreMoved n (chained_figures ties e n) (2 ^ 124)
moved_by_ties ties n e kept small offset_low threshold_low =
    let tied = offset_within ties e kept small in grind (arith, nat_tests, tied_low)

-- ---- the model

module _ (f : IsingContent) (n : Figures) (own : ℕ) (ties : ChainStrength) (graph : Graph)
    (fabric : Fabric) (map : List (List ℕ)) (e : Embedding) (kept : IsEmbedding e)
    (sized : fabric.qubits ≡ qubits_of graph) (numbers : HasNumbers graph)
    (both_ways : (a b : ℕ) → fabric.joined a b ≡ fabric.joined b a)
    (checked : IsChecked fabric.joined fabric.qubits f map e) (valid : IsValidOn fabric f map)
    (few : own ≤ length f.fields) (low : unsigned_abs n.scale ≤ 2 ^ 127)
    (positive : pos 1 ≤ℤ n.scale) where
  -- there are as many chains as nodes
  counted : length e.chains ≡ length f.fields
  counted = kept.counted ∙ ap (λ (g : IsingContent). length g.fields) checked.ising

  -- the total, the unit and the moved figures are small
  record HasBounds (g : IsingContent) (u : ℤ) (r : Figures) : Type 0 where
    total : ising_total g < 2 ^ 121
    unit : unsigned_abs u < 2 ^ 124
    figures : AreBounded (figures_moved r (neg_ℤ g.constant))

  -- ---- in any unit

  stands_in : (choice : UnitChoice) (g : IsingContent) (u : ℤ) (r : Figures) → IsIsing g
      → FitsOutput (kinds.Qubits graph) e.chains own g → All (AreEndsJoined fabric.joined) g.couplings
      → pos 1 ≤ℤ u → unsigned_abs u ≤ 2 ^ 125 → AreMoved n r (2 ^ 125)
      → StandsForWhat ties f n (written_of g own r u (kinds.Qubits graph) e.chains)
      → StaysForWhat ties f n (written_of g own r u (kinds.Qubits graph) e.chains)
      → (HasChainRoom f n → HasBounds g u r)
      → HasUnit choice (written_of g own r u (kinds.Qubits graph) e.chains)
      → IsQubitModelOf f n own choice ties graph fabric map
      (written_of g own r u (kinds.Qubits graph) e.chains)
  stands_in choice g u r ising on_chains joined one small are stands stays bounds unit =
      let light = ising.small in
      let width = ap (λ (g : IsingContent). length g.fields) checked.ising in
      let moved = figures_are_moved _ _ r _ are (2 ^ 124) _ (minus_low g.constant _ (omega (arith, light))) in record {
        kind = refl;
        fits = record {
          graph = numbers;
          variables = omega (arith, kept.ising.narrow, width, few);
          figures = figures_fit _ _ _ _ moved low (omega arith);
          unit = omega (arith, small);
          nodes = ising.narrow;
          weights = omega (arith, light, written_total g (kinds.Qubits graph) e.chains);
          qubits = λ i d h j c k. omega (arith, kept.within i d h j c k, kept.few);
        };
        well_formed =
            written_is_well_formed g own r u (kinds.Qubits graph) e.chains ising on_chains
            (subst (λ z. pos 1 ≤ℤ z) (sym are.scale) positive) one;
        variables = refl;
        scale = moved.scale;
        threshold = moved.threshold;
        unit = unit;
        embedded = record {
          chains = checked.chains;
          filled = kept.filled;
          alive = subst (λ cs. All (λ chain. All (λ q. fabric.exists q ≡ true) chain) cs) (sym checked.chains) valid.within;
          connected =
              subst (λ cs. All (IsConnected fabric.joined) cs) (sym checked.chains)
              valid.connected;
          apart = kept.once;
          joined = written_joined fabric.joined graph e.chains g joined;
        };
        stands = stands;
        stays = stays;
        bounded = λ room.
            let has = bounds room in record {
              weights = omega (arith, has.total, written_total g (kinds.Qubits graph) e.chains);
              unit = has.unit;
              figures = has.figures;
            };
      }

  -- ---- the image

  abbrev tied : IsingContent
  tied = image_tied ties e

  tied_on_chains : FitsOutput (kinds.Qubits graph) e.chains own tied
  tied_on_chains =
      tied_fits_output e kept ties graph own (checked.qubits ∙ sized)
      (omega (arith, counted, few))

  tied_joined : All (AreEndsJoined fabric.joined) tied.couplings
  tied_joined = tied_is_joined ties fabric.joined fabric.qubits f map e both_ways checked

  image_low : HasChainRoom f n → ising_total tied < 2 ^ 121
  image_low room = grind (arith, nat_tests, tied_total)

  -- a figure on chains, without the constant
  figure_low : HasChainRoom f n → (z : ℤ) → unsigned_abs z < 2 ^ 122
      → unsigned_abs (pos 1 *ℤ z +ℤ offset_tied ties e +ℤ neg_ℤ tied.constant) < 2 ^ 124
  figure_low room z low = grind (arith, nat_tests, ints, image_low room, tied_offset e kept ties)

  image_bounds : HasChainRoom f n → HasBounds tied (pos 1) (chained_figures ties e n)
  image_bounds room = grind (arith, nat_tests, ints, image_low, figure_low)

  reduced_bounds : HasChainRoom f n → HasBounds (reduced tied) (ising_unit tied)
      (figures_moved (chained_figures ties e n) (neg_ℤ tied.constant))
  reduced_bounds room =
      let u = ising_unit tied in
      let whole = image_bounds room in
      let light = image_low room in
      let unit = unit_low tied.fields tied.couplings (2 ^ 121) (omega (arith, light)) in
      let moved = figures_moved (chained_figures ties e n) (neg_ℤ tied.constant) in
      let less = once_low u (ising_total (reduced tied)) (ising_total tied) (one_le_ising_unit tied)
      (made_total tied (reduced tied) u refl refl) in
      record {
        total = omega (arith, less, light);
        unit = omega (arith, unit, light);
        figures = record {
          scale = whole.figures.scale;
          offset = omega (arith, ints, whole.figures.offset);
          threshold = omega (arith, ints, whole.figures.threshold);
        };
      }

  -- ---- what it stands for

  stands_for : (choice : UnitChoice)
      → StandsForWhat ties f n (qubit_model choice ties e own n (kinds.Qubits graph))
  stands_for choice scope source d variables enough reads same relaxed =
      let decoding = chains.decoding (link_of e) in
      let to = decoding_after d decoding in
      let of = subst (λ g. RelaxesBy scope source (isings.form_of g) d (pos 1) n) (sym checked.ising)
      relaxed in
      stands_written ties scope variables source (isings.form_of tied) to (chained_figures ties e n)
      (qubit_model choice ties e own n (kinds.Qubits graph))
      (chained_counts choice tied own variables (chained_figures ties e n) (kinds.Qubits graph) e.chains to
      (λ y. reads (decoding.decoded y)
      ∙ sym (read_off_the_chains (link_of e) graph variables y)) tied_on_chains)
      (tied_stands ties e kept scope source d n of)

  stays_for : (choice : UnitChoice)
      → StaysForWhat ties f n (qubit_model choice ties e own n (kinds.Qubits graph))
  stays_for choice source d variables enough reads same stays =
      let decoding = chains.decoding (link_of e) in
      let to = decoding_after d decoding in
      let of = subst (λ g. StaysAbove source (isings.form_of g) d (pos 1) n) (sym checked.ising) stays in
      stays_written ties variables source (isings.form_of tied) to (chained_figures ties e n)
      (qubit_model choice ties e own n (kinds.Qubits graph))
      (chained_counts choice tied own variables (chained_figures ties e n) (kinds.Qubits graph) e.chains to
      (λ y. reads (decoding.decoded y)
      ∙ sym (read_off_the_chains (link_of e) graph variables y)) tied_on_chains)
      (tied_stays ties e kept source d n of)

  -- ---- in the unit that is chosen

  pub model_stands : (choice : UnitChoice) → (ising_total e.ising + 1) * 2 ^ 21 ≤ 2 ^ 124
      → AreMoved n (chained_figures ties e n) (2 ^ 124)
      → IsQubitModelOf f n own choice ties graph fabric map
      (qubit_model choice ties e own n (kinds.Qubits graph))
  model_stands One small are =
      stands_in One tied (pos 1) (chained_figures ties e n) (tied_is_ising e kept ties small)
      tied_on_chains tied_joined (omega (arith, ints)) (omega (arith, ints))
      (figures_within _ _ _ _ are _ (omega arith)) (stands_for One) (stays_for One) image_bounds refl
  model_stands Reduce small are =
      let u = ising_unit tied in
      let c = neg_ℤ tied.constant in
      let r = figures_moved (chained_figures ties e n) c in
      let ising = tied_is_ising e kept ties small in
      let light = ising.small in
      let fits = reduced_fits (kinds.Qubits graph) own e.chains tied tied_on_chains in
      stands_in Reduce (reduced tied) u r (reduced_is_ising tied ising) fits
      (reduced_joined fabric.joined tied tied_joined) (one_le_ising_unit tied)
      (omega (arith, unit_low tied.fields tied.couplings (2 ^ 124) (omega (arith, light)), light))
      (figures_are_moved _ _ _ _ are _ c (minus_low tied.constant (2 ^ 124) (omega (arith, light))))
      (stands_for Reduce) (stays_for Reduce) reduced_bounds
      (made_is_reduced tied (reduced tied) u refl refl own r (kinds.Qubits graph) e.chains fits)
