-- A written model has the energies of its form, counted in its unit and moved: so a state that is
-- least for the form is least for the model, and what the form stands for the model does.
use Rattle.model_pipeline.proofs.Common.{nat_tests, ◌≡◌, ◌⊎◌, inl, inr, ℕ, ℤ, pos, negsuc, ◌+ℤ◌, ◌*ℤ◌, ◌≤ℤ◌, ◌<ℤ◌, Bool, List, take, refl, sym, ap, ◌∙◌, subst, arith, neg_ℤ, ints, total_by, times-lt, Figures, Kind, UnitChoice, Form, IsOf, energy, Written, bits_energy, read_off, spins_energy, Decoding, ExtendsLeast, Reaches, Reduces, decoding_after, figures_after, figures_moved, QuadContent, one_le_quad_unit, IsingContent, FitsOutput, ising_unit, reduced, one_le_ising_unit, made_reduces, written_energy, ChainStrength, decoding_to, chained_model, qubo_model, StandsBy, ExtendsTo, IsLeastTo, ◌≤◌, ◌<◌, [], length, map, All, length-map, first_bits, least-trans, Choices, ProblemContent, NodeModel, figures, same_bits, counted_in, coupled, length-fields, spins_keeps, spins_reaches, image_is_ising, Graph, qubits_of, Embedding, IsEmbedding, IsChecked, checked_embeds, chains_keep, chains_reach, read_off_the_chains, IsValidOn, Qubits, fabric_in, graph_in, chained_figures, image_tied, offset_tied, qubit_model, ising_figures, model, quad_of, HasRoom, ising_of, FitsState, IsLeastExtension, IsMade, IsMadeOf, link_by, state_on, One, Reduce, Qubo, Ising, Choi, PenaltyScope, StaysBy}
use Rattle.base.specs.declared.costs.Cost.TheVariants.{Whole}
use Rattle.bits_model.specs.Output.{form_of}
use Rattle.model_pipeline.proofs.Tied.{reduced_fits, stands_alike, stands_reduced, link_fits, link_of, tied_fits_output, tied_reach, tied_width, stays_alike, stays_reduced}
use Rattle.model_pipeline.proofs.GraphModels.{few_in, below_in, sized_in}
use Rattle.model_pipeline.proofs.Standing.{spins_fit, spins_link, steps_enough}
use Rattle.quad_form.specs.Quads as quads
use Rattle.quad_form.specs.Units as units
use Rattle.quad_form.proofs.ReducedForms as reduced_quads
use Rattle.ising_form.specs.Isings as isings
use Rattle.ising_form.specs.Outputs as outputs
use Rattle.bits_model.specs.declared.output.Kind.TheVariants as kinds
use Rattle.problem_form.specs.Problems as problems
use Rattle.chain_layer.specs.Image as chains

-- ---- least states

-- the model has the form's energies, counted in its unit and moved, and so are its figures; so many
-- variables are read as those of the form's states are
pub record Counts (variables : ℕ) (g : Form) (n : Figures) (d : Decoding) (m : Written)
    : Type 0 where
  pub moved : ℤ
  pub reduces : Reduces g (form_of m) m.unit moved
  pub figures : m.figures ≡ figures_moved n moved
  pub reads : (y : List Bool) → d.decoded y ≡ (decoding_to variables m).decoded y

-- y decodes to x, and where the cost of x is whole the energy of y is that cost, scaled and moved
pub record Follows (f g : Form) (d : Decoding) (n : Figures) (x y : List Bool) : Type 0 where
  pub width : IsOf g y
  pub decodes : d.decoded y ≡ x
  pub scaled : (v : ℤ) → f.cost x ≡ Whole v → energy g y ≡ n.scale *ℤ v +ℤ n.offset

pub least_follows : (f g : Form) (d : Decoding) (n : Figures) (x y : List Bool)
    → ExtendsLeast f g d n x y → Follows f g d n x y
least_follows f g d n x y least = record {
  width = least.width;
  decodes = least.decodes;
  scaled = least.scaled;
}

-- so does a state that reaches it
pub follows_on : (f g h : Form) (d e : Decoding) (n : Figures) (b : ℤ) (x y z : List Bool)
    → Follows f g d n x y → Reaches h e y (pos 1 *ℤ energy g y +ℤ b) z
    → Follows f h (decoding_after d e) (figures_after n (pos 1) b) x z
follows_on f g h d e n b x y z follows reach = record {
  width = reach.width;
  decodes = ap d.decoded reach.decodes ∙ follows.decodes;
  scaled = λ v whole.
      let one : n.scale *ℤ pos 1 ≡ n.scale = omega (arith, ints) in
      omega (arith, ints, reach.energy, follows.scaled v whole, ap (λ a. a *ℤ v) one);
}

-- equal units may be left out
unit_out : (u a b : ℤ) → pos 1 ≤ℤ u → (u *ℤ a) ≤ℤ (u *ℤ b) → a ≤ℤ b
unit_out u a b one h = go (order a b)
  where
    order : (a b : ℤ) → (a ≤ℤ b) ⊎ (b <ℤ a)
    order a b = sign (b +ℤ neg_ℤ a) refl
      where
        sign : (d : ℤ) → d ≡ b +ℤ neg_ℤ a → (a ≤ℤ b) ⊎ (b <ℤ a)
        sign (pos k) e = inl (omega (arith, ints, e))
        sign (negsuc k) e = inr (omega (arith, ints, e))

    go : (a ≤ℤ b) ⊎ (b <ℤ a) → a ≤ℤ b
    go (inl low) = low
    go (inr high) = absurd (omega (arith, ints, times-lt u b a one high))

counted_le : (u a b g h moved : ℤ) → pos 1 ≤ℤ u → u *ℤ a ≡ g +ℤ moved → u *ℤ b ≡ h +ℤ moved
    → g ≤ℤ h → a ≤ℤ b
counted_le u a b g h moved one left right low = unit_out u a b one (omega (arith, ints))

module _ (variables : ℕ) (f g : Form) (d : Decoding) (n : Figures) (m : Written)
    (counts : Counts variables g n d m) where
  -- a state extends for the model what it extends for the form
  pub extends_written : (x y : List Bool) → Follows f g d n x y → ExtendsTo variables f m x y
  extends_written x y follows = grind (arith, nat_tests, ints)

  pub least_written : (x y : List Bool) → ExtendsLeast f g d n x y → IsLeastTo variables m x y
  least_written x y least = λ z w same.
      let reduces = counts.reduces in
      let wide = w ∙ reduces.width in
      counted_le m.unit (energy (form_of m) y) (energy (form_of m) z) (energy g y) (energy g z)
      counts.moved reduces.positive (reduces.energy y least.width) (reduces.energy z wide)
      (least.least z wide (counts.reads z ∙ same))

-- what the form stands for, the model does
pub stands_written : (ties : ChainStrength) (scope : PenaltyScope) (variables : ℕ) (f g : Form)
    (d : Decoding) (n : Figures) (m : Written) → Counts variables g n d m
    → StandsBy ties scope f g d (pos 1) n
    → StandsBy ties scope f (form_of m) (decoding_to variables m) m.unit m.figures
stands_written ties scope variables f g d n m counts stands =
    let h = form_of m in
    let to = decoding_to variables m in
    subst (λ r. StandsBy ties scope f h to m.unit r) (sym counts.figures)
    (stands_alike ties scope f h d to m.unit (figures_moved n counts.moved) counts.reads
    (stands_reduced ties scope f g h d n m.unit counts.moved stands counts.reduces))

-- and where no state of the form lies below a whole cost, none of the model does
pub stays_written : (ties : ChainStrength) (variables : ℕ) (f g : Form) (d : Decoding) (n : Figures)
    (m : Written) → Counts variables g n d m → StaysBy ties f g d (pos 1) n
    → StaysBy ties f (form_of m) (decoding_to variables m) m.unit m.figures
stays_written ties variables f g d n m counts stays =
    let h = form_of m in
    let to = decoding_to variables m in
    subst (λ r. StaysBy ties f h to m.unit r) (sym counts.figures)
    (stays_alike ties f h d to m.unit (figures_moved n counts.moved) counts.reads
    (stays_reduced ties f g h d n m.unit counts.moved stays counts.reduces))

-- ---- the models of forms

nothing_more : (z : ℤ) → pos 0 +ℤ z ≡ z
nothing_more z = omega (arith, ints)

once_moved : (c e : ℤ) → pos 1 *ℤ e ≡ (c +ℤ e) +ℤ neg_ℤ c
once_moved c e = omega (arith, ints)

still : (b : ℤ) → b +ℤ neg_ℤ (pos 0) ≡ b
still b = omega (arith, ints)

-- figures that are moved by nothing
still_figures : (r : Figures) → figures_moved r (neg_ℤ (pos 0)) ≡ r
still_figures r = λ i. record {
  scale = r.scale;
  offset = still r.offset i;
  threshold = still r.threshold i;
}

-- of a quadratic form, in the unit that is chosen
pub qubo_counts : (choice : UnitChoice) (q : QuadContent) (own variables : ℕ) (n : Figures)
    (d : Decoding) → ((y : List Bool) → d.decoded y ≡ take variables y)
    → Counts variables (quads.form_of q) n d (qubo_model choice q own n)
qubo_counts One q own variables n d reads = record {
  moved = neg_ℤ q.constant;
  reduces = record {
    positive = omega (arith, ints);
    width = refl;
    energy = λ y w. once_moved q.constant (total_by (bits_energy y) (quads.entries_of q));
  };
  figures = refl;
  reads = reads;
}
qubo_counts Reduce q own variables n d reads =
    let r = units.reduced q in
    let u = units.quad_unit q in
    let is = reduced_quads.reduced_reduces q in
    record {
      moved = neg_ℤ q.constant;
      reduces = record {
        positive = one_le_quad_unit q;
        width = is.width;
        energy = λ y w.
            sym (ap (λ z. u *ℤ z) (nothing_more (total_by (bits_energy y) (quads.entries_of r))))
            ∙ is.energy y w;
      };
      figures = still_figures (figures_moved n (neg_ℤ q.constant));
      reads = reads;
    }

module _ (f : IsingContent) (own variables : ℕ) (n : Figures) (kind : Kind)
    (chains : List (List ℕ)) (d : Decoding)
    (reads : (y : List Bool) → d.decoded y ≡ read_off kind variables chains y) where
  -- of an Ising form, as it is
  ising_counts : FitsOutput kind chains own f
      → Counts variables (isings.form_of f) n d (outputs.written_of f own n (pos 1) kind chains)
  ising_counts fits = record {
    moved = neg_ℤ f.constant;
    reduces = record {
      positive = omega (arith, ints);
      width = refl;
      energy = λ y w. ap (λ z. pos 1 *ℤ z) (written_energy f own kind chains fits y)
          ∙ once_moved f.constant (total_by (spins_energy y) (isings.entries_of f));
    };
    figures = refl;
    reads = reads;
  }

  -- .. and counted in its unit
  reduced_counts : FitsOutput kind chains own (reduced f) → Counts variables (isings.form_of f) n d
      (outputs.written_of (reduced f) own (figures_moved n (neg_ℤ f.constant)) (ising_unit f) kind
      chains)
  reduced_counts fits =
      let g = reduced f in
      let u = ising_unit f in
      let is = made_reduces f g u (neg_ℤ f.constant) refl refl refl in
      record {
        moved = neg_ℤ f.constant;
        reduces = record {
          positive = one_le_ising_unit f;
          width = is.width;
          energy = λ y w. ap (λ z. u *ℤ z) (written_energy g own kind chains fits y)
              ∙ sym (ap (λ z. u *ℤ z) (nothing_more (total_by (spins_energy y) (isings.entries_of g))))
              ∙ is.energy y w;
        };
        figures = still_figures (figures_moved n (neg_ℤ f.constant));
        reads = reads;
      }

-- .. in the unit that is chosen
pub chained_counts : (choice : UnitChoice) (f : IsingContent) (own variables : ℕ) (n : Figures)
    (kind : Kind) (chains : List (List ℕ)) (d : Decoding)
    → ((y : List Bool) → d.decoded y ≡ read_off kind variables chains y)
    → FitsOutput kind chains own f
    → Counts variables (isings.form_of f) n d (chained_model choice f own n kind chains)
chained_counts One f own variables n kind chains d reads fits =
    ising_counts f own variables n kind chains d reads fits
chained_counts Reduce f own variables n kind chains d reads fits =
    reduced_counts f own variables n kind chains d reads (reduced_fits kind own chains f fits)

-- The state of a written model that an assignment extends to: it decodes to the assignment, and is
-- least among those that do.

module _ (choices : Choices) (p : ProblemContent) (room : HasRoom (quad_of choices p)) where
  -- ---- the forms

  abbrev source : Form
  source = problems.form_of p

  abbrev ising : IsingContent
  ising = ising_of choices p

  abbrev spun_figures : Figures
  spun_figures = ising_figures (figures p)

  -- how their states are decoded: by the first bits
  abbrev first : Decoding
  first = first_bits (link_by choices.normal choices.high p)

  abbrev after_spins : Decoding
  after_spins = decoding_after first (same_bits (spins_link (quad_of choices p)))

  -- the Ising form has a node for each node of the quadratic form
  same_width : length ising.fields ≡ length (quad_of choices p).diagonal
  same_width = length-fields (coupled (quad_of choices p).couplers) 0 (quad_of choices p).diagonal

  enough : p.variables ≤ length (quad_of choices p).diagonal
  enough = steps_enough choices.normal choices.high p

  -- a state that is least for the quadratic form is so for the Ising form
  spun_least : (x y : List Bool) → IsLeastExtension choices p x y
      → ExtendsLeast source (isings.form_of ising) after_spins spun_figures x y
  spun_least x y least =
      let q = quad_of choices p in
      let fits = spins_fit q room.quad in
      least-trans (spins_keeps (spins_link q) q fits) least
      (spins_reaches (spins_link q) q y fits least.width)

  -- ---- on the nodes of a form

  -- the state extends the assignment, and no state that does has a lesser energy
  abbrev ExtendsBest : Written → List Bool → List Bool → Type 0
  ExtendsBest m x y = ExtendsTo p.variables source m x y × IsLeastTo p.variables m x y

  best : (g : Form) (d : Decoding) (n : Figures) (m : Written) (x y : List Bool)
      → Counts p.variables g n d m → ExtendsLeast source g d n x y → ExtendsBest m x y
  best g d n m x y counts least = (
    extends_written p.variables source g d n m counts x y (least_follows source g d n x y least),
    least_written p.variables source g d n m counts x y least,
  )

  -- on the nodes of a form the state is as it is
  kept_on : (target : NodeModel) (unit : UnitChoice) (own : ℕ) (y : List Bool)
      → state_on (model choices target unit own p) y ≡ y
  kept_on target unit own y = grind (arith, nat_tests)

  module _ (own : ℕ) (few : own ≤ p.variables) where
    on_nodes : (target : NodeModel) (unit : UnitChoice) (x y : List Bool)
        → IsLeastExtension choices p x y → ExtendsBest (model choices target unit own p) x
        (state_on (model choices target unit own p) y)
    on_nodes Qubo unit x y least =
        subst (ExtendsBest (model choices Qubo unit own p) x) (sym (kept_on Qubo unit own y))
        (best _ first (figures p) _ x y
        (qubo_counts unit (quad_of choices p) own p.variables (figures p) first (λ z. refl)) least)
    on_nodes Ising unit x y least =
        subst (ExtendsBest (model choices Ising unit own p) x) (sym (kept_on Ising unit own y))
        (best _ after_spins spun_figures _ x y
        (chained_counts unit ising own p.variables spun_figures kinds.Ising [] after_spins (λ z. refl)
        (refl, omega (arith, same_width, enough, few))) (spun_least x y least))

    -- ---- on chains

    module _ (ties : ChainStrength) (graph : Graph) (e : Embedding) (kept : IsEmbedding e)
        (same : e.ising ≡ ising) (sized : e.qubits ≡ qubits_of graph) (x y : List Bool)
        (least : IsLeastExtension choices p x y) where
      abbrev after_chains : Decoding
      after_chains = decoding_after after_spins (chains.decoding (link_of e))

      abbrev tied_figures : Figures
      tied_figures = chained_figures ties e spun_figures

      abbrev z : List Bool
      z = chains.extension e y

      wide : length y ≡ length e.ising.fields
      wide = least.width ∙ sym same_width ∙ sym (ap (λ (f : IsingContent). length f.fields) same)

      -- the embedded form has the state y
      embedded_least : ExtendsLeast source (isings.form_of e.ising) after_spins spun_figures x y
      embedded_least = grind (arith, nat_tests, spun_least x y least)

      chained_follows :
          Follows source (isings.form_of (image_tied ties e)) after_chains tied_figures x z
      chained_follows =
          follows_on source (isings.form_of e.ising) (isings.form_of (image_tied ties e)) after_spins
          (chains.decoding (link_of e)) spun_figures (offset_tied ties e) x y z
          (least_follows source (isings.form_of e.ising) after_spins spun_figures x y embedded_least)
          (tied_reach ties e y kept wide)

      on_graph : FitsOutput (kinds.Qubits graph) e.chains own (image_tied ties e)
      on_graph =
          tied_fits_output e kept ties graph own sized
          (omega (arith, kept.counted, wide, least.width, enough, few))

      reads : (w : List Bool)
          → after_chains.decoded w ≡ read_off (kinds.Qubits graph) p.variables e.chains w
      reads w = sym (read_off_the_chains (link_of e) graph p.variables w)

      counts : (unit : UnitChoice)
          → Counts p.variables (isings.form_of (image_tied ties e)) tied_figures after_chains
          (qubit_model unit ties e own spun_figures (kinds.Qubits graph))
      counts unit = grind (arith, nat_tests, chained_counts, reads, on_graph)

      model_width : (unit : UnitChoice)
          → (qubit_model unit ties e own spun_figures (kinds.Qubits graph)).nodes ≡ e.qubits
      model_width One = tied_width ties e
      model_width Reduce =
          length-map (image_tied ties e).fields (counted_in (ising_unit (image_tied ties e)))
          ∙ tied_width ties e

      -- the state on the qubits is the extension
      state_is : (unit : UnitChoice)
          → state_on (qubit_model unit ties e own spun_figures (kinds.Qubits graph)) y ≡ z
      state_is unit = grind (arith, nat_tests, model_width)

      on_chains : (unit : UnitChoice)
          → ExtendsTo p.variables source (qubit_model unit ties e own spun_figures (kinds.Qubits graph))
          x (state_on (qubit_model unit ties e own spun_figures (kinds.Qubits graph)) y)
      on_chains unit =
          let m = qubit_model unit ties e own spun_figures (kinds.Qubits graph) in
          subst (ExtendsTo p.variables source m x) (sym (state_is unit))
          (extends_written p.variables source (isings.form_of (image_tied ties e)) after_chains
          tied_figures m (counts unit) x z chained_follows)

      fits_qubits : (nodes : ℕ) → nodes ≡ e.qubits
          → (length y ≡ length e.chains) × All (λ chain. All (λ q. q < nodes) chain) e.chains
      fits_qubits nodes all = grind (arith, nat_tests, wide)

      fits_chains : (unit : UnitChoice)
          → FitsState (qubit_model unit ties e own spun_figures (kinds.Qubits graph)) y
      fits_chains unit = grind (arith, nat_tests, fits_qubits, tied_width, model_width)

    -- chains that no state should break keep every state
    module _ (graph : Graph) (e : Embedding) (kept : IsEmbedding e) (same : e.ising ≡ ising)
        (sized : e.qubits ≡ qubits_of graph) (x y : List Bool)
        (least : IsLeastExtension choices p x y) where
      least_on_chains : (unit : UnitChoice)
          → IsLeastTo p.variables (qubit_model unit Choi e own spun_figures (kinds.Qubits graph)) x
          (state_on (qubit_model unit Choi e own spun_figures (kinds.Qubits graph)) y)
      least_on_chains unit =
          let m = qubit_model unit Choi e own spun_figures (kinds.Qubits graph) in
          let link = link_of e in
          let links = link_fits e kept in
          let chained = least-trans (chains_keep link e links)
          (embedded_least Choi graph e kept same sized x y least)
          (chains_reach link e y links (wide Choi graph e kept same sized x y least)) in
          subst (IsLeastTo p.variables m x)
          (sym (state_is Choi graph e kept same sized x y least unit))
          (least_written p.variables source (isings.form_of (chains.image e))
          (after_chains Choi graph e kept same sized x y least)
          (tied_figures Choi graph e kept same sized x y least) m
          (counts Choi graph e kept same sized x y least unit) x (chains.extension e y) chained)

  -- ---- each model of the problem

  -- what a check gives of a valid map is an embedding
  embeds : (qubits : Qubits) (map : List (List ℕ)) (e : Embedding)
      → IsValidOn (fabric_in qubits) ising map
      → IsChecked (fabric_in qubits).joined (fabric_in qubits).qubits ising map e → IsEmbedding e
  embeds qubits map e valid checked =
      checked_embeds (fabric_in qubits).joined (fabric_in qubits).exists (fabric_in qubits).qubits ising map e (few_in qubits)
      (below_in qubits) (image_is_ising (quad_of choices p) room.quad room.total) valid checked

  pub made_extends : (m : Written) (x y : List Bool) → IsMade choices p m
      → IsLeastExtension choices p x y → ExtendsTo p.variables source m x (state_on m y)
  made_extends m x y (ties, own, (few, inl (target, unit, same))) least =
      grind (arith, nat_tests, on_nodes own few target unit x y least)
  made_extends m x y (ties, own, (few, inr (unit, qubits, all, valid, (e, checked, same)))) least =
      subst (λ w. ExtendsTo p.variables source w x (state_on w y)) (sym same)
      (on_chains own few ties (graph_in qubits) e (embeds qubits all e valid checked) checked.ising
      (checked.qubits ∙ sized_in qubits) x y least unit)

  pub made_least : (m : Written) (x y : List Bool) (own : ℕ) → IsMadeOf Choi own choices p m
      → IsLeastExtension choices p x y → IsLeastTo p.variables m x (state_on m y)
  made_least m x y own (few, inl (target, unit, same)) least =
      grind (arith, nat_tests, on_nodes own few target unit x y least)
  made_least m x y own (few, inr (unit, qubits, all, valid, (e, checked, same))) least =
      subst (λ w. IsLeastTo p.variables w x (state_on w y)) (sym same)
      (least_on_chains own few (graph_in qubits) e (embeds qubits all e valid checked) checked.ising
      (checked.qubits ∙ sized_in qubits) x y least unit)

  pub made_fits : (m : Written) (x y : List Bool) → IsMade choices p m
      → IsLeastExtension choices p x y → FitsState m y
  made_fits m x y (ties, own, (few, inl (target, unit, same))) least = grind (arith, nat_tests)
  made_fits m x y (ties, own, (few, inr (unit, qubits, all, valid, (e, checked, same)))) least =
      subst (λ w. FitsState w y) (sym same)
      (fits_chains own few ties (graph_in qubits) e (embeds qubits all e valid checked)
      checked.ising (checked.qubits ∙ sized_in qubits) x y least unit)
