-- The Ising form of a quadratic form costs four times as much. Nothing here has to be believed.
--
-- A node of weight w adds 4w where its spin is +1 and 0 where it is -1: its field adds 2w times the
-- spin, and the constant 2w. A coupler of weight w adds 4w where both spins are +1 and 0 elsewhere: w
-- times the one spin, the other, both, and 1.
use Rattle.quad_form.proofs.Common.{AllByRecursion, inl, inr, arith, ap, sym, ◌∙◌, refl, ints, recursion_from_All, total_by, if_so, total_by-append, BitsLink, Entry, QuadContent, IsQuad, IsCoupler, node_entries, quad_value}
use Rattle.std.specs.Prelude.{◌≡◌, ℕ, suc, ◌+◌, ◌<◌, ◌≤◌, ◌==◌, ℤ, pos, ◌+ℤ◌, ◌*ℤ◌, Bool, ◌&&◌, List, [], ◌∷◌, length}
use Rattle.std.proofs.lemmas.Bool.{eq-eqb, ne_eqb, cases_eq}
use Rattle.base.specs.Costs.{IsNeverInfinite}
use Rattle.bits_model.specs.Output.{bit_at, times_spin, bits_energy, spins_energy}
use Rattle.form_steps.specs.Relations.{Keeps, Extends, Joins}
use Rattle.quad_form.specs.Quads as quads
use Rattle.quad_form.specs.Flat.{same_bits, IsSound}
use Rattle.ising_form.specs.Isings.{ising_value, form_of}
use Rattle.ising_form.specs.Spins.{end_weight, coupled, fields_from, spins_fields, image, Fits}

-- ---- entries over spins

-- what the field of a node adds
pub energy_of_node : (y : List Bool) (n : ℕ) (w : ℤ)
    → spins_energy y (record { first = n; second = n; weight = w }) ≡ times_spin (bit_at y n) w
energy_of_node y n w = rw (eq-eqb n n refl) refl

-- what a coupling adds
pub energy_of_coupling : (y : List Bool) (e : Entry) → e.first < e.second
    → spins_energy y e ≡ times_spin (bit_at y e.first) (times_spin (bit_at y e.second) e.weight)
energy_of_coupling y e up = rw (ne_eqb e.first e.second (λ same. omega (arith, same, up))) refl

-- ---- fields

-- the fields of nodes that are numbered from n on, times their spins
abbrev fields_energy : List Bool → ℕ → List ℤ → ℤ
fields_energy y n fields = total_by (spins_energy y) (node_entries n fields)

-- the first field times its spin, and the others
fields_energy-cons : (y : List Bool) (n : ℕ) (h : ℤ) (hs : List ℤ)
    → fields_energy y n (h ∷ hs) ≡ times_spin (bit_at y n) h +ℤ fields_energy y (suc n) hs
fields_energy-cons y n h hs = ap (λ z. z +ℤ fields_energy y (suc n) hs) (energy_of_node y n h)

-- a sum of two weights gives the sum of what each gives
times_spin-plus : (b : Bool) (v w : ℤ) → times_spin b (v +ℤ w) ≡ times_spin b v +ℤ times_spin b w
times_spin-plus b v w = grind (arith, ints)

-- a spin times 0 is 0
times_spin-zero : (b : Bool) → times_spin b (pos 0) ≡ pos 0
times_spin-zero b = grind (arith, ints)

-- what is added for nodes that are numbered from n on, times their spins
abbrev added_energy : List Bool → (ℕ → ℤ) → ℕ → List ℤ → ℤ
added_energy y added n [] = pos 0
added_energy y added n (w ∷ ws) =
    times_spin (bit_at y n) (added n) +ℤ added_energy y added (suc n) ws

-- twice the weights alone, which with as much in the constant are four times the energy of bits
fields_alone : (y : List Bool) (added : ℕ → ℤ) (n : ℕ) (ws : List ℤ)
    → fields_energy y n (fields_from added n ws) +ℤ pos 2 *ℤ total_by (λ (w : ℤ). w) ws
    ≡ pos 4 *ℤ total_by (bits_energy y) (node_entries n ws) +ℤ added_energy y added n ws
fields_alone y added n [] = omega (arith, ints)
fields_alone y added n (w ∷ ws) =
    let fields_are =
    fields_energy-cons y n (pos 2 *ℤ w +ℤ added n) (fields_from added (suc n) ws) in
    let split = times_spin-plus (bit_at y n) (pos 2 *ℤ w) (added n) in
    let rest = fields_alone y added (suc n) ws in
    omega (arith, ints, fields_are, split, rest, of_node (bit_at y n) w)
  where
    of_node : (b : Bool) (w : ℤ) → times_spin b (pos 2 *ℤ w) +ℤ pos 2 *ℤ w ≡ pos 4 *ℤ if_so (b && b) w
    of_node b w = grind (arith, ints)

-- what two functions add is the sum of what each adds
added_energy-plus : (y : List Bool) (f g : ℕ → ℤ) (n : ℕ) (ws : List ℤ)
    → added_energy y (λ i. f i +ℤ g i) n ws ≡ added_energy y f n ws +ℤ added_energy y g n ws
added_energy-plus y f g n [] = refl
added_energy-plus y f g n (w ∷ ws) =
    let split = times_spin-plus (bit_at y n) (f n) (g n) in
    omega (arith, ints, split, added_energy-plus y f g (suc n) ws)

-- and nothing adds nothing
added_energy-zero : (y : List Bool) (n : ℕ) (ws : List ℤ) → added_energy y (λ i. pos 0) n ws ≡ pos 0
added_energy-zero y n [] = refl
added_energy-zero y n (w ∷ ws) = omega (arith, ints, times_spin-zero (bit_at y n), added_energy-zero y (suc n) ws)

-- what is added for one node only, which stands before
one_before : (y : List Bool) (j n : ℕ) (c : ℤ) (ws : List ℤ) → j < n
    → added_energy y (λ i. if_so (j == i) c) n ws ≡ pos 0
one_before y j n c [] low = refl
one_before y j n c (w ∷ ws) low =
    let same =
    ap (λ t. times_spin (bit_at y n) (if_so t c)) (ne_eqb j n (λ e. omega (arith, e, low))) in
    let rest = one_before y j (suc n) c ws (omega arith) in
    omega (arith, ints, same, times_spin-zero (bit_at y n), rest)

-- what is added for one node only
one_added : (y : List Bool) (j n : ℕ) (c : ℤ) (ws : List ℤ) → n ≤ j → j < n + length ws
    → added_energy y (λ i. if_so (j == i) c) n ws ≡ times_spin (bit_at y j) c
one_added y j n c [] low high = absurd (omega arith)
one_added y j n c (w ∷ ws) low high =
    elim (cases_eq j n) [
      | inl same ↦
          let same2 = ap (λ t. times_spin (bit_at y n) (if_so t c)) (eq-eqb j n same) in
          let before = one_before y j (suc n) c ws (omega (arith, same)) in
          omega (arith, ints, same2, ap (λ k. times_spin (bit_at y k) c) same, before)
      | inr other ↦
          let above : suc n ≤ j = grind (arith, other) in
          let same3 = ap (λ t. times_spin (bit_at y n) (if_so t c)) (ne_eqb j n other) in
          let added_one = one_added y j (suc n) c ws above (omega arith) in
          omega (arith, ints, same3, times_spin-zero (bit_at y n), added_one)
    ]

-- ---- couplers

-- both ends of a coupler
both_ends : (y : List Bool) (e : Entry) (ws : List ℤ) → IsCoupler (length ws) e
    → added_energy y (λ i. end_weight i e) 0 ws
    ≡ times_spin (bit_at y e.first) e.weight +ℤ times_spin (bit_at y e.second) e.weight
both_ends y e ws is =
    let up = is.upward in
    let within = is.within in
    added_energy-plus y (λ i. if_so (e.first == i) e.weight) (λ i. if_so (e.second == i) e.weight) 0 ws
    ∙ (λ k. one_added y e.first 0 e.weight ws (omega arith) (omega arith) k
    +ℤ one_added y e.second 0 e.weight ws (omega arith) (omega arith) k)

-- with as much in the constant, a coupler is four times its energy of bits
four_times : (a b : Bool) (w : ℤ)
    → (times_spin a w +ℤ times_spin b w) +ℤ (times_spin a (times_spin b w) +ℤ w)
    ≡ pos 4 *ℤ if_so (a && b) w
four_times a b w = grind (arith, ints)

-- so all couplers come to four times their energy of bits
couplers_energy : (y : List Bool) (ws : List ℤ) (cs : List Entry)
    → AllByRecursion (IsCoupler (length ws)) cs → added_energy y (coupled cs) 0 ws
    +ℤ (total_by (spins_energy y) cs +ℤ total_by (λ (e : Entry). e.weight) cs)
    ≡ pos 4 *ℤ total_by (bits_energy y) cs
couplers_energy y ws [] all = omega (arith, ints, added_energy-zero y 0 ws)
couplers_energy y ws (e ∷ cs) all =
    omega (
      arith,
      ints,
      added_energy-plus y (λ i. end_weight i e) (coupled cs) 0 ws,
      both_ends y e ws all.0,
      energy_of_coupling y e all.0.upward,
      four_times (bit_at y e.first) (bit_at y e.second) e.weight,
      couplers_energy y ws cs all.1,
    )

-- ---- the layer's laws

-- the image costs four times as much
pub image_value : (q : QuadContent) → IsQuad q → (y : List Bool)
    → ising_value (image q) y ≡ pos 4 *ℤ quad_value q y
image_value q quad y =
    let joined =
    total_by-append (spins_energy y) (node_entries 0 (spins_fields q.diagonal q.couplers)) q.couplers in
    let joined2 = total_by-append (bits_energy y) (node_entries 0 q.diagonal) q.couplers in
    let alone = fields_alone y (coupled q.couplers) 0 q.diagonal in
    let coupled2 =
    couplers_energy y q.diagonal q.couplers (recursion_from_All _ q.couplers quad.couplers) in
    omega (arith, ints, joined, joined2, alone, coupled2)

-- there is a field for each node
pub length-fields : (added : ℕ → ℤ) (n : ℕ) (ws : List ℤ)
    → length (fields_from added n ws) ≡ length ws
length-fields added n [] = refl
length-fields added n (w ∷ ws) = ap suc (length-fields added (suc n) ws)

-- a link that fits can be decoded by
pub spins_sound : (link : BitsLink) (q : QuadContent) → Fits link q → IsSound link
spins_sound link q fits = fits.source ∙ sym fits.target

-- it has the widths of the form and of its image
pub spins_joins : (link : BitsLink) (q : QuadContent) → Fits link q
    → Joins (quads.form_of q) (form_of (image q)) (same_bits link)
spins_joins link q fits = record {
  source = fits.source;
  target = fits.target ∙ sym (length-fields (coupled q.couplers) 0 q.diagonal);
}

-- each assignment reaches itself
pub spins_reaches : (link : BitsLink) (q : QuadContent) (x : List Bool) → Fits link q
    → length x ≡ length q.diagonal
    → Extends (quads.form_of q) (form_of (image q)) (same_bits link) (pos 4) (pos 0) x x
spins_reaches link q x fits width = record {
  width = width ∙ sym (length-fields (coupled q.couplers) 0 q.diagonal);
  decodes = refl;
  energy = omega (arith, ints, image_value q fits.quad x);
}

-- the image keeps the costs of the form
pub spins_keeps : (link : BitsLink) (q : QuadContent) → Fits link q
    → Keeps (quads.form_of q) (form_of (image q)) (same_bits link) (pos 4) (pos 0)
spins_keeps link q fits = record {
  positive = omega (arith, ints);
  width = λ y w. w ∙ length-fields (coupled q.couplers) 0 q.diagonal;
  bound = λ y w. omega (arith, ints, image_value q fits.quad y);
  reached = λ x w. (x, spins_reaches link q x fits w);
}

-- the costs of a quadratic form are whole
pub spins_whole_source : (q : QuadContent) → IsNeverInfinite (quads.form_of q)
spins_whole_source q y infinite = cc

-- the costs of an image are whole
pub spins_whole : (q : QuadContent) → IsNeverInfinite (form_of (image q))
spins_whole q y infinite = cc
