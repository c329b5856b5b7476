-- The least states of the image are those of the embedded form. Nothing here has to be believed.
--
-- A least state has no broken tie, so its energy is that of what it decodes to, and the offset. An
-- assignment's extension has none either. So if an assignment lay below what a least state decodes
-- to, its extension would lie below the least state.
use Rattle.std.specs.Prelude.{◌≡◌, ◌+ℤ◌, ◌≤ℤ◌}
use Rattle.chain_layer.proofs.Common.{pos, Bool, List, length, map, arith, ap, sym, ◌∙◌, ints, length-map, length-map-range_with_len, IsLeastState, KeepsLeast, bit_at, majority, ising_value, Embedding, form_of, all_shares, field_at, extension, form_value, image_value, majority_reads, extension_value, images_reach, chains_equal}
use Rattle.form_steps.specs.Relations.{Extends, Joins}
use Rattle.ising_form.specs.Isings as isings
use Rattle.cut_chains.specs.declared.link.CutLink.{CutLink}
use Rattle.cut_chains.specs.Sides.{cut_strength}
use Rattle.cut_chains.specs.CutImage.{cut_image, cut_offset}
use Rattle.cut_chains.specs.CutLinks.{as_chains, decoding, Fits}
use Rattle.cut_chains.specs.laws.Unbroken.{least_is_whole}

-- the extension decodes to its assignment and reaches it: its energy is that of the assignment, and
-- the offset, with scale 1
pub cut_reaches : (link : CutLink) (e : Embedding) (x : List Bool) → Fits link e
    → length x ≡ length e.ising.fields
    → Extends (form_of e) (isings.form_of (cut_image e)) (decoding link) (pos 1) (cut_offset e) x
    (extension e x)
cut_reaches link e x fits width = images_reach (cut_strength e) (as_chains link) e x fits width

module _ (link : CutLink) (e : Embedding) (fits : Fits link e) where
  -- a state decodes to a bit for each field of the form
  cut_width : (z : List Bool) → length ((decoding link).decoded z) ≡ length e.ising.fields
  cut_width z = length-map link.chains (majority z) ∙ ap length fits.chains ∙ fits.kept.counted

  -- A least state has the energy of what it decodes to, and the offset. The majority of a chain is
  -- then the bit that all of its qubits have.
  least_value : (z : List Bool) → IsLeastState (isings.form_of (cut_image e)) z
      → ising_value (cut_image e) z
      ≡ ising_value e.ising ((decoding link).decoded z) +ℤ cut_offset e
  least_value z least =
      let x = map (majority z) e.chains in
      let whole = least_is_whole e fits.kept z least in
      let of_image = image_value (cut_strength e) e fits.kept z in
      let chained =
      chains_equal (cut_strength e) e fits.kept (bit_at z) (bit_at x) whole
      (λ i within. majority_reads e fits.kept z i within (whole i within)) in
      let same = ap (λ cs. ising_value e.ising (map (majority z) cs)) fits.chains in
      omega (arith, ints, of_image, form_value e fits.kept x, chained, same)

  -- no state of the form lies below what a least state decodes to
  none_below : (z : List Bool) → IsLeastState (isings.form_of (cut_image e)) z → (y : List Bool)
      → length y ≡ length e.ising.fields
      → ising_value e.ising ((decoding link).decoded z) ≤ℤ ising_value e.ising y
  none_below z least y width =
      let reached = cut_reaches link e y fits width in
      let no_less : ising_value (cut_image e) z ≤ℤ ising_value (cut_image e) (extension e y) =
      least.least (extension e y) reached.width in
      omega (arith, ints, least_value z least, no_less, extension_value (cut_strength e) e fits.kept y)

  -- the image keeps the least states of the form: what a least state of the image decodes to is
  -- least, and each least assignment is decoded from some least state. Nothing is said of other
  -- states
  pub cut_keeps : KeepsLeast (form_of e) (isings.form_of (cut_image e)) (decoding link) (pos 1)
      (cut_offset e)
  cut_keeps = record {
    positive = omega (arith, ints);
    decodes = λ z least. record {
      width = cut_width z;
      least = λ y w. none_below z least y w;
    };
    least = λ y z least_y least_z.
        let no_less : ising_value e.ising y ≤ℤ ising_value e.ising ((decoding link).decoded z) =
        least_y.least ((decoding link).decoded z) (cut_width z) in
        omega (
          arith,
          ints,
          no_less,
          none_below z least_z y least_y.width,
          least_value z least_z,
        );
    reached = λ y w. (extension e y, cut_reaches link e y fits w);
  }

  -- the widths are the number of fields of the form and the number of qubits
  pub cut_joins : Joins (form_of e) (isings.form_of (cut_image e)) (decoding link)
  cut_joins = record {
    source = ap length fits.chains ∙ fits.kept.counted;
    target = fits.qubits ∙ sym (length-map-range_with_len (field_at (all_shares e)) 0 e.qubits);
  }
