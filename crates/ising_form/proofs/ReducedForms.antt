-- Ising forms whose weights are counted in their greatest unit: what a quadratic form of the same
-- weights keeps, and the energies of spins.
use Rattle.ising_form.proofs.Common.{nat_tests, arith, ◌≡◌, ◌*◌, ◌≤◌, Bool, ℤ, pos, neg_ℤ, ◌≤ℤ◌, unsigned_abs, List, map, ap, Entry, Reduces, spins_energy, QuadContent, IsQuad, unit_of, weights_of, counted_in, entry_in, IsLinear, one_le_quad_unit, reduced_is_quad, IsingContent, IsIsing, ising_total, form_of, ising_unit, reduced}
use Rattle.quad_form.proofs.ReducedForms as quads

-- the quadratic form of the same weights
abbrev pub weights : IsingContent → QuadContent
weights f = record { constant = f.constant; diagonal = f.fields; couplers = f.couplings }

-- .. and back
abbrev over_spins : QuadContent → IsingContent
over_spins q = record { constant = q.constant; fields = q.diagonal; couplings = q.couplers }

pub one_le_ising_unit : (f : IsingContent) → pos 1 ≤ℤ ising_unit f
one_le_ising_unit f = one_le_quad_unit (weights f)

-- ---- what it keeps

pub reduced_is_ising : (f : IsingContent) → IsIsing f → IsIsing (reduced f)
reduced_is_ising f ising =
    let quad : IsQuad (weights f) =
    record { ordered = ising.ordered; couplers = ising.couplings; narrow = ising.narrow; small = ising.small } in
    let kept = reduced_is_quad (weights f) quad in
    record { ordered = kept.ordered; couplings = kept.couplers; narrow = kept.narrow; small = kept.small }

-- ---- its energies

spins_linear : (y : List Bool) → IsLinear (spins_energy y)
spins_linear y u e = grind (arith, nat_tests)

-- ---- of what was made

pub made_of_weights : (constant : ℤ) (ws : List ℤ) (cs : List Entry) (fields : List ℤ)
    (couplings : List Entry) → fields ≡ map (counted_in (unit_of (weights_of ws cs))) ws
    → couplings ≡ map (entry_in (unit_of (weights_of ws cs))) cs
    → record { constant = pos 0; fields = fields; couplings = couplings }
    ≡ reduced (record { constant = constant; fields = ws; couplings = cs })
made_of_weights constant ws cs fields couplings of_fields of_couplings =
    ap over_spins (quads.made_of_weights constant ws cs fields couplings of_fields of_couplings)

pub made_reduces : (f g : IsingContent) (unit offset : ℤ) → g ≡ reduced f → unit ≡ ising_unit f
    → offset ≡ neg_ℤ f.constant → Reduces (form_of f) (form_of g) unit offset
made_reduces f g unit offset is same moved =
    quads.made_reduces _ spins_linear (weights f) (weights g) unit offset (ap weights is) same moved

pub made_total : (f g : IsingContent) (unit : ℤ) → g ≡ reduced f → unit ≡ ising_unit f
    → unsigned_abs unit * ising_total g ≤ ising_total f
made_total f g unit is same = quads.made_total (weights f) (weights g) unit (ap weights is) same
