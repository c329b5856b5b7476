-- The Ising form of a quadratic form: a bit is half of its spin and 1, so that four times the quadratic
-- form has whole weights over spins.
--
-- The weight -2 of x and the coupler 3 of x and y become the fields -1 of x and 3 of y, the
-- coupling 3 and the constant -1. With both spins +1 that is 4, four times -2 + 3; with x alone it
-- is -8, four times -2.
use Rattle.std.specs.Prelude.{◌≡◌, ℕ, suc, ◌==◌, ℤ, pos, ◌+ℤ◌, ◌*ℤ◌, List, [], ◌∷◌, length, slice_set}
use Rattle.std.specs.List.{slice_index_or}
use Rattle.base.specs.Sums.{total_by, if_so}
use Rattle.bits_model.specs.declared.output.Entry.{Entry}
use Rattle.form_steps.specs.declared.layer.BitsLink.{BitsLink}
use Rattle.quad_form.specs.Quads.{QuadContent, IsQuad}
use Rattle.ising_form.specs.Isings.{IsingContent}

-- The weight of an entry, for each of its ends that is the node i. A coupler counts at each of its
-- two ends.
abbrev pub end_weight : ℕ → Entry → ℤ
end_weight i e = if_so (e.first == i) e.weight +ℤ if_so (e.second == i) e.weight

-- the weights of the couplers of the node i
abbrev pub coupled : List Entry → ℕ → ℤ
coupled couplers i = total_by (end_weight i) couplers

-- twice each of these weights, and what is added for its node, where nodes are numbered from n on
abbrev pub fields_from : (ℕ → ℤ) → ℕ → List ℤ → List ℤ
fields_from added n [] = []
fields_from added n (w ∷ ws) = (pos 2 *ℤ w +ℤ added n) ∷ fields_from added (suc n) ws

-- the field of each node: twice its weight, and the weights of its couplers
abbrev pub spins_fields : List ℤ → List Entry → List ℤ
spins_fields nodes couplers = fields_from (coupled couplers) 0 nodes

-- four times a constant, twice the weights of nodes, and those of couplers
abbrev pub spins_constant : ℤ → List ℤ → List Entry → ℤ
spins_constant constant nodes couplers =
    pos 4 *ℤ constant
    +ℤ (pos 2 *ℤ total_by (λ (w : ℤ). w) nodes +ℤ total_by (λ (e : Entry). e.weight) couplers)

-- The Ising form, whose couplings are the couplers. Its energy is four times that of the quadratic
-- form, for the same bits.
abbrev pub image : QuadContent → IsingContent
image q = record {
  constant = spins_constant q.constant q.diagonal q.couplers;
  fields = spins_fields q.diagonal q.couplers;
  couplings = q.couplers;
}

-- a link between a quadratic form and its image, which adds no nodes
pub record Fits (link : BitsLink) (q : QuadContent) : Type 0 where
  pub source : link.source_width ≡ length q.diagonal
  pub target : link.target_width ≡ length q.diagonal
  pub quad : IsQuad q

-- ---- how it is summed

-- fields of which one is raised by c
abbrev pub raised : List ℤ → ℕ → ℤ → List ℤ
raised fields i c = slice_set fields i (slice_index_or fields i (pos 0) +ℤ c)
