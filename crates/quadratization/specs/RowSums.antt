-- The couplers of one variable's places: those with later literals, which are summed, and those with
-- new nodes.
use Rattle.std.specs.Prelude.{ℕ, ◌≤◌, ◌<◌, ◌^◌, ◌+◌, pos, unsigned_abs, int_lt, List, [], ◌∷◌, map, if◌then◌else◌}
use Rattle.bits_model.specs.declared.output.Entry.{Entry}
use Rattle.monomial_layer.specs.Monomials.{nodes_for}
use Rattle.quad_form.specs.Short.{pair_coupler}
use Rattle.quadratization.specs.declared.heads.Head.{Head}
use Rattle.quadratization.specs.TermPlaces.{Place}
use Rattle.quadratization.specs.Places.{node_coupler, node_couplers}

-- those with the literals after it
abbrev pub pair_part : Place → List Entry
pair_part p =
    if int_lt p.coefficient (pos 0)
    then []
    else map (pair_coupler p.literal p.coefficient) p.later

-- what is kept of a place until its couplers with new nodes are appended
abbrev pub head_of : Place → Head
head_of p = record {
  literal = p.literal;
  degree = p.degree;
  coefficient = p.coefficient;
  first_node = p.first_node;
}

-- those with new nodes
abbrev pub head_part : Head → List Entry
head_part h =
    if int_lt h.coefficient (pos 0)
    then node_coupler h.literal h.coefficient h.first_node ∷ []
    else node_couplers h.literal h.degree h.coefficient h.first_node (nodes_for h.degree)

-- the couplers of a place with new nodes
abbrev pub node_part : Place → List Entry
node_part p = head_part (head_of p)

-- the numbers of a head fit their fields
pub record IsHead (h : Head) : Type 0 where
  pub variable : h.literal.variable < 2 ^ 32
  pub nodes : h.first_node + (if int_lt h.coefficient (pos 0) then 1 else nodes_for h.degree) ≤ 2 ^ 32
  pub small : unsigned_abs h.coefficient ≤ 2 ^ 124
