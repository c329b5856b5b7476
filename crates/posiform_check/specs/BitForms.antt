-- Bit forms: a function of bits as a sum over sets of bits, where a set counts its coefficient if
-- all its bits are 1. Two forms are told apart by the coefficients of their sets.
use Rattle.std.specs.Prelude.{◌≡◌, ℕ, ℤ, pos, ◌*ℤ◌, neg_ℤ, false, List, [], ◌∷◌, if◌then◌else◌}
use Rattle.std.specs.List.{flat_map}
use Rattle.bits_model.specs.declared.output.Entry.{Entry}
use Rattle.bits_model.specs.declared.output.Kind.{Kind}
use Rattle.bits_model.specs.declared.output.Kind.TheVariants.{Qubo}
use Rattle.bits_model.specs.Output.{Written, is_node}
use Rattle.literal_lists.specs.declared.literal.Literal.{Literal}
use Rattle.base.specs.Sums.{total_by}
use Rattle.term_table.specs.Terms.{Term, coefficient_of, in_front, with_additions}
use Rattle.term_table.specs.MultipliedOut.{plain_terms}
use Rattle.posiform_check.specs.declared.lines.Line.{Line}

-- what a certificate says: a bound, and lines with literals
pub record CertificateContent : Type 0 where
  pub bound : ℤ
  pub lines : List Line

-- ---- sets of nodes

-- the bit of a node, as a literal
abbrev pub bit : ℕ → Literal
bit n = record { variable = n; negated = false }

-- the set of one node
abbrev pub node_set : ℕ → List Literal
node_set n = bit n ∷ []

-- the set of two nodes
abbrev pub pair_set : ℕ → ℕ → List Literal
pair_set n m = bit n ∷ bit m ∷ []

-- ---- the bit form of a model

-- weight times both bits, which are one for a node
abbrev pub bit_sets : Entry → List Term
bit_sets e = (if is_node e then node_set e.first else pair_set e.first e.second, e.weight) ∷ []

-- a spin is twice its bit, less 1: so a field h is -h and 2h on the node, and a coupling J is J,
-- -2J on each of its nodes and 4J on the pair
abbrev pub spin_constant : Entry → ℤ
spin_constant e = if is_node e then neg_ℤ e.weight else e.weight

-- the terms of a coupling, but for its constant
abbrev pub coupling_sets : ℕ → ℕ → ℤ → List Term
coupling_sets n m w =
    (node_set n, neg_ℤ (pos 2 *ℤ w))
    ∷ (node_set m, neg_ℤ (pos 2 *ℤ w))
    ∷ (pair_set n m, pos 4 *ℤ w)
    ∷ []

-- the terms of an entry of spins, but for its constant
abbrev pub spin_sets : Entry → List Term
spin_sets e =
    if is_node e
    then (node_set e.first, pos 2 *ℤ e.weight) ∷ []
    else coupling_sets e.first e.second e.weight

-- the constant of an entry of this kind
abbrev pub entry_constant : Kind → Entry → ℤ
entry_constant Qubo e = pos 0
entry_constant kind e = spin_constant e

-- its other terms
abbrev pub entry_sets : Kind → Entry → List Term
entry_sets Qubo e = bit_sets e
entry_sets kind e = spin_sets e

-- those of all entries, one after another
abbrev pub sets_of : Kind → List Entry → List Term
sets_of kind entries = flat_map (entry_sets kind) entries

-- all terms of an entry
abbrev pub entry_terms : Kind → Entry → List Term
entry_terms kind e = ([], entry_constant kind e) ∷ entry_sets kind e

-- the energy of a model as a sum over sets
abbrev pub model_terms : Written → List Term
model_terms m = flat_map (entry_terms m.kind) m.entries

-- the same, summed set by set and in table order
abbrev pub model_list : Written → List Term
model_list m =
    in_front [] (total_by (entry_constant m.kind) m.entries)
    (with_additions [] (sets_of m.kind m.entries))

-- ---- the bit form of a certificate

-- a line, with 1 - x in place of each complement, multiplied out
abbrev pub line_terms : Line → List Term
line_terms l = plain_terms l.literals l.coefficient

-- the bound and the lines as a sum over sets
abbrev pub certificate_terms : CertificateContent → List Term
certificate_terms c = ([], c.bound) ∷ flat_map line_terms c.lines

-- the same, summed set by set and in table order
abbrev pub certificate_list : CertificateContent → List Term
certificate_list c = with_additions [] (certificate_terms c)

-- ---- their comparison

-- each set has the same coefficient in both
abbrev pub AreSameForms : List Term → List Term → Type 0
AreSameForms ts us = (set : List Literal) → coefficient_of set ts ≡ coefficient_of set us
