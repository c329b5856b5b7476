-- What a term of at most two literals gives a quadratic form, without any term in between.
--
-- A complement turns the sign of its coupler, and moves as much to the other node, or to the
-- constant. So 3 * x * not y gives 3 to the weight of x, and -3 to the coupler of x and y.
use Rattle.std.specs.Prelude.{ℕ, ◌==◌, ℤ, neg_ℤ, ◌&&◌, List, [], ◌∷◌, ◌++◌, if◌then◌else◌}
use Rattle.base.specs.Sums.{total_by, if_so}
use Rattle.bits_model.specs.declared.output.Entry.{Entry}
use Rattle.literal_lists.specs.declared.literal.Literal.{Literal}
use Rattle.term_table.specs.Terms.{Term}

-- a number, whose sign a complement turns
abbrev pub signed : Literal → ℤ → ℤ
signed l c = if l.negated then neg_ℤ c else c

-- ---- the constant

-- all of the coefficient, where all literals are complements
abbrev pub short_constant : Term → ℤ
short_constant ([], c) = c
short_constant (l ∷ [], c) = if_so l.negated c
short_constant (l ∷ k ∷ ls, c) = if_so (l.negated && k.negated) c

-- ---- weights of nodes

-- a node, and what is added to its weight
abbrev pub Share : Type 0
Share = ℕ × ℤ

-- what is added to the weight of a node
abbrev pub share_at : ℕ → List Share → ℤ
share_at i shares = total_by (λ s. if_so (i == s.0) s.1) shares

-- what a pair moves to the weight of one literal, where the other is a complement
abbrev pub moved_share : Literal → Literal → ℤ → List Share
moved_share l other c = if other.negated then (l.variable, signed l c) ∷ [] else []

-- what a term adds to the weights of its nodes
abbrev pub short_shares : Term → List Share
short_shares ([], c) = []
short_shares (l ∷ [], c) = (l.variable, signed l c) ∷ []
short_shares (l ∷ k ∷ ls, c) = moved_share l k c ++ moved_share k l c

-- ---- couplers

-- the coupler of two literals
abbrev pub pair_coupler : Literal → ℤ → Literal → Entry
pair_coupler l c k = record {
  first = l.variable;
  second = k.variable;
  weight = signed l (signed k c);
}

-- the coupler of a term of two literals
abbrev pub short_couplers : Term → List Entry
short_couplers ([], c) = []
short_couplers (l ∷ [], c) = []
short_couplers (l ∷ k ∷ ls, c) = pair_coupler l c k ∷ []
