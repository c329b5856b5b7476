-- Additions of terms, and the quadratic form that they give at once.
--
-- In place of all new terms, those of at most two literals need not be summed before they are
-- multiplied out, since the form has the sums of all. Longer ones are summed first: what stands for
-- a term goes by the sign of its sum, and its new nodes are numbered in the order of the table.
use Rattle.std.specs.Prelude.{◌≡◌, ℕ, ◌+◌, ◌<◌, ℤ, pos, List, [], ◌∷◌, ◌++◌, length, All}
use Rattle.std.specs.List.{slice_index_or, sum_by}
use Rattle.std.specs.List.Sorted.{IsStrictlySortedBy}
use Rattle.bits_model.specs.Output.{entry_cmp}
use Rattle.literal_lists.specs.declared.literal.Literal.{Literal}
use Rattle.term_table.specs.Terms.{Term, coefficient_of}
use Rattle.term_table.specs.Tables.{TableContent}
use Rattle.term_table.specs.MultipliedOut.{contributions}
use Rattle.monomial_layer.specs.Monomials.{node, new_nodes, all_new_terms}
use Rattle.monomial_layer.specs.Monomials as monomials
use Rattle.quadratization.specs.Apart.{table_of, short_terms, long_terms}
use Rattle.quad_form.specs.Quads.{QuadContent, IsCoupler}
use Rattle.quad_form.specs.Flat as flat
use Rattle.pair_sums.specs.Pairs.{weight_at}

-- ---- three steps in a row

-- additions summed to a table, its longer terms replaced, and the result multiplied out
abbrev pub image : TableContent → QuadContent
image t = flat.image (monomials.image (table_of t))

-- ---- short and long terms

-- the additions of at most two literals alone
abbrev pub short_part : TableContent → TableContent
short_part t = record t { terms = short_terms t.terms }

-- the variables, and the new nodes of the long terms
abbrev pub all_nodes : TableContent → ℕ
all_nodes t = t.width + sum_by new_nodes (long_terms t.terms)

-- the short terms as they came, and what stands for the long ones
abbrev pub parts : TableContent → List Term
parts t = short_terms t.terms ++ all_new_terms (long_terms t.terms) t.width

-- ---- the form that terms give

-- what terms give a set of variables, multiplied out
abbrev pub sum_for : List Literal → List Term → ℤ
sum_for ls ts = coefficient_of ls (contributions ts)

-- a form of so many nodes in which the constant, each weight and each coupler is the sum of what
-- the terms give
pub record GivesSums (nodes : ℕ) (ts : List Term) (q : QuadContent) : Type 0 where
  pub constant : q.constant ≡ sum_for [] ts
  pub width : length q.diagonal ≡ nodes
  pub weights : (i : ℕ) → i < nodes
      → slice_index_or q.diagonal i (pos 0) ≡ sum_for (node i ∷ []) ts
  pub ordered : IsStrictlySortedBy entry_cmp q.couplers
  pub couplers : All (IsCoupler nodes) q.couplers
  pub pairs : (i j : ℕ) → i < j → j < nodes
      → weight_at i j q.couplers ≡ sum_for (node i ∷ node j ∷ []) ts
