-- The quadratic form of a table whose terms have at most two literals.
--
-- Each complement is replaced by 1 - x and everything is multiplied out: the sum for the empty set
-- is the constant, the sum for a single variable is that node's weight, and the sums for pairs that
-- are not 0 are the couplers, in order.
--
-- So 3 * x * not y becomes 3 * x - 3 * x * y: it adds 3 to the weight of x and -3 to the coupler of
-- x and y.
use Rattle.std.specs.Prelude.{◌≡◌, ℕ, ◌<◌, ⊤, ℤ, pos, ◌+ℤ◌, false, List, [], ◌∷◌, ◌++◌, fold, replicate, slice_set}
use Rattle.std.specs.List.{slice_index_or}
use Rattle.bits_model.specs.declared.output.Entry.{Entry}
use Rattle.form_steps.specs.declared.layer.BitsLink.{BitsLink}
use Rattle.form_steps.specs.Relations.{Decoding}
use Rattle.literal_lists.specs.declared.literal.Literal.{Literal}
use Rattle.term_table.specs.Terms.{Term, with_additions}
use Rattle.term_table.specs.Tables.{TableContent, IsTable, IsLow}
use Rattle.term_table.specs.MultipliedOut.{contributions}
use Rattle.quad_form.specs.Quads.{QuadContent}

-- ---- the sets that are left

-- a variable below the width
pub record IsPlain (width : ℕ) (l : Literal) : Type 0 where
  pub plain : l.negated ≡ false
  pub within : l.variable < width

-- At most two variables below the width, in order. Such a set has its place in a quadratic form:
-- the constant, a node, or a coupler.
abbrev pub IsFlat : ℕ → List Literal → Type 0
IsFlat width [] = ⊤
IsFlat width (l ∷ []) = IsPlain width l
IsFlat width (l ∷ k ∷ []) = IsPlain width l × IsPlain width k × (l.variable < k.variable)
IsFlat width (l ∷ k ∷ m ∷ ls) = ⊥

-- ---- terms over variables, as a quadratic form

-- the coupler of two literals' variables
abbrev pub pair_entry : Literal → Literal → ℤ → Entry
pair_entry l k c = record { first = l.variable; second = k.variable; weight = c }

-- A form with one more term in its place: the constant, a node's weight or a coupler. A set of more
-- than two is none that is left, and is placed by its first two.
abbrev pub with_term : QuadContent → Term → QuadContent
with_term q ([], c) = record q { constant = q.constant +ℤ c }
with_term q (l ∷ [], c) = record q {
  diagonal = slice_set q.diagonal l.variable (slice_index_or q.diagonal l.variable (pos 0) +ℤ c);
}
with_term q (l ∷ k ∷ ls, c) = record q { couplers = q.couplers ++ pair_entry l k c ∷ [] }

-- the form of so many nodes that is 0
abbrev pub zero_quad : ℕ → QuadContent
zero_quad width = record { constant = pos 0; diagonal = replicate width (pos 0); couplers = [] }

-- the form that terms over variables make, one after another
abbrev pub quad_of : ℕ → List Term → QuadContent
quad_of width ts = fold with_term (zero_quad width) ts

-- ---- the layer's members

-- The quadratic form of the sums. What complements give is summed with what stands there already,
-- and pairs that sum to 0 have no coupler.
abbrev pub image : TableContent → QuadContent
image t = quad_of t.width (with_additions [] (contributions t.terms))

-- States are assignments. No node is added, so nothing is dropped.
abbrev pub same_bits : BitsLink → Decoding
same_bits link = record {
  source_width = link.source_width;
  target_width = link.target_width;
  decoded = λ y. y;
}

-- states are as wide as assignments
abbrev pub IsSound : BitsLink → Type 0
IsSound link = link.source_width ≡ link.target_width

-- a link between a table of low terms and its image, which adds no nodes
pub record Fits (link : BitsLink) (t : TableContent) : Type 0 where
  -- as many bits as the table has nodes
  pub source : link.source_width ≡ t.width
  -- and as many in the form
  pub target : link.target_width ≡ t.width
  pub table : IsTable t
  -- no term has more than two literals
  pub low : IsLow t
