-- Sums of what terms of at most two literals give, as they stand before a quadratic form is made of
-- them: couplers of one pair are not summed yet.
use Rattle.std.specs.Prelude.{◌≡◌, ℕ, ◌+◌, ◌-◌, ◌*◌, ◌≤◌, ◌<◌, ◌^◌, ℤ, pos, ◌+ℤ◌, unsigned_abs, List, ◌++◌, length, replicate, slice_set, All}
use Rattle.std.specs.List.{flat_map, slice_index_or, sum_by}
use Rattle.base.specs.Sums.{total_by}
use Rattle.bits_model.specs.declared.output.Entry.{Entry}
use Rattle.bits_model.specs.Output.{weight_total}
use Rattle.term_table.specs.Terms.{Term, terms_total, IsTermSet}
use Rattle.term_table.specs.Tables.{TableContent, IsLow}
use Rattle.pair_sums.specs.Pairs.{IsPair}
use Rattle.quad_form.specs.Short.{Share, share_at, short_constant, short_couplers, short_shares}

-- the sum of the sizes of all coefficients, then the constant, the weights of nodes and the couplers
pub record SumsContent : Type 0 where
  pub total : ℕ
  pub constant : ℤ
  pub weights : List ℤ
  pub pairs : List Entry

-- ---- what they hold

-- what these additions give, all of at most two literals
pub record AreSummed (t : TableContent) (s : SumsContent) : Type 0 where
  pub width : length s.weights ≡ t.width
  pub sets : All (λ u. IsTermSet t.width u.0) t.terms
  pub low : IsLow t
  pub total : s.total ≡ terms_total t.terms
  pub constant : s.constant ≡ total_by short_constant t.terms
  -- a node past the last one has none
  pub weights : (i : ℕ)
      → slice_index_or s.weights i (pos 0) ≡ share_at i (flat_map short_shares t.terms)
  pub pairs : s.pairs ≡ flat_map short_couplers t.terms

-- these terms can be added, one after another
pub record HasRoom (s : SumsContent) (ts : List Term) : Type 0 where
  pub sets : All (λ u. IsTermSet (length s.weights) u.0) ts
  pub low : All (λ u. length u.0 ≤ 2) ts
  pub total : s.total + terms_total ts ≤ 2 ^ 122

-- ---- what they keep

-- the sum of the sizes
abbrev pub size_of : List ℤ → ℕ
size_of sums = sum_by unsigned_abs sums

-- the numbers fit their fields, and all is over the nodes
pub record IsSums (s : SumsContent) : Type 0 where
  pub narrow : length s.weights < 2 ^ 32
  pub total : s.total ≤ 2 ^ 122
  pub constant : unsigned_abs s.constant ≤ s.total
  -- a pair may move its coefficient to two nodes
  pub weights : size_of s.weights ≤ 2 * s.total
  pub pairs : All (IsPair (length s.weights)) s.pairs
  pub pairs_total : weight_total s.pairs ≤ s.total

-- ---- weights that grow

-- a number added to the weight of a node
abbrev pub with_weight : List ℤ → ℕ → ℤ → List ℤ
with_weight sums j c = slice_set sums j (slice_index_or sums j (pos 0) +ℤ c)

-- weights to which shares were added, whose sizes sum to at most a number
pub record Gain (shares : List Share) (most : ℕ) (old new : List ℤ) : Type 0 where
  pub width : length new ≡ length old
  pub weights : (i : ℕ)
      → slice_index_or new i (pos 0) ≡ slice_index_or old i (pos 0) +ℤ share_at i shares
  pub small : size_of new ≤ size_of old + most

-- the weights of so many nodes, of which those after the last one weigh 0
abbrev pub widened : ℕ → List ℤ → List ℤ
widened nodes ws = ws ++ replicate (nodes - length ws) (pos 0)
