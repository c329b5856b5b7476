-- Additions that are gathered, and the quadratic form that is made of them.
use Rattle.std.specs.Prelude.{◌≡◌, ℕ, ◌<◌, ℤ, pos, ◌+ℤ◌, List, ◌++◌, length, All}
use Rattle.std.specs.List.{flat_map, slice_index_or}
use Rattle.std.specs.List.Sorted.{IsStrictlySortedBy}
use Rattle.base.specs.Sums.{total_by}
use Rattle.bits_model.specs.declared.output.Entry.{Entry}
use Rattle.bits_model.specs.Output.{entry_cmp}
use Rattle.term_table.specs.Terms.{Term}
use Rattle.term_table.specs.Tables.{TableContent}
use Rattle.quad_form.specs.Quads.{QuadContent, IsCoupler}
use Rattle.pair_sums.specs.Pairs.{weight_at}
use Rattle.quadratization.specs.Apart.{short_terms, long_terms}
use Rattle.quad_form.specs.Short.{Share, share_at, short_couplers, short_shares, short_constant}
use Rattle.quadratization.specs.Parts.{all_nodes}
use Rattle.quadratization.specs.Places.{place_couplers, all_shares, long_constant}
use Rattle.quadratization.specs.TermPlaces.{all_places}

-- ---- what all parts give

-- the sum of all constants
abbrev pub constant_of : TableContent → ℤ
constant_of t =
    total_by short_constant (short_terms t.terms) +ℤ total_by long_constant (long_terms t.terms)

-- all that is added to the weights of nodes
abbrev pub shares_of : TableContent → List Share
shares_of t = flat_map short_shares (short_terms t.terms) ++ all_shares (long_terms t.terms) t.width

-- all couplers of long terms, whose new nodes are numbered from n on
abbrev pub couplers_of_long : List Term → ℕ → List Entry
couplers_of_long terms n = flat_map place_couplers (all_places terms n)

-- all couplers, more than one for some pairs
abbrev pub couplers_of : TableContent → List Entry
couplers_of t =
    flat_map short_couplers (short_terms t.terms)
    ++ couplers_of_long (long_terms t.terms) t.width

-- the form with these sums
pub record IsSumOf (t : TableContent) (q : QuadContent) : Type 0 where
  pub constant : q.constant ≡ constant_of t
  pub width : length q.diagonal ≡ all_nodes t
  pub weights : (i : ℕ) → i < all_nodes t
      → slice_index_or q.diagonal i (pos 0) ≡ share_at i (shares_of t)
  pub ordered : IsStrictlySortedBy entry_cmp q.couplers
  pub couplers : All (IsCoupler (all_nodes t)) q.couplers
  pub pairs : (i j : ℕ) → i < j → j < all_nodes t
      → weight_at i j q.couplers ≡ weight_at i j (couplers_of t)

-- the constant, the weights of nodes and the couplers of the form with these sums
abbrev pub AreSumsOf : TableContent → ℤ → List ℤ → List Entry → Type 0
AreSumsOf t constant diagonal couplers =
    IsSumOf t (record { constant = constant; diagonal = diagonal; couplers = couplers })
