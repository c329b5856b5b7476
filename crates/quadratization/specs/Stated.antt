-- The laws of a form that is made at once, as statements.
use Rattle.std.specs.Prelude.{◌≡◌, ℕ, ◌+◌, ◌*◌, ◌≤◌, ◌<◌, ◌^◌, List, [], ◌∷◌, ◌++◌, length}
use Rattle.std.specs.List.{flat_map}
use Rattle.std.specs.List.Sorted.{IsPermutation}
use Rattle.bits_model.specs.declared.output.Entry.{Entry}
use Rattle.term_table.specs.Terms.{Term, terms_total}
use Rattle.term_table.specs.Tables.{TableContent, AreAdditions, table_size}
use Rattle.monomial_layer.specs.Monomials.{node, new_terms}
use Rattle.quad_form.specs.Quads.{QuadContent, quad_total, quad_size, IsQuad}
use Rattle.pair_sums.specs.Pairs.{weight_at}
use Rattle.quadratization.specs.Apart.{table_of}
use Rattle.quad_form.specs.Short.{share_at}
use Rattle.quadratization.specs.Parts.{image, all_nodes, parts, sum_for, GivesSums}
use Rattle.quadratization.specs.TermPlaces.{Place, term_places}
use Rattle.quadratization.specs.Places.{place_couplers, term_shares, long_constant}
use Rattle.quadratization.specs.Gathered.{IsSumOf}
use Rattle.quadratization.specs.TermPlaces.{places_of}
use Rattle.quadratization.specs.Rows.{IsRow, AreRows}

-- the numbers of the form fit their fields
pub record IsWithin (t : TableContent) : Type 0 where
  pub additions : AreAdditions t
  pub narrow : all_nodes t < 2 ^ 32
  pub total : (terms_total t.terms + 1) * 2 ^ 26 ≤ 2 ^ 124

-- ---- collecting before multiplying out changes nothing

-- what has the sums of the parts is the image
abbrev pub SumsGiveImage : Type 0
SumsGiveImage = (t : TableContent) (q : QuadContent) → IsWithin t
    → GivesSums (all_nodes t) (parts t) q → q ≡ image t

-- the image is a quadratic form
abbrev pub ImageIsQuad : Type 0
ImageIsQuad = (t : TableContent) → IsWithin t → IsQuad (image t)

-- ---- what stands for long terms

-- the constant of what stands for a long term
abbrev pub ConstantsClose : Type 0
ConstantsClose = (t : Term) (n : ℕ) → 3 ≤ length t.0
    → sum_for [] (new_terms t n) ≡ long_constant t

-- what it adds to the weight of each node
abbrev pub SharesClose : Type 0
SharesClose = (t : Term) (n i : ℕ) → 3 ≤ length t.0
    → sum_for (node i ∷ []) (new_terms t n) ≡ share_at i (term_shares t n)

-- what it adds to each coupler
abbrev pub CouplersClose : Type 0
CouplersClose = (t : Term) (n i j : ℕ) → 3 ≤ length t.0
    → sum_for (node i ∷ node j ∷ []) (new_terms t n)
    ≡ weight_at i j (flat_map place_couplers (term_places t n))

-- ---- the form that is made of all of them

-- what has these sums is the image
abbrev pub SumIsImage : Type 0
SumIsImage = (t : TableContent) (q : QuadContent) → IsWithin t → IsSumOf t q → q ≡ image t

-- and the image has them
abbrev pub ImageHasSums : Type 0
ImageHasSums = (t : TableContent) → IsWithin t → IsSumOf t (image t)

-- ---- row by row

-- a row has the couplers of the places of its variable alone
abbrev pub PlacesMakeRows : Type 0
PlacesMakeRows = (i j : ℕ) (ps : List Place)
    → weight_at i j (flat_map place_couplers ps)
    ≡ weight_at i j (flat_map place_couplers (places_of i ps))

-- the order of the places does not matter
abbrev pub PlacesPermute : Type 0
PlacesPermute = (i j : ℕ) (ps qs : List Place) → IsPermutation ps qs
    → weight_at i j (flat_map place_couplers qs) ≡ weight_at i j (flat_map place_couplers ps)

-- one row after the first ones
abbrev pub RowsFollow : Type 0
RowsFollow = (nodes i : ℕ) (all couplers row : List Entry) → nodes < 2 ^ 32
    → AreRows nodes i all couplers → IsRow nodes i all row
    → AreRows nodes (i + 1) all (couplers ++ row)

-- ---- how large it is

-- the sums of the sizes
abbrev pub TotalsGrow : Type 0
TotalsGrow = (t : TableContent) → AreAdditions t
    → quad_total (image t) + 1 ≤ (terms_total t.terms + 1) * 2 ^ 26

-- the squares of the degrees
abbrev pub SizesGrow : Type 0
SizesGrow = (t : TableContent) → quad_size (image t) ≤ table_size (table_of t) * 2 ^ 3
