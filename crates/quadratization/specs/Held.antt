-- What additions give, as far as it can be said before all of them stand: the sums of short terms,
-- and the long ones as they came.
use Rattle.std.specs.Prelude.{◌≡◌, ℕ, ◌+◌, ◌-◌, ◌≤◌, ◌^◌, ℤ, unsigned_abs, List, ◌++◌, map, length, All}
use Rattle.std.specs.List.{sum_by}
use Rattle.bits_model.specs.declared.output.Entry.{Entry}
use Rattle.problem_form.specs.declared.terms.Product.{Product}
use Rattle.problem_form.specs.Problems.{products_total}
use Rattle.term_table.specs.Terms.{Term, terms_total, IsTermSet}
use Rattle.term_table.specs.Tables.{TableContent}
use Rattle.quad_form.specs.Short.{Share}
use Rattle.quad_form.specs.Sums.{SumsContent, AreSummed, Gain}
use Rattle.quadratization.specs.Apart.{long_additions, table_of}
use Rattle.quadratization.specs.Long.{product_term, terms_of, node_count}
use Rattle.quadratization.specs.Parts.{short_part}

-- the sum of the sizes of all coefficients, then the constant, the weights of nodes and the couplers
-- that short terms give, and the long terms
pub record HeldContent : Type 0 where
  pub total : ℕ
  pub constant : ℤ
  pub weights : List ℤ
  pub pairs : List Entry
  pub long : List Product

-- the sums of short terms, and the long ones, as one
abbrev pub held_of : SumsContent → List Product → HeldContent
held_of s long = record {
  total = s.total + products_total long;
  constant = s.constant;
  weights = s.weights;
  pairs = s.pairs;
  long = long;
}

-- the sums of the short terms
abbrev pub sums_of : HeldContent → SumsContent
sums_of h = record {
  total = h.total - products_total h.long;
  constant = h.constant;
  weights = h.weights;
  pairs = h.pairs;
}

-- what these additions give
pub record AreHeld (t : TableContent) (h : HeldContent) : Type 0 where
  pub total : h.total ≡ terms_total t.terms
  pub short : AreSummed (short_part t) (sums_of h)
  pub long : map product_term h.long ≡ long_additions t.terms

-- these terms can be added, one after another
pub record HasPlaces (h : HeldContent) (ts : List Term) : Type 0 where
  pub sets : All (λ u. IsTermSet (length h.weights) u.0) ts
  pub total : h.total + terms_total ts ≤ 2 ^ 97

-- the numbers fit their fields, and long terms are such over the variables
pub record IsHeld (h : HeldContent) : Type 0 where
  pub total : h.total ≤ 2 ^ 97
  pub long : All (λ p. 3 ≤ length p.literals) h.long
  pub sets : All (λ p. IsTermSet (length h.weights) p.literals) h.long

-- how many nodes there are, with the new nodes of these long terms
abbrev pub nodes_with : ℕ → List Product → ℕ
nodes_with width long = node_count (table_of (terms_of width long))

-- the sum of the sizes of shares
abbrev pub shares_total : List Share → ℕ
shares_total shares = sum_by (λ s. unsigned_abs s.1) shares

-- weights to which just these shares were added
abbrev pub Gains : List Share → (old new : List ℤ) → Type 0
Gains shares old new = Gain shares (shares_total shares) old new

-- weights to which the shares of two lists were added
abbrev pub GainsBoth : (first second : List Share) → (old new : List ℤ) → Type 0
GainsBoth first second old new =
    Gain (first ++ second) (shares_total first + shares_total second) old new
