-- The bits of the new nodes of a quadratic form.
use Rattle.std.specs.Prelude.{◌≡◌, Bool, List}
use Rattle.std.specs.List.{fold}
use Rattle.term_table.specs.Tables.{TableContent}
use Rattle.monomial_layer.specs.Monomials as monomials
use Rattle.rosenberg_layer.specs.Rosenberg.{with_product}
use Rattle.rosenberg_layer.specs.Rosenberg as rosenberg
use Rattle.quadratization.specs.declared.new_nodes.NewNodes.{NewNodes}
use Rattle.quadratization.specs.declared.new_nodes.NewNodes.TheVariants.{Terms, Pairs}

-- a state of the nodes before them, and the bits of the new ones: those of each term, or for each
-- pair the product of its literals
abbrev pub with_new_bits : NewNodes → List Bool → List Bool
with_new_bits (Terms t) x = monomials.extension x t.terms
with_new_bits (Pairs pairs) x = fold with_product x pairs

-- they have the bits of a table's new nodes, where each term is replaced by itself
abbrev pub AreOfTerms : TableContent → NewNodes → Type 0
AreOfTerms t n = (x : List Bool) → with_new_bits n x ≡ monomials.extension x t.terms

-- .. and where pairs are replaced one after another
abbrev pub AreOfPairs : TableContent → NewNodes → Type 0
AreOfPairs t n = (x : List Bool) → with_new_bits n x ≡ rosenberg.extension x t
