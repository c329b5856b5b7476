-- The quadratic form of additions at once: pairs of literals replaced one after another, and all
-- multiplied out.
use Rattle.std.specs.Prelude.{◌≡◌, ◌+◌, ◌*◌, ◌^◌, ◌≤◌, ◌++◌, length}
use Rattle.std.specs.List.{filter}
use Rattle.term_table.specs.Terms.{terms_total}
use Rattle.term_table.specs.Tables.{TableContent, AreAdditions, table_size}
use Rattle.rosenberg_layer.specs.declared.run.Substitutions.{Substitutions}
use Rattle.rosenberg_layer.specs.Rosenberg.{excess, is_long, run}
use Rattle.rosenberg_layer.specs.Rosenberg as rosenberg
use Rattle.rosenberg_layer.specs.Steps.{is_short}
use Rattle.rosenberg_layer.specs.Parts.{weights, AreParts}
use Rattle.rosenberg_layer.specs.Added.{moved_of}
use Rattle.quad_form.specs.Quads.{QuadContent}
use Rattle.quad_form.specs.Flat as flat
use Rattle.quadratization.specs.Apart.{table_of}

-- the image of the two steps
abbrev pub image : TableContent → QuadContent
image t = flat.image (rosenberg.image t)

-- ---- additions whose long terms are replaced

-- the numbers of the form of additions fit their fields
pub record FitsByPairs (t : TableContent) : Type 0 where
  pub additions : AreAdditions t
  pub total : (terms_total t.terms + 1) * 2 ^ 16 ≤ 2 ^ 97
  pub size : table_size (table_of t) * 2 ^ 2 ≤ 2 ^ 31

-- what the run of all substitutions in a table leaves: added to its short terms, it is the image
pub record IsRunOf (t : TableContent) (made : Substitutions) : Type 0 where
  pub parts : AreParts (run (excess t.terms) t) (filter is_short t.terms ++ moved_of t.width made)
      (filter is_long (run (excess t.terms) t).terms) (weights t.terms)
  pub pairs : made.pairs ≡ rosenberg.pairs_of (excess t.terms) t
  pub each : length made.weights.items ≡ length made.pairs
