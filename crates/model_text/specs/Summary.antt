-- The summary of a written model: what it counts, its figures and its unit.
use Rattle.std.specs.Prelude.{ℕ, ℤ, pos, List, [], ◌∷◌, codes, count_by}
use Rattle.std.specs.Fmt.{signed_decimal}
use Rattle.base.specs.declared.costs.Figures.{Figures}
use Rattle.bits_model.specs.Output.{Written, is_node, is_coupler}
use Rattle.model_text.specs.Rows.{Row, rows_text}

-- the name of a number, and the number
abbrev pub summary_row : List ℕ → ℤ → Row
summary_row name value = name ∷ signed_decimal value ∷ []

-- the numbers of nodes and of couplers, the figures and the unit
abbrev pub summary_rows : ℤ → ℤ → Figures → ℤ → List Row
summary_rows nodes couplers figures unit =
    summary_row (codes "nodes") nodes
    ∷ summary_row (codes "couplers") couplers
    ∷ summary_row (codes "scale") figures.scale
    ∷ summary_row (codes "offset") figures.offset
    ∷ summary_row (codes "threshold") figures.threshold
    ∷ summary_row (codes "unit") unit
    ∷ []

-- the summary of a model, which counts the rows that its text has for nodes and for couplers
unfoldable pub summary_text : Written → List ℕ
summary_text m =
    rows_text
    (summary_rows (pos (count_by is_node m.entries)) (pos (count_by is_coupler m.entries))
    m.figures m.unit)
