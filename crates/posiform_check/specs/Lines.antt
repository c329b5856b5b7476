-- Lines whose products and places in the text lie apart.
use Rattle.std.specs.Prelude.{ℕ}
use Rattle.problem_form.specs.declared.terms.Product.{Product}
use Rattle.posiform_check.specs.declared.lines.Line.{Line}

-- the line of this product on this line of the text
abbrev pub line_of : Product → ℕ → Line
line_of t n = record { literals = t.literals; coefficient = t.coefficient; line = n }
