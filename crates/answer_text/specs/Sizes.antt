-- The text that tells how large a model is: its summary, its variables and the levels of its weights.
use Rattle.std.specs.Prelude.{ℕ, pos, unsigned_abs, nat_lt, min, max, List, [], ◌∷◌, ◌++◌, map, fold, codes, Option, Some, None, unwrap_or, if◌then◌else◌}
use Rattle.std.specs.List.{filter, reduce}
use Rattle.bits_model.specs.declared.output.Entry.{Entry}
use Rattle.bits_model.specs.Output.{Written}
use Rattle.model_text.specs.Rows.{Row, rows_text}
use Rattle.model_text.specs.Summary.{summary_row, summary_text}
use Rattle.answer_text.specs.declared.sizes.Levels.{Levels}

-- ---- the sizes of weights

-- the size of a weight
abbrev pub size : Entry → ℕ
size e = unsigned_abs e.weight

-- the sizes of the weights that are not 0
abbrev pub sizes : List Entry → List ℕ
sizes entries = filter (λ n. nat_lt 0 n) (map size entries)

-- the least size of a weight that is not 0, and 0 where there is none
abbrev pub least_size : List Entry → ℕ
least_size entries = unwrap_or (reduce min (sizes entries)) 0

-- the greatest size of a weight, and 0 where there is none
abbrev pub greatest_size : List Entry → ℕ
greatest_size entries = fold max 0 (sizes entries)

-- ---- the text

-- the numbers of variables, of the least size and of the greatest
abbrev pub size_rows : ℕ → ℕ → ℕ → List Row
size_rows variables least greatest =
    summary_row (codes "variables") (pos variables)
    ∷ summary_row (codes "least") (pos least)
    ∷ summary_row (codes "greatest") (pos greatest)
    ∷ []

-- the summary of a model, and these numbers of it
abbrev pub size_text : Written → List ℕ
size_text m =
    summary_text m
    ++ rows_text (size_rows m.variables (least_size m.entries) (greatest_size m.entries))

-- ---- one size after another

-- the lesser of a number, where there is one, and another
abbrev pub least_with : Option ℕ → ℕ → ℕ
least_with None n = n
least_with (Some m) n = min m n

-- the least and the greatest of some sizes and one more, which counts where it is not 0
abbrev pub levels_with : Levels → ℕ → Levels
levels_with l n =
    if nat_lt 0 n
    then record { least = Some (least_with l.least n); greatest = max l.greatest n }
    else l
