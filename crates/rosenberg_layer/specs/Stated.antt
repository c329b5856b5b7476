-- What the run of substitutions promises.
use Rattle.std.specs.Prelude.{◌≡◌, ◌+◌, ◌≤◌, pos, Some}
use Rattle.form_steps.specs.Links.{first_bits}
use Rattle.form_steps.specs.Relations.{Keeps}
use Rattle.term_table.specs.Terms.{AreTerms}
use Rattle.term_table.specs.Tables.{TableContent, IsLow, form_of}
use Rattle.rosenberg_layer.specs.Rosenberg.{Pair, next_pair, substituted, excess, image}

-- one substitution keeps the costs of the table, and a state decodes to its first bits
abbrev pub SubstitutionsKeep : Type 0
SubstitutionsKeep = (t : TableContent) → AreTerms t.width t.terms
    → Keeps (form_of t) (form_of (substituted t))
    (first_bits (record { source_width = t.width; target_width = (substituted t).width }))
    (pos 1) (pos 0)

-- the image of a table without terms of degree 3 or more is the table
abbrev pub LowTablesStay : Type 0
LowTablesStay = (t : TableContent) → IsLow t → image t ≡ t

-- .. and that of another is the image of the table after one substitution
abbrev pub ImagesGoOn : Type 0
ImagesGoOn = (t : TableContent) → AreTerms t.width t.terms → image t ≡ image (substituted t)

-- .. whose sum of d - 2 is less by 1 at least, so that the run ends
abbrev pub SubstitutionsEnd : Type 0
SubstitutionsEnd = (t : TableContent) → AreTerms t.width t.terms → (pair : Pair)
    → next_pair t.terms ≡ Some pair → excess (substituted t).terms + 1 ≤ excess t.terms

-- no term of an image has more than two literals
abbrev pub ImagesAreLow : Type 0
ImagesAreLow = (t : TableContent) → AreTerms t.width t.terms → IsLow (image t)

-- there are at most d - 2 new nodes for each term of a degree d of 3 or more
abbrev pub AddsFewNodes : Type 0
AddsFewNodes = (t : TableContent) → AreTerms t.width t.terms
    → (image t).width ≤ t.width + excess t.terms
