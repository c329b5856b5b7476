-- What the steps of the reader give: the readings of `Reading`, added to what was read before.
use Rattle.std.specs.Prelude.{ℕ, List, [], ◌++◌, Option, Result, Ok, fold}
use Rattle.whole_text.specs.declared.faults.TextFault.{TextFault}
use Rattle.whole_text.specs.Tokens.{Word}
use Rattle.whole_text.specs.Steps.{◌>>=◌}
use Rattle.problem_form.specs.declared.terms.Constraint.{Constraint}
use Rattle.problem_form.specs.NormalForm.{normal_constraint}
use Rattle.opb_reader.specs.Opb.{literals_in, widened}
use Rattle.opb_reader.specs.Cost.{constraint_of}
use Rattle.opb_reader.specs.Views.{put}
use Rattle.wbo_reader.specs.Wbo.{WboContent}
use Rattle.wbo_reader.specs.Reading.{Weighed, hard_by, soft_by, order_by, weighed_at, constraints_at}

-- a source of no constraints, with a top or none
abbrev pub nothing : Option ℕ → WboContent
nothing top = record { variables = 0; hard = []; soft = []; top = top; order = [] }

-- a source with one more constraint as written, in normal form, and its weight
abbrev pub with_constraint : WboContent → Option ℕ → Constraint → WboContent
with_constraint s weight k = record s {
  hard = s.hard ++ hard_by weight (normal_constraint k);
  soft = s.soft ++ soft_by weight (normal_constraint k);
  order = s.order ++ order_by weight;
}

-- a source with one more constraint, and variables enough for it
abbrev pub with_weighed : WboContent → Weighed → WboContent
with_weighed s k =
    with_constraint
    (record s { variables = widened s.variables (literals_in k.listed.terms) })
    k.weight (constraint_of k.listed)

-- a source with the constraint that has this first word, and what is left
abbrev pub constraint_read : WboContent → ℕ → Word → List Word
    → Result (WboContent × List Word) TextFault
constraint_read s end w ws = put with_weighed s (weighed_at end w ws)

-- a source with all constraints
abbrev pub constraints_read : WboContent → ℕ → List Word → Result WboContent TextFault
constraints_read s end ws = constraints_at end ws >>= λ x. Ok (fold with_weighed s x.0)
