-- What contracts see of a table.
use Rattle.std.specs.Prelude.{◌≡◌, ℕ, ◌+◌, ◌≤◌, ◌^◌, ℤ, Bool, List, [], ◌∷◌, ◌++◌, length, All}
use Rattle.base.specs.declared.costs.Cost.TheVariants.{Whole}
use Rattle.base.specs.Costs.{Form}
use Rattle.literal_lists.specs.declared.literal.Literal.{Literal}
use Rattle.term_table.specs.Terms.{Term, terms_cost, terms_total, terms_size, with_addition, with_additions, coefficient_of, AreTerms, IsTermSet}
use Rattle.term_table.specs.Runs.{Run, one_run, merged_terms, AreRuns}

-- a width, and terms over the variables below it
pub record TableContent : Type 0 where
  pub width : ℕ
  pub terms : List Term

-- a table: its content, and the runs in which that is kept
pub record KeptTable : Type 0 where
  pub content : TableContent
  pub runs : List Run

-- content that is kept at once
abbrev pub kept_at_once : TableContent → KeptTable
kept_at_once t = record { content = t; runs = one_run t.terms }

-- the content that runs are
abbrev pub kept_in : ℕ → List Run → KeptTable
kept_in width runs = record {
  content = record { width = width; terms = merged_terms runs };
  runs = runs;
}

-- its width, and the cost of its terms
abbrev pub form_of : TableContent → Form
form_of t = record { bits = t.width; cost = λ x. Whole (terms_cost x t.terms) }

-- the width, and the squares of the degrees
abbrev pub table_size : TableContent → ℕ
table_size t = t.width + terms_size t.terms

-- what a table keeps
pub record IsTable (t : TableContent) : Type 0 where
  pub terms : AreTerms t.width t.terms
  pub small : terms_total t.terms ≤ 2 ^ 124

-- what a table of a width keeps of its runs, and that their terms are small in sum
pub record IsKept (width : ℕ) (all : List Run) : Type 0 where
  pub runs : AreRuns width all
  pub small : terms_total (merged_terms all) ≤ 2 ^ 124

-- no term has more than two literals
abbrev pub IsLow : TableContent → Type 0
IsLow t = All (λ u. length u.0 ≤ 2) t.terms

-- a table with one more addition
abbrev pub with_added : TableContent → List Literal → ℤ → TableContent
with_added t ls c = record t { terms = with_addition t.terms ls c }

-- a table with more of them, one after another
abbrev pub with_all : TableContent → List Term → TableContent
with_all t ts = record t { terms = with_additions t.terms ts }

-- ---- additions that are to be summed

-- additions of which a table can be made
pub record AreAdditions (t : TableContent) : Type 0 where
  pub sets : All (λ u. IsTermSet t.width u.0) t.terms
  pub small : terms_total t.terms ≤ 2 ^ 124

-- additions to be summed, and one more
abbrev pub with_appended : TableContent → List Literal → ℤ → TableContent
with_appended t ls c = record t { terms = t.terms ++ (ls, c) ∷ [] }

-- additions to be summed, and more of them
abbrev pub with_more : TableContent → List Term → TableContent
with_more t ts = record t { terms = t.terms ++ ts }

-- ---- laws of the table that additions give

-- it costs what the additions cost, under every assignment
abbrev pub AdditionsKeepCosts : Type 0
AdditionsKeepCosts =
    (x : List Bool) (ts : List Term) → terms_cost x (with_additions [] ts) ≡ terms_cost x ts

-- each set has the sum of its coefficients
abbrev pub AdditionsSum : Type 0
AdditionsSum = (ls : List Literal) (ts : List Term)
    → coefficient_of ls (with_additions [] ts) ≡ coefficient_of ls ts

-- it is the only list of terms in order, none of them 0, with these coefficients
abbrev pub TermsAreSums : Type 0
TermsAreSums = (width : ℕ) (ts us : List Term) → AreTerms width ts → AreTerms width us
    → ((ls : List Literal) → coefficient_of ls ts ≡ coefficient_of ls us) → ts ≡ us
