-- What a WBO text says: a cost that is infinite or none, and constraints, of which some have a
-- weight. The constraints are those of OPB texts, but for the indices, which are below 2^63.
use Rattle.std.specs.Prelude.{◌≡◌, ℕ, ◌≤◌, zero, suc, ◌-◌, ◌^◌, pos, codes, Bool, true, false, not, ◌||◌, ◌&&◌, unwrap_or, List, [], ◌∷◌, length, flat_map, Option, Some, None, is_none, Result, Ok, Err, IfOk, bytes_eq, if◌then◌else◌}
use Rattle.std.specs.List.{list_any, sum_by}
use Rattle.base.specs.declared.costs.Cost.{Cost}
use Rattle.base.specs.declared.costs.Cost.TheVariants.{Whole, Infinite}
use Rattle.base.specs.Costs.{Form}
use Rattle.form_steps.specs.Relations.{Rewrites}
use Rattle.whole_text.specs.declared.faults.TextKind.TheVariants as kinds
use Rattle.whole_text.specs.declared.faults.TextFault.{TextFault}
use Rattle.whole_text.specs.declared.token.Style.TheVariants as styles
use Rattle.whole_text.specs.Tokens.{Word, tokens_of}
use Rattle.whole_text.specs.Steps.{◌>>=◌, fault, end_line, next_of, natural_at}
use Rattle.literal_lists.specs.declared.literal.Literal.{Literal}
use Rattle.problem_form.specs.declared.terms.Constraint.{Constraint}
use Rattle.problem_form.specs.NormalForm.{normal_constraint}
use Rattle.problem_form.specs.Problems as problems
use Rattle.opb_reader.specs.Opb.{Listed, many, never, literals_in, widened, is_semicolon, closed_at, constraint_at}
use Rattle.opb_reader.specs.Cost.{is_met, constraint_of}
use Rattle.wbo_reader.specs.declared.soft.Soft.{Soft}
use Rattle.wbo_reader.specs.Wbo.{WboContent, IsNormalSource, reaches_top}
use Rattle.wbo_reader.specs.Wbo as wbo
use Rattle.wbo_reader.specs.Rewriting.{rewritten}

-- ---- what a text says, as it says it

-- a constraint, with its weight where it is soft
pub record Weighed : Type 0 where
  pub weight : Option ℕ
  pub listed : Listed

-- a whole text: the cost that is infinite, where one is given, and its constraints
pub record WboText : Type 0 where
  pub top : Option ℕ
  pub constraints : List Weighed

-- the literals of all constraints
abbrev pub all_literals : List Weighed → List Literal
all_literals ks = flat_map (λ k. literals_in k.listed.terms) ks

-- as many variables as the largest index says, also one of a constraint that is dropped
abbrev pub variables_of : WboText → ℕ
variables_of t = widened 0 (all_literals t.constraints)

-- ---- constraints

-- the greatest index, so that a variable for each soft constraint can be added
abbrev pub greatest_index : ℕ
greatest_index = 2 ^ 63 - 1

-- what is left after a word that is to have these bytes
abbrev pub after_word : List ℕ → Word × List Word → Result (List Word) TextFault
after_word bytes w = if bytes_eq w.0.bytes bytes then Ok w.1 else Err (fault kinds.Word w.0.line)

-- a weight and `]`
unfoldable pub weight_at : ℕ → List Word → Result (ℕ × List Word) TextFault
weight_at end ws = do
  number ← next_of end ws
  weight ← natural_at 0 number.0
  close ← next_of end number.1
  rest ← after_word (codes "]") close
  Ok (weight, rest)

-- the weight of a constraint with this first word, where the word is `[`, and the first word of its
-- sum
unfoldable pub front_at : ℕ → Word → List Word → Result (Option ℕ × Word × List Word) TextFault
front_at end w ws =
    if bytes_eq w.bytes (codes "[")
    then (weight_at end ws >>= λ x. next_of end x.1 >>= λ first. Ok (Some x.0, first.0, first.1))
    else Ok (None, w, ws)

-- a constraint with this first word, and its weight
unfoldable pub weighed_at : ℕ → Word → List Word → Result (Weighed × List Word) TextFault
weighed_at end w ws = do
  front ← front_at end w ws
  k ← constraint_at greatest_index end front.1 front.2
  Ok (record { weight = front.0; listed = k.0 }, k.1)

-- constraints up to the end; there are fewer of them than words
unfoldable pub constraints_at : ℕ → List Word → Result (List Weighed × List Word) TextFault
constraints_at end ws = many never (weighed_at end) (length ws) ws

-- ---- a whole text

-- `;`, or a top and `;`
unfoldable pub top_at : ℕ → List Word → Result (Option ℕ × List Word) TextFault
top_at end ws = next_of end ws >>= λ w.
    if is_semicolon w.0.bytes
    then Ok (None, w.1)
    else (natural_at 1 w.0 >>= λ top. closed_at end w.1 >>= λ rest. Ok (Some top, rest))

-- `soft:`, and a top or none
unfoldable pub head_at : ℕ → List Word → Result (Option ℕ × List Word) TextFault
head_at end ws = do
  first ← next_of end ws
  rest ← after_word (codes "soft:") first
  top_at end rest

-- what the words say
unfoldable pub reading_of_words : List Word → Result WboText TextFault
reading_of_words ws = do
  head ← head_at (end_line ws) ws
  others ← constraints_at (end_line ws) head.1
  Ok (record { top = head.0; constraints = others.0 })

-- the reading of a text
unfoldable pub reading : List ℕ → Result WboText TextFault
reading text = reading_of_words (tokens_of styles.Wbo text)

-- ---- its cost as written

-- a constraint without a weight that fails
abbrev pub breaks : List Bool → Weighed → Bool
breaks x k = is_none k.weight && not (is_met x k.listed)

-- the weight of a constraint that has one and fails
abbrev pub pays : List Bool → Weighed → ℕ
pays x k = if is_met x k.listed then 0 else unwrap_or k.weight 0

-- infinite where a hard constraint fails, or where the weights of the failing soft ones sum to the
-- top or more; else this sum
abbrev pub text_cost : WboText → List Bool → Cost
text_cost t x =
    if list_any (breaks x) t.constraints || reaches_top t.top (sum_by (pays x) t.constraints)
    then Infinite
    else Whole (pos (sum_by (pays x) t.constraints))

-- the text as a form: its bits and its cost
abbrev pub form_of : WboText → Form
form_of t = record { bits = variables_of t; cost = text_cost t }

-- ---- the source in normal form

-- the constraint where it has no weight, and else none
abbrev pub hard_by : Option ℕ → Constraint → List Constraint
hard_by weight k = if is_none weight then k ∷ [] else []

-- the hard constraint of a text in normal form, or none
abbrev pub hard_of : Weighed → List Constraint
hard_of k = hard_by k.weight (normal_constraint (constraint_of k.listed))

-- the constraint with its weight where it has one, and else none; one of weight 0 is dropped
abbrev pub soft_by : Option ℕ → Constraint → List Soft
soft_by None k = []
soft_by (Some zero) k = []
soft_by (Some (suc n)) k = record { weight = suc n; constraint = k } ∷ []

-- the soft constraint of a text in normal form, or none
abbrev pub soft_of : Weighed → List Soft
soft_of k = soft_by k.weight (normal_constraint (constraint_of k.listed))

-- its place in the order, unless it is dropped
abbrev pub order_by : Option ℕ → List Bool
order_by None = false ∷ []
order_by (Some zero) = []
order_by (Some (suc n)) = true ∷ []

-- the source in normal form
abbrev pub content_of : WboText → WboContent
content_of t = record {
  variables = variables_of t;
  hard = flat_map hard_of t.constraints;
  soft = flat_map soft_of t.constraints;
  top = t.top;
  order = flat_map (λ k. order_by k.weight) t.constraints;
}

-- the reading of words, as a source in normal form
unfoldable pub content_of_words : List Word → Result WboContent TextFault
content_of_words ws = reading_of_words ws >>= λ t. Ok (content_of t)

-- the reading of a text, as a source in normal form
unfoldable pub normal_reading : List ℕ → Result WboContent TextFault
normal_reading text = reading text >>= λ t. Ok (content_of t)

-- ---- laws

-- no greater count reads anything else, and no word is left behind the constraints
pub record WordsAreEnough : Type 0 where
  pub constraints : (count end : ℕ) (ws : List Word) → length ws ≤ count
      → many never (weighed_at end) count ws ≡ constraints_at end ws
  pub all : (end : ℕ) (ws : List Word) → IfOk (constraints_at end ws) (λ x. x.1 ≡ [])

-- the source in normal form costs what its text costs, under every assignment
abbrev pub ReadingKeepsCosts : Type 0
ReadingKeepsCosts = (t : WboText) (x : List Bool) → wbo.wbo_cost (content_of t) x ≡ text_cost t x

-- what is read is in normal form
abbrev pub ReadingIsNormal : Type 0
ReadingIsNormal = (t : WboText) → IsNormalSource (content_of t)

-- the problem that a text is rewritten to stands for the text
abbrev pub RewritesItsText : Type 0
RewritesItsText = (t : WboText) → Rewrites (form_of t) (problems.form_of (rewritten (content_of t)))
