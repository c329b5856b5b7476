-- The rewritten problem, part by part.
use Rattle.wbo_reader.proofs.Common.{◌++◌, ◌≡◌, ℕ, ◌+◌, ◌<◌, Bool, true, false, not, cond, List, [], ◌∷◌, length, drop, get_or, Option, Some, None, sym, ap, subst, ◌∙◌, arith, count_by, drop_more, sum_by-cons, nat_tests, blank, with_variables, ProblemContent, IsSound, WboContent, IsWbo, weighed_bits, with_products, with_rows, rows_of, rewritten, top_row, at_most, ℤ}
use Rattle.wbo_reader.proofs.Added.{first_rows, no_rows}
use Rattle.wbo_reader.proofs.Sound.{rewritten_is_sound}
use Rattle.wbo_reader.proofs.Spending.{top_rows}
use Rattle.wbo_reader.proofs.Within.{most_is}

-- ---- the order

pub first_left : (items : List Bool) (i : ℕ) (b : Bool) → i < length items
    → get_or items i false ≡ b → drop i items ≡ b ∷ drop (i + 1) items
first_left items i b within is = grind (arith, nat_tests, drop_more)

module _ (items rest : List Bool) where
  pub soft_more : items ≡ true ∷ rest
      → (count_by (λ b. b) items ≡ 1 + count_by (λ b. b) rest) × (count_by not items
      ≡ count_by not rest)
  soft_more first = (
    omega (arith, ap (count_by (λ b. b)) first, sum_by-cons (λ (b : Bool). cond b 1 0) true rest),
    omega (arith, ap (count_by not) first, sum_by-cons (λ (b : Bool). cond (not b) 1 0) true rest),
  )

  pub hard_more : items ≡ false ∷ rest
      → (count_by (λ b. b) items ≡ count_by (λ b. b) rest) × (count_by not items
      ≡ 1 + count_by not rest)
  hard_more first = (
    omega (arith, ap (count_by (λ b. b)) first, sum_by-cons (λ (b : Bool). cond b 1 0) false rest),
    omega (arith, ap (count_by not) first, sum_by-cons (λ (b : Bool). cond (not b) 1 0) false rest),
  )

-- ---- the parts

abbrev pub wide : WboContent → ProblemContent
wide s = with_variables blank (s.variables + length s.soft)

abbrev pub weighed : WboContent → ProblemContent
weighed s = with_products (wide s) (weighed_bits s.variables s.soft)

abbrev pub rowed : WboContent → ProblemContent
rowed s = with_rows (weighed s) (rows_of s)

pub weighed_sound : (s : WboContent) → IsWbo s → IsSound (weighed s)
weighed_sound s is = first_rows (weighed s) [] (rows_of s ++ top_rows s.variables s.top s.soft) (rewritten_is_sound s is)

pub rowed_sound : (s : WboContent) → IsWbo s → IsSound (rowed s)
rowed_sound s is =
    first_rows (weighed s) (rows_of s) (top_rows s.variables s.top s.soft) (rewritten_is_sound s is)

-- ---- the problem as it is filled

pub weighed_then : {s : WboContent} {p q : ProblemContent} → IsWbo s → p ≡ wide s
    → q ≡ with_products p (weighed_bits s.variables s.soft) → q ≡ weighed s
weighed_then {s = s} kept widened added =
    added ∙ ap (λ (p : ProblemContent). with_products p (weighed_bits s.variables s.soft)) widened

pub rowed_then : {s t : WboContent} {p q : ProblemContent} → s ≡ t → p ≡ weighed s
    → q ≡ with_rows p (rows_of t) → q ≡ rowed s
rowed_then same filled added = added ∙ (λ n. with_rows (filled n) (rows_of (sym same n)))

pub weights_are_sound : {s : WboContent} {p : ProblemContent} → IsWbo s → p ≡ wide s
    → IsSound (with_products p (weighed_bits s.variables s.soft))
weights_are_sound {s = s} kept widened =
    subst (λ (p : ProblemContent). IsSound (with_products p (weighed_bits s.variables s.soft)))
    (sym widened) (weighed_sound s kept)

pub rows_are_sound : {s t : WboContent} {p : ProblemContent} → IsWbo s → s ≡ t → p ≡ weighed s
    → IsSound (with_rows p (rows_of t))
rows_are_sound {s = s} kept same filled =
    subst IsSound (λ n. with_rows (sym filled n) (rows_of (same n))) (rowed_sound s kept)

-- ---- the top

same_top : (s : WboContent) (top : ℕ)
    → top_row (rowed s) top ≡ top_rows s.variables (Some top) s.soft
same_top s top = ap (λ (most : Option ℤ). at_most most (weighed_bits s.variables s.soft)) (most_is s (Some top))

top_is : (s : WboContent) (top : ℕ) → s.top ≡ Some top
    → top_row (rowed s) top ≡ top_rows s.variables s.top s.soft
top_is s top is = same_top s top ∙ ap (λ (t : Option ℕ). top_rows s.variables t s.soft) (sym is)

pub with_top : (s : WboContent) (top : ℕ) → s.top ≡ Some top
    → with_rows (rowed s) (top_row (rowed s) top) ≡ rewritten s
with_top s top is = ap (with_rows (rowed s)) (top_is s top is)

pub without_top : (s : WboContent) → s.top ≡ None → rowed s ≡ rewritten s
without_top s is =
    sym (ap (λ (top : Option ℕ). with_rows (rowed s) (top_rows s.variables top s.soft)) is
    ∙ no_rows (rowed s))

pub top_sound : (s : WboContent) (top : ℕ) → s.top ≡ Some top → IsWbo s
    → IsSound (with_rows (rowed s) (top_row (rowed s) top))
top_sound s top is sound = subst IsSound (sym (with_top s top is)) (rewritten_is_sound s sound)
