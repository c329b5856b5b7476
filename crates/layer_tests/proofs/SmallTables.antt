-- What a term of at most five literals adds to the sizes of a table.
use Rattle.std.proofs.Common.{◌≡◌, ◌+◌, ◌≤◌, ℤ, List, [], ◌∷◌, length, arith, ap, Result, Ok, Err, OnOk, unsigned_abs}
use Rattle.literal_lists.specs.declared.literal.Literal.{Literal}
use Rattle.term_table.specs.Terms.{set_size, terms_total, terms_size}
use Rattle.term_table.specs.Tables.{TableContent, with_added}
use Rattle.term_table.proofs.Additions.{terms_total-with_addition, terms_size-with_addition}

set_size-few : (ls : List Literal) → length ls ≤ 5 → set_size ls ≤ 25
set_size-few [] few = omega arith
set_size-few (a ∷ []) few = omega arith
set_size-few (a ∷ b ∷ []) few = omega arith
set_size-few (a ∷ b ∷ c ∷ []) few = omega arith
set_size-few (a ∷ b ∷ c ∷ d ∷ []) few = omega arith
set_size-few (a ∷ b ∷ c ∷ d ∷ e ∷ []) few = omega arith
set_size-few (a ∷ b ∷ c ∷ d ∷ e ∷ f ∷ ls) few = absurd (omega arith)

pub total_after : {T E : Type 0} (r : Result T E) (t u : TableContent) (ls : List Literal) (k : ℤ)
    → OnOk r (u ≡ with_added t ls k) → unsigned_abs k ≤ 1000
    → OnOk r (terms_total u.terms ≤ terms_total t.terms + 1000)
total_after (Ok x) t u ls k added small =
    omega (arith, ap (λ (s : TableContent). terms_total s.terms) added, terms_total-with_addition t.terms ls k)
total_after (Err x) t u ls k added small = tt

pub size_after : {T E : Type 0} (r : Result T E) (t u : TableContent) (ls : List Literal) (k : ℤ)
    → OnOk r (u ≡ with_added t ls k) → length ls ≤ 5
    → OnOk r (terms_size u.terms ≤ terms_size t.terms + 25)
size_after (Ok x) t u ls k added few =
    omega (
      arith,
      ap (λ (s : TableContent). terms_size s.terms) added,
      terms_size-with_addition t.terms ls k,
      set_size-few ls few,
    )
size_after (Err x) t u ls k added few = tt
