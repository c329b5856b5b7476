-- What a term of at most six literals adds to the size of a table.
use Rattle.std.proofs.Common.{◌≡◌, ◌+◌, ◌≤◌, ℤ, List, [], ◌∷◌, length, arith, ap, Result, Ok, Err, OnOk}
use Rattle.literal_lists.specs.declared.literal.Literal.{Literal}
use Rattle.term_table.specs.Terms.{set_size, terms_size}
use Rattle.term_table.specs.Tables.{TableContent, with_added}
use Rattle.term_table.proofs.Additions.{terms_size-with_addition}

set_size-six : (ls : List Literal) → length ls ≤ 6 → set_size ls ≤ 36
set_size-six [] few = omega arith
set_size-six (a ∷ []) few = omega arith
set_size-six (a ∷ b ∷ []) few = omega arith
set_size-six (a ∷ b ∷ c ∷ []) few = omega arith
set_size-six (a ∷ b ∷ c ∷ d ∷ []) few = omega arith
set_size-six (a ∷ b ∷ c ∷ d ∷ e ∷ []) few = omega arith
set_size-six (a ∷ b ∷ c ∷ d ∷ e ∷ f ∷ []) few = omega arith
set_size-six (a ∷ b ∷ c ∷ d ∷ e ∷ f ∷ g ∷ ls) few = absurd (omega arith)

pub size_after_six : {T E : Type 0} (r : Result T E) (t u : TableContent) (ls : List Literal) (k : ℤ)
    → OnOk r (u ≡ with_added t ls k) → length ls ≤ 6
    → OnOk r (terms_size u.terms ≤ terms_size t.terms + 36)
size_after_six (Ok x) t u ls k added few =
    omega (
      arith,
      ap (λ (s : TableContent). terms_size s.terms) added,
      terms_size-with_addition t.terms ls k,
      set_size-six ls few,
    )
size_after_six (Err x) t u ls k added few = tt
