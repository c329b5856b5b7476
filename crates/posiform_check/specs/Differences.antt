-- The first difference of two forms.
use Rattle.std.specs.Prelude.{◌≡◌, ◌≢◌, ℤ, pos, List, [], ◌∷◌, Option, Some, None, if◌then◌else◌}
use Rattle.std.specs.Borrow.{Bor}
use Rattle.std.specs.Ordering.{int_eq, match_ordering}
use Rattle.std.specs.declared.cmp.Ordering.TheVariants.{Less}
use Rattle.literal_lists.specs.declared.literal.Literal.{Literal}
use Rattle.term_table.specs.Terms.{Term, set_cmp, coefficient_of}

-- the two forms differ in the set, and in none that stands before it in table order
pub record IsFirstDifference (ts us : List Term) (set : List Literal) : Type 0 where
  pub differs : coefficient_of set ts ≢ coefficient_of set us
  pub first : (other : List Literal) → set_cmp other set ≡ Less
      → coefficient_of other ts ≡ coefficient_of other us

-- the coefficients of the first set in which two forms differ
abbrev pub DifferAt : List Term → List Term → ℤ → ℤ → Type 0
DifferAt ts us a b = (set : List Literal) × IsFirstDifference ts us set
    × (coefficient_of set ts ≡ a) × (coefficient_of set us ≡ b)

-- ---- of ascending lists without zeros

-- the coefficients of the first set that is not in both, or differs
abbrev pub difference : List Term → List Term → Option (ℤ × ℤ)
difference [] [] = None
difference [] (u ∷ us) = Some (pos 0, u.1)
difference (t ∷ ts) [] = Some (t.1, pos 0)
difference (t ∷ ts) (u ∷ us) =
    match_ordering (set_cmp t.0 u.0)
    (Some (t.1, pos 0))
    (if int_eq t.1 u.1 then difference ts us else Some (t.1, u.1))
    (Some (pos 0, u.1))

-- a term whose literals are lent
abbrev pub lent_term : Bor (List Literal) × ℤ → Term
lent_term t = (t.0.now, t.1)

-- a term that was taken of a list, before those that are left; none, where there was none to take
abbrev pub behind_next : Option Term → List Term → List Term
behind_next None ts = []
behind_next (Some t) ts = t ∷ ts

-- what was found, or what is found later
abbrev pub found_or : Option (ℤ × ℤ) → Option (ℤ × ℤ) → Option (ℤ × ℤ)
found_or None later = later
found_or (Some found) later = Some found
