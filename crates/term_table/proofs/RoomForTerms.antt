-- Where terms are kept as they come, there is room for those with which they are additions.
use Rattle.term_table.proofs.Common.{nat_tests, ◌≡◌, ℕ, ◌+◌, ◌≤◌, ◌^◌, unsigned_abs, ℤ, List, [], ◌∷◌, ◌++◌, subst, sym, append_assoc, arith, AllByRecursion, recursion_from_All, Literal, HasRoomFor, Term, terms_total, IsTermSet, TableContent, AreAdditions, with_appended, with_more}
use Rattle.term_table.proofs.Additions.{terms_total-append, terms_total-cons}
use Rattle.term_table.proofs.Filling.{room_own}
use Rattle.term_table.proofs.KeptTerms.{OfSet}

-- the first of those after others
pub first_after : (P : Term → Type 0) (ts : List Term) (u : Term) (us : List Term)
    → AllByRecursion P (ts ++ u ∷ us) → P u
first_after P [] u us all = all.0
first_after P (t ∷ ts) u us all = first_after P ts u us all.1

module _ (t : TableContent) (ls : List Literal) (c : ℤ) (more : List Term)
    (fits : AreAdditions (with_more t ((ls, c) ∷ more))) where
  -- the next one is over the variables
  pub next_set : IsTermSet t.width ls
  next_set =
      let P = OfSet (IsTermSet t.width) in
      first_after P t.terms (ls, c) more (recursion_from_All P (t.terms ++ (ls, c) ∷ more) fits.sets)

  -- it is small
  pub next_small : terms_total t.terms + unsigned_abs c ≤ 2 ^ 124
  next_small = omega (arith, terms_total-append, terms_total-cons)

  -- and after it there is room for the others
  pub next_room : (new : TableContent) → new ≡ with_appended t ls c → AreAdditions (with_more new more)
  next_room new made = grind (arith, nat_tests, append_assoc)

-- there is room for all additions of a table that has none yet
pub room-additions : (width : ℕ) (ts : List Term) (t : TableContent)
    → AreAdditions (record { width = width; terms = ts }) → t ≡ record { width = width; terms = [] }
    → HasRoomFor (λ (s : TableContent) (us : List Term). AreAdditions (with_more s us)) t ts
room-additions width ts t additions made =
    let Takes : TableContent → List Term → Type 0 = λ s us. AreAdditions (with_more s us) in
    room_own Takes t ts (subst (λ (s : TableContent). Takes s ts) (sym made) additions)
