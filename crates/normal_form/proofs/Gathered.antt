-- Terms that are multiplied out as they come.
use Rattle.normal_form.proofs.Common.{nat_tests, ints, arith, ◌≡◌, ℕ, ◌≤◌, ℤ, List, [], ◌∷◌, ◌++◌, length, take, refl, subst, sym, ap, ◌∙◌, append-nil, take_all, flat_map-append, Literal, Term, TableContent, with_appended, with_more, ArePlain, plain_terms, contributions, HasRoomFor, Fills, behind, multiplied}
use Rattle.normal_form.proofs.PlainSteps.{behind-nothing, last_terms}

behind-empty : (list : List Literal) (ts : List Term) → list ≡ [] → behind list ts ≡ ts
behind-empty list ts empty = ap (λ fs. behind fs ts) empty ∙ behind-nothing ts

-- a term without complements is multiplied out already
plain_alone : (ls : List Literal) (n : ℕ) (c : ℤ) → length ls ≤ n → ArePlain (take n ls)
    → plain_terms ls c ≡ (ls, c) ∷ []
plain_alone ls n c short none =
    sym (behind-nothing (plain_terms ls c)) ∙ last_terms [] ls n c short none
    ∙ ap (λ ks. (ks, c) ∷ []) (take_all n ls short)

-- where there is room for what terms are multiplied out to, there is for the first
pub room-multiplied : {S : Type 0} (takes : S → List Term → Type 0) (s : S) (list ls : List Literal) (c : ℤ) (more : List Term)
    → list ≡ [] → takes s (contributions ((ls, c) ∷ more)) → HasRoomFor takes s (behind list (plain_terms ls c))
room-multiplied takes s list ls c more empty room =
    (contributions more, subst (λ ts. takes s (ts ++ contributions more)) (sym (behind-empty list (plain_terms ls c) empty)) room)

-- what is multiplied out, and one more
pub multiplied-appended : (t : TableContent) (list ls : List Literal) (c : ℤ) → list ≡ []
    → with_more (multiplied t) (behind list (plain_terms ls c)) ≡ multiplied (with_appended t ls c)
multiplied-appended t list ls c empty =
    grind (arith, nat_tests, ints, behind-empty, append-nil, flat_map-append)

-- what was gathered elsewhere is the term, multiplied out
module _ {S : Type 0} (takes : S → List Term → Type 0) (holds : S → TableContent → Type 0) (old new : S)
    (list ls : List Literal) (c : ℤ) (empty : list ≡ []) (fills : Fills takes holds old new (behind list (plain_terms ls c))) where
  pub held-multiplied : (t : TableContent) → holds old (multiplied t) → holds new (multiplied (with_appended t ls c))
  held-multiplied t held = subst (holds new) (multiplied-appended t list ls c empty) (fills.held (multiplied t) held)

  pub takes-multiplied : (more : List Term) → takes old (contributions ((ls, c) ∷ more)) → takes new (contributions more)
  takes-multiplied more room = grind (arith, nat_tests, behind-empty)

-- a term without complements was gathered elsewhere
module _ {S : Type 0} (takes : S → List Term → Type 0) (holds : S → TableContent → Type 0)
    (ls : List Literal) (n : ℕ) (c : ℤ) (short : length ls ≤ n) (none : ArePlain (take n ls)) where
  pub room-alone : (s : S) (more : List Term) → takes s (contributions ((ls, c) ∷ more)) → HasRoomFor takes s ((ls, c) ∷ [])
  room-alone s more room =
      (contributions more, subst (λ ts. takes s (ts ++ contributions more)) (plain_alone ls n c short none) room)

  pub held-alone : (old new : S) → ((t : TableContent) → holds old t → holds new (with_appended t ls c))
      → (t : TableContent) → holds old (multiplied t) → holds new (multiplied (with_appended t ls c))
  held-alone old new held t before =
      let same = plain_alone ls n c short none in
      rw (← multiplied-appended t [] ls c refl, behind-nothing, same) (held (multiplied t) before)

  pub takes-alone : (old new : S) → ((more : List Term) → takes old ((ls, c) ∷ more) → takes new more)
      → (more : List Term) → takes old (contributions ((ls, c) ∷ more)) → takes new (contributions more)
  takes-alone old new takes_more more room = grind (arith, nat_tests, plain_alone ls n c short none)
