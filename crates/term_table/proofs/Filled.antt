-- Where a good answer says what was taken in.
use Rattle.term_table.proofs.Common.{nat_tests, ints, arith, ◌≡◌, ℤ, List, [], ◌∷◌, Result, OnOk, Literal, Term, TableContent, with_appended, Fills}

-- one term, whose literals and coefficient the code has in other words
pub fills_if_ok : {S V E : Type 0} (takes : S → List Term → Type 0) (holds : S → TableContent → Type 0) (now new : S)
    (r : Result V E) (ls ks : List Literal) (c d : ℤ) → ks ≡ ls → d ≡ c
    → ((t : TableContent) → holds now t → OnOk r (holds new (with_appended t ks d)))
    → ((more : List Term) → takes now ((ks, d) ∷ more) → OnOk r (takes new more))
    → OnOk r (Fills takes holds now new ((ls, c) ∷ []))
fills_if_ok takes holds now new r ls ks c d is coefficient held room =
    grind (arith, nat_tests, ints)
