-- Taking in one list of terms after another, and loops that do so.
use Rattle.term_table.proofs.Common.{nat_tests, ints, arith, ◌≡◌, ℤ, List, [], ◌∷◌, ◌++◌, refl, subst, sym, append_assoc, append-nil, Literal, Term, TableContent, with_appended, Fills, HasRoomFor}

-- what was taken in, with what is left, is all
pub record Rest {S : Type 0} (takes : S → List Term → Type 0) (holds : S → TableContent → Type 0) (start now : S) (left all : List Term) : Type 0 where
  pub done : List Term
  pub filled : Fills takes holds start now done
  pub whole : done ++ left ≡ all

-- where terms are taken, there is room for them, with none after them
pub room_own : {S : Type 0} (takes : S → List Term → Type 0) (s : S) (ts : List Term) → takes s ts
    → HasRoomFor takes s ts
room_own takes s ts fits = ([], subst (takes s) (sym (append-nil ts)) fits)

-- where there is room for two lists of terms, there is for the first
pub room_first : {S : Type 0} (takes : S → List Term → Type 0) (s : S) (all ts us : List Term)
    → all ≡ ts ++ us → HasRoomFor takes s all → HasRoomFor takes s ts
room_first takes s all ts us same room = grind (arith, nat_tests, append_assoc)

-- the same terms, in other words
pub room_same : {S : Type 0} (takes : S → List Term → Type 0) (s : S) (ts us : List Term) → ts ≡ us
    → HasRoomFor takes s ts → HasRoomFor takes s us
room_same takes s ts us same room = subst (HasRoomFor takes s) same room

-- and of one term, whose literals and coefficient the code has in other words
pub room_as : {S : Type 0} (takes : S → List Term → Type 0) (s : S) (ls ks : List Literal) (c d : ℤ)
    → ks ≡ ls → d ≡ c → HasRoomFor takes s ((ls, c) ∷ []) → HasRoomFor takes s ((ks, d) ∷ [])
room_as takes s ls ks c d set coefficient room =
    subst (λ (t : Term). HasRoomFor takes s (t ∷ [])) (λ i. (sym set i, sym coefficient i)) room

module _ {S : Type 0} (takes : S → List Term → Type 0) (holds : S → TableContent → Type 0) where
  pub fills_none : (s : S) → Fills takes holds s s []
  fills_none s = grind (arith, nat_tests, append-nil)

  -- one term, whose literals and coefficient the code has in other words
  pub fills_as : (now new : S) (ls ks : List Literal) (c d : ℤ) → ks ≡ ls → d ≡ c
      → ((t : TableContent) → holds now t → holds new (with_appended t ks d)) → ((more : List Term)
      → takes now ((ks, d) ∷ more) → takes new more) → Fills takes holds now new ((ls, c) ∷ [])
  fills_as now new ls ks c d set coefficient held room = grind (arith, nat_tests, ints)

  pub fills_more : (first second third : S) (ts us : List Term) → Fills takes holds first second ts
      → Fills takes holds second third us → Fills takes holds first third (ts ++ us)
  fills_more first second third ts us p q = grind (arith, nat_tests, append_assoc)

  -- the same terms, in other words
  pub fills_same : (old new : S) (ts us : List Term) → ts ≡ us
      → Fills takes holds old new ts → Fills takes holds old new us
  fills_same old new ts us same p = subst (Fills takes holds old new) same p

  -- after the first terms there is room for those after them
  pub room_next : (now new : S) (all ts us : List Term) → all ≡ ts ++ us
      → Fills takes holds now new ts → HasRoomFor takes now all → HasRoomFor takes new us
  room_next now new all ts us same p room = grind (arith, nat_tests, append_assoc)

  -- ---- loops

  pub rest_none : (start : S) (all : List Term) → Rest takes holds start start all all
  rest_none start all = record { done = []; filled = fills_none start; whole = refl }

  pub rest_more : (start now new : S) (left later all ts : List Term) → left ≡ ts ++ later
      → Fills takes holds now new ts → Rest takes holds start now left all
      → Rest takes holds start new later all
  rest_more start now new left later all ts step one before =
      let more = fills_more start now new before.done ts before.filled one in
      record { done = before.done ++ ts; filled = more; whole = grind (arith, append_assoc) }

  pub rest_all : (start now : S) (left all : List Term) → left ≡ []
      → Rest takes holds start now left all → Fills takes holds start now all
  rest_all start now left all none before = grind (arith, nat_tests, fills_same, append-nil)

  -- where there is room for all, there is for what comes next
  pub rest_room : (start now : S) (left later all ts : List Term) → left ≡ ts ++ later
      → Rest takes holds start now left all → HasRoomFor takes start all → HasRoomFor takes now ts
  rest_room start now left later all ts step before room =
      room_first takes now left ts later step
      (room_next start now all before.done left (sym before.whole) before.filled room)
