-- Two ascending lists of terms, none of them 0, that give each set one coefficient are equal.
--
-- The first set of a list has the coefficient of the first term, and a set below the first has 0.
-- So the first sets are equal, with equal coefficients, and the rest follows.
use Rattle.term_table.proofs.Common.{nat_tests, ◌≡◌, ℕ, arith, sym, ap, ◌∙◌, refl, List, [], ◌∷◌, ℤ, pos, All, IsStrictlySortedBy, is_eq, Ordering, ints, All-head, All-tail, if_so, Literal, Term, set_cmp, coefficient_of, Ascends, AreTerms}
use Rattle.std.specs.declared.cmp.Ordering.TheVariants.{Less, Equal, Greater}
use Rattle.term_table.proofs.SetOrder.{same_set, set_itself}
use Rattle.term_table.proofs.KeptTerms.{IsNonzero, Under, Under-further, greater_back}

-- what the first term gives a set
abbrev given : List Literal → Term → ℤ
given ls t = if_so (is_eq (set_cmp ls t.0)) t.1

pub coefficient_of-under : (ls : List Literal) (ts : List Term) → Under ls ts
    → coefficient_of ls ts ≡ pos 0
coefficient_of-under ls [] under = refl
coefficient_of-under ls (t ∷ ts) under =
    grind (arith, nat_tests, coefficient_of-under ls ts under.1)

pub coefficient_of-first : (t : Term) (ts : List Term) → Under t.0 ts
    → coefficient_of t.0 (t ∷ ts) ≡ t.1
coefficient_of-first t ts under = grind (arith, nat_tests, set_itself, coefficient_of-under)

-- a set that one list begins with, and that is under the other
no_first : (t : Term) (ts us : List Term) → Under t.0 ts → Under t.0 us → All IsNonzero (t ∷ ts)
    → coefficient_of t.0 (t ∷ ts) ≡ coefficient_of t.0 us → ⊥
no_first t ts us a b m same =
    All-head IsNonzero t ts m (sym (coefficient_of-first t ts a) ∙ same ∙ coefficient_of-under t.0 us b)

pub same_terms : (ts us : List Term) → Ascends ts → Ascends us → All IsNonzero ts → All IsNonzero us
    → ((ls : List Literal) → coefficient_of ls ts ≡ coefficient_of ls us) → ts ≡ us
unfolding IsStrictlySortedBy
same_terms [] [] a b m n same = refl
same_terms [] (u ∷ us) a b m n same = absurd (no_first u us [] b.0 tt n (sym (same u.0)))
same_terms (t ∷ ts) [] a b m n same = absurd (no_first t ts [] a.0 tt m (same t.0))
same_terms (t ∷ ts) (u ∷ us) a b m n same =
    go (set_cmp t.0 u.0) refl
    (same_terms ts us a.1 b.1 (All-tail IsNonzero t ts m) (All-tail IsNonzero u us n))
  where
    go : (o : Ordering) → set_cmp t.0 u.0 ≡ o
        → (((ls : List Literal) → coefficient_of ls ts ≡ coefficient_of ls us) → ts ≡ us)
        → (t ∷ ts) ≡ (u ∷ us)
    go Less e rest =
        absurd (no_first t ts (u ∷ us) a.0 (e, Under-further t.0 u.0 us e b.0) m (same t.0))
    go Greater e rest =
        let back = greater_back t.0 u.0 e in
        absurd (no_first u us (t ∷ ts) b.0 (back, Under-further u.0 t.0 ts back a.0) n (sym (same u.0)))
    go Equal e rest =
        let set = same_set t.0 u.0 e in
        let one = coefficient_of-first t ts a.0 in
        let value : t.1 ≡ u.1 = cc (set, one, same t.0, coefficient_of-first u us b.0) in
        let first : t ≡ u = λ i. (set i, value i) in
        let others =
        rest (λ ls. let one : given ls t ≡ given ls u = ap (given ls) first in omega (arith, ints, same ls)) in
        λ i. first i ∷ others i

pub same_tables : (width : ℕ) (ts us : List Term) → AreTerms width ts → AreTerms width us
    → ((ls : List Literal) → coefficient_of ls ts ≡ coefficient_of ls us) → ts ≡ us
same_tables width ts us a b same = same_terms ts us a.ordered b.ordered a.nonzero b.nonzero same
