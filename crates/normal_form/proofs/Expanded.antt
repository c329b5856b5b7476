-- A table, multiplied out: what is gathered fits, term by term, and no complement is left.
use Rattle.normal_form.proofs.Common.{nat_tests, ◌≡◌, ◌+◌, ◌*◌, ◌≤◌, ◌^◌, List, [], ◌∷◌, sym, ap, subst, arith, All, recursion_from_All, Literal, Term, terms_total, IsTermSet, TableContent, IsTable, AreAdditions, with_more, complements, ArePlain, plain_terms, contributions, OfSet, All-with_additions, with_more-append, contributions-grow, contributions-sets, contributions-plain, behind, multiplied, expanded, IsMultilinear}
use Rattle.normal_form.proofs.PlainSteps.{behind-nothing, additions_first}

pub AreAdditions-multiplied : (t : TableContent) → IsTable t → All (λ (u : Term). complements u.0
    ≤ 8) t.terms → (terms_total t.terms + 1) * 2 ^ 8 ≤ 2 ^ 124 → AreAdditions (multiplied t)
AreAdditions-multiplied t table few small =
    let most = recursion_from_All (λ (u : Term). complements u.0 ≤ 8) t.terms few in
    let sets = recursion_from_All (OfSet (IsTermSet t.width)) t.terms table.terms.sets in
    record {
      sets = contributions-sets t.width t.terms sets;
      small = omega (arith, small, contributions-grow 8 t.terms most);
    }

pub multilinear-expanded : (t : TableContent) → IsMultilinear (expanded t)
multilinear-expanded t =
    All-with_additions ArePlain (contributions t.terms) (contributions-plain t.terms)

-- ---- term by term

-- the next term can be added, behind nothing
pub next_additions : (now all : TableContent) (list : List Literal) (t : Term) (left rest : List Term)
    → left ≡ t ∷ rest → list ≡ [] → with_more now (contributions left) ≡ all → AreAdditions all
    → AreAdditions (with_more now (behind list (plain_terms t.0 t.1)))
next_additions now all list t left rest e empty whole fits =
    let term = behind-nothing (plain_terms t.0 t.1) in
    rw (empty, term)
    (additions_first now (plain_terms t.0 t.1) (contributions rest) _ (ap contributions e)
    (subst AreAdditions (sym whole) fits))

-- after it, those that are left make up the rest
pub next_whole : (now next all : TableContent) (list : List Literal) (t : Term) (left rest : List Term)
    → left ≡ t ∷ rest → list ≡ [] → with_more now (contributions left) ≡ all
    → next ≡ with_more now (behind list (plain_terms t.0 t.1))
    → with_more next (contributions rest) ≡ all
next_whole now next all list t left rest e empty whole made =
    grind (arith, nat_tests, behind-nothing, with_more-append)
