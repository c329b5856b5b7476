-- Hard clauses that are added to a problem one after another.
use Rattle.conflict_clauses.proofs.Common.{ints, false, true, cond, append-nil, with_clause, with_cover, hard, cover_lists, is_cover, Constraint, elements, nat_tests, ◌≡◌, ℕ, ◌+◌, ◌<◌, sym, ap, ◌∙◌, arith, List, [], ◌∷◌, ◌++◌, length, map, take, drop, get_or, suc, add-one, append_assoc, drop-cons, map-append, take_more, flat_map-append, Literal, ProblemContent, hard_clauses, pairs_of, alone, with_hard}

hard_clauses-append : (as' bs : List (List Literal))
    → hard_clauses (as' ++ bs) ≡ hard_clauses as' ++ hard_clauses bs
hard_clauses-append as' bs = grind (arith, nat_tests, map-append, flat_map-append)

pub with_hard-append : (p : ProblemContent) (as' bs : List (List Literal))
    → with_hard (with_hard p as') bs ≡ with_hard p (as' ++ bs)
with_hard-append p as' bs =
    λ i. record p {
      clauses = (append_assoc p.clauses (hard_clauses as') (hard_clauses bs)
          ∙ ap (λ cs. p.clauses ++ cs) (sym (hard_clauses-append as' bs))) i;
    }

-- ---- clauses of one literal

-- what is read there does not depend on what stands for none
pub here_again : (ls : List Literal) (i : ℕ) (d : Literal) → i < length ls → get_or ls i d ≡ get_or ls i (get_or ls i d)
here_again ls i d inside = grind (arith, nat_tests, elements)

map-alone : (ls : List Literal) (i : ℕ) (l : Literal) → i < length ls → l ≡ get_or ls i l
    → map alone (take (i + 1) ls) ≡ map alone (take i ls) ++ (l ∷ []) ∷ []
map-alone ls i l h is =
    ap (map alone) (take_more ls i l h ∙ (λ k. take i ls ++ sym is k ∷ []))
    ∙ map-append alone (take i ls) (l ∷ [])

pub each-step : (p q q' : ProblemContent) (ls : List Literal) (i : ℕ) (l : Literal)
    → i < length ls → l ≡ get_or ls i l → q' ≡ with_hard q ((l ∷ []) ∷ [])
    → q ≡ with_hard p (map alone (take i ls)) → q' ≡ with_hard p (map alone (take (i + 1) ls))
each-step p q q' ls i l h is added before =
    added ∙ (λ k. with_hard (before k) ((l ∷ []) ∷ []))
    ∙ with_hard-append p (map alone (take i ls)) ((l ∷ []) ∷ []) ∙ (λ k. with_hard p (sym (map-alone ls i l h is) k))

-- ---- clauses of two

-- lists with one more literal in front
abbrev pub fronted : Literal → List (List Literal) → List (List Literal)
fronted l lists = map (λ ls. l ∷ ls) lists

pub pairs_with-step : (p q q' : ProblemContent) (f : Literal) (ls : List Literal) (i : ℕ) (l : Literal)
    → i < length ls → l ≡ get_or ls i l → q' ≡ with_hard q ((f ∷ l ∷ []) ∷ [])
    → q ≡ with_hard p (fronted f (map alone (take i ls)))
    → q' ≡ with_hard p (fronted f (map alone (take (i + 1) ls)))
pairs_with-step p q q' f ls i l h is added before =
    let longer : fronted f (map alone (take (i + 1) ls))
    ≡ fronted f (map alone (take i ls)) ++ (f ∷ l ∷ []) ∷ [] =
    ap (fronted f) (map-alone ls i l h is)
    ∙ map-append (λ (m : List Literal). f ∷ m) (map alone (take i ls)) ((l ∷ []) ∷ []) in
    added ∙ (λ k. with_hard (before k) ((f ∷ l ∷ []) ∷ []))
    ∙ with_hard-append p (fronted f (map alone (take i ls))) ((f ∷ l ∷ []) ∷ [])
    ∙ (λ k. with_hard p (sym longer k))

pub pairs-step : (q q' : ProblemContent) (ls rest : List Literal) (i : ℕ) (l : Literal)
    → i < length ls → l ≡ get_or ls i l → rest ≡ drop (i + 1) ls
    → q' ≡ with_hard q (fronted l (map alone rest))
    → with_hard q' (pairs_of (map alone (drop (i + 1) ls)))
    ≡ with_hard q (pairs_of (map alone (drop i ls)))
pairs-step q q' ls rest i l h is left added =
    let first : drop i ls ≡ l ∷ drop (i + 1) ls =
    rw (add-one i) (drop-cons ls i l h ∙ (λ k. sym is k ∷ drop (suc i) ls)) in
    let more = map alone (drop (i + 1) ls) in
    (λ k. with_hard ((added ∙ (λ j. with_hard q (fronted l (map alone (left j))))) k) (pairs_of more))
    ∙ with_hard-append q (fronted l more) (pairs_of more)
    ∙ (λ k. with_hard q (pairs_of (map alone (sym first k))))

-- ---- the clause of a cover

-- a hard clause that is added adds nothing to the constant
hard_added : (p : ProblemContent) (ls : List Literal)
    → with_clause p (hard ls) ≡ with_hard p (ls ∷ [])
hard_added p ls = grind (arith, nat_tests, ints, append-nil)

pub cover_added : (p : ProblemContent) (k : Constraint) (ls : List Literal) → is_cover k ≡ true
    → ls ∷ [] ≡ cover_lists k → with_clause p (hard ls) ≡ with_cover p k
cover_added p k ls cover same =
    hard_added p ls ∙ (λ i. with_hard p (same i))
    ∙ (λ i. record p {
      clauses = p.clauses ++ cond (sym cover i) (hard_clauses (cover_lists k)) [];
    })

pub none_added : (p : ProblemContent) (k : Constraint) → is_cover k ≡ false → p ≡ with_cover p k
none_added p k none = λ i. record p {
  clauses = (sym (append-nil p.clauses)
      ∙ (λ j. p.clauses ++ cond (sym none j) (hard_clauses (cover_lists k)) [])) i;
}
