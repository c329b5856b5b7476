-- What is kept of a hard clause of two literals, and of a number times them.
use Rattle.problem_form.proofs.Common.{◌≡◌, ◌≢◌, ◌<◌, arith, List, [], ◌∷◌, None, pos, ◌+ℤ◌, ◌++◌, nat_tests, Literal, literal_set, has_clash, Clause, All, ints, IsSound, kept_clause, with_clause, ProblemContent, Product, ℤ, sym, ap, ◌∙◌, append-nil, kept_product, clause_constant, with_product, Option, Some, if◌then◌else◌}
use Rattle.problem_form.proofs.KeptClauses.{with_clause-sound}

-- the hard clause of these literals
abbrev pub hard_clause : List Literal → Clause
hard_clause ls = record { literals = ls; weight = None }

-- the hard clause of two literals
abbrev pub pair : Literal → Literal → Clause
pair first second = hard_clause (first ∷ second ∷ [])

-- ---- what is kept

pub kept-alone : (a : Literal) → hard_clause (a ∷ []) ∷ [] ≡ kept_clause (hard_clause (a ∷ []))
kept-alone a = grind (arith, nat_tests)

-- the set of two literals; none where they are opposite
abbrev pub short_set : Literal → Literal → Option (List Literal)
short_set a b = if has_clash (a ∷ b ∷ []) then None else Some (literal_set (a ∷ b ∷ []))

pub kept-two : (a b : Literal) (s : List Literal) → Some s ≡ short_set a b
    → hard_clause s ∷ [] ≡ kept_clause (pair a b)
kept-two a b s same = grind (arith, nat_tests)

pub kept-opposite : (a b : Literal) → None ≡ short_set a b → [] ≡ kept_clause (pair a b)
kept-opposite a b none = grind (arith, nat_tests)

-- ---- what is kept of a product

-- a number times these literals
abbrev pub weighed : List Literal → ℤ → Product
weighed ls k = record { literals = ls; coefficient = k }

pub weighed-none : (k : ℤ) → [] ≡ kept_product (weighed [] k)
weighed-none k = grind (arith, nat_tests)

pub weighed-two : (a b : Literal) (s : List Literal) (k : ℤ) → k ≢ pos 0 → Some s ≡ short_set a b
    → weighed s k ∷ [] ≡ kept_product (weighed (a ∷ b ∷ []) k)
weighed-two a b s k some same = grind (arith, nat_tests, ints)

pub weighed-opposite : (a b : Literal) (k : ℤ) → None ≡ short_set a b
    → [] ≡ kept_product (weighed (a ∷ b ∷ []) k)
weighed-opposite a b k none = grind (arith, nat_tests, ints)

-- ---- a problem with one more product of some literals

-- it has the same constant
pub with_product-some : (p : ProblemContent) (a : Literal) (ls : List Literal) (k : ℤ)
    → with_product p (weighed (a ∷ ls) k)
    ≡ record p { objective = p.objective ++ kept_product (weighed (a ∷ ls) k) }
with_product-some p a ls k =
    let constant : p.constant +ℤ pos 0 ≡ p.constant = grind (arith, ints) in
    (λ i. record p { constant = constant i; objective = p.objective ++ kept_product (weighed (a ∷ ls) k) })

pub with_product-none : (p : ProblemContent) (k : ℤ)
    → with_product p (weighed [] k) ≡ record p { constant = p.constant +ℤ k }
with_product-none p k =
    let kept : p.objective ++ kept_product (weighed [] k) ≡ p.objective =
    ap (λ ts. p.objective ++ ts) (sym (weighed-none k)) ∙ append-nil p.objective in
    (λ i. record p { constant = p.constant +ℤ k; objective = kept i })

-- ---- a problem with one more hard clause

-- it has the same constant
pub with_clause-hard : (p : ProblemContent) (ls : List Literal) → with_clause p (hard_clause ls)
    ≡ record p { clauses = p.clauses ++ kept_clause (hard_clause ls) }
with_clause-hard p ls =
    let constant : p.constant +ℤ clause_constant (hard_clause ls) ≡ p.constant =
    grind (arith, nat_tests, ints) in
    (λ i. record p { constant = constant i; clauses = p.clauses ++ kept_clause (hard_clause ls) })

pub hard_clause-sound : (p : ProblemContent) (ls : List Literal) → IsSound p
    → All (λ l. l.variable < p.variables) ls
    → IsSound (record p { clauses = p.clauses ++ kept_clause (hard_clause ls) })
hard_clause-sound p ls sound within =
    grind (arith, nat_tests, with_clause-hard p ls, with_clause-sound p (hard_clause ls) sound within)
