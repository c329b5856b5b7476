-- What the problem of a text costs: what the text costs, clause by clause.
use Rattle.wcnf_reader.proofs.Common.{nat_tests, ◌≡◌, Bool, false, not, ◌&&◌, ◌||◌, arith, refl, ◌∙◌, List, [], ◌∷◌, map, unwrap_or, ℤ, pos, ◌+ℤ◌, if◌then◌else◌, list_any, ints, total_by, if_so, holds, some_holds, fails_hard, soft_cost, problem_cost, normal_form-cost, ClauseLayout, Listed, Wcnf, is_true, is_satisfied, is_hard, is_broken, unsatisfied_weight, wcnf_cost, literal_of, clause_of, problem_of, ReadingKeepsCosts}
use Rattle.base.specs.declared.costs.Cost.TheVariants.{Whole, Infinite}

holds-literal_of : (x : List Bool) (z : ℤ) → holds x (literal_of z) ≡ is_true x z
holds-literal_of x z = grind (arith, nat_tests, ints)

some_holds-listed : (x : List Bool) (zs : List ℤ)
    → some_holds x (map literal_of zs) ≡ list_any (is_true x) zs
some_holds-listed x [] = refl
some_holds-listed x (z ∷ zs) = λ i. holds-literal_of x z i || some_holds-listed x zs i

fails_hard-clause_of : (layout : ClauseLayout) (x : List Bool) (c : Listed)
    → fails_hard x (clause_of layout c) ≡ is_hard layout c.weight && not (is_satisfied x c)
fails_hard-clause_of layout x c = grind (arith, nat_tests, some_holds-listed x c.literals)

soft_cost-clause_of : (layout : ClauseLayout) (x : List Bool) (c : Listed)
    → soft_cost x (clause_of layout c)
    ≡ if_so (not (is_hard layout c.weight) && not (is_satisfied x c)) (pos (unwrap_or c.weight 0))
soft_cost-clause_of layout x c = grind (arith, nat_tests, some_holds-listed x c.literals)

fails_hard-clauses : (layout : ClauseLayout) (x : List Bool) (cs : List Listed)
    → list_any (fails_hard x) (map (clause_of layout) cs)
    ≡ list_any (λ c. is_hard layout c.weight && not (is_satisfied x c)) cs
fails_hard-clauses layout x [] = refl
fails_hard-clauses layout x (c ∷ cs) =
    λ i. fails_hard-clause_of layout x c i || fails_hard-clauses layout x cs i

soft_cost-clauses : (layout : ClauseLayout) (x : List Bool) (cs : List Listed)
    → total_by (soft_cost x) (map (clause_of layout) cs)
    ≡ total_by (λ c. if_so (not (is_hard layout c.weight) && not (is_satisfied x c)) (pos (unwrap_or c.weight 0))) cs
soft_cost-clauses layout x [] = refl
soft_cost-clauses layout x (c ∷ cs) =
    λ i. soft_cost-clause_of layout x c i +ℤ soft_cost-clauses layout x cs i

or_nothing : (a b : Bool) → a ≡ b → a || false ≡ b
or_nothing a b e = grind (arith, nat_tests)

problem_of-cost : (s : Wcnf) (x : List Bool) → problem_cost (problem_of s) x ≡ wcnf_cost s x
problem_of-cost s x =
    let soft = soft_cost-clauses s.layout x s.clauses in
    let whole :
    pos 0 +ℤ pos 0 +ℤ total_by (soft_cost x) (map (clause_of s.layout) s.clauses) ≡ unsatisfied_weight s x =
    omega (arith, ints, soft) in
    let broken = or_nothing (list_any (fails_hard x) (map (clause_of s.layout) s.clauses))
    (is_broken s x) (fails_hard-clauses s.layout x s.clauses) in
    λ i. if broken i then Infinite else Whole (whole i)

pub reading_keeps_costs : ReadingKeepsCosts
reading_keeps_costs s x = normal_form-cost (problem_of s) x ∙ problem_of-cost s x
