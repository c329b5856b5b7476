-- What stands for a source stands for it still where assignments of both may cost at most the same.
use Rattle.source_texts.proofs.Common.{nat_tests, ◌≡◌, ℤ, None, Option, arith, subst, sym, Cost, Form, Source, Rewrites, ProblemContent, IsGlobal, cut_off, own_cost, lesser_of, upper, with_most, lesser_most, Read, bounded_read, StandsBounded, CostsAs}
use Rattle.problem_form.specs.Problems as problems
use Rattle.source_texts.specs.Prepared.{bounded_form}

-- ---- the lesser of two bounds

cut_off-lesser : (most own : Option ℤ) (c : Cost)
    → cut_off (lesser_most most own) c ≡ cut_off most (cut_off own c)
cut_off-lesser most own c = grind (arith, nat_tests)

lesser_of-lesser : (most own : Option ℤ) (u : ℤ)
    → lesser_of (lesser_most most own) u ≡ lesser_of most (lesser_of own u)
lesser_of-lesser most own u = grind (arith, nat_tests)

-- ---- forms

rewrites_cut : (most : Option ℤ) (f f' : Form) → Rewrites f f' → Rewrites (bounded_form most f) (bounded_form most f')
rewrites_cut most f f' r = record {
  more = r.more;
  bound = λ x w v whole. grind (arith, nat_tests);
  reached = λ x w v whole. grind (arith, nat_tests);
}

-- a problem whose costs are cut off twice
pub cut_twice : (most : Option ℤ) (p : ProblemContent) → bounded_form most (problems.form_of p)
    ≡ problems.form_of (with_most p (lesser_most most p.most))
cut_twice most p = λ i. record {
  bits = p.variables;
  cost = λ x. sym (cut_off-lesser most p.most (own_cost p x)) i;
}

-- ---- sources

-- a problem that is what a source is rewritten to stands for it, and has its upper bound
pub rewritten_stand : (s : Source) (r : Read) → r.variables ≡ s.form.bits
    → upper r.problem ≡ s.upper → IsGlobal r.problem → Rewrites s.form (problems.form_of r.problem)
    → StandsBounded s r
rewritten_stand s r variables bound alike rewrites most = record {
  variables = variables;
  own = omega (arith, variables, rewrites.more);
  upper = grind (arith, nat_tests, lesser_of-lesser);
  rewrites = subst (Rewrites (bounded_form most s.form)) (cut_twice most r.problem)
      (rewrites_cut most s.form (problems.form_of r.problem) rewrites);
  penalties = alike;
}

-- its own costs do not ask for the most
pub costs_bounded : (s : Source) (r : Read) (most : Option ℤ) → CostsAs None s r
    → CostsAs most s (bounded_read most r)
costs_bounded s r most costs = record {
  own = costs.own;
  width = costs.width;
  begins = costs.begins;
  same = costs.same;
  told = λ x w. grind (arith, nat_tests, cut_off-lesser);
  carries = λ x w. grind (arith, nat_tests, cut_off-lesser);
  plain = costs.plain;
  plain_most = λ none. grind (arith, nat_tests);
}
