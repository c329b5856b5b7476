-- A problem with the costs of a source stands for the source, and texts that are read into such a
-- problem.
use Rattle.source_texts.proofs.Common.{nat_tests, ◌≡◌, false, None, Ok, Err, Result, refl, ◌∙◌, subst, arith, ints, take_all, length-replicate, Form, Source, Rewrites, HasSameCosts, rewritten_by, IsGlobal, TextFault, TextAnswer, Gives, MatchResult, ◌>>=◌, ProblemContent, own_cost, upper, Read, CostsAs, PlainOwnsAll, RelaxesStoodFor, StaysStoodFor, StandsBounded}
use Rattle.problem_form.specs.Problems as problems
use Rattle.source_texts.proofs.Bounded.{rewritten_stand}

-- what a problem says, whatever the most is
abbrev own_form : ProblemContent → Form
own_form p = record { bits = p.variables; cost = own_cost p }

-- forms with as many bits and the same costs rewrite each other
pub same_costs_rewrite : (f f' : Form) → HasSameCosts f' f → Rewrites f f'
same_costs_rewrite f f' same = record {
  more = omega (arith, same.width);
  bound = λ x w v whole. (v, grind (arith, nat_tests, take_all), grind (arith, ints));
  reached = λ x w v whole. grind (arith, nat_tests, take_all);
}

-- a problem without a most has its own costs
without_most : (s : Source) (r : Read) → HasSameCosts (own_form r.problem) s.form
    → r.problem.most ≡ None → HasSameCosts (problems.form_of r.problem) s.form
without_most s r same none =
    record { width = same.width; costs = λ x. grind (arith, nat_tests, same.costs) }

-- a problem with the costs of a source, and its upper bound, stands for it
pub same_costs_stand : (s : Source) (r : Read) → HasSameCosts (own_form r.problem) s.form
    → r.variables ≡ r.problem.variables → upper r.problem ≡ s.upper → r.problem.most ≡ None
    → IsGlobal r.problem → StandsBounded s r
same_costs_stand s r same all bound none alike =
    rewritten_stand s r (all ∙ same.width) bound alike
    (same_costs_rewrite s.form (problems.form_of r.problem) (without_most s r same none))

pub relaxes_stood_for : RelaxesStoodFor
relaxes_stood_for scope s r stands g d u n relaxes =
    rewritten_by scope s.form (problems.form_of r.problem) g d u n stands.rewrites relaxes

-- a problem with the costs of a source costs what it does, where nothing is carried
pub same_costs : (s : Source) (r : Read) → HasSameCosts (own_form r.problem) s.form
    → r.variables ≡ r.problem.variables → r.soft ≡ None → r.problem.most ≡ None → CostsAs None s r
same_costs s r same all none unbounded = grind (arith, nat_tests, take_all)

-- the assignment of zeros has as many bits as the source, and is carried to itself
pub plain_owns_all : PlainOwnsAll
plain_owns_all most s r costs none = grind (arith, nat_tests, length-replicate s.form.bits false)

pub stays_stood_for : StaysStoodFor
stays_stood_for most s r costs none g d u n wide stays =
    let all = plain_owns_all most s r costs none in
    record {
      bound = λ y w v whole. stays.bound y w v (grind (arith, nat_tests, take_all));
    }

-- ---- words that say something, which is read into a problem

module _ {S : Type 0} (form : S → Form) (kept : S → Read) where
  -- the source that is said
  abbrev pub source_by : S → Source
  source_by s = record { form = form s; upper = upper (kept s).problem }

  -- what is said is read into a problem that stands for its source, and costs what it does
  pub record AreRead : Type 0 where
    pub stands : (s : S) → StandsBounded (source_by s) (kept s)
    pub costs : (s : S) → CostsAs None (source_by s) (kept s)

  pub read_alike : ((s : S) → HasSameCosts (own_form (kept s).problem) (form s))
      → ((s : S) → ((kept s).variables ≡ (kept s).problem.variables) × ((kept s).soft ≡ None)
      × ((kept s).problem.most ≡ None) × IsGlobal (kept s).problem) → AreRead
  read_alike same all = record {
    stands = λ s. same_costs_stand _ (kept s) (same s) (all s).0 refl (all s).2 (all s).3;
    costs = λ s. same_costs _ (kept s) (same s) (all s).0 (all s).1 (all s).2;
  }

  pub read_stands : (said : Result S TextFault) (r : Read) → AreRead
      → (said >>= λ s. Ok (kept s)) ≡ Ok r
      → (t : Source) × (((said >>= λ s. Ok (form s)) >>= λ f. (said >>= λ s. Ok (kept s))
      >>= λ r. Ok (record { form = f; upper = upper r.problem })) ≡ Ok t) × StandsBounded t r
  read_stands (Err fault) r h e = absurd cc
  read_stands (Ok s) r h e =
      let same : kept s ≡ r = cc in
      (source_by s, refl, subst (StandsBounded (source_by s)) same (h.stands s))

  pub read_costs : (said : Result S TextFault) (r : Read) (t : Source) → AreRead
      → (said >>= λ s. Ok (kept s)) ≡ Ok r
      → ((said >>= λ s. Ok (form s)) >>= λ f. (said >>= λ s. Ok (kept s))
      >>= λ r. Ok (record { form = f; upper = upper r.problem })) ≡ Ok t → CostsAs None t r
  read_costs said r t h e says = grind (arith, nat_tests)

-- what is read is kept as something else
pub kept_as : {S P R : Type 0} (said : Result S TextFault) (problem : S → P) (kept : P → R)
    → (said >>= λ s. Ok (kept (problem s))) ≡ ((said >>= λ s. Ok (problem s)) >>= λ p. Ok (kept p))
kept_as said problem kept = grind (arith, nat_tests)

-- what is read is kept as something else, or its fault is kept
pub given : {P R : Type 0} (kept : P → R) (read : Result P TextAnswer) (made : Result R TextAnswer) (said : Result P TextFault)
    → MatchResult read (λ p. made ≡ Ok (kept p)) (λ e. made ≡ Err e) → Gives (λ p. p) read said
    → Gives (λ r. r) made (said >>= λ p. Ok (kept p))
given kept (Ok p) made said is g = rw (is, g) refl
given kept (Err e) made said is g = grind (arith, nat_tests)
