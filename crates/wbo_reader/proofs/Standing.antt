-- What is read is in normal form, since the literals of each constraint are of the variables that
-- are counted; so the problem that a text is rewritten to stands for the text.
use Rattle.wbo_reader.proofs.Common.{nat_tests, ℕ, ◌≤◌, List, [], ◌∷◌, All, arith, flat_map, AllByRecursion, All-nil, Product, normal_constraint, kept_products-normal, literals_in, widened, constraint_of, AreWithin, widened-append, widened-le, terms_within, compared_within, Soft, IsNormalConstraint, Weighed, all_literals, variables_of, hard_of, soft_of, content_of, ReadingIsNormal, RewritesItsText}
use Rattle.wbo_reader.proofs.Rewritten.{rewrites_its_source}
use Rattle.wbo_reader.proofs.ReadCosts.{reading_keeps_costs_of_text}

-- ---- normal form

wider : (v n : ℕ) (ts : List Product) → v ≤ n → AreWithin v ts → AreWithin n ts
wider v n ts le h = grind (arith, nat_tests)

one_normal : (v n : ℕ) (k : Weighed) → widened v (literals_in k.listed.terms) ≤ n
    → IsNormalConstraint n (normal_constraint (constraint_of k.listed))
one_normal v n k le =
    kept_products-normal n (constraint_of k.listed).products
    (grind (arith, nat_tests, compared_within, wider, terms_within))

all_normal : (v n : ℕ) (ks : List Weighed) → widened v (all_literals ks) ≤ n
    → AllByRecursion (λ (k : Weighed). IsNormalConstraint n (normal_constraint
    (constraint_of k.listed))) ks
all_normal v n [] le = tt
all_normal v n (k ∷ ks) le =
    let u = widened v (literals_in k.listed.terms) in
    let same = widened-append v (literals_in k.listed.terms) (all_literals ks) in (
      one_normal v n k (omega (arith, le, same, widened-le u (all_literals ks))),
      all_normal u n ks (omega (arith, le, same)),
    )

hard_normal : (n : ℕ) (ks : List Weighed)
    → AllByRecursion (λ (k : Weighed). IsNormalConstraint n (normal_constraint
    (constraint_of k.listed))) ks → All (IsNormalConstraint n) (flat_map hard_of ks)
hard_normal n [] h = All-nil (IsNormalConstraint n)
hard_normal n (k ∷ ks) h = grind (arith, nat_tests, hard_normal n ks h.1)

soft_normal : (n : ℕ) (ks : List Weighed)
    → AllByRecursion (λ (k : Weighed). IsNormalConstraint n (normal_constraint
    (constraint_of k.listed))) ks
    → All (λ (s : Soft). IsNormalConstraint n s.constraint) (flat_map soft_of ks)
soft_normal n [] h = All-nil (λ (s : Soft). IsNormalConstraint n s.constraint)
soft_normal n (k ∷ ks) h = grind (arith, nat_tests, soft_normal n ks h.1)

pub content_is_normal : ReadingIsNormal
content_is_normal t =
    let each = all_normal 0 (variables_of t) t.constraints (omega arith) in
    record {
      hard = hard_normal (variables_of t) t.constraints each;
      soft = soft_normal (variables_of t) t.constraints each;
    }

-- ---- the problem stands for the text

pub rewrites_its_text : RewritesItsText
rewrites_its_text t =
    let s = content_of t in
    let r = rewrites_its_source s (content_is_normal t) in
    grind (arith, nat_tests, reading_keeps_costs_of_text)
