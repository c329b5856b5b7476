-- Clauses of at most three literals and of small weights pass no limit: their normal form has no
-- more clauses, no more literals in one, and no greater weights.
use Rattle.sample_text.proofs.Common.{nat_tests, ◌≡◌, ℕ, suc, ◌+◌, ◌*◌, ◌-◌, ◌≤◌, ◌^◌, List, [], ◌∷◌, length, map, fold, max, None, ℤ, pos, ◌+ℤ◌, unsigned_abs, arith, append-nil, AllByRecursion, sum_by, flat_map, pow-le-pow_left, pow_mono, ints, mul-le, All-from_recursion, sum_by-append, sum_by-le, count_by-le-length, total_by, size-plus, all_append, Literal, Clause, Normal, with_literal, literal_set, ProblemContent, soft_weight, kept_clause, clause_constant, normal_form, blank, with_variables, degree, clause_complements, negations, clause_pairs, pairs, weight, limit_fault, kept_clause-size}
use Rattle.problem_form.specs.declared.limits.Normal.TheVariants as normals

-- ---- what is kept of a clause

-- at most three literals
abbrev pub IsShort : Clause → Type 0
IsShort c = length c.literals ≤ 3

-- at most three literals, and a weight of at most 1,000,010
pub record IsSmall (c : Clause) : Type 0 where
  pub short : length c.literals ≤ 3
  pub light : soft_weight c ≤ 1000010

length-with_literal : (l : Literal) (ks : List Literal)
    → length (with_literal l ks) ≤ suc (length ks)
length-with_literal l [] = omega arith
length-with_literal l (k ∷ ks) = grind (arith, nat_tests, length-with_literal l ks)

length-literal_set : (ls : List Literal) → length (literal_set ls) ≤ length ls
length-literal_set [] = omega arith
length-literal_set (l ∷ ls) = grind (arith, nat_tests, length-literal_set ls, length-with_literal)

kept_short : (c : Clause) → IsShort c → AllByRecursion IsShort (kept_clause c)
kept_short c h = grind (arith, nat_tests, length-literal_set)

-- ---- what is kept of clauses

all_kept_short : (cs : List Clause) → AllByRecursion IsSmall cs
    → AllByRecursion IsShort (flat_map kept_clause cs)
all_kept_short [] h = tt
all_kept_short (c ∷ cs) h = grind (arith, nat_tests, all_kept_short cs h.1, all_append, kept_short)

kept_count : (cs : List Clause) → length (flat_map kept_clause cs) ≤ length cs
kept_count [] = omega arith
kept_count (c ∷ cs) = grind (arith, nat_tests, kept_count cs)

kept_weight : (cs : List Clause) → AllByRecursion IsSmall cs
    → unsigned_abs (total_by clause_constant cs) + sum_by soft_weight (flat_map kept_clause cs)
    ≤ 1000010 * length cs
kept_weight [] h = omega arith
kept_weight (c ∷ cs) h =
    omega (arith, size-plus, kept_clause-size, sum_by-append, kept_weight cs h.1)

-- ---- sums and greatest numbers of short clauses

max_within : (f : Clause → ℕ) (most start : ℕ) (cs : List Clause) → start ≤ most
    → AllByRecursion (λ c. f c ≤ most) cs → fold max start (map f cs) ≤ most
max_within f most start [] low h = low
max_within f most start (c ∷ cs) low h =
    max_within f most (max start (f c)) cs (omega (arith, low, h.0)) h.1

complements_within : (c : Clause) → IsShort c → clause_complements c ≤ 3
complements_within c h = grind (arith, nat_tests, count_by-le-length)

all_complements_within : (cs : List Clause) → AllByRecursion IsShort cs
    → AllByRecursion (λ c. clause_complements c ≤ 3) cs
all_complements_within [] h = tt
all_complements_within (c ∷ cs) h = (complements_within c h.0, all_complements_within cs h.1)

square_within : (n : ℕ) → n ≤ 3 → n ^ 2 ≤ 9
square_within n h = grind (arith, nat_tests, pow-le-pow_left)

power_within : (n : ℕ) → n ≤ 3 → 2 ^ n ≤ 8
power_within n h = grind (arith, nat_tests, pow_mono)

pairs_within : (normal : Normal) (c : Clause) → IsShort c → clause_pairs normal c ≤ 72
pairs_within normal c h =
    grind (arith, nat_tests, square_within, mul-le, power_within, complements_within)

all_pairs_within : (normal : Normal) (cs : List Clause) → AllByRecursion IsShort cs
    → AllByRecursion (λ c. clause_pairs normal c ≤ 72) cs
all_pairs_within normal [] h = tt
all_pairs_within normal (c ∷ cs) h = (pairs_within normal c h.0, all_pairs_within normal cs h.1)

-- ---- the counted numbers of clauses alone

-- a problem of clauses alone
abbrev pub of_clauses : ℕ → List Clause → ProblemContent
of_clauses variables cs = record (with_variables blank variables) { clauses = cs }

low_degree : (variables : ℕ) (cs : List Clause) → AllByRecursion IsSmall cs
    → degree (normal_form (of_clauses variables cs)) ≤ 3
low_degree variables cs h = grind (arith, nat_tests, append-nil, max_within, all_kept_short)

few_negations : (normal : Normal) (variables : ℕ) (cs : List Clause) → AllByRecursion IsSmall cs
    → negations normal (normal_form (of_clauses variables cs)) ≤ 3
few_negations normals.Literal variables cs h = omega arith
few_negations normals.Multilinear variables cs h =
    let ks = flat_map kept_clause cs in
    let max = max_within clause_complements 3 0 ks (omega arith)
    (all_complements_within ks (all_kept_short cs h)) in
    omega arith

few_pairs : (normal : Normal) (variables : ℕ) (cs : List Clause) → AllByRecursion IsSmall cs
    → pairs normal (normal_form (of_clauses variables cs)) ≤ 72 * length cs
few_pairs normal variables cs h =
    let ks = flat_map kept_clause cs in
    let each = All-from_recursion (λ c. clause_pairs normal c ≤ 72) ks
    (all_pairs_within normal ks (all_kept_short cs h)) in
    omega (arith, kept_count cs, sum_by-le (clause_pairs normal) 72 ks each)

weight_of_parts : (z : ℤ) (soft count : ℕ) → unsigned_abs z + soft ≤ 100001000000 → count ≤ 100000
    → unsigned_abs (pos 0 +ℤ pos 0 +ℤ z) + (0 + soft) + (0 + soft + 1) * count + 0 ≤ 2 ^ 64 - 1
weight_of_parts z soft count small few = grind (arith, nat_tests, ints)

low_weight : (variables : ℕ) (cs : List Clause) → AllByRecursion IsSmall cs → length cs ≤ 100000
    → weight (normal_form (of_clauses variables cs)) ≤ 2 ^ 64 - 1
low_weight variables cs h few =
    grind (arith, nat_tests, weight_of_parts, kept_weight, kept_count, count_by-le-length)

-- ---- the limits

no_fault : (normal : Normal) (p : ProblemContent) → p.variables ≤ 2 ^ 20 → degree p ≤ 1024
    → negations normal p ≤ 8 → pairs normal p ≤ 2 ^ 24 → weight p ≤ 2 ^ 64 - 1
    → limit_fault normal p ≡ None
no_fault normal p variables degrees complements squares weights = grind (arith, nat_tests)

pub clauses_pass_none : (normal : Normal) (variables : ℕ) (cs : List Clause) → variables ≤ 2 ^ 20
    → length cs ≤ 100000 → AllByRecursion IsSmall cs
    → limit_fault normal (normal_form (of_clauses variables cs)) ≡ None
clauses_pass_none normal variables cs low few h =
    no_fault normal (normal_form (of_clauses variables cs)) low
    (omega (arith, low_degree variables cs h)) (omega (arith, few_negations normal variables cs h))
    (omega (arith, few_pairs normal variables cs h)) (low_weight variables cs h few)
