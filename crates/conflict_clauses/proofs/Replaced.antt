-- The problem without its conflicts and covers costs the same; and what the steps of the replacement make.
use Rattle.conflict_clauses.proofs.Common.{Bool, Constraint, CostsAlike, List, ProblemContent, Some, [], add-one, and_parts, ap, append_assoc, arith, clauses_from, clauses_of, cond, constraints_from, cover_lists, cut_off, drop, fails, fails_hard, false, hard_clauses, ints, is_conflict, is_cover, is_left, is_replaced, leb, length, lesser_of, list_any, list_any-append, marked, most_pairs, nat_tests, not, or-false, or_assoc, own_upper, pairs, pos, positive_total, products_total, refl, slice_get, soft_cost, soft_weight, spent_after, staying, suc, sum_by, sum_by-append, sum_of, sym, total_by, total_by-append, true, wanted_lists, with_clauses_from, with_clauses_of, with_conflict, with_cover, with_marked, without, without_conflicts, without_covers, zero, ℕ, ◌&&◌, ◌++◌, ◌+ℤ◌, ◌+◌, ◌<◌, ◌||◌, ◌∙◌, ◌∷◌, ◌≡◌}
use Rattle.base.specs.declared.costs.Cost.TheVariants.{Infinite, Whole}
use Rattle.conflict_clauses.proofs.Lists.{or-swap}
use Rattle.conflict_clauses.proofs.Giving.{cover-fails}
use Rattle.conflict_clauses.proofs.Missing.{conflict-fails, hard-costs, hard-weights}

-- ---- what fails

fails-alike : (x : List Bool) (covers : Bool) (spent : ℕ) (ks : List Constraint)
    → (list_any (fails_hard x) (clauses_from covers spent ks)
    || list_any (fails x) (constraints_from covers spent ks)) ≡ list_any (fails x) ks
fails-alike x covers spent [] = refl
fails-alike x covers spent (k ∷ ks) =
    let cs = clauses_from covers (spent_after spent k) ks in
    let rest = constraints_from covers (spent_after spent k) ks in
    (λ i. list_any-append (fails_hard x) (clauses_of covers spent k) cs i
    || list_any-append (fails x) (cond (is_left covers spent k) (k ∷ []) []) rest i)
    ∙ go (is_replaced spent k) (covers && is_cover k) refl refl (list_any (fails_hard x) cs) (list_any (fails x) rest)
    ∙ ap (λ b. fails x k || b) (fails-alike x covers (spent_after spent k) ks)
  where
    go : (b d : Bool) → is_replaced spent k ≡ b → (covers && is_cover k) ≡ d → (f g : Bool)
        → ((list_any (fails_hard x) (cond b (hard_clauses (wanted_lists k))
        (cond d (hard_clauses (cover_lists k)) [])) || f)
        || (list_any (fails x) (cond (not (b || d)) (k ∷ []) []) || g)) ≡ (fails x k || (f || g))
    go true d e h f g =
        let conflict = (and_parts (is_conflict k) (leb (spent + pairs k) most_pairs) e).0 in
        (λ i. (conflict-fails x k conflict i || f) || g) ∙ or_assoc (fails x k) f g
    go false true e h f g =
        let cover = (and_parts covers (is_cover k) h).1 in
        (λ i. (cover-fails x k cover i || f) || g) ∙ or_assoc (fails x k) f g
    go false false e h f g = (λ i. f || (or-false (fails x k) i || g)) ∙ or-swap f (fails x k) g

-- ---- what is added

of-costs : (x : List Bool) (covers : Bool) (spent : ℕ) (k : Constraint)
    → total_by (soft_cost x) (clauses_of covers spent k) ≡ pos 0
of-costs x covers spent k =
    grind (arith, nat_tests, hard-costs x (wanted_lists k), hard-costs x (cover_lists k))

from-costs : (x : List Bool) (covers : Bool) (spent : ℕ) (ks : List Constraint)
    → total_by (soft_cost x) (clauses_from covers spent ks) ≡ pos 0
from-costs x covers spent [] = refl
from-costs x covers spent (k ∷ ks) =
    let rest = from-costs x covers (spent_after spent k) ks in
    let both = total_by-append (soft_cost x) (clauses_of covers spent k)
    (clauses_from covers (spent_after spent k) ks) in
    let here = of-costs x covers spent k in
    grind (arith, nat_tests, ints)

of-weights : (covers : Bool) (spent : ℕ) (k : Constraint)
    → sum_by soft_weight (clauses_of covers spent k) ≡ 0
of-weights covers spent k =
    grind (arith, nat_tests, hard-weights (wanted_lists k), hard-weights (cover_lists k))

from-weights : (covers : Bool) (spent : ℕ) (ks : List Constraint)
    → sum_by soft_weight (clauses_from covers spent ks) ≡ 0
from-weights covers spent [] = refl
from-weights covers spent (k ∷ ks) =
    let rest = from-weights covers (spent_after spent k) ks in
    let both = sum_by-append soft_weight (clauses_of covers spent k)
    (clauses_from covers (spent_after spent k) ks) in
    let here = of-weights covers spent k in
    grind (arith, nat_tests)

-- ---- the whole

costs-alike : (covers : Bool) (p : ProblemContent) → CostsAlike (without covers p) p
costs-alike covers p = record {
  variables = refl;
  most = refl;
  size = ap (λ n. products_total p.objective + n) weights;
  own_upper = own;
  upper = ap (lesser_of p.most) own;
  costs = λ x. ap (cut_off p.most) (λ i.
      cond (fail x i) Infinite (Whole (p.constant +ℤ sum_of x p.objective +ℤ soft x i)));
}
  where
    weights : sum_by soft_weight (without covers p).clauses ≡ sum_by soft_weight p.clauses
    weights =
        let sum = sum_by-append soft_weight p.clauses (clauses_from covers 0 p.constraints) in
        omega (arith, from-weights covers 0 p.constraints)

    own : own_upper (without covers p) ≡ own_upper p
    own = ap (λ n. p.constant +ℤ pos (positive_total p.objective + n)) weights

    soft : (x : List Bool)
        → total_by (soft_cost x) (without covers p).clauses ≡ total_by (soft_cost x) p.clauses
    soft x =
        let total = total_by-append (soft_cost x) p.clauses (clauses_from covers 0 p.constraints) in
        omega (arith, ints, from-costs x covers 0 p.constraints)

    fail : (x : List Bool) → (list_any (fails_hard x) (without covers p).clauses
        || list_any (fails x) (without covers p).constraints)
        ≡ (list_any (fails_hard x) p.clauses || list_any (fails x) p.constraints)
    fail x =
        let all = list_any-append (fails_hard x) p.clauses (clauses_from covers 0 p.constraints) in
        let alike = fails-alike x covers 0 p.constraints in
        grind (arith, nat_tests)

pub without-alike : (p : ProblemContent) → CostsAlike (without_conflicts p) p
without-alike = costs-alike false

pub covers-alike : (p : ProblemContent) → CostsAlike (without_covers p) p
covers-alike = costs-alike true

-- ---- one constraint after another

pub clauses_from-step : (covers : Bool) (p : ProblemContent) (spent : ℕ) (k : Constraint)
    (ks : List Constraint)
    → with_clauses_from covers (with_clauses_of covers p spent k) (spent_after spent k) ks
    ≡ with_clauses_from covers p spent (k ∷ ks)
clauses_from-step covers p spent k ks =
    λ i. record p {
      clauses = append_assoc p.clauses (clauses_of covers spent k)
          (clauses_from covers (spent_after spent k) ks) i;
    }

pub kept-step : (covers : Bool) (kept kept' : List Bool) (here : Bool) (spent : ℕ) (k : Constraint)
    (ks : List Constraint) → kept' ≡ kept ++ here ∷ [] → here ≡ is_left covers spent k
    → kept' ++ staying covers (spent_after spent k) ks ≡ kept ++ staying covers spent (k ∷ ks)
kept-step covers kept kept' here spent k ks pushed is = grind (arith, nat_tests, append_assoc)

-- the element at a place is the first that is left there
pub record Place {A : Type 0} (xs : List A) (i : ℕ) : Type 0 where
  pub element : A
  pub at : slice_get xs i ≡ Some element
  pub left : drop i xs ≡ element ∷ drop (i + 1) xs

pub place : {A : Type 0} (xs : List A) (i : ℕ) → i < length xs → Place xs i
place [] i h = absurd (omega (arith, h))
place (x ∷ xs) zero h = record { element = x; at = refl; left = refl }
place (x ∷ xs) (suc i) h =
    let rest = place xs i (omega (arith, h)) in
    record { element = rest.element; at = rest.at; left = rw (add-one (suc i)) (rw (add-one i) at rest.left) }

pub length-staying : (covers : Bool) (spent : ℕ) (ks : List Constraint)
    → length (staying covers spent ks) ≡ length ks
length-staying covers spent [] = refl
length-staying covers spent (k ∷ ks) = ap suc (length-staying covers (spent_after spent k) ks)

marked-staying : (covers : Bool) (spent : ℕ) (ks : List Constraint)
    → marked (staying covers spent ks) ks ≡ constraints_from covers spent ks
marked-staying covers spent [] = refl
marked-staying covers spent (k ∷ ks) =
    let rest = staying covers (spent_after spent k) ks in
    go (is_left covers spent k) rest
    ∙ ap (λ ls. cond (is_left covers spent k) (k ∷ []) [] ++ ls)
    (marked-staying covers (spent_after spent k) ks)
  where
    go : (b : Bool) (ms : List Bool)
        → marked (b ∷ ms) (k ∷ ks) ≡ cond b (k ∷ []) [] ++ marked ms ks
    go true ms = refl
    go false ms = refl

-- the constraints that stay, beside the clauses of the others
pub marked-without : (covers : Bool) (p : ProblemContent)
    → with_marked (with_clauses_from covers p 0 p.constraints) (staying covers 0 p.constraints)
    ≡ without covers p
marked-without covers p = λ i. record p {
  clauses = p.clauses ++ clauses_from covers 0 p.constraints;
  constraints = marked-staying covers 0 p.constraints i;
}

-- ---- a conflict, or else a cover

-- the clauses of a constraint that is replaced as a conflict, or where covers stay
pub at_conflict : (covers : Bool) (p : ProblemContent) (spent : ℕ) (k : Constraint)
    → (not (is_replaced spent k) && covers) ≡ false
    → with_conflict p spent k ≡ with_clauses_of covers p spent k
at_conflict covers p spent k over =
    λ i. record p { clauses = p.clauses ++ same (is_replaced spent k) over i }
  where
    same : (b : Bool) → (not b && covers) ≡ false
        → cond b (hard_clauses (wanted_lists k)) []
        ≡ cond b (hard_clauses (wanted_lists k))
        (cond (covers && is_cover k) (hard_clauses (cover_lists k)) [])
    same true over = refl
    same false over = ap (λ c. cond (c && is_cover k) (hard_clauses (cover_lists k)) []) (sym over)

-- those of one that is not replaced as a conflict, where covers are replaced
pub at_cover : (p : ProblemContent) (spent : ℕ) (k : Constraint) → is_replaced spent k ≡ false
    → with_cover (with_conflict p spent k) k ≡ with_clauses_of true p spent k
at_cover p spent k none =
    let here = cond (is_cover k) (hard_clauses (cover_lists k)) [] in
    λ i. record p {
      clauses = (ap (λ b. (p.clauses ++ cond b (hard_clauses (wanted_lists k)) []) ++ here) none
          ∙ append_assoc p.clauses [] here
          ∙ ap (λ b. p.clauses ++ cond b (hard_clauses (wanted_lists k)) here) (sym none)) i;
    }
