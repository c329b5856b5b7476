-- What the products of a conflict lack under an assignment, and that its clauses fail where it does.
--
-- The sum of a constraint and the sizes of the products that miss are its greatest sum. So it fails
-- where those sizes sum to more than the room.
use Rattle.conflict_clauses.proofs.Common.{nat_tests, ◌≡◌, ℕ, ◌+◌, ◌≤◌, Bool, true, false, cond, not, ◌&&◌, ◌||◌, eqb, ltb, refl, sym, ap, ◌∙◌, arith, List, [], ◌∷◌, length, map, None, Some, ℤ, pos, negsuc, ◌+ℤ◌, ◌-ℤ◌, ◌<ℤ◌, ◌≤ℤ◌, unsigned_abs, int_lt, list_all, list_any, sum_by, and_parts, eqb-true, false≢true, ints, list_any-append, sum_by-append, sum_by-cons, if_so, positive_part, total_by, total_by-append, Literal, all_hold, holds, some_holds, Product, Constraint, positive_total, kept_clause, fails, fails_hard, product_value, soft_cost, soft_weight, sum_of, list_any-kept, are_apart, each_two, hard, hard_clauses, is_conflict, is_single, most_products, needed, others, room, size, wanted, wanted_lists, turned_literal, beq}
use Rattle.conflict_clauses.proofs.Lists.{list_any-map, lost, none_of, pairs_of-none, sum_lost, two_pass, two_pass-map}

-- ---- one product

-- no literal is true that the product is wanted for
abbrev pub misses : List Bool → Product → Bool
misses x t = none_of (holds x) (wanted true t)

pub wanted_negative : (c : ℤ) (l : Literal) → int_lt c (pos 0) ≡ true
    → wanted true (record { literals = l ∷ []; coefficient = c })
    ≡ record { variable = l.variable; negated = not l.negated } ∷ []
wanted_negative c l e = grind (arith, nat_tests)

pub wanted_other : (c : ℤ) (l : Literal) → int_lt c (pos 0) ≡ false
    → wanted true (record { literals = l ∷ []; coefficient = c }) ≡ l ∷ []
wanted_other c l e = grind (arith, nat_tests)

pub holds-turned : (x : List Bool) (l : Literal) (n : ℕ)
    → holds x (turned_literal (beq (int_lt (negsuc n) (pos 0)) true) l) ≡ not (holds x l)
holds-turned x l n = grind (arith, nat_tests, ints)

pub holds-plain : (x : List Bool) (l : Literal) (n : ℕ)
    → holds x (turned_literal (beq (int_lt (pos n) (pos 0)) true) l) ≡ holds x l
holds-plain x l n = grind (arith, nat_tests, ints)

plus : (b : Bool) (n : ℕ)
    → if_so (b && true) (pos n) +ℤ pos (cond (not (b || false)) (unsigned_abs (pos n)) 0) ≡ pos n
plus b n = grind (arith, nat_tests, ints)

minus : (b : Bool) (n : ℕ) → if_so (b && true)
    (negsuc n) +ℤ pos (cond (not (not b || false)) (unsigned_abs (negsuc n)) 0) ≡ pos 0
minus b n = grind (arith, nat_tests, ints)

-- what a product of one literal adds and what it lacks are the positive part of its coefficient
value : (x : List Bool) (ls : List Literal) (c : ℤ) → eqb (length ls) 1 ≡ true
    → if_so (all_hold x ls) c
    +ℤ pos (cond (not (some_holds x (map (turned_literal (beq (int_lt c (pos 0)) true)) ls))) (unsigned_abs c) 0)
    ≡ pos (positive_part c)
value x [] c single = absurd (false≢true single)
value x (l ∷ []) (pos n) single = rw (holds-plain x l n) (plus (holds x l) n)
value x (l ∷ []) (negsuc n) single = rw (holds-turned x l n) (minus (holds x l) n)
value x (l ∷ m ∷ ls) c single = absurd (omega (arith, eqb-true (length (l ∷ m ∷ ls)) 1 single))

add_up : (v s : ℤ) (a b p q : ℕ) → v +ℤ pos a ≡ pos p → s +ℤ pos b ≡ pos q
    → (v +ℤ s) +ℤ pos (a + b) ≡ pos (p + q)
add_up v s a b p q e f = omega (arith, ints)

sums : (x : List Bool) (ts : List Product) → list_all is_single ts ≡ true
    → sum_of x ts +ℤ pos (sum_by (lost (misses x) size) ts) ≡ pos (positive_total ts)
sums x [] single = omega (arith, ints)
sums x (t ∷ ts) single =
    let parts = and_parts (is_single t) (list_all is_single ts) single in
    (λ i. sum_of x (t ∷ ts) +ℤ pos (sum_by-cons (lost (misses x) size) t ts i))
    ∙ add_up (product_value x t) (sum_of x ts) (lost (misses x) size t)
    (sum_by (lost (misses x) size) ts) (positive_part t.coefficient) (positive_total ts)
    (value x t.literals t.coefficient parts.0) (sums x ts parts.1)
    ∙ ap pos (sym (sum_by-cons (λ u. positive_part u.coefficient) t ts))

-- ---- a sum below its bound

pub is_less : (a b : ℤ) → a <ℤ b → int_lt a b ≡ true
is_less a b h = grind (arith, ints)

pub is_not_less : (a b : ℤ) → b ≤ℤ a → int_lt a b ≡ false
is_not_less a b h = grind (arith, ints)

below : (s b : ℤ) (l h : ℕ) → s +ℤ pos l ≡ pos h → int_lt (pos h) b ≡ false
    → int_lt s b ≡ ltb (positive_part (pos h -ℤ b)) l
below s b l h sum fits = grind (arith, nat_tests, ints)

-- ---- the room above a bound

pub no_room : (h : ℕ) (b : ℤ) → int_lt (pos h) b ≡ true
    → None ≡ cond (int_lt (pos h) b) None (Some (positive_part (pos h -ℤ b)))
no_room h b e = λ i. cond (sym e i) None (Some (positive_part (pos h -ℤ b)))

pub some_room : (h : ℕ) (b : ℤ) (r : ℕ) → int_lt (pos h) b ≡ false → r ≡ unsigned_abs (pos h -ℤ b)
    → Some r ≡ cond (int_lt (pos h) b) None (Some (positive_part (pos h -ℤ b)))
some_room h b r e is = grind (arith, nat_tests, ints)

-- ---- a conflict

pub record Parts (k : Constraint) : Type 0 where
  pub exact : k.exact ≡ false
  pub few : length k.products ≤ most_products
  pub single : list_all is_single k.products ≡ true
  pub fits : int_lt (pos (positive_total k.products)) k.bound ≡ false
  pub apart : each_two (are_apart (room k)) k.products ≡ true

pub parts_of : (k : Constraint) → is_conflict k ≡ true → Parts k
parts_of k h = grind (arith, nat_tests)

-- a hard clause of lists of literals fails where no literal of some list is true
pub hard-fails : (x : List Bool) (lists : List (List Literal))
    → list_any (fails_hard x) (hard_clauses lists) ≡ list_any (none_of (holds x)) lists
hard-fails x lists = list_any-kept x (map hard lists) ∙ list_any-map (fails_hard x) hard lists

wanted-fails : (x : List Bool) (k : Constraint) → list_any (none_of (holds x)) (wanted_lists k)
    ≡ (list_any (misses x) (needed k) || two_pass (misses x) (others k))
wanted-fails x k =
    grind (arith, nat_tests, list_any-append, none_of, list_any-map, pairs_of-none, two_pass-map)

-- a conflict fails where one of its clauses does
pub conflict-fails : (x : List Bool) (k : Constraint) → is_conflict k ≡ true
    → list_any (fails_hard x) (hard_clauses (wanted_lists k)) ≡ fails x k
conflict-fails x k conflict =
    let parts = parts_of k conflict in
    let ts = k.products in
    let lacks = below (sum_of x ts) k.bound (sum_by (lost (misses x) size) ts) (positive_total ts)
    (sums x ts parts.single) parts.fits in
    let lost = sum_lost (misses x) size (room k) ts parts.apart in
    let wanted = hard-fails x (wanted_lists k) ∙ wanted-fails x k in
    grind (arith, nat_tests, ints)

-- ---- hard clauses cost nothing by themselves

hard-cost : (x : List Bool) (ls : List Literal) → total_by (soft_cost x) (kept_clause (hard ls)) ≡ pos 0
hard-cost x ls = grind (arith, nat_tests)

pub hard-costs : (x : List Bool) (lists : List (List Literal))
    → total_by (soft_cost x) (hard_clauses lists) ≡ pos 0
hard-costs x [] = refl
hard-costs x (ls ∷ lists) =
    grind (arith, nat_tests, ints, total_by-append, hard-cost x ls, hard-costs x lists)

hard-weight : (ls : List Literal) → sum_by soft_weight (kept_clause (hard ls)) ≡ 0
hard-weight ls = grind (arith, nat_tests)

pub hard-weights : (lists : List (List Literal)) → sum_by soft_weight (hard_clauses lists) ≡ 0
hard-weights [] = refl
hard-weights (ls ∷ lists) =
    grind (arith, nat_tests, sum_by-append, hard-weight ls, hard-weights lists)
