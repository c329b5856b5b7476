-- A literal that repairs a broken constraint: it is false, its price is low, and less is missing once it
-- is true.
use Rattle.local_penalties.proofs.Common.{◌≡◌, ℕ, zero, suc, ◌+◌, ◌<◌, ◌≤◌, sym, subst, ◌∙◌, refl, arith, nat_tests, ints, List, [], ◌∷◌, length, map, Bool, true, false, cond, ◌||◌, eqb, eqb-true, min, nat_lt, int_lt, list_any, list_all, count_by, flat_map, filter, sum_by, ℤ, pos, ◌+ℤ◌, ◌-ℤ◌, ◌≤ℤ◌, positive_part, All, All-head, All-tail, Literal, Product, Constraint, same, turned_literal, is_single, size, wanted, wanted_prices, sufficient, hurts_constraint, moves_sum, positive_total, need, room, far, greatest, descending, least_false, price_alone, price_of_step, bound_penalty, false≢true, IsNormalProduct}
use Rattle.problem_form.proofs.Common.{holds, sum_of, fails, list_any-append}
use Rattle.problem_form.specs.PartPenalties.{made_true, missing}
use Rattle.std.proofs.Common.{inl, inr}
use Rattle.local_penalties.proofs.Sizes.{suffices}
use Rattle.local_penalties.proofs.Descending.{top, picked-le, enough-past}
use Rattle.local_penalties.proofs.Cheap.{least-found, greatest-found}
use Rattle.local_penalties.proofs.Mending.{alone-holds, always-holds, holds-missing, fails-missing}
use Rattle.local_penalties.proofs.Wanted.{is_off, lacks, sum-above, count-wanted, made-holds, sum-steps}

-- a literal that is false, has a price below a number, and takes down what is missing
pub record Repair (x : List Bool) (f : Literal → ℕ) (k : Constraint) (m : ℕ) : Type 0 where
  pub literal : Literal
  pub within : literal.variable < length x
  pub untrue : holds x literal ≡ false
  pub below : f literal + 1 ≤ m
  pub nearer : missing (made_true x literal) k + 1 ≤ missing x k

-- each assignment that breaks the constraint has such a literal
abbrev pub IsRepaired : (Literal → ℕ) → Constraint → ℕ → Type 0
IsRepaired f k m =
    (x : List Bool) → All (IsNormalProduct (length x)) k.products → fails x k ≡ true → Repair x f k m

-- ---- places of wanted literals

turned-within : (v : ℕ) (b : Bool) (l : Literal) (ls : List Literal) → All (λ m. m.variable < v) ls
    → list_any (same l) (map (turned_literal b) ls) ≡ true → l.variable < v
turned-within v b l [] all listed = absurd (false≢true listed)
turned-within v b l (m ∷ ls) all listed =
    let here = All-head (λ (k : Literal). k.variable < v) m ls all in
    let others = turned-within v b l ls (All-tail (λ (k : Literal). k.variable < v) m ls all) in
    grind (arith, nat_tests)

pub wanted-within : (v : ℕ) (up : Bool) (l : Literal) (ts : List Product) → All (IsNormalProduct v) ts
    → list_any (same l) (flat_map (wanted up) ts) ≡ true → l.variable < v
wanted-within v up l [] all listed = absurd (false≢true listed)
wanted-within v up l (t ∷ ts) all listed =
    let normal = All-head (IsNormalProduct v) t ts all in
    decide (turned-within v _ l t.literals normal.set.within) (wanted-within v up l ts (All-tail (IsNormalProduct v) t ts all))
    (list_any-append (same l) (wanted up t) (flat_map (wanted up) ts)) (list_any (same l) (wanted up t)) refl
  where
    decide : (list_any (same l) (wanted up t) ≡ true → l.variable < v)
        → (list_any (same l) (flat_map (wanted up) ts) ≡ true → l.variable < v)
        → list_any (same l) (flat_map (wanted up) (t ∷ ts))
        ≡ (list_any (same l) (wanted up t) || list_any (same l) (flat_map (wanted up) ts))
        → (b : Bool) → list_any (same l) (wanted up t) ≡ b → l.variable < v
    decide here later both true e = here e
    decide here later both false e = later (grind (arith, nat_tests))

filter-listed : (below : ℕ) (l : Literal) (ts : List Product)
    → list_any (same l) (flat_map (wanted true) (filter (suffices below) ts)) ≡ true
    → list_any (same l) (flat_map (wanted true) ts) ≡ true
filter-listed below l [] listed = absurd (false≢true listed)
filter-listed below l (t ∷ ts) listed =
    decide (filter-listed below l ts) (suffices below t) refl (list_any (same l) (wanted true t)) refl
  where
    decide : (list_any (same l) (flat_map (wanted true) (filter (suffices below) ts)) ≡ true
        → list_any (same l) (flat_map (wanted true) ts) ≡ true) → (b : Bool) → suffices below t ≡ b
        → (d : Bool) → list_any (same l) (wanted true t) ≡ d → list_any (same l) (flat_map (wanted true) (t ∷ ts)) ≡ true
    decide later b e true f =
        let both = list_any-append (same l) (wanted true t) (flat_map (wanted true) ts) in
        grind (arith, nat_tests)
    decide later true e false f =
        let both = list_any-append (same l) (wanted true t) (flat_map (wanted true) ts) in
        let some = list_any-append (same l) (wanted true t) (flat_map (wanted true) (filter (suffices below) ts)) in
        let listed_later : list_any (same l) (flat_map (wanted true) (filter (suffices below) ts)) ≡ true = grind (arith, nat_tests) in
        let there = later listed_later in
        grind (arith, nat_tests)
    decide later false e false f =
        let both = list_any-append (same l) (wanted true t) (flat_map (wanted true) ts) in
        let listed_later : list_any (same l) (flat_map (wanted true) (filter (suffices below) ts)) ≡ true = grind (arith, nat_tests) in
        let there = later listed_later in
        grind (arith, nat_tests)

-- ---- one alone

untrue-alone : (x : List Bool) (k : Constraint) (l : Literal) → k.exact ≡ false → fails x k ≡ true
    → list_any (same l) (flat_map (wanted true) (sufficient k)) ≡ true → holds x l ≡ false
untrue-alone x k l bounds broken listed =
    let on = alone-holds x k l bounds listed in
    grind (arith, nat_tests)

pub repaired-alone : (f : Literal → ℕ) (k : Constraint) (l : Literal) (m : ℕ) → k.exact ≡ false
    → list_any (same l) (flat_map (wanted true) (sufficient k)) ≡ true → f l + 1 ≤ m → IsRepaired f k m
repaired-alone f k l m bounds listed low x normal broken =
    let within = wanted-within (length x) true l k.products normal (filter-listed (need k) l k.products listed) in
    let none = holds-missing (made_true x l) k (alone-holds (made_true x l) k l bounds listed (made-holds x l within)) in
    record {
      literal = l;
      within = within;
      untrue = untrue-alone x k l bounds broken listed;
      below = low;
      nearer = omega (arith, none, fails-missing x k broken);
    }

-- ---- by a step

past-room : (b s : ℤ) (most off : ℕ) → s +ℤ pos off ≡ pos most → int_lt s b ≡ true → int_lt (pos most) b ≡ false
    → positive_part (pos most -ℤ b) < off
past-room b s most off sum less reached = grind (arith, nat_tests, ints)

nearer-by : (b s s' : ℤ) → (s +ℤ pos 1) ≤ℤ s' → int_lt s b ≡ true
    → positive_part (b -ℤ s') + 1 ≤ positive_part (b -ℤ s)
nearer-by b s s' step less = grind (arith, nat_tests, ints)

bounds-fails : (x : List Bool) (k : Constraint) → k.exact ≡ false → fails x k ≡ true
    → int_lt (sum_of x k.products) k.bound ≡ true
bounds-fails x k bounds broken = grind (arith, nat_tests)

bounds-missing : (x : List Bool) (k : Constraint) → k.exact ≡ false
    → missing x k ≡ positive_part (k.bound -ℤ sum_of x k.products)
bounds-missing x k bounds = grind (arith, nat_tests)

top-some : (i room : ℕ) (ns : List ℕ) → room < top i ns → 1 ≤ i
top-some zero room ns past = absurd (omega (arith, past))
top-some (suc i) room ns past = omega arith

-- a price that is finite is that without the constraint, which the literal does not hurt
unhurt : (hurts : Bool) (price others : ℕ) → price ≡ others + cond hurts far 0 → price < far
    → (hurts ≡ false) × (price ≡ others)
unhurt true price others is finite = absurd (omega (arith, is, finite))
unhurt false price others is finite = (refl, omega (arith, is))

not-lowered : (k : Constraint) (l : Literal) → hurts_constraint k l ≡ false → moves_sum false k.products l ≡ false
not-lowered k l none = grind (arith, nat_tests)

pub off-false : (x : List Bool) (l : Literal) → is_off x l ≡ true → holds x l ≡ false
off-false x l off = grind (arith, nat_tests)

-- so many wanted literals at least are false
pub some-off : (x : List Bool) (k : Constraint) → k.exact ≡ false → fails x k ≡ true
    → list_all is_single k.products ≡ true → int_lt (pos (positive_total k.products)) k.bound ≡ false
    → (least_false (room k) k.products ≤ count_by (is_off x) (flat_map (wanted true) k.products))
    × (1 ≤ count_by (is_off x) (flat_map (wanted true) k.products))
some-off x k bounds broken single reached =
    let ts = k.products in
    let room = room k in
    let off = sum_by (λ t. cond (lacks true x t) (size t) 0) ts in
    let many = count_by (lacks true x) ts in
    let past = past-room k.bound (sum_of x ts) (positive_total ts) off (sum-above x ts single) (bounds-fails x k bounds broken) reached in
    let picked = picked-le size (lacks true x) ts in
    let over : room < top many (descending (map size ts)) = omega (arith, past, picked) in
    let count = count-wanted true x ts single in (
      omega (arith, count, enough-past many room (descending (map size ts)) over),
      omega (arith, count, top-some many room (descending (map size ts)) over),
    )

repaired-single : (f h : Literal → ℕ) (k : Constraint) → ((l : Literal) → f l ≡ h l + cond (hurts_constraint k l) far 0)
    → k.exact ≡ false → int_lt (pos (positive_total k.products)) k.bound ≡ false → list_all is_single k.products ≡ true
    → greatest (least_false (room k) k.products) (wanted_prices true f k.products) < far
    → IsRepaired h k (1 + greatest (least_false (room k) k.products) (wanted_prices true f k.products))
repaired-single f h k shares bounds reached single finite x normal broken =
    let off = some-off x k bounds broken single reached in
    let found = greatest-found f (is_off x) (least_false (room k) k.products) (flat_map (wanted true) k.products) finite off.0 off.1 in
    let l = found.literal in
    let free = unhurt (hurts_constraint k l) (f l) (h l) (shares l) (omega (arith, found.price, finite)) in
    let within = wanted-within (length x) true l k.products normal found.listed in
    let untrue = off-false x l found.passes in
    let step = sum-steps x k.products l within single normal found.listed untrue (not-lowered k l free.0) in
    record {
      literal = l;
      within = within;
      untrue = untrue;
      below = omega (arith, free.1, found.price);
      nearer = rw (bounds-missing (made_true x l) k bounds, bounds-missing x k bounds)
          (nearer-by k.bound (sum_of x k.products) (sum_of (made_true x l) k.products) step (bounds-fails x k bounds broken));
    }

repaired-by-step : (f h : Literal → ℕ) (k : Constraint) → ((l : Literal) → f l ≡ h l + cond (hurts_constraint k l) far 0)
    → k.exact ≡ false → int_lt (pos (positive_total k.products)) k.bound ≡ false
    → price_of_step f (room k) k.products < far
    → IsRepaired h k (1 + price_of_step f (room k) k.products)
repaired-by-step f h k shares bounds reached = decide (list_all is_single k.products) refl
  where
    price : Bool → ℕ
    price b = cond b (greatest (least_false (room k) k.products) (wanted_prices true f k.products)) far

    decide : (b : Bool) → list_all is_single k.products ≡ b → price b < far → IsRepaired h k (1 + price b)
    decide true e finite = repaired-single f h k shares bounds reached e finite
    decide false e finite = absurd (omega (arith, finite))

-- ---- constraints that bound their sums

repaired-by-one : (f h : Literal → ℕ) (k : Constraint) → ((l : Literal) → f l ≡ h l + cond (hurts_constraint k l) far 0)
    → k.exact ≡ false → price_alone f k < far → IsRepaired h k (1 + price_alone f k)
repaired-by-one f h k shares bounds finite = elim (least-found f (flat_map (wanted true) (sufficient k)) far) [
  | inl none ↦ absurd (omega (arith, none, finite))
  | inr found ↦
      let free = unhurt (hurts_constraint k found.literal) (f found.literal) (h found.literal) (shares found.literal) (omega (arith, found.prices, finite)) in
      repaired-alone h k found.literal _ bounds found.listed (omega (arith, free.1, found.prices))
]

repaired-least : (h : Literal → ℕ) (k : Constraint) (m n : ℕ) → (m < far → IsRepaired h k (1 + m))
    → (n < far → IsRepaired h k (1 + n)) → 1 + min m n < far → IsRepaired h k (1 + min m n)
repaired-least h k m n first second finite = decide (nat_lt n m) refl
  where
    decide : (b : Bool) → nat_lt n m ≡ b → IsRepaired h k (1 + min m n)
    decide true e =
        let is : min m n ≡ n = grind (arith, nat_tests) in
        subst (λ i. IsRepaired h k (1 + i)) (sym is) (second (omega (arith, is, finite)))
    decide false e =
        let is : min m n ≡ m = grind (arith, nat_tests) in
        subst (λ i. IsRepaired h k (1 + i)) (sym is) (first (omega (arith, is, finite)))

pub repaired-bound : (f h : Literal → ℕ) (k : Constraint) → ((l : Literal) → f l ≡ h l + cond (hurts_constraint k l) far 0)
    → k.exact ≡ false → bound_penalty f k < far → IsRepaired h k (bound_penalty f k)
repaired-bound f h k shares bounds = by_need (eqb (need k) 0) refl
  where
    given : Bool → Bool → ℕ
    given always never =
        cond always 1 (cond never far (1 + min (price_alone f k) (price_of_step f (room k) k.products)))

    by_reach : (b : Bool) → int_lt (pos (positive_total k.products)) k.bound ≡ b → given false b < far → IsRepaired h k (given false b)
    by_reach true e finite = absurd (omega (arith, finite))
    by_reach false e finite =
        repaired-least h k (price_alone f k) (price_of_step f (room k) k.products)
        (repaired-by-one f h k shares bounds) (repaired-by-step f h k shares bounds e) finite

    by_need : (b : Bool) → eqb (need k) 0 ≡ b → given b (int_lt (pos (positive_total k.products)) k.bound) < far
        → IsRepaired h k (given b (int_lt (pos (positive_total k.products)) k.bound))
    by_need true e finite = λ x normal broken.
        absurd (false≢true (sym (always-holds x k bounds (eqb-true (need k) 0 e)) ∙ broken))
    by_need false e finite = by_reach (int_lt (pos (positive_total k.products)) k.bound) refl finite
