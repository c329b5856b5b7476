-- A step that repairs an equation, and repairs of all constraints.
use Rattle.local_penalties.proofs.Common.{◌≡◌, ℕ, ◌+◌, ◌-◌, ◌*◌, ◌/◌, ◌<◌, ◌≤◌, ap, ◌∙◌, refl, arith, nat_tests, ints, List, [], ◌∷◌, length, map, Bool, true, false, cond, beq, ◌||◌, eqb, int_lt, list_any, list_all, count_by, flat_map, ℤ, pos, ◌+ℤ◌, ◌-ℤ◌, ◌≤ℤ◌, neg_ℤ, unsigned_abs, max, All, Literal, Product, Constraint, same, turned_literal, is_negative, is_single, common_size, is_stepped, wanted, hurts_constraint, moves_sum, need, room, positive_total, negative_total, far, greatest, price_of_side, bound_penalty, equation_penalty, constraint_penalty, IsNormalProduct}
use Rattle.problem_form.proofs.Common.{sum_of, fails, list_any-append}
use Rattle.problem_form.specs.PartPenalties.{made_true, missing}
use Rattle.local_penalties.proofs.Cheap.{Cheap, greatest-found}
use Rattle.local_penalties.proofs.Wanted.{is_off, lacks, count-wanted}
use Rattle.local_penalties.proofs.SteppedSums.{Facts, facts, sum-moves, past-div, apart-by}
use Rattle.local_penalties.proofs.Repairs.{Repair, IsRepaired, wanted-within, off-false, repaired-bound}

-- ---- prices that leave out the equation

one-listed : (g : Literal → Literal) (l : Literal) (ls : List Literal)
    → list_any (same l) (map g ls) ≡ list_any (λ m. same l (g m)) ls
one-listed g l [] = refl
one-listed g l (m ∷ ls) = ap (λ b. same l (g m) || b) (one-listed g l ls)

listed-moves : (up : Bool) (ts : List Product) (l : Literal)
    → list_any (same l) (flat_map (wanted up) ts) ≡ moves_sum up ts l
listed-moves up [] l = refl
listed-moves up (t ∷ ts) l =
    list_any-append (same l) (wanted up t) (flat_map (wanted up) ts)
    ∙ (λ j. one-listed (turned_literal (beq (is_negative t) up)) l t.literals j || listed-moves up ts l j)

listed-hurts : (up : Bool) (k : Constraint) (l : Literal) → k.exact ≡ true
    → list_any (same l) (flat_map (wanted up) k.products) ≡ true → hurts_constraint k l ≡ true
listed-hurts true k l exact listed = let moves = listed-moves true k.products l in grind (arith, nat_tests)
listed-hurts false k l exact listed = let moves = listed-moves false k.products l in grind (arith, nat_tests)

left-out : (hurts : Bool) (price others : ℕ) → price ≡ others + cond hurts far 0 → hurts ≡ true → price - far ≡ others
left-out true price others is hurt = omega (arith, is)
left-out false price others is hurt = grind (arith, nat_tests)

-- ---- one side

side-price : (up : Bool) (f : Literal → ℕ) (short steps : ℕ) (ts : List Product) → 1 ≤ short
    → price_of_side up f short steps ts ≡ greatest (steps + 1) (map f (flat_map (wanted up) ts))
side-price up f short steps ts some =
    let is : eqb short 0 ≡ false = grind (arith, nat_tests) in
    λ j. cond (is j) 0 (greatest (steps + 1) (map f (flat_map (wanted up) ts)))

found-side : (up : Bool) (x : List Bool) (f : Literal → ℕ) (short steps m : ℕ) (ts : List Product)
    → list_all is_single ts ≡ true → 1 ≤ short → price_of_side up f short steps ts ≤ m → m < far
    → steps + 1 ≤ count_by (lacks up x) ts → Cheap f (is_off x) (flat_map (wanted up) ts) m
found-side up x f short steps m ts single some low finite many =
    let is = side-price up f short steps ts some in
    let count = count-wanted up x ts single in
    let found = greatest-found f (is_off x) (steps + 1) (flat_map (wanted up) ts)
    (omega (arith, is, low, finite)) (omega (arith, count, many)) (omega (arith, count, many)) in
    record {
      literal = found.literal;
      listed = found.listed;
      passes = found.passes;
      price = omega (arith, found.price, is, low);
    }

exact-missing : (x : List Bool) (k : Constraint) → k.exact ≡ true
    → missing x k ≡ unsigned_abs (sum_of x k.products -ℤ k.bound)
exact-missing x k exact = grind (arith, nat_tests)

-- a step towards the bound
abbrev IsNearer : Bool → ℤ → ℤ → ℕ → Type 0
IsNearer up b s g =
    (s' : ℤ) → cond up s s' +ℤ pos g ≡ cond up s' s → unsigned_abs (s' -ℤ b) + 1 ≤ unsigned_abs (s -ℤ b)

nearer-up : (b s : ℤ) (g : ℕ) → 1 ≤ g → (s +ℤ pos g) ≤ℤ b → IsNearer true b s g
nearer-up b s g some room s' is = omega (arith, ints, some, room, is)

nearer-down : (b s : ℤ) (g : ℕ) → 1 ≤ g → (b +ℤ pos g) ≤ℤ s → IsNearer false b s g
nearer-down b s g some room s' is = omega (arith, ints, some, room, is)

repaired-side : (up : Bool) (x : List Bool) (f h : Literal → ℕ) (k : Constraint) (g m : ℕ)
    → ((l : Literal) → f l ≡ h l + cond (hurts_constraint k l) far 0) → k.exact ≡ true
    → All (IsNormalProduct (length x)) k.products → Facts x k g
    → Cheap (λ l. f l - far) (is_off x) (flat_map (wanted up) k.products) m
    → IsNearer up k.bound (sum_of x k.products) g → Repair x h k (1 + m)
repaired-side up x f h k g m shares exact normal known found nearer =
    let l = found.literal in
    let price = left-out (hurts_constraint k l) (f l) (h l) (shares l) (listed-hurts up k l exact found.listed) in
    let within = wanted-within (length x) up l k.products normal found.listed in
    let untrue = off-false x l found.passes in
    let moved = sum-moves up x g k.products l within known.single known.sized known.differ found.listed untrue in
    record {
      literal = l;
      within = within;
      untrue = untrue;
      below = omega (arith, price, found.price);
      nearer = rw (exact-missing (made_true x l) k exact, exact-missing x k exact)
          (nearer (sum_of (made_true x l) k.products) moved);
    }

-- ---- how far the sum is from the bound

-- so many steps lead from the bound to the last sum, one leads to the bound at most, and the sum can be
-- short of it
record IsShort (steps many short : ℕ) (from to : ℤ) (g : ℕ) : Type 0 where
  pub steps_fewer : steps + 1 ≤ many
  pub room : (from +ℤ pos g) ≤ℤ to
  pub some : 1 ≤ short

short-below : (x : List Bool) (k : Constraint) (g : ℕ) → Facts x k g → int_lt (sum_of x k.products) k.bound ≡ true
    → IsShort (room k / g) (count_by (lacks true x) k.products) (need k) (sum_of x k.products) k.bound g
short-below x k g known less =
    below (sum_of x k.products) k.bound (negative_total k.products) (positive_total k.products) (need k) (room k) (need k / g)
    (count_by (lacks false x) k.products) (count_by (lacks true x) k.products) known.sum_above known.sum_below
    known.bound_below known.bound_above known.multiple less
  where
    below : (s b : ℤ) (n p short over q c d : ℕ) → s +ℤ pos (g * d) ≡ pos p → s ≡ neg_ℤ (pos n) +ℤ pos (g * c)
        → b ≡ neg_ℤ (pos n) +ℤ pos short → b +ℤ pos over ≡ pos p → short ≡ g * q → int_lt s b ≡ true
        → IsShort (over / g) d short s b g
    below s b n p short over q c d sum_above sum_below bound_below bound_above multiple less =
        let past : over < g * d = grind (arith, nat_tests, ints) in
        let fewer : g * c < g * q = grind (arith, nat_tests, ints) in
        let apart = apart-by g c q fewer in
        record {
          steps_fewer = omega (arith, past-div over g d past);
          room = omega (arith, ints, sum_below, bound_below, multiple, apart);
          some = omega (arith, fewer, multiple);
        }

short-above : (x : List Bool) (k : Constraint) (g : ℕ) → Facts x k g → int_lt k.bound (sum_of x k.products) ≡ true
    → IsShort (need k / g) (count_by (lacks false x) k.products) (room k) k.bound (sum_of x k.products) g
short-above x k g known more =
    above (sum_of x k.products) k.bound (negative_total k.products) (positive_total k.products) (need k) (room k) (need k / g)
    (count_by (lacks false x) k.products) (count_by (lacks true x) k.products) known.sum_above known.sum_below
    known.bound_below known.bound_above known.multiple more
  where
    above : (s b : ℤ) (n p short over q c d : ℕ) → s +ℤ pos (g * d) ≡ pos p → s ≡ neg_ℤ (pos n) +ℤ pos (g * c)
        → b ≡ neg_ℤ (pos n) +ℤ pos short → b +ℤ pos over ≡ pos p → short ≡ g * q → int_lt b s ≡ true
        → IsShort (short / g) c over b s g
    above s b n p short over q c d sum_above sum_below bound_below bound_above multiple more =
        let past : short < g * c = grind (arith, nat_tests, ints) in
        let fewer : g * q < g * c = omega (arith, past, multiple) in
        let apart = apart-by g q c fewer in
        record {
          steps_fewer = omega (arith, past-div short g c past);
          room = omega (arith, ints, sum_below, bound_below, multiple, apart);
          some = grind (arith, nat_tests, ints);
        }

-- ---- equations

exact-above : (x : List Bool) (k : Constraint) → k.exact ≡ true → fails x k ≡ true
    → int_lt (sum_of x k.products) k.bound ≡ false → int_lt k.bound (sum_of x k.products) ≡ true
exact-above x k exact broken not_less = grind (arith, nat_tests, ints)

abbrev price_up : (Literal → ℕ) → Constraint → ℕ
price_up f k = price_of_side true f (need k) (room k / common_size k.products) k.products

abbrev price_down : (Literal → ℕ) → Constraint → ℕ
price_down f k = price_of_side false f (room k) (need k / common_size k.products) k.products

repaired-stepped : (f h : Literal → ℕ) (k : Constraint) → ((l : Literal) → f l ≡ h l + cond (hurts_constraint k l) far 0)
    → k.exact ≡ true → is_stepped k ≡ true → (m first second : ℕ) → m ≡ max first second → 1 + m < far
    → first ≡ price_up (λ l. f l - far) k → second ≡ price_down (λ l. f l - far) k
    → IsRepaired h k (1 + m)
repaired-stepped f h k shares exact is m first second most finite up_is down_is x normal broken =
    decide (int_lt (sum_of x k.products) k.bound) refl
  where
    known : Facts x k (common_size k.products)
    known = facts x k is

    decide : (b : Bool) → int_lt (sum_of x k.products) k.bound ≡ b → Repair x h k (1 + m)
    decide true e =
        let short = short-below x k (common_size k.products) known e in
        repaired-side true x f h k (common_size k.products) m shares exact normal known
        (found-side true x (λ l. f l - far) (need k) (room k / common_size k.products) m k.products known.single short.some
        (omega (arith, up_is, most)) (omega (arith, finite)) short.steps_fewer)
        (nearer-up k.bound (sum_of x k.products) (common_size k.products) known.some short.room)
    decide false e =
        let short = short-above x k (common_size k.products) known (exact-above x k exact broken e) in
        repaired-side false x f h k (common_size k.products) m shares exact normal known
        (found-side false x (λ l. f l - far) (room k) (need k / common_size k.products) m k.products known.single short.some
        (omega (arith, down_is, most)) (omega (arith, finite)) short.steps_fewer)
        (nearer-down k.bound (sum_of x k.products) (common_size k.products) known.some short.room)

repaired-equation : (f h : Literal → ℕ) (k : Constraint) → ((l : Literal) → f l ≡ h l + cond (hurts_constraint k l) far 0)
    → k.exact ≡ true → equation_penalty (λ l. f l - far) k < far
    → IsRepaired h k (equation_penalty (λ l. f l - far) k)
repaired-equation f h k shares exact = decide (is_stepped k) refl
  where
    first : ℕ
    first = price_up (λ l. f l - far) k

    second : ℕ
    second = price_down (λ l. f l - far) k

    decide : (b : Bool) → is_stepped k ≡ b → cond b (1 + max first second) far < far
        → IsRepaired h k (cond b (1 + max first second) far)
    decide true e finite = repaired-stepped f h k shares exact e (max first second) first second refl finite refl refl
    decide false e finite = absurd (omega (arith, finite))

-- ---- all constraints

-- a constraint whose local penalty is finite is repaired at that price
pub repaired-local : (f h : Literal → ℕ) (k : Constraint) → ((l : Literal) → f l ≡ h l + cond (hurts_constraint k l) far 0)
    → constraint_penalty f k < far → IsRepaired h k (constraint_penalty f k)
repaired-local f h k shares = by_kind k.exact refl
  where
    by_kind : (b : Bool) → k.exact ≡ b
        → cond b (equation_penalty (λ l. f l - far) k) (bound_penalty f k) < far
        → IsRepaired h k (cond b (equation_penalty (λ l. f l - far) k) (bound_penalty f k))
    by_kind true e finite = repaired-equation f h k shares e finite
    by_kind false e finite = repaired-bound f h k shares e finite
