-- The bits that elimination chooses make the first least state.
--
-- Of a front of a state the least energy of all states that begin with it is the lesser of those of
-- the two fronts that are one bit longer. So the bit of a node, chosen after those of the nodes
-- before it, is 1 exactly where the front with 1 promises less. What is chosen so reaches the least
-- energy. A least state that differs from it first at some node has 1 there where 0 was chosen: had
-- 1 been chosen, each state with 0 there would lie above the least energy.
use Rattle.basic_solve.proofs.Common.{nat_tests, ◌≡◌, ◌≢◌, ℕ, zero, suc, ℤ, ◌≤ℤ◌, ◌<ℤ◌, int_lt, Bool, true, false, List, [], ◌∷◌, ◌++◌, length, refl, arith, ap, append_assoc, int_min, bool_cmp, slice_cmp, ints, append-nil, Form, energy, IsFirstLeast, least_after, chosen, choices}
use Rattle.std.specs.declared.cmp.Ordering.TheVariants.{Greater}

pub length-choices : (n : ℕ) (g : List Bool → ℤ) (y : List Bool) → length (choices n g y) ≡ n
length-choices zero g y = refl
length-choices (suc n) g y = ap suc (length-choices n g (y ++ chosen n g y ∷ []))

-- ---- the lesser of two

pub less : (a b : ℤ) → int_lt b a ≡ true → b <ℤ a
less a b e = grind (arith, ints)

pub not_less : (a b : ℤ) → int_lt b a ≡ false → a ≤ℤ b
not_less a b e = grind (arith, ints)

min-le : (a b : ℤ) → (int_min a b ≤ℤ a) × (int_min a b ≤ℤ b)
min-le a b = (grind (arith, ints), grind (arith, ints))

-- ---- what is chosen is least

-- one bit after a front, and then the rest
one_longer : (g : List Bool → ℤ) (y z : List Bool) (b : Bool)
    → g ((y ++ b ∷ []) ++ z) ≡ g (y ++ b ∷ z)
one_longer g y z b = ap g (append_assoc y (b ∷ []) z)

-- no list that goes on after a front has a lesser value than the least
pub least_after-le : (n : ℕ) (g : List Bool → ℤ) (y z : List Bool) → length z ≡ n
    → least_after n g y ≤ℤ g (y ++ z)
least_after-le zero g y [] w = omega (arith, ints, ap g (append-nil y))
least_after-le zero g y (b ∷ z) w = absurd (omega arith)
least_after-le (suc n) g y [] w = absurd (omega arith)
least_after-le (suc n) g y (b ∷ z) w =
    let more = min-le (least_after n g (y ++ false ∷ [])) (least_after n g (y ++ true ∷ [])) in
    let le = least_after-le n g (y ++ b ∷ []) z (omega arith) in
    let same = one_longer g y z b in
    grind (arith, nat_tests, ints)

-- what is chosen after a front reaches the least value
pub choices_reach : (n : ℕ) (g : List Bool → ℤ) (y : List Bool)
    → g (y ++ choices n g y) ≡ least_after n g y
choices_reach zero g y = ap g (append-nil y)
choices_reach (suc n) g y =
    let same = one_longer g y (choices n g (y ++ chosen n g y ∷ [])) (chosen n g y) in
    let rest = choices_reach n g (y ++ chosen n g y ∷ []) in
    grind (arith, nat_tests, ints)

-- no list that reaches the least value comes before what is chosen
pub choices_first : (n : ℕ) (g : List Bool → ℤ) (y z : List Bool) → length z ≡ n
    → g (y ++ z) ≤ℤ least_after n g y → slice_cmp bool_cmp (choices n g y) z ≢ Greater
choices_first zero g y [] w h = λ e. cc
choices_first zero g y (b ∷ z) w h = absurd (omega arith)
choices_first (suc n) g y [] w h = absurd (omega arith)
choices_first (suc n) g y (b ∷ z) w h =
    let same = one_longer g y z b in
    let low = least_after-le n g (y ++ b ∷ []) z (omega arith) in
    let rest = choices_first n g (y ++ b ∷ []) z (omega arith) in
    let less_is = less (least_after n g (y ++ false ∷ [])) (least_after n g (y ++ true ∷ [])) in
    grind (arith, nat_tests, ints)

-- what is chosen from the first node on is the first least state
pub choices_are_first_least : (f : Form) → IsFirstLeast f (choices f.bits (energy f) [])
choices_are_first_least f =
    let n = f.bits in
    let g = energy f in
    let e = choices_reach n g [] in
    let long = length-choices n g [] in
    record {
      least = record { width = long; least = λ z w. omega (arith, ints, e, least_after-le n g [] z w) };
      first = λ z l. choices_first n g [] z l.width (omega (arith, ints, e, l.least (choices n g []) long));
    }
