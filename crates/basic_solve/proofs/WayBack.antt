-- The way back: each bit is the one that is chosen after those before it.
use Rattle.basic_solve.proofs.Common.{nat_tests, ◌≡◌, ℕ, suc, ◌+◌, ◌-◌, ◌≤◌, ℤ, Bool, List, [], ◌∷◌, ◌++◌, length, get_or, sym, arith, ◌∙◌, false, append_assoc, length-append, append-nil, Form, energy, IsFirstLeast, choices, chosen, index_of, AreChoices}
use Rattle.basic_solve.proofs.Choices.{choices_are_first_least}

-- the bits so far begin what is chosen
pub record IsBegun (n : ℕ) (g : List Bool → ℤ) (y : List Bool) : Type 0 where
  pub within : length y ≤ n
  pub begins : y ++ choices (n - length y) g y ≡ choices n g []

pub begun_more : (n : ℕ) (g : List Bool → ℤ) (sets : List (List ℕ)) (bits : List (List Bool))
    (y : List Bool) (step : ℕ) (b : Bool) → AreChoices n g sets bits → IsBegun n g y
    → length y + suc step ≡ n → b ≡ get_or (get_or bits step []) (index_of y (get_or sets step []))
    false → IsBegun n g (y ++ b ∷ [])
begun_more n g sets bits y step b a h at is =
    let long = length-append y (b ∷ []) in
    let chosen_is : b ≡ chosen step g y = is ∙ sym ((a.each step (omega arith)).each y at) in
    let left : n - length y ≡ suc step = omega arith in
    let less : n - length (y ++ b ∷ []) ≡ step = omega (arith, long) in
    let join = append_assoc y (b ∷ []) (choices step g (y ++ b ∷ [])) in
    record { within = omega (arith, long); begins = cc }

pub first_least : (f : Form) (y : List Bool) → IsBegun f.bits (energy f) y → length y ≡ f.bits
    → IsFirstLeast f y
first_least f y h w = grind (arith, nat_tests, append-nil, choices_are_first_least)
