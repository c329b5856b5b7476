-- The text that answers for one assignment or one state: rows for its bits, its cost and its energy.
use Rattle.std.specs.Prelude.{ℕ, ℤ, Bool, true, false, List, [], ◌∷◌, ◌++◌, map, codes, Option, Some, None}
use Rattle.std.specs.List.{zip}
use Rattle.std.specs.Fmt.{signed_decimal}
use Rattle.base.specs.declared.costs.Cost.{Cost}
use Rattle.base.specs.declared.costs.Cost.TheVariants.{Whole, Infinite}
use Rattle.model_text.specs.Rows.{Row, rows_text}

-- ---- bits

-- the digit of a bit: `0` (48) or `1` (49)
abbrev pub digit_of : Bool → ℕ
digit_of false = 48
digit_of true = 49

-- bits as one word, a digit for each
abbrev pub bits_word : List Bool → List ℕ
bits_word bits = map digit_of bits

-- ---- rows

-- the bits of an assignment
abbrev pub assignment_row : List Bool → Row
assignment_row x = codes "assignment" ∷ bits_word x ∷ []

-- the bits of a state
abbrev pub state_row : List Bool → Row
state_row y = codes "state" ∷ bits_word y ∷ []

-- the name of a variable, and its bit
abbrev pub name_row : List ℕ → Bool → Row
name_row name bit = codes "name" ∷ name ∷ (digit_of bit ∷ []) ∷ []

-- each name with its bit, in order, up to the end of the shorter list
abbrev pub named_rows : List (List ℕ) → List Bool → List Row
named_rows names bits = map (λ pair. name_row pair.0 pair.1) (zip names bits)

-- these rows where there are names, and none where there are not
abbrev pub name_rows : Option (List (List ℕ)) → List Bool → List Row
name_rows None bits = []
name_rows (Some names) bits = named_rows names bits

-- a cost, which is a number or infinite
abbrev pub cost_row : Cost → Row
cost_row (Whole value) = codes "cost" ∷ signed_decimal value ∷ []
cost_row Infinite = codes "cost" ∷ codes "infinite" ∷ []

-- an energy
abbrev pub energy_row : ℤ → Row
energy_row value = codes "energy" ∷ signed_decimal value ∷ []

-- what a least state tells: where what it decodes to has a whole cost, that assignment, with names
-- where its variables have any, and its cost, the optimum; else that the source is infeasible
abbrev pub optimum_rows : List Bool → Option (List (List ℕ)) → Cost → List Row
optimum_rows x names (Whole value) =
    assignment_row x ∷ name_rows names x
    ++ ((codes "optimum" ∷ signed_decimal value ∷ []) ∷ [])
optimum_rows x names Infinite = (codes "infeasible" ∷ []) ∷ []

-- ---- texts

-- the assignment that a state was taken back to, with names where its variables have any, its cost,
-- and the energy of the state
abbrev pub decoding_text : List Bool → Option (List (List ℕ)) → Cost → ℤ → List ℕ
decoding_text x names cost energy =
    rows_text
    (assignment_row x ∷ name_rows names x ++ (cost_row cost ∷ energy_row energy ∷ []))

-- the state that an assignment was taken to, the cost of the assignment, and the energy of the state
abbrev pub extension_text : List Bool → Cost → ℤ → List ℕ
extension_text y cost energy = rows_text (state_row y ∷ cost_row cost ∷ energy_row energy ∷ [])

-- a least state, its energy, and what it tells of the assignment that it decodes to, of this cost
abbrev pub solution_text : List Bool → ℤ → List Bool → Option (List (List ℕ)) → Cost → List ℕ
solution_text y energy x names cost =
    rows_text (state_row y ∷ energy_row energy ∷ optimum_rows x names cost)

-- the energy of a state that is proved to be least, and what it tells of the assignment that it
-- decodes to, of this cost
abbrev pub proof_text : ℤ → List Bool → Option (List (List ℕ)) → Cost → List ℕ
proof_text energy x names cost = rows_text (energy_row energy ∷ optimum_rows x names cost)
