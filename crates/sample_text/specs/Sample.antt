-- Sample texts: weighted clauses that are drawn from a number.
use Rattle.std.specs.Prelude.{ℕ, zero, suc, ◌+◌, ◌*◌, ◌/◌, ◌%◌, ◌==◌, ℤ, pos, neg_ℤ, List, [], ◌∷◌, ◌++◌, map, codes, if◌then◌else◌}
use Rattle.std.specs.Fn.{iterate}
use Rattle.std.specs.List.{flat_map, join_with_byte}
use Rattle.std.specs.Fmt.{decimal, signed_decimal}

-- ---- draws

-- the first state, from 1 to 2 ^ 31 - 2
unfoldable pub seed : ℕ → ℕ
seed number = 1 + number % 2147483646

-- what a draw gives, which replaces the state
unfoldable pub drawn : ℕ → ℕ
drawn state = 16807 * state % 2147483647

-- the state after so many draws
abbrev pub after : ℕ → ℕ → ℕ
after draws state = iterate drawn draws state

-- one draw: the weight of a hard clause, or one from 1 to 9
abbrev pub drawn_weight : ℕ → ℕ → ℕ
drawn_weight top state = if drawn state % 8 == 0 then top else 1 + drawn state % 9

-- two draws: a variable, and its sign, which is negative where the draw is odd
abbrev pub drawn_literal : ℕ → ℕ → ℤ
drawn_literal variables state =
    let variable = pos (1 + drawn state % variables) in
    if after 2 state % 2 == 1 then neg_ℤ variable else variable

-- ---- lines of words

-- a line: its words, separated by one space (32) and ended by a line feed (10)
abbrev pub line : List (List ℕ) → List ℕ
line words = join_with_byte 32 words ++ 10 ∷ []

-- a clause of three literals: its weight, the literals, and the 0 that ends it, as `4 1 -2 3 0`
abbrev pub words_of_clause : ℕ → ℤ → ℤ → ℤ → List (List ℕ)
words_of_clause weight first second third =
    decimal weight ∷ map signed_decimal (first ∷ second ∷ third ∷ []) ++ codes "0" ∷ []

-- seven draws: a clause of three literals
abbrev pub clause_words : ℕ → ℕ → ℕ → List (List ℕ)
clause_words variables top state =
    words_of_clause (drawn_weight top state)
    (drawn_literal variables (after 1 state))
    (drawn_literal variables (after 3 state))
    (drawn_literal variables (after 5 state))

-- so many clauses, each drawn from the state that the one before leaves
abbrev pub drawn_clauses : ℕ → ℕ → ℕ → ℕ → List (List (List ℕ))
drawn_clauses zero variables top state = []
drawn_clauses (suc count) variables top state =
    clause_words variables top state ∷ drawn_clauses count variables top (after 7 state)

-- the numbers of variables and of clauses, and the weight of a hard clause
abbrev pub header_words : ℕ → ℕ → ℕ → List (List ℕ)
header_words variables clauses top =
    codes "p" ∷ codes "wcnf" ∷ decimal variables ∷ decimal clauses ∷ decimal top ∷ []

-- ---- the text of a number and a count of clauses

-- three variables, and one more for every four clauses
abbrev pub variables_of : ℕ → ℕ
variables_of clauses = 3 + clauses / 4

-- more than all soft clauses weigh together
abbrev pub top_of : ℕ → ℕ
top_of clauses = 10 * clauses + 1

-- the header, and the clauses that are drawn from the number
unfoldable pub sample_text : ℕ → ℕ → List ℕ
sample_text number clauses =
    let variables = variables_of clauses in
    let top = top_of clauses in
    flat_map line
    (header_words variables clauses top ∷ drawn_clauses clauses variables top (seed number))
