-- Numbers and marks of literals, which lie at the places of their codes.
use Rattle.std.specs.Prelude.{ℕ, ◌+◌, ◌*◌, ◌<◌, ◌≤◌, ◌^◌, Bool, true, false, List, All, [], ◌∷◌, not, ◌&&◌}
use Rattle.std.specs.List.{slice_index_or, list_any}
use Rattle.literal_lists.specs.declared.literal.Literal.{Literal}
use Rattle.literal_lists.specs.Codes.{code_of}
use Rattle.local_penalties.specs.Hurting.{same}
use Rattle.problem_form.specs.declared.terms.Product.{Product}

-- the number of a literal
abbrev pub number_of : List ℕ → Literal → ℕ
number_of ns l = slice_index_or ns (code_of l) 0

-- whether a literal is marked
abbrev pub is_marked : List Bool → Literal → Bool
is_marked marks l = slice_index_or marks (code_of l) false

-- the literals and their complements have places
abbrev pub AreWithin : ℕ → List Literal → Type 0
AreWithin places ls = All (λ l. 2 * l.variable + 1 < places) ls

-- no literal is listed twice
abbrev pub each_once : List Literal → Bool
each_once [] = true
each_once (l ∷ ls) = not (list_any (same l) ls) && each_once ls

-- the number of a literal can be changed by adding one number after taking another
abbrev pub MayChange : List ℕ → ℕ → ℕ → Literal → Type 0
MayChange ns plus minus l = (minus ≤ number_of ns l) × (number_of ns l + plus < 2 ^ 128)

-- the literals of all products have places
abbrev pub HavePlaces : ℕ → List Product → Type 0
HavePlaces places ts = All (λ t. AreWithin places t.literals) ts
