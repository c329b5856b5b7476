-- The numbers of names: a variable is numbered where its name appears first.
use Rattle.std.specs.Prelude.{◌≡◌, ℕ, true, List, [], ◌∷◌, ◌++◌, map, fold, Some, Contains, All, slice_get, bytes_eq, if◌then◌else◌}
use Rattle.std.specs.List.{list_any, position_or_len, flat_map}
use Rattle.poly_reader.specs.Poly.{Named, Listed, is_name}

-- a name behind others, where it isn't among them yet
abbrev pub with_name : List (List ℕ) → List ℕ → List (List ℕ)
with_name names name = if list_any (bytes_eq name) names then names else names ++ name ∷ []

-- the names of literals behind others, each at its first appearance
abbrev pub names_after : List (List ℕ) → List Named → List (List ℕ)
names_after names ls = fold with_name names (map (λ l. l.name) ls)

-- the number of a name
abbrev pub number_of : List (List ℕ) → List ℕ → ℕ
number_of names name = position_or_len (bytes_eq name) names

-- the literals of a text, in order
abbrev pub all_literals : List Listed → List Named
all_literals ts = flat_map (λ t. t.literals) ts

-- the names of a text in the order of their first appearance, also of a product that is dropped
abbrev pub names_of : List Listed → List (List ℕ)
names_of ts = names_after [] (all_literals ts)

-- each has the form of a name
abbrev pub AreNames : List (List ℕ) → Type 0
AreNames names = All (λ name. is_name name ≡ true) names

-- the name of each literal stands at its number, and no name stands at two places
pub record NamesAreNumbered : Type 0 where
  pub each : (ts : List Listed) (l : Named) → Contains (all_literals ts) l
      → slice_get (names_of ts) (number_of (names_of ts) l.name) ≡ Some l.name
  pub once : (ts : List Listed) (i j : ℕ) (name : List ℕ) → slice_get (names_of ts) i ≡ Some name
      → slice_get (names_of ts) j ≡ Some name → i ≡ j
