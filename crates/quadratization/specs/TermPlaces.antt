-- The places of literals in long terms, whose new nodes are numbered in the order of the terms.
use Rattle.std.specs.Prelude.{ℕ, ◌+◌, ◌==◌, ℤ, Bool, List, [], ◌∷◌, ◌++◌, length}
use Rattle.std.specs.List.{filter}
use Rattle.literal_lists.specs.declared.literal.Literal.{Literal}
use Rattle.term_table.specs.Terms.{Term}
use Rattle.monomial_layer.specs.Monomials.{new_nodes}

-- a literal in a long term, the literals after it, and the term's degree, coefficient and first
-- new node
pub record Place : Type 0 where
  pub literal : Literal
  pub later : List Literal
  pub degree : ℕ
  pub coefficient : ℤ
  pub first_node : ℕ

-- the places of these literals in a term
abbrev pub places_in : List Literal → ℕ → ℤ → ℕ → List Place
places_in [] d c n = []
places_in (l ∷ ls) d c n =
    record { literal = l; later = ls; degree = d; coefficient = c; first_node = n }
    ∷ places_in ls d c n

-- the places of a term, whose new nodes are numbered from n on
abbrev pub term_places : Term → ℕ → List Place
term_places t n = places_in t.0 (length t.0) t.1 n

-- the places of long terms, their new nodes being numbered from n on
abbrev pub all_places : List Term → ℕ → List Place
all_places [] n = []
all_places (t ∷ ts) n = term_places t n ++ all_places ts (n + new_nodes t)

-- the literal at the place has this variable
abbrev pub is_at : ℕ → Place → Bool
is_at i p = i == p.literal.variable

-- the places of one variable
abbrev pub places_of : ℕ → List Place → List Place
places_of i ps = filter (is_at i) ps
