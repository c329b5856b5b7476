-- Clauses and products whose literals and numbers lie apart.
use Rattle.std.specs.Prelude.{ℕ, zero, suc, ℤ, Bool, Option, Some, None, List, [], ◌∷◌, if◌then◌else◌}
use Rattle.literal_lists.specs.declared.literal.Literal.{Literal}
use Rattle.problem_form.specs.declared.terms.Clause.{Clause}
use Rattle.problem_form.specs.declared.terms.Product.{Product}

-- what a function makes of two lists, place by place, as far as the shorter one
abbrev pub zip_with : {A B C : Type 0} → (A → B → C) → List A → List B → List C
zip_with f [] bs = []
zip_with f (a ∷ as') [] = []
zip_with f (a ∷ as') (b ∷ bs) = f a b ∷ zip_with f as' bs

-- the weight that a number stands for: 0 stands for a hard clause
abbrev pub weight_of : ℕ → Option ℕ
weight_of zero = None
weight_of (suc n) = Some (suc n)

-- the clause of these literals, with the weight that a number stands for
abbrev pub clause_of : List Literal → ℕ → Clause
clause_of ls n = record { literals = ls; weight = weight_of n }

-- the clauses of these lists, with the weights that numbers stand for: those past the numbers are hard
abbrev pub weighed_clauses : List (List Literal) → List ℕ → List Clause
weighed_clauses [] ns = []
weighed_clauses (ls ∷ lists) [] = clause_of ls 0 ∷ weighed_clauses lists []
weighed_clauses (ls ∷ lists) (n ∷ ns) = clause_of ls n ∷ weighed_clauses lists ns

-- the product of these literals
abbrev pub product_of : List Literal → ℤ → Product
product_of ls c = record { literals = ls; coefficient = c }

-- the elements of a list that are marked, as far as there are marks
abbrev pub marked : {A : Type 0} → List Bool → List A → List A
marked [] as' = []
marked (m ∷ ms) [] = []
marked (m ∷ ms) (a ∷ as') = if m then a ∷ marked ms as' else marked ms as'
