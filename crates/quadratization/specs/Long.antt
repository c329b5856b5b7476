-- Terms of three literals or more, as they are kept for what is made of them.
use Rattle.std.specs.Prelude.{◌≡◌, ℕ, ◌+◌, ◌≤◌, ◌<◌, ◌^◌, ◌*◌, pos, int_lt, unsigned_abs, ℤ, ◌+ℤ◌, Option, None, Some, List, [], ◌∷◌, ◌++◌, map, take, drop, length, All, if◌then◌else◌}
use Rattle.std.specs.List.{sum_by, slice_index_or}
use Rattle.literal_lists.specs.declared.literal.Literal.{Literal}
use Rattle.problem_form.specs.declared.terms.Product.{Product}
use Rattle.quadratization.specs.declared.additions.Keyed.{Keyed}
use Rattle.quadratization.specs.declared.additions.KeyLength.{KeyLength}
use Rattle.quadratization.specs.declared.additions.KeyLength.TheVariants.{Three, Two, Zero}
use Rattle.term_table.specs.Terms.{Term, terms_total, AreTerms}
use Rattle.term_table.specs.Tables.{TableContent}
use Rattle.term_table.specs.Summed.{sums_from}
use Rattle.monomial_layer.specs.Monomials.{new_nodes, nodes_for}
use Rattle.quadratization.specs.TermPlaces.{Place}

-- a product as a term
abbrev pub product_term : Product → Term
product_term p = (p.literals, p.coefficient)

-- products as terms over the variables below a width
abbrev pub terms_of : ℕ → List Product → TableContent
terms_of width products = record { width = width; terms = map product_term products }

-- the variables, and the new nodes of the terms
abbrev pub node_count : TableContent → ℕ
node_count t = t.width + sum_by new_nodes t.terms

-- the first new node of the term at an index, where they are numbered after the variables
abbrev pub node_at : TableContent → ℕ → ℕ
node_at t i = t.width + sum_by new_nodes (take i t.terms)

-- the first new node of each term, where they are numbered from n on
abbrev pub first_nodes : ℕ → List Term → List ℕ
first_nodes n [] = []
first_nodes n (t ∷ ts) = n ∷ first_nodes (n + new_nodes t) ts

-- terms of three literals or more, in the order of a table, whose nodes have numbers of 32 bits
pub record AreLong (t : TableContent) : Type 0 where
  pub terms : AreTerms t.width t.terms
  pub long : All (λ u. 3 ≤ length u.0) t.terms
  pub narrow : node_count t < 2 ^ 32
  pub small : terms_total t.terms ≤ 2 ^ 124

-- long terms, the first new node of each, and the number of the next one
pub record AreNumbered (t : TableContent) (firsts : List ℕ) (next : ℕ) : Type 0 where
  pub kept : AreLong t
  pub numbered : firsts ≡ first_nodes t.width t.terms
  pub counted : next ≡ node_count t

-- ---- places

-- how many new nodes the term of a place has
abbrev pub place_nodes : Place → ℕ
place_nodes p = if int_lt p.coefficient (pos 0) then 1 else nodes_for p.degree

-- a place of a variable in one of the terms
pub record IsPlaceOf (t : TableContent) (variable : ℕ) (p : Place) : Type 0 where
  pub here : p.literal.variable ≡ variable
  pub later : All (λ l. l.variable < t.width) p.later
  pub within : p.literal.variable < t.width
  pub nodes : p.first_node + place_nodes p ≤ node_count t
  pub small : unsigned_abs p.coefficient ≤ 2 ^ 124

-- ---- additions in order

-- the code of a literal: twice its variable, and one more where it is negated
abbrev pub code_of : Literal → ℕ
code_of l = 2 * l.variable + (if l.negated then 1 else 0)

-- the key of the first two literals: 32 bits each
abbrev pub pair_key : List Literal → ℕ
pair_key [] = 0
pair_key (l ∷ []) = 0
pair_key (l ∷ k ∷ ls) = code_of l * 2 ^ 32 + code_of k

-- the key of the first three literals: 21 bits each
abbrev pub triple_key : List Literal → ℕ
triple_key [] = 0
triple_key (l ∷ []) = 0
triple_key (l ∷ k ∷ []) = 0
triple_key (l ∷ k ∷ m ∷ ls) = (code_of l * 2 ^ 21 + code_of k) * 2 ^ 21 + code_of m

-- the key by which a set is sorted first, of so many literals
abbrev pub key_for : KeyLength → List Literal → ℕ
key_for Three ls = triple_key ls
key_for Two ls = pair_key ls
key_for Zero ls = 0

-- the literals of a variable have codes of 21 bits, for keys of three, or of 32, for those of two
abbrev pub IsCoded : KeyLength → ℕ → Type 0
IsCoded Three v = v < 2 ^ 20
IsCoded Two v = v < 2 ^ 31
IsCoded Zero v = Unit {0}

-- the term of an addition
abbrev pub addition_at : List Product → ℕ → Term
addition_at additions i =
    product_term (slice_index_or additions i (record { literals = []; coefficient = pos 0 }))

-- the terms of additions in an order
abbrev pub additions_at : List Product → List Keyed → List Term
additions_at additions order = map (λ k. addition_at additions k.index) order

-- the additions from a place of an order on
abbrev pub additions_from : List Product → List Keyed → ℕ → List Term
additions_from additions order place = additions_at additions (drop place order)

-- the keys of an order are those of their sets
pub record HaveKeys (additions : List Product) (order : List Keyed) : Type 0 where
  pub literals : KeyLength
  pub keys : All (λ k. k.key ≡ key_for literals (addition_at additions k.index).0) order

-- indices of additions with their keys, in the order of the additions
pub record AreKeyed (literals : KeyLength) (additions : List Product) (order : List Keyed) : Type 0 where
  pub within : All (λ k. k.index < length additions) order
  pub keys : All (λ k. k.key ≡ key_for literals (addition_at additions k.index).0) order
  pub whole : additions_at additions order ≡ map product_term additions

-- the set of the addition at a place of an order
abbrev pub set_at : List Product → List Keyed → ℕ → List Literal
set_at additions order place =
    (addition_at additions (slice_index_or order place (record { key = 0; index = 0 })).index).0

-- the term of a set with this sum, where there is one
abbrev pub summed_term : List Literal → Option ℤ → List Term
summed_term ls None = []
summed_term ls (Some c) = (ls, c) ∷ []

-- the sums of neighbours of one set, the first of which has a sum of earlier ones added
abbrev pub sums_with : ℤ → List Term → List Term
sums_with c [] = []
sums_with c (t ∷ ts) = sums_from (t.0, c +ℤ t.1) ts

-- A step over an order: it adds the addition at a place to the sum of those before it of its set, and
-- gives the sum where the set ends. What it gives, and the sums of what is left with the sum that it
-- leaves, are the sums from the place on with the sum before. Of x, x and y with the coefficients 2, 3
-- and 4 the first step gives nothing and leaves 2, and the second gives 5 and leaves 0.
abbrev pub IsNextSum : List Product → List Keyed → ℕ → (old new : ℤ) → Option ℤ → Type 0
IsNextSum additions order place old new given =
    sums_with old (additions_from additions order place)
    ≡ summed_term (set_at additions order place) given
    ++ sums_with new (additions_from additions order (place + 1))
