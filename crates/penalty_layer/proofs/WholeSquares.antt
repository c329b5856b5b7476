-- The square of a sum, each term with the later ones twice, has the sums of the whole product.
--
-- A union is the same whichever set stands first, and that of a set with itself is the set: so the
-- whole product has each product of two terms twice, and each term's own square on its own set.
use Rattle.penalty_layer.proofs.Common.{nat_tests, ◌≡◌, ℕ, ◌*◌, Bool, false, sym, ap, ◌∙◌, arith, List, [], ◌∷◌, ℤ, pos, ◌+ℤ◌, ◌*ℤ◌, if◌then◌else◌, flat_map, AllByRecursion, is_eq, ints, recursion_from_All, *ℤ_comm, total_by, if_so, multiply_out, integers, times_assoc, total_by-append, total_by-flat_map, total_by-plus, total_by-same, total_by-times, Literal, has_clash, IsLiteralSet, literal_set-turned, literal_set-twice, Term, set_cmp, coefficient_of, union, union_terms, scaled, product_terms, products_with, square_terms, SquaresAreProducts}

module _ (ls : List Literal) where
  -- what a term adds to the coefficient of the set
  abbrev share : Term → ℤ
  share t = if_so (is_eq (set_cmp ls t.0)) t.1

  -- the union of two sets is the set, and has no clash
  abbrev met : List Literal → List Literal → Bool
  met ks ms = if has_clash (union ks ms) then false else is_eq (set_cmp ls (union ks ms))

  product-share : (ks ms : List Literal) (c : ℤ)
      → coefficient_of ls (union_terms ks ms c) ≡ if_so (met ks ms) c
  product-share ks ms c = grind (arith, nat_tests, ints)

  met-turned : (ks ms : List Literal) → met ks ms ≡ met ms ks
  met-turned ks ms =
      ap (λ us. if has_clash us then false else is_eq (set_cmp ls us)) (literal_set-turned ks ms)

  times_if : (b : Bool) (n c d : ℤ) → if_so b ((n *ℤ c) *ℤ d) ≡ n *ℤ if_so b (c *ℤ d)
  times_if b n c d = grind (arith, nat_tests, ints, times_assoc)

  -- n times a product
  abbrev share_of : Term → Term → ℤ
  share_of t u = if_so (met t.0 u.0) (t.1 *ℤ u.1)

  scaled-share : (n : ℕ) (t u : Term)
      → coefficient_of ls (product_terms (scaled (pos n) t) u) ≡ pos n *ℤ share_of t u
  scaled-share n t u =
      product-share t.0 u.0 ((pos n *ℤ t.1) *ℤ u.1) ∙ times_if (met t.0 u.0) (pos n) t.1 u.1

  share_of-turned : (t u : Term) → share_of t u ≡ share_of u t
  share_of-turned t u = λ i. if_so (met-turned t.0 u.0 i) (*ℤ_comm t.1 u.1 i)

  row-share : (n : ℕ) (t : Term) (us : List Term)
      → coefficient_of ls (products_with (scaled (pos n) t) us) ≡ pos n *ℤ total_by (share_of t) us
  row-share n t us =
      total_by-flat_map share (product_terms (scaled (pos n) t)) us
      ∙ total_by-same _ (λ u. pos n *ℤ share_of t u) us (scaled-share n t)
      ∙ total_by-times (pos n) (share_of t) us

  -- a term with itself is its own square, on its own set
  own-share : (n width : ℕ) (t : Term) → IsLiteralSet width t.0
      → share (t.0, pos n *ℤ (t.1 *ℤ t.1)) ≡ pos n *ℤ share_of t t
  own-share n width t set = grind (arith, nat_tests, ints, literal_set-twice)

  -- the sums of the whole product
  abbrev all_shares : List Term → List Term → ℤ
  all_shares ts us = total_by (λ t. total_by (share_of t) us) ts

  whole-shares : (n : ℕ) (ts us : List Term)
      → coefficient_of ls (flat_map (λ t. products_with (scaled (pos n) t) us) ts)
      ≡ pos n *ℤ all_shares ts us
  whole-shares n ts us =
      total_by-flat_map share (λ t. products_with (scaled (pos n) t) us) ts
      ∙ total_by-same _ (λ t. pos n *ℤ total_by (share_of t) us) ts (λ t. row-share n t us)
      ∙ total_by-times (pos n) (λ t. total_by (share_of t) us) ts

  -- one term more on both sides
  shares-cons : (t : Term) (ts : List Term) → all_shares (t ∷ ts) (t ∷ ts)
      ≡ (share_of t t +ℤ total_by (share_of t) ts) +ℤ (total_by (share_of t) ts +ℤ all_shares ts ts)
  shares-cons t ts =
      ap (λ z. (share_of t t +ℤ total_by (share_of t) ts) +ℤ z)
      (total_by-plus (λ u. share_of u t) (λ u. total_by (share_of u) ts) ts
      ∙ ap (λ z. z +ℤ all_shares ts ts) (total_by-same (λ u. share_of u t) (share_of t) ts (λ u. share_of-turned u t)))

  sum_of_square : (n own row rest : ℤ)
      → n *ℤ own +ℤ ((n +ℤ n) *ℤ row +ℤ n *ℤ rest) ≡ n *ℤ ((own +ℤ row) +ℤ (row +ℤ rest))
  sum_of_square n own row rest = simp multiply_out (omega (arith, integers))

  twice : (n : ℕ) → pos (2 * n) ≡ pos n +ℤ pos n
  twice n = omega (arith, ints)

  along : (n width : ℕ) (ts : List Term) → AllByRecursion (λ (t : Term). IsLiteralSet width t.0) ts
      → coefficient_of ls (square_terms n ts) ≡ pos n *ℤ all_shares ts ts
  along n width [] sets = omega (arith, ints)
  along n width (t ∷ ts) sets =
      ap (λ z. share (t.0, pos n *ℤ (t.1 *ℤ t.1)) +ℤ z)
      (total_by-append share (products_with (scaled (pos (2 * n)) t) ts) (square_terms n ts))
      ∙ (λ i. own-share n width t sets.0 i
      +ℤ ((row-share (2 * n) t ts ∙ ap (λ f. f *ℤ total_by (share_of t) ts) (twice n)) i
      +ℤ along n width ts sets.1 i))
      ∙ sum_of_square (pos n) (share_of t t) (total_by (share_of t) ts) (all_shares ts ts)
      ∙ ap (λ z. pos n *ℤ z) (sym (shares-cons t ts))

pub squares_are_products : SquaresAreProducts
squares_are_products n width ts sets ls =
    along ls n width ts (recursion_from_All (λ (t : Term). IsLiteralSet width t.0) ts sets)
    ∙ sym (whole-shares ls n ts ts)
