-- Steps of the loops over the parts of a square.
use Rattle.penalty_layer.proofs.Common.{nat_tests, ◌≡◌, ℕ, ◌+◌, ◌*◌, ◌^◌, ◌≤◌, unsigned_abs, ℤ, pos, ◌*ℤ◌, List, [], ◌∷◌, ◌++◌, append-nil, drop, All, Some, ap, ◌∙◌, arith, slice_get, unsigned_abs-mul, slice_get_within, get_or_from_slice_get, mul-le, Literal, literal_set, literal_set-ascending, drop-at, Term, terms_total, scaled, union_terms, product_terms, products_with, terms_total-cons, IsSet, union, has_clash, false, ints, Option, None, if◌then◌else◌, square_terms}
use Rattle.penalty_layer.proofs.Sums.{square_is}

-- the part at a place has a set as all have
pub part_at : (us : List Term) (i : ℕ) (u : Term) → slice_get us i ≡ Some u
    → All (λ t. IsSet t.0) us → IsSet u.0
part_at us i u at sets = grind (arith, nat_tests, get_or_from_slice_get, slice_get_within)

-- what is left has the part at its place, and those after it
total_left : (us : List Term) (i : ℕ) (u : Term) → slice_get us i ≡ Some u
    → terms_total (drop i us) ≡ unsigned_abs u.1 + terms_total (drop (i + 1) us)
total_left us i u at = ap terms_total (drop-at us i u at) ∙ terms_total-cons u (drop (i + 1) us)

-- ---- unions

-- where the union has no clash, its term is what is added
pub union_apart : (ls ks us : List Literal) (c : ℤ) → union ls ks ≡ us → has_clash us ≡ false
    → union_terms ls ks c ≡ (us, c) ∷ []
union_apart ls ks us c same apart = grind (arith, nat_tests, ints)

-- the set of two literals; none where they are opposite
abbrev short_set : Literal → Literal → Option (List Literal)
short_set l k = if has_clash (l ∷ k ∷ []) then None else Some (literal_set (l ∷ k ∷ []))

pub union_two : (l k : Literal) (set : List Literal) (c : ℤ) → Some set ≡ short_set l k
    → union_terms (l ∷ []) (k ∷ []) c ≡ (set, c) ∷ []
union_two l k set c same = grind (arith, nat_tests, ints)

pub union_none : (l k : Literal) (c : ℤ) → None ≡ short_set l k
    → union_terms (l ∷ []) (k ∷ []) c ≡ []
union_none l k c none = grind (arith, nat_tests, ints)

pub union_empty-right : (ls : List Literal) (c : ℤ) → IsSet ls → union_terms ls [] c ≡ (ls, c) ∷ []
union_empty-right ls c set =
    union_apart ls [] ls c (ap literal_set (append-nil ls) ∙ literal_set-ascending ls set.ordered) set.apart

pub union_empty-left : (ks : List Literal) (c : ℤ) → IsSet ks → union_terms [] ks c ≡ (ks, c) ∷ []
union_empty-left ks c set = union_apart [] ks ks c (literal_set-ascending ks set.ordered) set.apart

-- ---- a row

pub row_step : (t : Term) (us : List Term) (j : ℕ) (u : Term) → slice_get us j ≡ Some u
    → products_with t (drop j us) ≡ product_terms t u ++ products_with t (drop (j + 1) us)
row_step t us j u at = ap (products_with t) (drop-at us j u at)

pub row_small : (a : ℕ) (us : List Term) (j : ℕ) (u : Term) (most : ℕ) → slice_get us j ≡ Some u
    → a * terms_total (drop j us) ≤ most
    → a * unsigned_abs u.1 + a * terms_total (drop (j + 1) us) ≤ most
row_small a us j u most at small = omega (arith, small, ap (λ m. a * m) (total_left us j u at))

-- ---- a square

pub square_step : (n : ℕ) (us : List Term) (i : ℕ) (u : Term) → slice_get us i ≡ Some u
    → square_terms n (drop i us)
    ≡ ((u.0, pos n *ℤ (u.1 *ℤ u.1)) ∷ products_with (scaled (pos (2 * n)) u) (drop (i + 1) us))
    ++ square_terms n (drop (i + 1) us)
square_step n us i u at = ap (square_terms n) (drop-at us i u at)

-- its own square, its products with the parts after it, and their square fit
pub square_small : (n : ℕ) (us : List Term) (i : ℕ) (u : Term) (most : ℕ) → slice_get us i ≡ Some u
    → n * terms_total (drop i us) ^ 2 ≤ most → n * (unsigned_abs u.1 * unsigned_abs u.1)
    + 2 * n * unsigned_abs u.1 * terms_total (drop (i + 1) us)
    + n * terms_total (drop (i + 1) us) ^ 2 ≤ most
square_small n us i u most at small =
    let now = ap (λ m. n * m) (square_is (terms_total (drop i us)) ∙ ap (λ m. m * m) (total_left us i u at)) in
    omega (arith, ap (λ m. n * m) (square_is (terms_total (drop (i + 1) us))))

-- a factor of a square fits where the square does
pub once_small : (n a : ℕ) → n * a ≤ n * (a * a)
once_small n a = grind (arith, nat_tests, mul-le)

pub own_size : (n : ℕ) (a : ℤ) → unsigned_abs (pos n *ℤ (a *ℤ a)) ≡ n * (unsigned_abs a * unsigned_abs a)
own_size n a = unsigned_abs-mul (pos n) (a *ℤ a) ∙ ap (λ m. n * m) (unsigned_abs-mul a a)

pub scaled_size : (n : ℕ) (a : ℤ) → unsigned_abs (pos n *ℤ a) ≡ n * unsigned_abs a
scaled_size n a = unsigned_abs-mul (pos n) a
