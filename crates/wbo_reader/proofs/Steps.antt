-- What is left to add to a problem, one after another.
use Rattle.wbo_reader.proofs.Common.{nat_tests, ints, ◌≡◌, ℕ, suc, ◌+◌, Bool, true, false, List, [], ◌∷◌, ◌++◌, map, drop, Some, ℤ, pos, neg_ℤ, ◌-ℤ◌, int_lt, sym, ap, subst, ◌∙◌, arith, if◌then◌else◌, slice_get, Product, Constraint, ProblemContent, negated, own_upper, IsSound, drop-at, Soft, bit_product, weighed_bits, with_products, with_rows, eased, eased_row, eased_rows, hard_rows, merged, all_of, top_row, at_most, None, compared, AtMost}
use Rattle.wbo_reader.proofs.Added.{more_rows, first_rows, more_products, first_products}

-- ---- weights on bits

abbrev bits_from : ℕ → ℕ → List Soft → List Product
bits_from v i soft = weighed_bits (v + i) (drop i soft)

next_bits : (v i : ℕ) (soft : List Soft) (s : Soft) → slice_get soft i ≡ Some s
    → bits_from v i soft ≡ (bit_product (v + i) (pos s.weight) ∷ []) ++ bits_from v (i + 1) soft
next_bits v i soft s at = grind (arith, nat_tests, drop-at)

pub bit_sound : (p q : ProblemContent) (v i : ℕ) (soft : List Soft) (s : Soft)
    → with_products p (weighed_bits (v + i) (drop i soft)) ≡ q → IsSound q
    → slice_get soft i ≡ Some s
    → IsSound (with_products p (bit_product (v + i) (pos s.weight) ∷ []))
bit_sound p q v i soft s left sound at =
    first_products p (bit_product (v + i) (pos s.weight) ∷ []) (bits_from v (i + 1) soft)
    (subst IsSound (sym left ∙ ap (with_products p) (next_bits v i soft s at)) sound)

pub bits_left : (p q new : ProblemContent) (v i : ℕ) (soft : List Soft) (s : Soft)
    → with_products p (weighed_bits (v + i) (drop i soft)) ≡ q → slice_get soft i ≡ Some s
    → new ≡ with_products p (bit_product (v + i) (pos s.weight) ∷ [])
    → with_products new (weighed_bits (v + (i + 1)) (drop (i + 1) soft)) ≡ q
bits_left p q new v i soft s left at is = grind (arith, nat_tests, more_products, next_bits)

-- ---- rows in their order

abbrev pub rows_left : List Bool → ℕ → List Constraint → ℕ → ℕ → List Soft → List Constraint
rows_left order i hard v j soft =
    all_of (merged order (hard_rows (drop i hard)) (eased_rows (v + j) (drop j soft)))

next_hard : (order rest : List Bool) (i : ℕ) (hard : List Constraint) (v j : ℕ) (soft : List Soft)
    (k : Constraint) → order ≡ false ∷ rest → slice_get hard i ≡ Some k
    → rows_left order i hard v j soft ≡ (k ∷ []) ++ rows_left rest (i + 1) hard v j soft
next_hard order rest i hard v j soft k first at =
    λ n. all_of (merged (first n) (hard_rows (drop-at hard i k at n)) (eased_rows (v + j)
    (drop j soft)))

next_soft : (order rest : List Bool) (i : ℕ) (hard : List Constraint) (v j : ℕ) (soft : List Soft)
    (s : Soft) → order ≡ true ∷ rest → slice_get soft j ≡ Some s → rows_left order i hard v j soft
    ≡ eased_row (v + j) s.constraint ++ rows_left rest i hard v (j + 1) soft
next_soft order rest i hard v j soft s first at =
    let next : suc (v + j) ≡ v + (j + 1) = omega arith in
    (λ n. all_of (merged (first n) (hard_rows (drop i hard)) (eased_rows (v + j)
    (drop-at soft j s at n)))) ∙ (λ n. eased_row (v + j) s.constraint
    ++ all_of (merged rest (hard_rows (drop i hard)) (eased_rows (next n) (drop (j + 1) soft))))

-- a problem with rows that begin with these
pub row_sound : (p q : ProblemContent) (rows row more : List Constraint)
    → with_rows p rows ≡ q → IsSound q → rows ≡ row ++ more → IsSound (with_rows p row)
row_sound p q rows row more left sound begins = grind (arith, nat_tests, first_rows)

row_added : (p q new : ProblemContent) (rows row more : List Constraint)
    → with_rows p rows ≡ q → rows ≡ row ++ more → new ≡ with_rows p row → with_rows new more ≡ q
row_added p q new rows row more left begins is = grind (arith, nat_tests, more_rows)

pub hard_sound : (p q : ProblemContent) (order rest : List Bool) (i : ℕ) (hard : List Constraint)
    (v j : ℕ) (soft : List Soft) (k : Constraint)
    → with_rows p (rows_left order i hard v j soft) ≡ q → IsSound q
    → order ≡ false ∷ rest → slice_get hard i ≡ Some k → IsSound (with_rows p (k ∷ []))
hard_sound p q order rest i hard v j soft k left sound first at =
    row_sound p q (rows_left order i hard v j soft) (k ∷ []) (rows_left rest (i + 1) hard v j soft)
    left sound (next_hard order rest i hard v j soft k first at)

pub soft_sound : (p q : ProblemContent) (order rest : List Bool) (i : ℕ) (hard : List Constraint)
    (v j : ℕ) (soft : List Soft) (s : Soft)
    → with_rows p (rows_left order i hard v j soft) ≡ q → IsSound q
    → order ≡ true ∷ rest → slice_get soft j ≡ Some s
    → IsSound (with_rows p (eased_row (v + j) s.constraint))
soft_sound p q order rest i hard v j soft s left sound first at =
    row_sound p q (rows_left order i hard v j soft) (eased_row (v + j) s.constraint)
    (rows_left rest i hard v (j + 1) soft) left sound
    (next_soft order rest i hard v j soft s first at)

pub hard_added : (p q new : ProblemContent) (order rest : List Bool) (i : ℕ)
    (hard : List Constraint) (v j : ℕ) (soft : List Soft) (k : Constraint)
    → with_rows p (rows_left order i hard v j soft) ≡ q
    → order ≡ false ∷ rest → slice_get hard i ≡ Some k → new ≡ with_rows p (k ∷ [])
    → with_rows new (rows_left rest (i + 1) hard v j soft) ≡ q
hard_added p q new order rest i hard v j soft k left first at is =
    row_added p q new (rows_left order i hard v j soft) (k ∷ [])
    (rows_left rest (i + 1) hard v j soft) left (next_hard order rest i hard v j soft k first at) is

pub soft_added : (p q new : ProblemContent) (order rest : List Bool) (i : ℕ)
    (hard : List Constraint)
    (v j : ℕ) (soft : List Soft) (s : Soft) → with_rows p (rows_left order i hard v j soft) ≡ q
    → order ≡ true ∷ rest → slice_get soft j ≡ Some s
    → new ≡ with_rows p (eased_row (v + j) s.constraint)
    → with_rows new (rows_left rest i hard v (j + 1) soft) ≡ q
soft_added p q new order rest i hard v j soft s left first at is =
    row_added p q new (rows_left order i hard v j soft) (eased_row (v + j) s.constraint)
    (rows_left rest i hard v (j + 1) soft) left (next_soft order rest i hard v j soft s first at) is

-- ---- the top

less-turned : (top : ℕ) → pos 1 -ℤ pos top ≡ neg_ℤ (pos top -ℤ pos 1)
less-turned top = omega (arith, ints)

pub top_needed : (p : ProblemContent) (top : ℕ) (ts : List Product) (bound : ℤ)
    → int_lt (own_upper p) (pos top) ≡ false → ts ≡ map negated p.objective
    → bound ≡ pos 1 -ℤ pos top
    → record { products = ts; bound = bound; exact = false } ∷ [] ≡ top_row p top
top_needed p top ts bound reached products is =
    (λ i. record { products = products i; bound = (is ∙ less-turned top) i; exact = false } ∷ [])
    ∙ ap (λ b. at_most (if b then None else Some (pos top -ℤ pos 1)) p.objective) (sym reached)

-- ---- what stands for a soft constraint

pub first_eased : (p : ProblemContent) (v : ℕ) (k : Constraint) (ts : List Product) (b : ℤ)
    → IsSound (with_rows p (eased_row v k)) → ts ≡ k.products → b ≡ k.bound
    → IsSound (with_rows p (eased v ts b ∷ []))
first_eased p v k ts b sound products bound =
    subst (λ (e : Constraint). IsSound (with_rows p (e ∷ [])))
    (sym (λ i. eased v (products i) (bound i))) (go k.exact sound)
  where
    one : Constraint
    one = eased v k.products k.bound

    two : Constraint
    two = eased v (map negated k.products) (neg_ℤ k.bound)

    go : (exact : Bool) → IsSound (with_rows p (if exact then one ∷ two ∷ [] else one ∷ []))
        → IsSound (with_rows p (one ∷ []))
    go true h = first_rows p (one ∷ []) (two ∷ []) h
    go false h = h

row_of_exact : (v : ℕ) (k : Constraint) → k.exact ≡ true → eased_row v k
    ≡ eased v k.products k.bound ∷ eased v (map negated k.products) (neg_ℤ k.bound) ∷ []
row_of_exact v k exact = grind (arith, nat_tests, ints)

-- both, one after another
pub both_eased : (p q : ProblemContent) (v : ℕ) (k : Constraint) (ts us : List Product) (b d : ℤ)
    → k.exact ≡ true → q ≡ with_rows p (eased v ts b ∷ [])
    → ts ≡ k.products → b ≡ k.bound → us ≡ map negated k.products → d ≡ neg_ℤ k.bound
    → with_rows q (eased v us d ∷ []) ≡ with_rows p (eased_row v k)
both_eased p q v k ts us b d exact is products bound others other =
    grind (arith, nat_tests, ints, more_rows, row_of_exact)
