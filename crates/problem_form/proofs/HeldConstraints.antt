-- Constraints whose products lie one after another: more products leave them as they are, and one
-- more constraint.
use Rattle.problem_form.proofs.Common.{nat_tests, ◌≡◌, arith, refl, sym, ap, ◌∙◌, List, [], ◌∷◌, ◌++◌, length, length-append, map, take, drop, All, slice_range, take-append-drop, map-append, All-tail, take-append_seam, Product, Row, constraint_of, LiesWithin, slice_range-append, slice_range-last, All-push}

-- ---- more products

same_rows : (products more : List Product) (rows : List Row)
    → All (LiesWithin (length products)) rows
    → map (constraint_of (products ++ more)) rows ≡ map (constraint_of products) rows
same_rows products more [] within = refl
same_rows products more (row ∷ rows) within =
    let here : LiesWithin (length products) row = within 0 row (omega arith) in
    let part = slice_range-append products more row.start row.end here.0 here.1 in
    let others = same_rows products more rows (All-tail (LiesWithin (length products)) row rows within) in
    λ i. record { products = part i; bound = row.bound; exact = row.exact } ∷ others i

-- the list begins with the products that were there, so they are these and more
begun : (products products' : List Product) → take (length products) products' ≡ products
    → products ++ drop (length products) products' ≡ products'
begun products products' before = grind (arith, nat_tests, take-append-drop)

pub rows_kept : (products products' : List Product) (rows : List Row)
    → take (length products) products' ≡ products → All (LiesWithin (length products)) rows
    → map (constraint_of products') rows ≡ map (constraint_of products) rows
rows_kept products products' rows before within =
    ap (λ ts. map (constraint_of ts) rows) (sym (begun products products' before))
    ∙ same_rows products (drop (length products) products') rows within

pub rows_within : (products products' : List Product) (rows : List Row)
    → take (length products) products' ≡ products → All (LiesWithin (length products)) rows
    → All (LiesWithin (length products')) rows
rows_within products products' rows before within =
    let all = ap length (begun products products' before) in
    λ k d h. ((within k d h).0, omega (arith, (within k d h).1, length-append {A = Product}))

-- ---- one more constraint

pub row_pushed : (products kept products' : List Product) (rows rows' : List Row) (row : Row)
    → products' ≡ products ++ kept → rows' ≡ rows ++ row ∷ [] → row.start ≡ length products
    → row.end ≡ length products' → All (LiesWithin (length products)) rows
    → map (constraint_of products') rows' ≡ map (constraint_of products) rows
    ++ record { products = kept; bound = row.bound; exact = row.exact } ∷ []
row_pushed products kept products' rows rows' row at_products at_rows starts ends within =
    let all = products ++ kept in
    let part : slice_range all row.start row.end ≡ kept =
    (λ i. slice_range all (starts i) ((ends ∙ ap length at_products) i)) ∙ slice_range-last products kept in
    (λ i. map (constraint_of (at_products i)) (at_rows i))
    ∙ map-append (constraint_of all) rows (row ∷ []) ∙ (λ i. same_rows products kept rows within i
    ++ record { products = part i; bound = row.bound; exact = row.exact } ∷ [])

pub rows_pushed-within : (products kept products' : List Product) (rows rows' : List Row) (row : Row)
    → products' ≡ products ++ kept → rows' ≡ rows ++ row ∷ [] → row.start ≡ length products
    → row.end ≡ length products' → All (LiesWithin (length products)) rows
    → All (LiesWithin (length products')) rows'
rows_pushed-within products kept products' rows rows' row at_products at_rows starts ends within =
    let before : take (length products) products' ≡ products = rw (at_products, take-append_seam) refl in
    let longer = ap length at_products in
    let one : LiesWithin (length products') row =
    (omega (arith, starts, ends, longer, length-append products kept), omega (arith, ends)) in
    let P : Row → Type 0 = LiesWithin (length products') in
    rw at_rows (All-push P rows row (rows_within products products' rows before within) one)
