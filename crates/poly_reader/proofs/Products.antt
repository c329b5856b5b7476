-- Products, one after another: one more is read, it fails, or the text ends.
use Rattle.poly_reader.proofs.Common.{nat_tests, ints, arith, ◌≡◌, ℕ, ℤ, List, [], ◌∷◌, length, fold, Result, Ok, Err, refl, sym, ap, ◌∙◌, TextFault, TextAnswer, Word, ◌>>=◌, Fails, integer_at, each, by_line, on_line, past_line, row_of, by_line-first, Literal, literal_set, Product, ProblemContent, with_variables, with_product, Named, Listed, literal_at, product_at, reading_of_words, names_after, product_of, numbered, product_read, with_listed, products_put}
use Rattle.poly_reader.proofs.ProductSets.{with_product-set}

-- a problem and the names of its variables
abbrev State : Type 0
State = ProblemContent × List (List ℕ)

-- a product, all names so far, and what is left
abbrev Part : Type 0
Part = Product × List (List ℕ) × List Word

abbrev read_as : Part → Result Part TextFault
read_as x = Ok x

three_parts : (x y : Part) → read_as x ≡ read_as y → (x.0 ≡ y.0) × (x.1 ≡ y.1) × (x.2 ≡ y.2)
three_parts x y h = let same : x ≡ y = cc in (ap (λ (z : Part). z.0) same, ap (λ (z : Part). z.1) same, ap (λ (z : Part). z.2) same)

-- the steps of one product, as the words are read and as they are put to a problem
abbrev listed : ℤ → List Named → Result Listed TextFault
listed c ls = Ok (record { coefficient = c; literals = ls })

abbrev put_literals : List (List ℕ) → List Word → List Named → Result (List Literal × List (List ℕ) × List Word) TextFault
put_literals names rest ls = Ok (literal_set (numbered names ls), names_after names ls, rest)

abbrev put_product : ℤ → List Literal × List (List ℕ) × List Word → Result Part TextFault
put_product c x = Ok (record { literals = x.0; coefficient = c }, x.1, x.2)

abbrev with_first : Listed → List Listed → Result (List Listed) TextFault
with_first t ts = Ok (t ∷ ts)

abbrev before : Result (List Listed) TextFault → Listed → Result (List Listed) TextFault
before others t = others >>= with_first t

abbrev put_all : State → Result (List Listed) TextFault → Result State TextFault
put_all s read = read >>= λ ts. Ok (fold with_listed s ts)

put_one : (s : State) (t : Listed) (others : Result (List Listed) TextFault)
    → put_all s (before others t) ≡ put_all (with_listed s t) others
put_one s t others = grind (arith, nat_tests)

one_goes_on : (p : ProblemContent) (names names' : List (List ℕ)) (rest rest' : List Word) (t : Product)
    (number : Result ℤ TextFault) (read : Result (List Named) TextFault)
    (others : List Word → Result (List Listed) TextFault)
    → (number >>= λ c. (read >>= put_literals names rest) >>= put_product c) ≡ Ok (t, names', rest')
    → put_all (p, names) ((number >>= λ c. read >>= listed c) >>= before (others rest))
    ≡ put_all (with_product (with_variables p (length names')) t, names') (others rest')
one_goes_on p names names' rest rest' t (Err f) read others h = absurd cc
one_goes_on p names names' rest rest' t (Ok c) (Err f) others h = absurd cc
one_goes_on p names names' rest rest' t (Ok c) (Ok ls) others h =
    let last = names_after names ls in
    let same = three_parts (record { literals = literal_set (numbered names ls); coefficient = c }, last, rest) (t, names', rest') h in
    let own : Listed = record { coefficient = c; literals = ls } in
    put_one (p, names) own (others rest)
    ∙ ap (λ (q : ProblemContent). put_all (q, last) (others rest))
    (sym (with_product-set (with_variables p (length last)) (product_of last own)))
    ∙ (λ i. put_all (with_product (with_variables p (length (same.1 i))) (same.0 i), same.1 i) (others (same.2 i)))

one_fails : (e : TextAnswer) (s : State) (names : List (List ℕ)) (rest : List Word)
    (number : Result ℤ TextFault) (read : Result (List Named) TextFault)
    (others : Result (List Listed) TextFault)
    → Fails e (number >>= λ c. (read >>= put_literals names rest) >>= put_product c)
    → Fails e (put_all s ((number >>= λ c. read >>= listed c) >>= before others))
one_fails e s names rest number read others h = grind (arith, nat_tests, ints)

-- ---- words

abbrev products_by : List Word → Result (List Listed) TextFault
products_by ws = each product_at (by_line ws)

first_line : (w : Word) (ws : List Word) → products_by (w ∷ ws)
    ≡ product_at (row_of w (on_line w.line ws)) >>= before (products_by (past_line w.line ws))
unfolding each
first_line w ws = ap (each product_at) (by_line-first w ws)

pub product_goes_on : (p : ProblemContent) (names names' : List (List ℕ)) (w : Word)
    (ws rest : List Word) (t : Product) → product_read names w ws ≡ Ok (t, names', rest)
    → products_put (p, names) (w ∷ ws)
    ≡ products_put (with_product (with_variables p (length names')) t, names') rest
unfolding reading_of_words product_at
product_goes_on p names names' w ws rest t h =
    ap (put_all (p, names)) (first_line w ws)
    ∙ one_goes_on p names names' (past_line w.line ws) rest t (integer_at w) (each literal_at (on_line w.line ws)) products_by h

pub product_fails : (e : TextAnswer) (p : ProblemContent) (names : List (List ℕ)) (w : Word)
    (ws : List Word) → Fails e (product_read names w ws) → Fails e (products_put (p, names) (w ∷ ws))
unfolding reading_of_words product_at
product_fails e p names w ws h = grind (arith, nat_tests, first_line, one_fails)

pub products_end : (s : State) (ws : List Word) → ws ≡ [] → products_put s ws ≡ Ok s
unfolding reading_of_words each by_line
products_end s ws none = rw none refl
