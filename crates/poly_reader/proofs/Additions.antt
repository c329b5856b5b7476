-- What is added to a problem one after another is the normal form of the whole.
--
-- A name keeps its number when more names come, so each product can be put down as it is read.
use Rattle.poly_reader.proofs.Common.{nat_tests, arith, ◌≡◌, ℕ, List, [], ◌∷◌, ◌++◌, length, map, fold, Result, Ok, refl, sym, map-append, fold-append, TextFault, TextAnswer, Word, ◌>>=◌, Fails, ProblemContent, normal_form, blank, with_variables, with_product, products_add_up, products_apart, Polynomial, Named, Listed, reading_of_words, names_after, all_literals, names_of, product_of, problem_of, polynomial_of, polynomial_of_words, with_listed, products_read}
use Rattle.poly_reader.proofs.NameNumbers.{names_after-longer, names_after-all, literals_of-longer}

-- ---- variables apart

names_after-append : (names : List (List ℕ)) (ls ks : List Named)
    → names_after names (ls ++ ks) ≡ names_after (names_after names ls) ks
names_after-append names ls ks = grind (arith, nat_tests, map-append, fold-append)

-- a product has the same numbers among later names
product_of-later : (names : List (List ℕ)) (t : Listed) (ls : List Named)
    → product_of (names_after names t.literals) t
    ≡ product_of (names_after (names_after names t.literals) ls) t
product_of-later names t ls =
    let now = names_after names t.literals in
    let same = literals_of-longer now (names_after now ls) t.literals (names_after-longer now ls) (names_after-all names t.literals) in
    (λ i. record { literals = sym same i; coefficient = t.coefficient })

-- a problem with products, and as many variables as there are names
abbrev with_products : ProblemContent → List (List ℕ) → List Listed → ProblemContent × List (List ℕ)
with_products p names ts =
    (with_variables (fold with_product p (map (product_of names) ts)) (length names), names)

listed_apart : (p : ProblemContent) (names : List (List ℕ)) (ts : List Listed)
    → p.variables ≡ length names
    → fold with_listed (p, names) ts ≡ with_products p (names_after names (all_literals ts)) ts
listed_apart p names [] e = λ i. (with_variables p (e i), names)
listed_apart p names (t ∷ ts) e =
    let now = names_after names t.literals in
    let last = names_after now (all_literals ts) in
    let all = names_after-append names t.literals (all_literals ts) in
    let rest = listed_apart (with_product (with_variables p (length now)) (product_of now t)) now ts refl in
    let later = product_of-later names t (all_literals ts) in
    let apart = products_apart (with_product p (product_of last t)) (length now) (map (product_of last) ts) in
    grind (arith, nat_tests)

put_together : (ts : List Listed)
    → fold with_listed (blank, []) ts ≡ (normal_form (problem_of ts), names_of ts)
put_together ts = grind (arith, nat_tests, listed_apart, products_apart, products_add_up)

-- ---- a text

abbrev State : Type 0
State = ProblemContent × List (List ℕ)

abbrev put_all : Result (List Listed) TextFault → Result State TextFault
put_all read = read >>= λ ts. Ok (fold with_listed (blank, []) ts)

abbrev whole : Result (List Listed) TextFault → Result Polynomial TextFault
whole read = read >>= λ ts. Ok (polynomial_of ts)

abbrev polynomial_from : State → Polynomial
polynomial_from s = record { problem = s.0; names = s.1 }

whole-put : (read : Result (List Listed) TextFault)
    → whole read ≡ put_all read >>= λ s. Ok (polynomial_from s)
whole-put read = grind (arith, nat_tests, put_together)

-- the polynomial of words: their products, put to a problem that says nothing
pub polynomial_of_words-put : (ws : List Word)
    → polynomial_of_words ws ≡ products_read ws >>= λ s. Ok (record { problem = s.0; names = s.1 })
unfolding polynomial_of_words
polynomial_of_words-put ws = whole-put (reading_of_words ws)

pub polynomial_fails : (e : TextAnswer) (ws : List Word) → Fails e (products_read ws)
    → Fails e (polynomial_of_words ws)
polynomial_fails e ws h = grind (arith, nat_tests, polynomial_of_words-put)

pub polynomial_read : (ws : List Word) (p : ProblemContent) (names : List (List ℕ))
    → products_read ws ≡ Ok (p, names)
    → polynomial_of_words ws ≡ Ok (record { problem = p; names = names })
polynomial_read ws p names h = grind (arith, nat_tests, polynomial_of_words-put)
