-- Marks and numbers of the literals that move a product, or a sum.
use Rattle.local_penalties.proofs.Common.{◌≡◌, ℕ, ◌+◌, ◌-◌, ap, subst, arith, nat_tests, List, ◌∷◌, Bool, true, not, cond, ◌&&◌, ◌||◌, All-head, All-tail, Literal, Product, moves, moves_sum, number_of, AreWithin, HavePlaces, MayChange}

pub product-within : (places : ℕ) (t : Product) (left others : List Product) → left ≡ t ∷ others
    → HavePlaces places left → AreWithin places t.literals
product-within places t left others is within =
    All-head (λ u. AreWithin places u.literals) t others (subst (λ ts. HavePlaces places ts) is within)

pub products-within : (places : ℕ) (t : Product) (left others : List Product) → left ≡ t ∷ others
    → HavePlaces places left → HavePlaces places others
products-within places t left others is within =
    All-tail (λ u. AreWithin places u.literals) t others (subst (λ ts. HavePlaces places ts) is within)

pub products-marked : (was now : Bool) (up : Bool) (t : Product) (left others : List Product) (l : Literal)
    → left ≡ t ∷ others → now ≡ (was || moves up t l)
    → (now || moves_sum up others l) ≡ (was || moves_sum up left l)
products-marked was now up t left others l is e =
    let sum = ap (λ ts. moves_sum up ts l) is in
    both was now (moves up t l) (moves_sum up others l) _ e sum
  where
    both : (was now a b c : Bool) → now ≡ (was || a) → c ≡ (a || b) → (now || b) ≡ (was || c)
    both was now a b c e s = grind (arith, nat_tests)

pub products-unmarked : (was now : Bool) (up : Bool) (t : Product) (left others : List Product) (l : Literal)
    → left ≡ t ∷ others → now ≡ (was && not (moves up t l))
    → (now && not (moves_sum up others l)) ≡ (was && not (moves_sum up left l))
products-unmarked was now up t left others l is e =
    let sum = ap (λ ts. moves_sum up ts l) is in
    both was now (moves up t l) (moves_sum up others l) _ e sum
  where
    both : (was now a b c : Bool) → now ≡ (was && not a) → c ≡ (a || b) → (now && not b) ≡ (was && not c)
    both was now a b c e s = grind (arith, nat_tests)

-- a number that changes where one test or, later, another holds
pub changed-twice : (was now a b c : Bool) (n n' plus minus : ℕ) → now ≡ (was && not a) → c ≡ (a || b)
    → n' ≡ cond (was && a) (n - minus + plus) n
    → cond (now && b) (n' - minus + plus) n' ≡ cond (was && c) (n - minus + plus) n
changed-twice was now a b c n n' plus minus e s changed = grind (arith, nat_tests)

pub still-may : (ns ns' : List ℕ) (was now a : Bool) (plus minus : ℕ) (l : Literal)
    → now ≡ (was && not a) → number_of ns' l ≡ cond (was && a) (number_of ns l - minus + plus) (number_of ns l)
    → (was ≡ true → MayChange ns plus minus l) → now ≡ true → MayChange ns' plus minus l
still-may ns ns' was now a plus minus l e changed may is =
    let marked : was ≡ true = grind (arith, nat_tests) in
    let same : number_of ns' l ≡ number_of ns l = grind (arith, nat_tests) in
    rw same (may marked)
