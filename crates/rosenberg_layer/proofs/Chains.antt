-- Lists of terms, each of which tells the next one.
use Rattle.rosenberg_layer.proofs.Common.{nat_tests, elements, ◌≡◌, ◌≢◌, IsTrue, ◌↔◌, eqb, ℕ, zero, suc, ◌+◌, ◌-◌, ◌<◌, ◌≤◌, List, [], ◌∷◌, ◌++◌, length, map, get_or, set, replicate, refl, sym, ap, subst, arith, append_assoc, All, AllByRecursion, map-set, get_or-set_same, get_or-set_other, length-map, sum_by_more_le, All-tail, recursion_from_All, Head, chain, list_of, list_at, listed_count, IsApart}

-- the next term, and those after it
pub chain-next : (nexts : List ℕ) (n i at : ℕ) → i < n
    → chain nexts (n - i) at ≡ at ∷ chain nexts (n - (i + 1)) (get_or nexts at 0)
chain-next nexts n i at more = let count : n - i ≡ suc (n - (i + 1)) = omega arith in rw count refl

-- .. which is appended to those before
pub chain_appended : (nexts : List ℕ) (n i at : ℕ) (now after whole : List ℕ) → i < n
    → after ≡ now ++ at ∷ [] → now ++ chain nexts (n - i) at ≡ whole
    → after ++ chain nexts (n - (i + 1)) (get_or nexts at 0) ≡ whole
chain_appended nexts n i at now after whole more new so_far =
    grind (arith, nat_tests, append_assoc, chain-next)

pub chain_rest : (nexts : List ℕ) (n i at : ℕ) → i < n
    → All (λ t. t < length nexts) (chain nexts (n - i) at)
    → All (λ t. t < length nexts) (chain nexts (n - (i + 1)) (get_or nexts at 0))
chain_rest nexts n i at more all =
    let rest = chain nexts (n - (i + 1)) (get_or nexts at 0) in
    All-tail (λ t. t < length nexts) at rest
    (subst (All (λ t. t < length nexts)) (chain-next nexts n i at more) all)

-- ---- another term

chain-other : (nexts : List ℕ) (t v n at : ℕ) → AllByRecursion (λ x. x ≢ t) (chain nexts n at)
    → chain (set nexts t v) n at ≡ chain nexts n at
chain-other nexts t v zero at apart = refl
chain-other nexts t v (suc n) at apart =
    cc (get_or-set_other nexts t at v 0 apart.0, chain-other nexts t v n (get_or nexts at 0) apart.1)

lists-other : (nexts : List ℕ) (t v : ℕ) (heads : List Head)
    → AllByRecursion (λ xs. All (λ x. x ≢ t) xs) (map (list_of nexts) heads)
    → map (list_of (set nexts t v)) heads ≡ map (list_of nexts) heads
lists-other nexts t v [] apart = refl
lists-other nexts t v (head ∷ heads) apart =
    let own = recursion_from_All (λ x. x ≢ t) (list_of nexts head) apart.0 in
    cc (chain-other nexts t v head.count head.first own, lists-other nexts t v heads apart.1)

pub list_at-map : (f : Head → List ℕ) (heads : List Head) (b : ℕ) (head : Head) → b < length heads
    → head ≡ get_or heads b head → list_at (map f heads) b ≡ f head
list_at-map f [] b head within at = absurd (omega (arith, within))
list_at-map f (h ∷ heads) zero head within at = ap f (sym at)
list_at-map f (h ∷ heads) (suc b) head within at =
    list_at-map f heads b head (omega (arith, within)) at

-- ---- a term is put before those of a list

pub put_lists : (nexts nexts' : List ℕ) (heads heads' : List Head) (b t count : ℕ) (old : Head)
    → b < length heads → t < length nexts → IsApart (map (list_of nexts) heads) t
    → old ≡ get_or heads b old → nexts' ≡ set nexts t old.first → count ≡ old.count + 1
    → heads' ≡ set heads b (record { first = t; count = count }) → map (list_of nexts') heads'
    ≡ set (map (list_of nexts) heads) b (t ∷ list_at (map (list_of nexts) heads) b)
put_lists nexts nexts' heads heads' b t count old within inside apart at next more new =
    let after = set nexts t old.first in
    let head : Head = record { first = t; count = count } in
    let lists = map (list_of nexts) heads in
    let same = lists-other nexts t old.first heads (recursion_from_All (λ xs. All (λ x. x ≢ t) xs) lists apart) in
    let one : count ≡ suc old.count = omega arith in
    let first = get_or-set_same nexts t old.first 0 inside in
    let here = list_at-map (list_of after) heads b old within at in
    let longer : list_of after head ≡ t ∷ list_at lists b = rw one (cc) in
    let put = map-set (list_of after) heads b head in
    cc

-- every term lies in the room
pub put_room : (lists lists' : List (List ℕ)) (b t room room' : ℕ) → b < length lists → t < room
    → All (λ xs. All (λ x. x < room) xs) lists → lists' ≡ set lists b (t ∷ list_at lists b)
    → room' ≡ room → All (λ xs. All (λ x. x < room') xs) lists'
put_room lists lists' b t room room' within inside all new same = grind (arith, nat_tests, elements)

-- ---- a list is taken

pub take_lists : (nexts : List ℕ) (heads heads' : List Head) (b : ℕ)
    → heads' ≡ set heads b (record { first = 0; count = 0 })
    → map (list_of nexts) heads' ≡ set (map (list_of nexts) heads) b []
take_lists nexts heads heads' b new = rw new (map-set (list_of nexts) heads b (record { first = 0; count = 0 }))

-- ---- lists without terms

pub map-none : (nexts : List ℕ) (n : ℕ)
    → map (list_of nexts) (replicate n (record { first = 0; count = 0 })) ≡ replicate n []
map-none nexts zero = refl
map-none nexts (suc n) = ap (λ ls. [] ∷ ls) (map-none nexts n)

-- ---- how many terms there are

length-chain : (nexts : List ℕ) (n at : ℕ) → length (chain nexts n at) ≡ n
length-chain nexts zero at = refl
length-chain nexts (suc n) at = ap suc (length-chain nexts n (get_or nexts at 0))

-- a list has at most as many terms as all lists have
pub count_le : (nexts : List ℕ) (heads : List Head) (b : ℕ) (head : Head) → b < length heads
    → head ≡ get_or heads b head → head.count ≤ listed_count (map (list_of nexts) heads)
count_le nexts heads b head within at =
    let lists = map (list_of nexts) heads in
    let inside : b < length lists = omega (arith, within, length-map heads (list_of nexts)) in
    omega (
      arith,
      sum_by_more_le (λ (xs : List ℕ). length xs) lists b [] inside,
      ap length (list_at-map (list_of nexts) heads b head within at),
      length-chain nexts head.count head.first,
    )

-- the terms of a list lie in the room
pub list_room : (nexts : List ℕ) (heads : List Head) (b room : ℕ) (head : Head) → b < length heads
    → head ≡ get_or heads b head → All (λ xs. All (λ x. x < room) xs) (map (list_of nexts) heads)
    → All (λ x. x < room) (chain nexts head.count head.first)
list_room nexts heads b room head within at all =
    grind (arith, nat_tests, length-map heads (list_of nexts), list_at-map (list_of nexts) heads b head within at)

pub take_room : (lists lists' : List (List ℕ)) (b room : ℕ)
    → All (λ xs. All (λ x. x < room) xs) lists → lists' ≡ set lists b []
    → All (λ xs. All (λ x. x < room) xs) lists'
take_room lists lists' b room all new = grind (arith, nat_tests, elements)

-- a list has no terms where it has so many: none
pub none-chain : (nexts : List ℕ) (n at : ℕ) (terms : List ℕ) → terms ≡ chain nexts n at
    → IsTrue (eqb n 0) ↔ terms ≡ []
none-chain nexts zero at terms is = (λ e. is, λ e. refl)
none-chain nexts (suc n) at terms is = (λ e. grind (arith, nat_tests), λ e. absurd (omega (arith, ap length (sym is), ap length e)))
