-- Literals of low prices.
use Rattle.local_penalties.proofs.Common.{◌≡◌, ℕ, ◌+◌, ◌-◌, ◌<◌, ◌≤◌, sym, ◌∙◌, refl, arith, nat_tests, List, [], ◌∷◌, length, get_or, get_or_past, Bool, true, false, cond, leb, nat_lt, list_any, map, fold, min, sum_by-cons, count_by, Literal, same, far, greatest, descending}
use Rattle.std.proofs.Common.{◌⊎◌, inl, inr}
use Rattle.local_penalties.proofs.Descending.{descending-falls, sum-descending, few-above}

-- ---- the least price

-- a literal of a list has this price
pub record Priced (f : Literal → ℕ) (ls : List Literal) (n : ℕ) : Type 0 where
  pub literal : Literal
  pub listed : list_any (same literal) ls ≡ true
  pub prices : f literal ≡ n

pub same-refl : (l : Literal) → same l l ≡ true
same-refl l = grind (arith, nat_tests)

priced-rest : (f : Literal → ℕ) (l : Literal) (ls : List Literal) (n : ℕ) → Priced f ls n → Priced f (l ∷ ls) n
priced-rest f l ls n found = record {
  literal = found.literal;
  listed = later found.literal found.listed;
  prices = found.prices;
}
  where
    later : (m : Literal) → list_any (same m) ls ≡ true → list_any (same m) (l ∷ ls) ≡ true
    later m is = grind (arith, nat_tests)

-- the least of a number and of prices is the number, or some price
pub least-found : (f : Literal → ℕ) (ls : List Literal) (a : ℕ)
    → (fold min a (map f ls) ≡ a) ⊎ Priced f ls (fold min a (map f ls))
least-found f [] a = inl refl
least-found f (l ∷ ls) a = elim (least-found f ls (min a (f l))) [
  | inl kept ↦ pick (nat_lt (f l) a) refl kept
  | inr found ↦ inr (priced-rest f l ls _ found)
]
  where
    pick : (b : Bool) → nat_lt (f l) a ≡ b → fold min (min a (f l)) (map f ls) ≡ min a (f l)
        → (fold min (min a (f l)) (map f ls) ≡ a) ⊎ Priced f (l ∷ ls) (fold min (min a (f l)) (map f ls))
    pick true e kept =
        let less : min a (f l) ≡ f l = grind (arith, nat_tests) in
        inr (record { literal = l; listed = first l; prices = sym (kept ∙ less) })
      where
        first : (m : Literal) → list_any (same m) (m ∷ ls) ≡ true
        first m = let here = same-refl m in grind (arith, nat_tests)
    pick false e kept =
        let more : min a (f l) ≡ a = grind (arith, nat_tests) in
        inl (kept ∙ more)

-- ---- the j-th greatest price

-- a literal of a list that passes a test has no higher price
pub record Cheap (f : Literal → ℕ) (test : Literal → Bool) (ls : List Literal) (n : ℕ) : Type 0 where
  pub literal : Literal
  pub listed : list_any (same literal) ls ≡ true
  pub passes : test literal ≡ true
  pub price : f literal ≤ n

cheap-rest : (f : Literal → ℕ) (test : Literal → Bool) (l : Literal) (ls : List Literal) (n : ℕ)
    → Cheap f test ls n → Cheap f test (l ∷ ls) n
cheap-rest f test l ls n found = record {
  literal = found.literal;
  listed = later found.literal found.listed;
  passes = found.passes;
  price = found.price;
}
  where
    later : (m : Literal) → list_any (same m) ls ≡ true → list_any (same m) (l ∷ ls) ≡ true
    later m is = grind (arith, nat_tests)

-- where more pass the test than have higher prices
some-cheap : (f : Literal → ℕ) (test : Literal → Bool) (n : ℕ) (ls : List Literal)
    → count_by (λ l. nat_lt n (f l)) ls < count_by test ls → Cheap f test ls n
some-cheap f test n [] less = absurd (omega (arith, less))
some-cheap f test n (l ∷ ls) less =
    decide (some-cheap f test n ls) (sum_by-cons (λ m. cond (nat_lt n (f m)) 1 0) l ls)
    (sum_by-cons (λ m. cond (test m) 1 0) l ls) (test l) refl (nat_lt n (f l)) refl
  where
    first : (m : Literal) → list_any (same m) (m ∷ ls) ≡ true
    first m = let here = same-refl m in grind (arith, nat_tests)

    decide : (count_by (λ m. nat_lt n (f m)) ls < count_by test ls → Cheap f test ls n)
        → count_by (λ m. nat_lt n (f m)) (l ∷ ls) ≡ cond (nat_lt n (f l)) 1 0 + count_by (λ m. nat_lt n (f m)) ls
        → count_by test (l ∷ ls) ≡ cond (test l) 1 0 + count_by test ls
        → (b : Bool) → test l ≡ b → (d : Bool) → nat_lt n (f l) ≡ d → Cheap f test (l ∷ ls) n
    decide later high passing true e false h =
        record { literal = l; listed = first l; passes = e; price = grind (arith, nat_tests) }
    decide later high passing true e true h = cheap-rest f test l ls n (later (grind (arith, nat_tests)))
    decide later high passing false e d h = cheap-rest f test l ls n (later (grind (arith, nat_tests)))

count-map : {X : Type 0} (f : X → ℕ) (p : ℕ → Bool) (xs : List X)
    → count_by p (map f xs) ≡ count_by (λ x. p (f x)) xs
count-map f p [] = refl
count-map f p (x ∷ xs) =
    omega (arith, sum_by-cons (λ n. cond (p n) 1 0) (f x) (map f xs), sum_by-cons (λ y. cond (p (f y)) 1 0) x xs, count-map f p xs)

within-one : (ns : List ℕ) (i : ℕ) → get_or ns i far < far → i < length ns
within-one ns i less = decide (leb (length ns) i) refl
  where
    decide : (b : Bool) → leb (length ns) i ≡ b → i < length ns
    decide false e = grind (arith, nat_tests)
    decide true e =
        let past : length ns ≤ i = grind (arith, nat_tests) in
        absurd (omega (arith, less, get_or_past ns i far past))

-- where at least j pass the test, and some, one has no higher price than the j-th greatest
pub greatest-found : (f : Literal → ℕ) (test : Literal → Bool) (j : ℕ) (ls : List Literal)
    → greatest j (map f ls) < far → j ≤ count_by test ls → 1 ≤ count_by test ls
    → Cheap f test ls (greatest j (map f ls))
greatest-found f test j ls finite many some =
    let ns = descending (map f ls) in
    let n = get_or ns (j - 1) far in
    let is : greatest j (map f ls) ≡ n = omega (arith, finite) in
    let few = few-above ns (j - 1) far (descending-falls (map f ls)) (within-one ns (j - 1) (omega (arith, is, finite))) in
    let same_count = sum-descending (λ m. cond (nat_lt n m) 1 0) (map f ls) in
    let counts = count-map f (nat_lt n) ls in
    rw is (some-cheap f test n ls (omega (arith, few, same_count, counts, many, some)))
