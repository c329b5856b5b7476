-- Numbers that all differ: in descending order no two neighbours are equal.
use Rattle.local_penalties.proofs.Common.{◌≡◌, ℕ, ◌+◌, ◌-◌, ◌<◌, ◌≤◌, sym, ap, ◌∙◌, refl, arith, nat_tests, List, [], ◌∷◌, length, drop, get_or, drop_more, Bool, true, false, not, cond, ◌&&◌, ◌||◌, eqb, nat_lt, list_any, AllByRecursion, put_down, descending, all_differ, neighbours_differ}
use Rattle.local_penalties.proofs.Descending.{IsFalling, descending-falls}

-- ---- in order

none-equal : (b n : ℕ) (ns : List ℕ) → AllByRecursion (λ m. m ≤ b) ns → b < n → list_any (λ m. eqb m n) ns ≡ false
none-equal b n [] all less = refl
none-equal b n (m ∷ ms) all less =
    let here = all.0 in
    let others = none-equal b n ms all.1 less in
    grind (arith, nat_tests)

any-put : (p : ℕ → Bool) (n : ℕ) (ns : List ℕ) → list_any p (put_down n ns) ≡ (p n || list_any p ns)
any-put p n [] = refl
any-put p n (m ∷ ms) = decide (any-put p n ms) (nat_lt m n)
  where
    decide : list_any p (put_down n ms) ≡ (p n || list_any p ms) → (c : Bool)
        → list_any p (cond c (n ∷ m ∷ ms) (m ∷ put_down n ms)) ≡ (p n || list_any p (m ∷ ms))
    decide later true = refl
    decide later false = grind (arith, nat_tests)

any-descending : (p : ℕ → Bool) (ns : List ℕ) → list_any p (descending ns) ≡ list_any p ns
any-descending p [] = refl
any-descending p (n ∷ ns) = any-put p n (descending ns) ∙ ap (λ b. p n || b) (any-descending p ns)

-- a number between two that follow each other, and one that is no more than both
between-two : (m n k : ℕ) (any left all : Bool) → n ≤ m → k < n → all ≡ (not (eqb k n || any) && left)
    → (not (eqb n m) && all) ≡ (not (eqb m n || (eqb k n || any)) && (not (eqb k m) && left))
between-two m n k any left all first second is = grind (arith, nat_tests)

below-two : (m n k : ℕ) (any left all : Bool) → n ≤ m → n ≤ k → k ≤ m → all ≡ (not (eqb k n || any) && left)
    → (not (eqb k m) && all) ≡ (not (eqb m n || (eqb k n || any)) && (not (eqb k m) && left))
below-two m n k any left all first second third is = grind (arith, nat_tests)

put-differ : (n : ℕ) (ns : List ℕ) → IsFalling ns
    → neighbours_differ (put_down n ns) ≡ (not (list_any (λ m. eqb m n) ns) && neighbours_differ ns)
put-differ n [] falls = refl
put-differ n (m ∷ []) falls = decide (nat_lt m n) refl
  where
    decide : (c : Bool) → nat_lt m n ≡ c → neighbours_differ (cond c (n ∷ m ∷ []) (m ∷ n ∷ []))
        ≡ (not (list_any (λ i. eqb i n) (m ∷ [])) && neighbours_differ (m ∷ []))
    decide true e = grind (arith, nat_tests)
    decide false e = grind (arith, nat_tests)
put-differ n (m ∷ k ∷ ks) falls =
    decide (nat_lt m n) refl (nat_lt k n) refl (put-differ n (k ∷ ks) falls.1)
  where
    decide : (c : Bool) → nat_lt m n ≡ c → (d : Bool) → nat_lt k n ≡ d
        → neighbours_differ (cond d (n ∷ k ∷ ks) (k ∷ put_down n ks))
        ≡ (not (list_any (λ i. eqb i n) (k ∷ ks)) && neighbours_differ (k ∷ ks))
        → neighbours_differ (cond c (n ∷ m ∷ k ∷ ks) (m ∷ cond d (n ∷ k ∷ ks) (k ∷ put_down n ks)))
        ≡ (not (list_any (λ i. eqb i n) (m ∷ k ∷ ks)) && neighbours_differ (m ∷ k ∷ ks))
    decide true e d f later =
        let none = none-equal m n (k ∷ ks) falls.0 (grind (arith, nat_tests)) in
        grind (arith, nat_tests)
    decide false e true f later =
        between-two m n k _ _ _ (grind (arith, nat_tests)) (grind (arith, nat_tests)) later
    decide false e false f later =
        below-two m n k _ _ _ (grind (arith, nat_tests)) (grind (arith, nat_tests)) falls.0.0 later

pub differ-descending : (ns : List ℕ) → neighbours_differ (descending ns) ≡ all_differ ns
differ-descending [] = refl
differ-descending (n ∷ ns) =
    put-differ n (descending ns) (descending-falls ns)
    ∙ (λ j. not (any-descending (λ m. eqb m n) ns j) && differ-descending ns j)

-- ---- one neighbour after another

pub differ-short : (ns : List ℕ) → length ns ≤ 1 → neighbours_differ ns ≡ true
differ-short [] short = refl
differ-short (n ∷ []) short = refl
differ-short (n ∷ m ∷ ms) short = absurd (omega (arith, short))

pub differ-at : (ns : List ℕ) (i : ℕ) → 1 ≤ i → i < length ns
    → neighbours_differ (drop (i - 1) ns) ≡ (not (eqb (get_or ns i 0) (get_or ns (i - 1) 0)) && neighbours_differ (drop i ns))
differ-at ns i some within =
    let a = get_or ns (i - 1) 0 in
    let b = get_or ns i 0 in
    let back : i - 1 + 1 ≡ i = omega (arith, some) in
    let before : drop (i - 1) ns ≡ a ∷ drop i ns = drop_more ns (i - 1) 0 (omega (arith, within)) ∙ (λ j. a ∷ drop (back j) ns) in
    let here : drop i ns ≡ b ∷ drop (i + 1) ns = drop_more ns i 0 within in
    ap neighbours_differ before ∙ (λ j. neighbours_differ (a ∷ here j))
    ∙ (λ j. not (eqb b a) && neighbours_differ (sym here j))
