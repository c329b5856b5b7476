-- Places that are the halves of their indices.
use Rattle.basic_solve.proofs.Common.{nat_tests, ◌≡◌, ℕ, zero, suc, ◌+◌, ◌-◌, ◌*◌, ◌/◌, ◌^◌, ◌<◌, ◌≤◌, ◌%◌, List, [], ◌∷◌, ◌++◌, length, map, get_or, take, take_all, refl, sym, ◌∙◌, arith, length-append, length-map, get_or_append_left, get_or-append_right, get_or-map, pow-succ', doubled, powers, drop, ap, no_less, one_le_pow}

-- numbers that stand twice each, and once more with their count added
twice-moved : (vs : List ℕ) (p : ℕ) → length vs ≡ 2 * p
    → ((x : ℕ) → x < 2 * p → get_or vs x 0 ≡ x / 2)
    → (x : ℕ) → x < 2 * (p + p) → get_or (vs ++ map (λ v. v + p) vs) x 0 ≡ x / 2
twice-moved vs p l h x lt =
    let left = get_or_append_left vs (map (λ v. v + p) vs) 0 x in
    let right = get_or-append_right vs (map (λ v. v + p) vs) x 0 in
    let low = h x in
    let high = h (x - 2 * p) in
    grind (arith, nat_tests, get_or-map)

doubled-halves : (vs : List ℕ) (p n : ℕ) → length vs ≡ 2 * p
    → ((x : ℕ) → x < 2 * p → get_or vs x 0 ≡ x / 2)
    → (x : ℕ) → x < 2 * p * 2 ^ n → get_or (doubled ◌+◌ vs (powers p n)) x 0 ≡ x / 2
doubled-halves vs p zero l h x lt = h x (omega (arith, lt))
doubled-halves vs p (suc n) l h x lt =
    doubled-halves (vs ++ map (λ v. v + p) vs) (p + p) n
    (omega (arith, l, length-append vs (map (λ v. v + p) vs), length-map vs (λ v. v + p)))
    (twice-moved vs p l h) x
    (let power = ap (λ m. 2 * p * m) (pow-succ' 2 n) in omega (arith, lt, power))

first-halves : (x : ℕ) → x < 2 * 1 → get_or (0 ∷ (0 + 0) ∷ []) x 0 ≡ x / 2
first-halves zero h = refl
first-halves (suc zero) h = refl
first-halves (suc (suc x)) h = absurd (omega arith)

-- where the digits are 0 and the powers of 2
pub places-halves : (digits : List ℕ) (n : ℕ) → digits ≡ 0 ∷ powers 1 n → (x : ℕ)
    → x < 2 ^ suc n → get_or (doubled ◌+◌ (0 ∷ []) digits) x 0 ≡ x / 2
places-halves digits n is x h =
    rw is (doubled-halves (0 ∷ (0 + 0) ∷ []) 1 n refl first-halves x (omega (arith, h, pow-succ' 2 n)))

-- the same where the digits after the first one are a slice
pub halves-at : (digits : List ℕ) → 1 ≤ length digits → get_or digits 0 0 ≡ 0
    → take (length digits - 1) (drop 1 digits)
    ≡ powers 1 (length (take (length digits - 1) (drop 1 digits)))
    → (x : ℕ) → x < 2 ^ length digits → get_or (doubled ◌+◌ (0 ∷ []) digits) x 0 ≡ x / 2
halves-at [] h first rest x lt = absurd (omega arith)
halves-at (d ∷ ds) h first rest x lt =
    let all : take (length (d ∷ ds) - 1) ds ≡ ds = take_all (length (d ∷ ds) - 1) ds (omega arith) in
    let tail = sym all ∙ rest ∙ ap (λ l. powers 1 (length l)) all in
    places-halves (d ∷ ds) (length ds) (λ i. first i ∷ tail i) x lt

pub digit-room : (p n b : ℕ) → 1 ≤ n → p * 2 ^ n < b → p + p < b
digit-room p zero b h l = absurd (omega arith)
digit-room p (suc n) b h l =
    let power = ap (λ m. p * m) (pow-succ' 2 n) in
    omega (arith, l, power, no_less p (2 ^ n) (one_le_pow n))

pub even-power : (n : ℕ) → 0 < n → (2 ^ n) % 2 ≡ 0
even-power zero h = absurd (omega arith)
even-power (suc n) h = omega (arith, pow-succ' 2 n)
