-- The elements of a list that are marked: one step of moving them to the front, and what holds of
-- them.
use Rattle.problem_form.proofs.Common.{nat_tests, ◌≡◌, ℕ, zero, suc, ◌+◌, ◌<◌, ◌≤◌, Bool, true, false, refl, sym, ap, ◌∙◌, arith, List, [], ◌∷◌, ◌++◌, length, take, drop, get_or, set, map, append_assoc, add-one, drop-cons, All, sum_by, take-suc-set, drop-set-lt, sum_by-cons, All-cons, All-head, All-nil, All-tail, marked}

-- ---- one step

marked-nil : {A : Type 0} (ms : List Bool) → marked {A = A} ms [] ≡ []
marked-nil [] = refl
marked-nil (m ∷ ms) = refl

passed : {A : Type 0} (ms : List Bool) (xs : List A) (i : ℕ)
    → i < length ms → get_or ms i false ≡ false
    → marked (drop (suc i) ms) (drop (suc i) xs) ≡ marked (drop i ms) (drop i xs)
passed [] xs i h is = absurd (omega (arith, h))
passed (m ∷ ms) [] zero h is = marked-nil ms
passed (true ∷ ms) (x ∷ xs) zero h is = cc
passed (false ∷ ms) (x ∷ xs) zero h is = refl
passed (m ∷ ms) [] (suc i) h is = marked-nil (drop (suc i) ms) ∙ sym (marked-nil (drop i ms))
passed (m ∷ ms) (x ∷ xs) (suc i) h is = passed ms xs i (omega (arith, h)) is

-- an element that is not marked is passed
pub marked-passed : {A : Type 0} (ms : List Bool) (xs front : List A) (i : ℕ)
    → i < length ms → get_or ms i false ≡ false
    → front ++ marked (drop (i + 1) ms) (drop (i + 1) xs) ≡ front ++ marked (drop i ms) (drop i xs)
marked-passed ms xs front i h is = rw (add-one i) (ap (λ ys. front ++ ys) (passed ms xs i h is))

here : {A : Type 0} (ms : List Bool) (xs : List A) (i : ℕ) (x : A) → i < length ms → i < length xs
    → get_or ms i false ≡ true → get_or xs i x ≡ x
    → marked (drop i ms) (drop i xs) ≡ x ∷ marked (drop (suc i) ms) (drop (suc i) xs)
here ms xs i x hm hx is at =
    (λ k. marked (drop-cons ms i false hm k) (drop-cons xs i x hx k))
    ∙ (λ k. marked (is k ∷ drop (suc i) ms) (at k ∷ drop (suc i) xs))

-- one that is marked is moved behind those in front
pub marked-moved : {A : Type 0} (ms : List Bool) (xs : List A) (left i : ℕ) (x : A)
    → left ≤ i → i < length ms → i < length xs → get_or ms i false ≡ true → get_or xs i x ≡ x
    → take (left + 1) (set xs left x) ++ marked (drop (i + 1) ms) (drop (i + 1) (set xs left x))
    ≡ take left xs ++ marked (drop i ms) (drop i xs)
marked-moved ms xs left i x behind hm hx is at =
    let front : take (suc left) (set xs left x) ≡ take left xs ++ x ∷ [] =
    take-suc-set xs left x (omega arith) in
    let rest : drop (suc i) (set xs left x) ≡ drop (suc i) xs =
    drop-set-lt (suc i) xs left x (omega arith) in
    rw (add-one left, add-one i) ((λ k. front k ++ marked (drop (suc i) ms) (rest k))
    ∙ append_assoc (take left xs) (x ∷ []) (marked (drop (suc i) ms) (drop (suc i) xs))
    ∙ ap (λ ys. take left xs ++ ys) (sym (here ms xs i x hm hx is at)))

-- ---- what holds of all holds of those that are marked

pub All-marked : {A : Type 0} (P : A → Type 0) (ms : List Bool) (xs : List A)
    → All P xs → All P (marked ms xs)
All-marked P [] xs h = All-nil P
All-marked P (m ∷ ms) [] h = All-nil P
All-marked P (true ∷ ms) (x ∷ xs) h =
    All-cons P x (marked ms xs) (All-head P x xs h) (All-marked P ms xs (All-tail P x xs h))
All-marked P (false ∷ ms) (x ∷ xs) h = All-marked P ms xs (All-tail P x xs h)

-- they sum to no more than all
pub sum_by-marked : {A : Type 0} (f : A → ℕ) (ms : List Bool) (xs : List A)
    → sum_by f (marked ms xs) ≤ sum_by f xs
sum_by-marked f [] xs = omega arith
sum_by-marked f (m ∷ ms) [] = omega arith
sum_by-marked f (true ∷ ms) (x ∷ xs) =
    grind (arith, nat_tests, sum_by-marked f ms xs, here, sum_by-cons)
sum_by-marked f (false ∷ ms) (x ∷ xs) = grind (arith, nat_tests, sum_by-marked f ms xs, sum_by-cons)

-- those of a list that is made element by element
pub marked-map : {A B : Type 0} (f : A → B) (ms : List Bool) (xs : List A)
    → map f (marked ms xs) ≡ marked ms (map f xs)
marked-map f [] xs = refl
marked-map f (m ∷ ms) [] = refl
marked-map f (true ∷ ms) (x ∷ xs) = ap (λ ys. f x ∷ ys) (marked-map f ms xs)
marked-map f (false ∷ ms) (x ∷ xs) = marked-map f ms xs
