-- What is made of two lists, place by place: its length, an element, and one more.
use Rattle.problem_form.proofs.Common.{◌≡◌, ◌≢◌, ℕ, zero, suc, ◌<◌, ◌≤◌, List, [], ◌∷◌, ◌++◌, length, get_or, refl, ap, arith, Some, map, neg_ℤ, ℤ, unsigned_abs, All, Result, Ok, Err, OnOk, Literal, Product, negated, slice_get, replicate, zip_with, clause_of, weight_of, weighed_clauses, product_of, subst, All-map}

pub length-zip_with : {A B C : Type 0} → (f : A → B → C) (xs : List A) (ys : List B) → length xs ≡ length ys → length (zip_with f xs ys) ≡ length ys
length-zip_with f [] ys same = same
length-zip_with f (x ∷ xs) [] same = absurd (omega (arith, same))
length-zip_with f (x ∷ xs) (y ∷ ys) same = ap suc (length-zip_with f xs ys (omega (arith, same)))

pub zip_with-at : {A B C : Type 0} → (f : A → B → C) (xs : List A) (ys : List B) (i : ℕ) (x : A) (y : B) → slice_get xs i ≡ Some x → i < length ys → y ≡ get_or ys i y → slice_get (zip_with f xs ys) i ≡ Some (f x y)
zip_with-at f [] ys i x y at within is = cc
zip_with-at f (a ∷ xs) [] i x y at within is = absurd (omega (arith, within))
zip_with-at f (a ∷ xs) (b ∷ ys) zero x y at within is = cc
zip_with-at f (a ∷ xs) (b ∷ ys) (suc i) x y at within is = zip_with-at f xs ys i x y at (omega (arith, within)) is

pub zip_with-push : {A B C : Type 0} → (f : A → B → C) (xs : List A) (ys : List B) (x : A) (y : B) → length xs ≡ length ys → zip_with f (xs ++ x ∷ []) (ys ++ y ∷ []) ≡ zip_with f xs ys ++ f x y ∷ []
zip_with-push f [] [] x y same = refl
zip_with-push f [] (b ∷ ys) x y same = absurd (omega (arith, same))
zip_with-push f (a ∷ xs) [] x y same = absurd (omega (arith, same))
zip_with-push f (a ∷ xs) (b ∷ ys) x y same = ap (λ others. f a b ∷ others) (zip_with-push f xs ys x y (omega (arith, same)))

-- the number of a weight above 0 stands for it
pub weight_of-some : (n : ℕ) → n ≢ 0 → weight_of n ≡ Some n
weight_of-some zero above = absurd (above refl)
weight_of-some (suc n) above = refl

-- ---- clauses, of which the last may have no numbers

pub length-weighed_clauses : (lists : List (List Literal)) (ns : List ℕ)
    → length (weighed_clauses lists ns) ≡ length lists
length-weighed_clauses [] ns = refl
length-weighed_clauses (ls ∷ lists) [] = ap suc (length-weighed_clauses lists [])
length-weighed_clauses (ls ∷ lists) (n ∷ ns) = ap suc (length-weighed_clauses lists ns)

pub weighed_clauses-at : (lists : List (List Literal)) (ns : List ℕ) (i : ℕ) (ls : List Literal)
    → slice_get lists i ≡ Some ls
    → slice_get (weighed_clauses lists ns) i ≡ Some (clause_of ls (get_or ns i 0))
weighed_clauses-at [] ns i ls at = cc
weighed_clauses-at (k ∷ lists) [] zero ls at = cc
weighed_clauses-at (k ∷ lists) [] (suc i) ls at = weighed_clauses-at lists [] i ls at
weighed_clauses-at (k ∷ lists) (n ∷ ns) zero ls at = cc
weighed_clauses-at (k ∷ lists) (n ∷ ns) (suc i) ls at = weighed_clauses-at lists ns i ls at

-- one more that has no number is hard
pub weighed_clauses-hard : (lists : List (List Literal)) (ns : List ℕ) (ls : List Literal)
    → length ns ≤ length lists
    → weighed_clauses (lists ++ ls ∷ []) ns ≡ weighed_clauses lists ns ++ clause_of ls 0 ∷ []
weighed_clauses-hard [] [] ls few = refl
weighed_clauses-hard [] (n ∷ ns) ls few = absurd (omega (arith, few))
weighed_clauses-hard (k ∷ lists) [] ls few =
    ap (λ others. clause_of k 0 ∷ others) (weighed_clauses-hard lists [] ls (omega arith))
weighed_clauses-hard (k ∷ lists) (n ∷ ns) ls few =
    ap (λ others. clause_of k n ∷ others) (weighed_clauses-hard lists ns ls (omega (arith, few)))

pub weighed_clauses-soft : (lists : List (List Literal)) (ns : List ℕ) (ls : List Literal) (n : ℕ)
    → length ns ≡ length lists
    → weighed_clauses (lists ++ ls ∷ []) (ns ++ n ∷ []) ≡ weighed_clauses lists ns ++ clause_of ls n ∷ []
weighed_clauses-soft [] [] ls n same = refl
weighed_clauses-soft [] (m ∷ ns) ls n same = absurd (omega (arith, same))
weighed_clauses-soft (k ∷ lists) [] ls n same = absurd (omega (arith, same))
weighed_clauses-soft (k ∷ lists) (m ∷ ns) ls n same =
    ap (λ others. clause_of k m ∷ others) (weighed_clauses-soft lists ns ls n (omega (arith, same)))

-- the numbers of hard clauses behind the others say nothing more
weighed_clauses-none : (lists : List (List Literal)) (count : ℕ)
    → weighed_clauses lists (replicate count 0) ≡ weighed_clauses lists []
weighed_clauses-none [] count = refl
weighed_clauses-none (k ∷ lists) zero = refl
weighed_clauses-none (k ∷ lists) (suc count) =
    ap (λ others. clause_of k 0 ∷ others) (weighed_clauses-none lists count)

pub weighed_clauses-filled : (lists : List (List Literal)) (ns : List ℕ) (count : ℕ)
    → weighed_clauses lists (ns ++ replicate count 0) ≡ weighed_clauses lists ns
weighed_clauses-filled [] ns count = refl
weighed_clauses-filled (k ∷ lists) [] count = weighed_clauses-none (k ∷ lists) count
weighed_clauses-filled (k ∷ lists) (n ∷ ns) count =
    ap (λ others. clause_of k n ∷ others) (weighed_clauses-filled lists ns count)

-- ---- products

-- their coefficients
pub map-coefficients : (lists : List (List Literal)) (cs : List ℤ) → length lists ≡ length cs
    → map (λ (t : Product). t.coefficient) (zip_with product_of lists cs) ≡ cs
map-coefficients [] [] same = refl
map-coefficients [] (c ∷ cs) same = absurd (omega (arith, same))
map-coefficients (ls ∷ lists) [] same = absurd (omega (arith, same))
map-coefficients (ls ∷ lists) (c ∷ cs) same =
    ap (λ others. c ∷ others) (map-coefficients lists cs (omega (arith, same)))

-- other signs
pub zip_with-negated : (lists : List (List Literal)) (cs : List ℤ)
    → zip_with product_of lists (map neg_ℤ cs) ≡ map negated (zip_with product_of lists cs)
zip_with-negated [] cs = refl
zip_with-negated (ls ∷ lists) [] = refl
zip_with-negated (ls ∷ lists) (c ∷ cs) =
    ap (λ others. product_of ls (neg_ℤ c) ∷ others) (zip_with-negated lists cs)

-- the coefficients are as small as those of the products
pub coefficients-small : (n : ℕ) (lists : List (List Literal)) (cs : List ℤ) → length lists ≡ length cs
    → All (λ (t : Product). unsigned_abs t.coefficient < n) (zip_with product_of lists cs)
    → All (λ c. unsigned_abs c < n) cs
coefficients-small n lists cs same h =
    let Small : ℤ → Type 0 = λ c. unsigned_abs c < n in
    subst (λ (ks : List ℤ). All Small ks) (map-coefficients lists cs same)
    (All-map Small (λ (t : Product). t.coefficient) (zip_with product_of lists cs) h)

-- what follows where a call succeeds
pub on_ok : {T E P Q : Type 0} (r : Result T E) → (P → Q) → OnOk r P → OnOk r Q
on_ok (Ok x) f p = f p
on_ok (Err x) f p = p
