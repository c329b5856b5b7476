-- The sets of the terms that stand for a list of terms: none has more than two literals, and over
-- literal sets they are literal sets over the variables and the new nodes.
use Rattle.monomial_layer.proofs.Common.{arith, nat_tests, All, All-from_recursion, All-map, All-nil, All-with_additions, AllByRecursion, Ascend, Bool, IsBelow, IsLiteralSet-ascends, IsLow, IsTermSet, IsTermSet-one, IsTermSet-two, IsTermSet-wider, List, Literal, OfSet, TableContent, Term, all_new_terms, cond, get_or, image, int_lt, leb, length, negative_terms, new_nodes, new_terms, node, node_term, node_terms, nodes_for, pair_terms, pos, positive_terms, recursion_from_All, refl, sum_by, sum_by-cons, with_each, ℕ, ℤ, ◌+◌, ◌<◌, ◌∷◌, ◌≡◌, ◌≤◌, [], false, suc, true, zero, All-append, All-cons}

-- ---- what is true of all of them

-- of each literal with each of those after it
abbrev AllPairs : (List Literal → Type 0) → List Literal → Type 0
AllPairs P [] = Unit {0}
AllPairs P (l ∷ ls) = AllByRecursion (λ k. P (l ∷ k ∷ [])) ls × AllPairs P ls

-- of a node, and of each literal with it
abbrev AllWith : (List Literal → Type 0) → List Literal → ℕ → Type 0
AllWith P ls m = P (node m ∷ []) × All (λ l. P (l ∷ node m ∷ [])) ls

pair_sets : (P : List Literal → Type 0) (ls : List Literal) (c : ℤ) → AllPairs P ls
    → All (OfSet P) (pair_terms ls c)
pair_sets P [] c pairs = All-nil (OfSet P)
pair_sets P (l ∷ ls) c pairs =
    All-append (OfSet P) (with_each l c ls) (pair_terms ls c)
    (All-map (OfSet P) (λ k. (l ∷ k ∷ [], c)) ls (All-from_recursion (λ k. P (l ∷ k ∷ [])) ls pairs.0))
    (pair_sets P ls c pairs.1)

node_sets : (P : List Literal → Type 0) (ls : List Literal) (c : ℤ) (n k : ℕ)
    → ((m : ℕ) → n ≤ m → m < n + k → AllWith P ls m) → All (OfSet P) (node_terms ls c n k)
node_sets P ls c n zero each = All-nil (OfSet P)
node_sets P ls c n (suc k) each =
    let here = each (n + k) (omega arith) (omega arith) in
    All-append (OfSet P) (node_terms ls c n k) (node_term ls c (node (n + k)) k)
    (node_sets P ls c n k (λ m le less. each m le (omega (arith, less))))
    (All-cons (OfSet P) _ _ here.0 (All-map (OfSet P) (λ l. (l ∷ node (n + k) ∷ [], _)) ls here.1))

new_sets : (P : List Literal → Type 0) (t : Term) (n : ℕ) → (length t.0 ≤ 2 → P t.0) → AllPairs P t.0
    → ((m : ℕ) → n ≤ m → m < n + new_nodes t → AllWith P t.0 m) → All (OfSet P) (new_terms t n)
new_sets P t n own pairs = go (leb (length t.0) 2) (int_lt t.1 (pos 0)) (λ e. own (grind (arith, nat_tests)))
  where
    go : (a b : Bool) → (a ≡ true → P t.0)
        → ((m : ℕ) → n ≤ m → m < n + cond a 0 (cond b 1 (nodes_for (length t.0))) → AllWith P t.0 m)
        → All (OfSet P) (cond a (t ∷ []) (cond b (negative_terms t.0 t.1 n) (positive_terms t.0 t.1 n)))
    go true b short each = All-cons (OfSet P) t [] (short refl) (All-nil (OfSet P))
    go false true short each =
        let here = each n (omega arith) (omega arith) in
        All-cons (OfSet P) _ _ here.0 (All-map (OfSet P) (λ l. (l ∷ node n ∷ [], t.1)) t.0 here.1)
    go false false short each =
        All-append (OfSet P) (pair_terms t.0 t.1) _ (pair_sets P t.0 t.1 pairs)
        (node_sets P t.0 t.1 n (nodes_for (length t.0)) each)

-- ---- at most two literals

abbrev pub IsShort : List Literal → Type 0
IsShort ls = length ls ≤ 2

short_pairs : (ls : List Literal) → AllPairs IsShort ls
short_pairs [] = tt
short_pairs (l ∷ ls) = (recursion_from_All _ ls (λ i d in'. omega arith), short_pairs ls)

pub short-all_new_terms : (ts : List Term) (n : ℕ) → All (OfSet IsShort) (all_new_terms ts n)
short-all_new_terms [] n = All-nil (OfSet IsShort)
short-all_new_terms (t ∷ ts) n =
    All-append (OfSet IsShort) (new_terms t n) (all_new_terms ts (n + new_nodes t))
    (new_sets IsShort t n (λ few. few) (short_pairs t.0) (λ m le less. (omega arith, λ i d in'. omega arith)))
    (short-all_new_terms ts (n + new_nodes t))

pub IsLow-image : (t : TableContent) → IsLow (image t)
IsLow-image t =
    All-with_additions IsShort (all_new_terms t.terms t.width) (short-all_new_terms t.terms t.width)

-- such terms stand for themselves
pub new_terms-one : (t : Term) (n : ℕ) → OfSet IsShort t → new_terms t n ≡ t ∷ []
new_terms-one t n few = grind (arith, nat_tests)

-- ---- literal sets over the variables and the new nodes

set_pairs : (width : ℕ) (ls : List Literal) → Ascend ls
    → AllByRecursion (λ l. l.variable < width) ls → AllPairs (IsTermSet width) ls
set_pairs width [] up below = tt
set_pairs width (l ∷ ls) up below = (later ls up.0 below.1, set_pairs width ls up.1 below.1)
  where
    later : (ks : List Literal) → IsBelow l ks → AllByRecursion (λ k. k.variable < width) ks
        → AllByRecursion (λ k. IsTermSet width (l ∷ k ∷ [])) ks
    later [] up below = tt
    later (k ∷ ks) up below = (IsTermSet-two width l k up.0 below.0, later ks up.1 below.1)

-- .. of what stands for a list of terms
pub sets-all_new_terms : (width variables n : ℕ) (ts : List Term) → variables ≤ n
    → n + sum_by new_nodes ts ≤ width → AllByRecursion (OfSet (IsTermSet variables)) ts
    → All (OfSet (IsTermSet width)) (all_new_terms ts n)
sets-all_new_terms width variables n [] low wide sets = All-nil (OfSet (IsTermSet width))
sets-all_new_terms width variables n (t ∷ ts) low wide sets =
    let count = sum_by-cons new_nodes t ts in
    let set = IsTermSet-wider variables width t.0 (omega (arith, low, wide)) sets.0 in
    let each : (m : ℕ) → n ≤ m → m < n + new_nodes t → AllWith (IsTermSet width) t.0 m = λ m le less. (
      IsTermSet-one width (node m) (omega (arith, less, wide, count)),
      λ i d in'. IsTermSet-two width (get_or t.0 i d) (node m)
          (omega (arith, sets.0.set.within i d in', low, le)) (omega (arith, less, wide, count)),
    ) in
    let pairs = set_pairs width t.0 (IsLiteralSet-ascends width t.0 set.set) (recursion_from_All _ _ set.set.within) in
    All-append (OfSet (IsTermSet width)) (new_terms t n) (all_new_terms ts (n + new_nodes t))
    (new_sets (IsTermSet width) t n (λ few. set) pairs each)
    (sets-all_new_terms width variables (n + new_nodes t) ts (omega arith) (omega (arith, wide, count)) sets.1)
