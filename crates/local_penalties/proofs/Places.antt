-- Numbers and marks at the places of literals: what a write changes.
use Rattle.local_penalties.proofs.Common.{◌≡◌, ℕ, ◌+◌, ◌-◌, ◌*◌, ◌<◌, ◌≤◌, ◌^◌, ap, subst, ◌∙◌, refl, arith, nat_tests, elements, List, [], ◌∷◌, length, set, get_or, Bool, true, false, not, cond, ◌&&◌, ◌||◌, eqb, list_any, All-head, All-tail, Literal, code_of, turned_literal, same, meets, number_of, is_marked, AreWithin, each_once}

pub same-code : (l m : Literal) → eqb (code_of l) (code_of m) ≡ same l m
same-code l m = grind (arith, nat_tests)

get_or-set : {A : Type 0} (as' : List A) (i j : ℕ) (a d : A) → i < length as'
    → get_or (set as' i a) j d ≡ cond (eqb j i) a (get_or as' j d)
get_or-set as' i j a d within = grind (arith, nat_tests, elements)

-- a number that is written for a literal
pub number-set : (ns : List ℕ) (m l : Literal) (n : ℕ) → code_of m < length ns
    → number_of (set ns (code_of m) n) l ≡ cond (same l m) n (number_of ns l)
number-set ns m l n within =
    get_or-set ns (code_of m) (code_of l) n 0 within
    ∙ ap (λ b. cond b n (number_of ns l)) (same-code l m)

-- a mark that is written
pub mark-set : (marks : List Bool) (m l : Literal) (b : Bool) → code_of m < length marks
    → is_marked (set marks (code_of m) b) l ≡ cond (same l m) b (is_marked marks l)
mark-set marks m l b within =
    get_or-set marks (code_of m) (code_of l) b false within
    ∙ ap (λ is. cond is b (is_marked marks l)) (same-code l m)

pub place-within : (places : ℕ) (turned : Bool) (m : Literal) → 2 * m.variable + 1 < places
    → code_of (turned_literal turned m) < places
place-within places turned m within = grind (arith, nat_tests)

-- a mark of the first literal of those that are left
pub marked-step : (marks marks' : List Bool) (turned : Bool) (m : Literal) (left others : List Literal)
    → left ≡ m ∷ others → code_of (turned_literal turned m) < length marks
    → marks' ≡ set marks (code_of (turned_literal turned m)) true → (l : Literal)
    → (is_marked marks' l || meets turned others l) ≡ (is_marked marks l || meets turned left l)
marked-step marks marks' turned m left others is within written l =
    let here = mark-set marks (turned_literal turned m) l true within in
    grind (arith, nat_tests)

-- the numbers of the literals that are left, with another in the place of each
abbrev pub number_after : List ℕ → Bool → List Literal → ℕ → ℕ → Literal → ℕ
number_after ns turned ls plus minus l =
    cond (meets turned ls l) (number_of ns l - minus + plus) (number_of ns l)

turned-same : (turned : Bool) (l m k : Literal) → same l (turned_literal turned m) ≡ true
    → same l (turned_literal turned k) ≡ same m k
turned-same turned l m k is = grind (arith, nat_tests)

-- what meets one literal meets none of others that differ from it
meets-none : (turned : Bool) (l m : Literal) (ls : List Literal) → same l (turned_literal turned m) ≡ true
    → meets turned ls l ≡ list_any (same m) ls
meets-none turned l m [] is = refl
meets-none turned l m (k ∷ ls) is =
    let here = turned-same turned l m k is in
    let others = meets-none turned l m ls is in
    grind (arith, nat_tests)

pub changed-step : (ns ns' : List ℕ) (turned : Bool) (m : Literal) (left others : List Literal)
    (plus minus : ℕ) → left ≡ m ∷ others → each_once left ≡ true
    → code_of (turned_literal turned m) < length ns
    → ns' ≡ set ns (code_of (turned_literal turned m)) (get_or ns (code_of (turned_literal turned m)) 0 - minus + plus)
    → (l : Literal) → number_after ns' turned others plus minus l ≡ number_after ns turned left plus minus l
changed-step ns ns' turned m left others plus minus is once within written l =
    let here = number-set ns (turned_literal turned m) l (get_or ns (code_of (turned_literal turned m)) 0 - minus + plus) within in
    let none = meets-none turned l m others in
    let place = same-code l (turned_literal turned m) in
    grind (arith, nat_tests)

pub meets-first : (turned : Bool) (m : Literal) (left others : List Literal) → left ≡ m ∷ others
    → meets turned left (turned_literal turned m) ≡ true
meets-first turned m left others is = grind (arith, nat_tests)

-- numbers that may be changed so
pub record MayChange (ns : List ℕ) (plus minus : ℕ) (l : Literal) : Type 0 where
  pub below : minus ≤ number_of ns l
  pub above : number_of ns l + plus < 2 ^ 128

pub first-place : (places : ℕ) (turned : Bool) (m : Literal) (left others : List Literal)
    → left ≡ m ∷ others → AreWithin places left → code_of (turned_literal turned m) < places
first-place places turned m left others is within =
    place-within places turned m (All-head (λ l. 2 * l.variable + 1 < places) m others (subst (λ ls. AreWithin places ls) is within))

pub others-within : (places : ℕ) (m : Literal) (left others : List Literal)
    → left ≡ m ∷ others → AreWithin places left → AreWithin places others
others-within places m left others is within =
    All-tail (λ l. 2 * l.variable + 1 < places) m others (subst (λ ls. AreWithin places ls) is within)

pub others-once : (m : Literal) (left others : List Literal) → left ≡ m ∷ others
    → each_once left ≡ true → each_once others ≡ true
others-once m left others is once = grind (arith, nat_tests)

-- a literal that others meet keeps its number
pub others-same : (ns ns' : List ℕ) (turned : Bool) (m : Literal) (left others : List Literal) (n : ℕ)
    → left ≡ m ∷ others → each_once left ≡ true → code_of (turned_literal turned m) < length ns
    → ns' ≡ set ns (code_of (turned_literal turned m)) n
    → (l : Literal) → meets turned others l ≡ true
    → (number_of ns' l ≡ number_of ns l) × (meets turned left l ≡ true)
others-same ns ns' turned m left others n is once within written l met =
    let here = number-set ns (turned_literal turned m) l n within in
    let none = meets-none turned l m others in
    (grind (arith, nat_tests), grind (arith, nat_tests))

-- ---- marks that are taken away, with a number that changes

-- the numbers of those that are marked and are left, with another in the place of each
abbrev pub marked_after : List ℕ → List Bool → Bool → List Literal → ℕ → ℕ → Literal → ℕ
marked_after ns marks turned ls plus minus l =
    cond (is_marked marks l && meets turned ls l) (number_of ns l - minus + plus) (number_of ns l)

same-marked : (marks : List Bool) (l m : Literal) → same l m ≡ true → is_marked marks l ≡ is_marked marks m
same-marked marks l m is =
    let place = same-code l m in
    let codes : code_of l ≡ code_of m = grind (arith, nat_tests) in
    ap (λ n. get_or marks n false) codes

same-number : (ns : List ℕ) (l m : Literal) → same l m ≡ true → number_of ns l ≡ number_of ns m
same-number ns l m is =
    let place = same-code l m in
    let codes : code_of l ≡ code_of m = grind (arith, nat_tests) in
    ap (λ n. get_or ns n 0) codes

pub taken-marks : (marks marks' : List Bool) (turned : Bool) (m : Literal) (left others : List Literal)
    → left ≡ m ∷ others → code_of (turned_literal turned m) < length marks
    → marks' ≡ set marks (code_of (turned_literal turned m)) false → (l : Literal)
    → (is_marked marks' l && not (meets turned others l)) ≡ (is_marked marks l && not (meets turned left l))
taken-marks marks marks' turned m left others is within written l =
    let here = mark-set marks (turned_literal turned m) l false within in
    grind (arith, nat_tests)

pub kept-marks : (marks : List Bool) (turned : Bool) (m : Literal) (left others : List Literal)
    → left ≡ m ∷ others → is_marked marks (turned_literal turned m) ≡ false → (l : Literal)
    → (is_marked marks l && not (meets turned others l)) ≡ (is_marked marks l && not (meets turned left l))
kept-marks marks turned m left others is unmarked l =
    let same_mark = same-marked marks l (turned_literal turned m) in
    grind (arith, nat_tests)

pub taken-numbers : (ns ns' : List ℕ) (marks marks' : List Bool) (turned : Bool) (m : Literal)
    (left others : List Literal) (plus minus : ℕ) → left ≡ m ∷ others
    → code_of (turned_literal turned m) < length ns → code_of (turned_literal turned m) < length marks
    → is_marked marks (turned_literal turned m) ≡ true
    → ns' ≡ set ns (code_of (turned_literal turned m)) (get_or ns (code_of (turned_literal turned m)) 0 - minus + plus)
    → marks' ≡ set marks (code_of (turned_literal turned m)) false → (l : Literal)
    → marked_after ns' marks' turned others plus minus l ≡ marked_after ns marks turned left plus minus l
taken-numbers ns ns' marks marks' turned m left others plus minus is within in_marks marked written taken l =
    let here = number-set ns (turned_literal turned m) l (get_or ns (code_of (turned_literal turned m)) 0 - minus + plus) within in
    let mark = mark-set marks (turned_literal turned m) l false in_marks in
    let same_mark = same-marked marks l (turned_literal turned m) in
    let same_number = same-number ns l (turned_literal turned m) in
    grind (arith, nat_tests)

pub kept-numbers : (ns : List ℕ) (marks : List Bool) (turned : Bool) (m : Literal)
    (left others : List Literal) (plus minus : ℕ) → left ≡ m ∷ others
    → is_marked marks (turned_literal turned m) ≡ false → (l : Literal)
    → marked_after ns marks turned others plus minus l ≡ marked_after ns marks turned left plus minus l
kept-numbers ns marks turned m left others plus minus is unmarked l =
    let same_mark = same-marked marks l (turned_literal turned m) in
    grind (arith, nat_tests)

pub taken-room : (ns ns' : List ℕ) (marks marks' : List Bool) (turned : Bool) (m : Literal) (n : ℕ)
    → code_of (turned_literal turned m) < length ns → code_of (turned_literal turned m) < length marks
    → ns' ≡ set ns (code_of (turned_literal turned m)) n
    → marks' ≡ set marks (code_of (turned_literal turned m)) false → (l : Literal)
    → is_marked marks' l ≡ true → (number_of ns' l ≡ number_of ns l) × (is_marked marks l ≡ true)
taken-room ns ns' marks marks' turned m n within in_marks written taken l is =
    let here = number-set ns (turned_literal turned m) l n within in
    let mark = mark-set marks (turned_literal turned m) l false in_marks in
    (grind (arith, nat_tests), grind (arith, nat_tests))
