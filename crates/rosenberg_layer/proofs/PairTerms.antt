-- What a substitution makes of a term of degree 3 or more, which begins with the pair or comes after it.
--
-- In a term after the pair no literal is below its first one, and only that one is below its second one: it
-- has not both literals of the pair. In one that begins with the pair the node takes the place of these two.
use Rattle.rosenberg_layer.proofs.Common.{nat_tests, ◌≡◌, ◌≢◌, ℕ, ◌<◌, ◌≤◌, true, false, ◌||◌, arith, refl, sym, ap, ◌∙◌, subst, List, [], ◌∷◌, ◌++◌, map, AllByRecursion, is_eq, tied_itself, and_parts, Literal, literal_cmp, literal_total, Term, IsTermSet, OfSet, IsBelow, Ascend, IsLiteralSet-ascends, Pair, is_literal, has_literal, without, has_pair, new_term, literal_same, rest_of, has_own_pair, begins, front_term, pair_cmp, pair_of, Begin, Follow, AllLong}
use Rattle.std.specs.declared.cmp.Ordering.TheVariants.{Less}

-- ---- a term after the pair

up_to : (l k : Literal) → literal_cmp l k ≡ Less → l.variable ≤ k.variable
up_to l k less = grind (arith, nat_tests)

-- literals above another are not that one
has-above : (l : Literal) (ks : List Literal) → IsBelow l ks → has_literal l ks ≡ false
has-above l [] below = refl
has-above l (k ∷ ks) below = grind (arith, nat_tests, has-above l ks below.1)

-- nor is it below the least of a set
has-least : (l k : Literal) (ks : List Literal) → literal_cmp l k ≡ Less → IsBelow k ks
    → has_literal l (k ∷ ks) ≡ false
has-least l k ks less below =
    let first : is_literal l k ≡ false = ap is_eq less in
    ap (λ b. b || has_literal l ks) first ∙ has-above l ks (further l k ks (up_to l k less) below)
  where
    further : (l k : Literal) (ks : List Literal) → l.variable ≤ k.variable → IsBelow k ks
        → IsBelow l ks
    further l k [] le below = tt
    further l k (m ∷ ms) le below = (let h = below.0 in omega arith, further l k ms le below.1)

not_literal : (l k : Literal) → l.variable ≢ k.variable → is_literal l k ≡ false
not_literal l k differ = grind (arith, nat_tests)

has_pair-later : (width : ℕ) (a : Pair) (t : Term) → a.0.variable < a.1.variable → IsTermSet width t.0
    → pair_cmp a (pair_of t.0) ≡ Less → has_pair a t ≡ false
has_pair-later width a ([], c) up set less = refl
has_pair-later width a (x ∷ [], c) up set less = refl
has_pair-later width a (x ∷ y ∷ ms, c) up set less =
    let ascends = IsLiteralSet-ascends width (x ∷ y ∷ ms) set.set in
    let low = has-least a.0 x (y ∷ ms) in
    let next = has-least a.1 y ms in
    let one = literal_same a.0 x in
    let other = not_literal a.1 x in
    grind (arith, nat_tests)

pub none-later : (width : ℕ) (a : Pair) (ts : List Term) → a.0.variable < a.1.variable
    → AllByRecursion (OfSet (IsTermSet width)) ts → Follow a ts
    → AllByRecursion (λ t. has_pair a t ≡ false) ts
none-later width a [] up sets later = tt
none-later width a (t ∷ ts) up sets later =
    (has_pair-later width a t up sets.0 later.0, none-later width a ts up sets.1 later.1)

-- ---- a term that begins with the pair

pub begins-is : (p q : Literal) (ks : List Literal) → begins (p, q) ks ≡ true
    → (ms : List Literal) × (ks ≡ p ∷ q ∷ ms)
begins-is p q [] e = absurd cc
begins-is p q (a ∷ []) e = absurd cc
begins-is p q (a ∷ b ∷ ms) e =
    let both = and_parts (is_literal p a) (is_literal q b) e in
    let one = sym (literal_same p a both.0) in
    let two = sym (literal_same q b both.1) in
    (ms, λ i. one i ∷ two i ∷ ms)

pub all-have : (a : Pair) (ts : List Term) → AllLong ts → Begin a ts
    → AllByRecursion (λ t. has_pair a t ≡ true) ts
all-have a [] long begin = tt
all-have a (t ∷ ts) long begin =
    let own = begins-is a.0 a.1 t.0 begin.0 in
    (has_own_pair a.0 a.1 own.0 t own.1 long.0, all-have a ts long.1 begin.1)

literal_itself : (l : Literal) → is_literal l l ≡ true
literal_itself l = ap is_eq (tied_itself literal_total l)

without-above : (l : Literal) (ks : List Literal) → IsBelow l ks → without l ks ≡ ks
without-above l [] below = refl
without-above l (k ∷ ks) below = grind (arith, nat_tests, without-above l ks below.1)

rest_of-front : (p q : Literal) (ls : List Literal) → Ascend (p ∷ q ∷ ls)
    → rest_of (p, q) (p ∷ q ∷ ls) ≡ ls
rest_of-front p q ls up = grind (arith, nat_tests, not_literal, literal_itself, without-above)

-- the node takes the place of the first two literals
pub new_term-front : (width : ℕ) (pair : Pair) (w : Literal) (t : Term) → IsTermSet width t.0
    → has_pair pair t ≡ true → begins pair t.0 ≡ true → new_term pair w t ≡ front_term w t
new_term-front width pair w t set has here =
    let is = begins-is pair.0 pair.1 t.0 here in
    let ascends = subst Ascend is.1 (IsLiteralSet-ascends width t.0 set.set) in
    let rest = rest_of-front pair.0 pair.1 is.0 ascends in
    let same = is.1 in
    grind (arith, nat_tests)

-- ---- the terms that are taken, and the others

pub new_terms-split : (width : ℕ) (pair : Pair) (w : Literal) (ts us : List Term)
    → AllByRecursion (OfSet (IsTermSet width)) (ts ++ us)
    → AllByRecursion (λ t. has_pair pair t ≡ true) ts → Begin pair ts
    → AllByRecursion (λ t. has_pair pair t ≡ false) us
    → map (new_term pair w) (ts ++ us) ≡ map (front_term w) ts ++ us
new_terms-split width pair w [] [] sets has here none = refl
new_terms-split width pair w [] (u ∷ us) sets has here none =
    let rest = new_terms-split width pair w [] us sets.1 has here none.1 in
    grind (arith, nat_tests)
new_terms-split width pair w (t ∷ ts) us sets has here none =
    cc (
      new_term-front width pair w t sets.0 has.0 here.0,
      new_terms-split width pair w ts us sets.1 has.1 here.1 none,
    )
