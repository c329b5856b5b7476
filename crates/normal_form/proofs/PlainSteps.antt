-- Steps that multiply a term out: what stands before its first complement stays in front, and the
-- complement gives what is left without it, and with its variable and the other sign.
use Rattle.normal_form.proofs.Common.{drop_more, nat_tests, ints, ◌≡◌, ℕ, ◌+◌, ◌<◌, ◌≤◌, ◌^◌, true, false, ℤ, neg_ℤ, unsigned_abs, List, [], ◌∷◌, ◌++◌, length, take, drop, get_or, refl, sym, ap, ◌∙◌, subst, arith, AllByRecursion, mul-le-mul_right, append_assoc, append-nil, map-append, take_all, take-append-drop, All-from_recursion, recursion_from_All, one_le_pow, Literal, Term, terms_total, IsTermSet, TableContent, with_more, AreAdditions, complements, ArePlain, plain, with_front, plain_terms, terms_total-append, terms_total-cons, OfSet, with_more-append, terms_total-plain_terms, HasRoomFor, behind}

-- ---- terms behind literals

pub behind-nothing : (ts : List Term) → behind [] ts ≡ ts
behind-nothing [] = refl
behind-nothing (t ∷ ts) = ap (λ us. t ∷ us) (behind-nothing ts)

behind-behind : (fs gs : List Literal) (ts : List Term)
    → behind fs (behind gs ts) ≡ behind (fs ++ gs) ts
behind-behind fs gs [] = refl
behind-behind fs gs (t ∷ ts) = λ i. (sym (append_assoc fs gs t.0) i, t.1) ∷ behind-behind fs gs ts i

behind-append : (fs : List Literal) (ts us : List Term)
    → behind fs (ts ++ us) ≡ behind fs ts ++ behind fs us
behind-append fs ts us = map-append (λ (t : Term). (fs ++ t.0, t.1)) ts us

-- ---- where a term is multiplied out

same_literal : (l : Literal) → l.negated ≡ false → plain l ≡ l
same_literal l is = λ i. record { variable = l.variable; negated = sym is i }

-- literals that are no complements stay in front
plain_front : (fs ls : List Literal) (c : ℤ) → AllByRecursion (λ (l : Literal). l.negated ≡ false) fs
    → plain_terms (fs ++ ls) c ≡ behind fs (plain_terms ls c)
plain_front [] ls c h = sym (behind-nothing (plain_terms ls c))
plain_front (f ∷ fs) ls c h =
    let rest = plain_front fs ls c h.1 in
    let same = same_literal f h.0 in
    let more = behind-behind (f ∷ []) fs (plain_terms ls c) in
    grind (arith, nat_tests)

-- a complement is 1 less its variable
at_complement : (l : Literal) (ls : List Literal) (c : ℤ) → l.negated ≡ true
    → plain_terms (l ∷ ls) c ≡ plain_terms ls c ++ with_front (plain l) (plain_terms ls (neg_ℤ c))
at_complement l ls c is = grind (arith, nat_tests, ints)

-- a term without complements, behind literals
pub last_terms : (fs ls : List Literal) (n : ℕ) (c : ℤ) → length ls ≤ n → ArePlain (take n ls)
    → behind fs (plain_terms ls c) ≡ (fs ++ take n ls, c) ∷ []
last_terms fs ls n c short none =
    let whole : ls ≡ take n ls ++ [] = sym (append-nil (take n ls) ∙ take_all n ls short) in
    let front = plain_front (take n ls) [] c (recursion_from_All (λ (l : Literal). l.negated ≡ false) (take n ls) none) in
    ap (λ ks. behind fs (plain_terms ks c)) whole ∙ ap (behind fs) front
    ∙ (λ i. (fs ++ append-nil (take n ls) i, c) ∷ [])

-- a term whose first complement stands at n
pub more_terms : (fs ls : List Literal) (n : ℕ) (d : Literal) (c : ℤ) → n < length ls
    → ArePlain (take n ls) → (get_or ls n d).negated ≡ true → behind fs (plain_terms ls c)
    ≡ behind (fs ++ take n ls) (plain_terms (drop (n + 1) ls) c)
    ++ behind ((fs ++ take n ls) ++ plain (get_or ls n d) ∷ []) (plain_terms (drop (n + 1) ls) (neg_ℤ c))
more_terms fs ls n d c inside none is =
    let gs = take n ls in
    let l = get_or ls n d in
    let rest = drop (n + 1) ls in
    let whole = sym (take-append-drop n ls) ∙ ap (λ ks. gs ++ ks) (drop_more ls n d inside) in
    let plain_gs = recursion_from_All (λ (k : Literal). k.negated ≡ false) gs none in
    let front = plain_front gs (l ∷ rest) c plain_gs in
    let first = behind-behind fs gs (plain_terms (l ∷ rest) c) in
    let two = at_complement l rest c is in
    let less = with_front (plain l) (plain_terms rest (neg_ℤ c)) in
    let both = behind-append (fs ++ gs) (plain_terms rest c) less in
    let second = behind-behind (fs ++ gs) (plain l ∷ []) (plain_terms rest (neg_ℤ c)) in
    cc

-- the coefficient of a term is no greater than what it adds
pub coefficient_small : (t : TableContent) (fs ls : List Literal) (c : ℤ)
    → AreAdditions (with_more t (behind fs (plain_terms ls c))) → unsigned_abs c ≤ 2 ^ 124
coefficient_small t fs ls c h =
    let terms_total_append = terms_total-append t.terms (behind fs (plain_terms ls c)) in
    let right = mul-le-mul_right (unsigned_abs c) (one_le_pow (complements ls)) in
    omega (arith, h.small, total-behind fs (plain_terms ls c), terms_total-plain_terms ls c)
  where
    total-behind : (gs : List Literal) (ts : List Term) → terms_total (behind gs ts) ≡ terms_total ts
    total-behind gs [] = refl
    total-behind gs (u ∷ us) = omega (arith, total-behind gs us, terms_total-cons)

-- ---- additions

-- where terms are additions after others, there is room for them
pub room-additions : (t : TableContent) (ts : List Term) → AreAdditions (with_more t ts)
    → HasRoomFor (λ (s : TableContent) (us : List Term). AreAdditions (with_more s us)) t ts
room-additions t ts fits = ([], subst (λ us. AreAdditions (with_more t us)) (sym (append-nil ts)) fits)

all_before : (P : Term → Type 0) (ts us : List Term) → AllByRecursion P (ts ++ us)
    → AllByRecursion P ts
all_before P [] us h = tt
all_before P (t ∷ ts) us h = (h.0, all_before P ts us h.1)

-- additions are additions without the last ones
pub additions_before : (t : TableContent) (us : List Term) → AreAdditions (with_more t us)
    → AreAdditions t
additions_before t us h = record {
  sets =
      let P = OfSet (IsTermSet t.width) in
      All-from_recursion P t.terms (all_before P t.terms us (recursion_from_All P (t.terms ++ us) h.sets));
  small = omega (arith, h.small, terms_total-append t.terms us);
}

-- the first of two lists of additions
pub additions_first : (t : TableContent) (us vs ws : List Term) → ws ≡ us ++ vs
    → AreAdditions (with_more t ws) → AreAdditions (with_more t us)
additions_first t us vs ws e h =
    let parts = with_more-append t (with_more t us) (with_more (with_more t us) vs) us vs refl refl in
    additions_before (with_more t us) vs (subst AreAdditions (ap (with_more t) e ∙ sym parts) h)

-- and the second, after the first
pub additions_second : (t now : TableContent) (us vs ws : List Term) → ws ≡ us ++ vs
    → now ≡ with_more t us → AreAdditions (with_more t ws) → AreAdditions (with_more now vs)
additions_second t now us vs ws e made h = grind (arith, nat_tests, with_more-append)

-- both were made
pub both_made : (t now next : TableContent) (us vs ws : List Term) → ws ≡ us ++ vs
    → now ≡ with_more t us → next ≡ with_more now vs → next ≡ with_more t ws
both_made t now next us vs ws e first second = rw e (with_more-append t now next us vs first second)
