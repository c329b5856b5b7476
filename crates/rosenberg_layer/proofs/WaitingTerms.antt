-- Terms that wait, in lists and as keys: one more in a list, one less among the keys, and a list that
-- is taken.
use Rattle.rosenberg_layer.proofs.Common.{pos, elements, ◌≡◌, ◌≢◌, ◌⊎◌, inl, inr, ℕ, zero, suc, ◌+◌, ◌*◌, ◌%◌, ◌<◌, ◌≤◌, ◌^◌, ◌==◌, eqb, true, false, arith, refl, sym, ap, ◌∙◌, subst, List, [], ◌∷◌, ◌++◌, length, map, get_or, set, replicate, All, Contains, AllByRecursion, IsDistinct, IsPermutation, IsStrictlySortedBy, IsNonDecreasing, nat_cmp, cases_eq, nat_tests, ranked, set-get_or, IsPermutation-refl, get_or-set_same, get_or-set_other, get_or_default, get_or_past, length-set, length-map, All-from_recursion, All-contains, Contains-get_or, Contains-permutation, IsPermutation-sym, length_permutation, sum_by-set, sum_by-cons, IsDistinct-cons, IsDistinct-IsPermutation, IsStrictlyIncreasing-from_distinct, sorted_from_strictly_increasing, sorted_head, sorted_tail, Term, is_long, code_at, term_at, list_at, listed_count, IsApart, key_of, IsListed, IsKeyed, IsFound, AreWaiting}
use Rattle.std.specs.declared.cmp.Ordering.TheVariants.{Less}

-- ---- members

eqb-flips : (x y : ℕ) → eqb x y ≡ eqb y x
eqb-flips x y = grind (arith, nat_tests)

pub in-cons : (x : ℕ) (xs : List ℕ) (y : ℕ) → Contains (x ∷ xs) y → (x ≡ y) ⊎ Contains xs y
in-cons x xs y c = grind (arith, nat_tests)

pub in-first : (x : ℕ) (xs : List ℕ) → Contains (x ∷ xs) x
in-first x xs = (0, omega arith, refl)

pub in-rest : (x : ℕ) (xs : List ℕ) (y : ℕ) → Contains xs y → Contains (x ∷ xs) y
in-rest x xs y c = (suc c.0, omega (arith, c.1), c.2)

pub in-none : (y : ℕ) → Contains {X = ℕ} [] y → ⊥
in-none y c = absurd (omega (arith, c.1))

all-members : (P : ℕ → Type 0) (xs : List ℕ) → ((y : ℕ) → Contains xs y → P y) → AllByRecursion P xs
all-members P [] each = tt
all-members P (x ∷ xs) each =
    (each x (in-first x xs), all-members P xs (λ y c. each y (in-rest x xs y c)))

in-map : (f : ℕ → ℕ) (xs : List ℕ) (y : ℕ) → Contains xs y → Contains (map f xs) (f y)
in-map f [] y c = absurd (in-none y c)
in-map f (x ∷ xs) y c = grind (arith, nat_tests, in-map f xs y, in-cons, in-first, in-rest)

from-map : (f : ℕ → ℕ) (xs : List ℕ) (y : ℕ) → Contains (map f xs) y
    → (x : ℕ) × Contains xs x × (y ≡ f x)
from-map f [] y c = absurd (in-none y c)
from-map f (x ∷ xs) y c = grind (arith, nat_tests, from-map f xs y, in-cons, in-first, in-rest)

-- ---- a list with one more term

in-put : (lists : List (List ℕ)) (b t c x : ℕ) → b < length lists
    → Contains (list_at (set lists b (t ∷ list_at lists b)) c) x
    → ((c ≡ b) × (x ≡ t)) ⊎ Contains (list_at lists c) x
in-put lists b t c x within in' = grind (arith, nat_tests, elements)

put-in : (lists : List (List ℕ)) (b t c x : ℕ) → b < length lists → Contains (list_at lists c) x
    → Contains (list_at (set lists b (t ∷ list_at lists b)) c) x
put-in lists b t c x within in' =
    let same = get_or-set_same lists b (t ∷ list_at lists b) [] within in
    let other = get_or-set_other lists b c (t ∷ list_at lists b) [] in
    elim (cases_eq c b) [
      | inl e ↦ rw (e, same) (in-rest t (list_at lists b) x (rw e at in'))
      | inr differ ↦ rw (other differ) in'
    ]

put-here : (lists : List (List ℕ)) (b t : ℕ) → b < length lists
    → Contains (list_at (set lists b (t ∷ list_at lists b)) b) t
put-here lists b t within = grind (arith, nat_tests, elements, in-first)

put-distinct : (lists : List (List ℕ)) (b t : ℕ) → b < length lists
    → ((x : ℕ) → Contains (list_at lists b) x → t ≢ x)
    → ((c : ℕ) → IsDistinct (λ x y. x == y) (list_at lists c)) → (c : ℕ)
    → IsDistinct (λ x y. x == y) (list_at (set lists b (t ∷ list_at lists b)) c)
put-distinct lists b t within apart distinct c =
    let differs =
    all-members (λ x. (t == x) ≡ false) (list_at lists b)
    (λ x in'. grind (arith, nat_tests, apart x in')) in
    let more = IsDistinct-cons (λ x y. x == y) t (list_at lists b) differs (distinct b) in
    let other = distinct c in
    grind (arith, nat_tests, elements)

put-count : (lists : List (List ℕ)) (b t : ℕ) → b < length lists
    → listed_count (set lists b (t ∷ list_at lists b)) ≡ listed_count lists + 1
put-count lists b t within = grind (arith, nat_tests, elements, sum_by-set)

-- ---- the terms that are put into lists at first

pub apart_start : (ts : List Term) (t : ℕ) (lists : List (List ℕ)) (cursor : ℕ) (keys : List ℕ)
    → AreWaiting ts t lists cursor keys → IsApart lists t
apart_start ts t lists cursor keys wait b d within k e inside =
    let xs = get_or lists b d in
    let here : xs ≡ list_at lists b = get_or_default lists b d [] within in
    let in' = subst (λ (ys : List ℕ). Contains ys (get_or xs k e)) here (Contains-get_or xs k e inside) in
    let is = wait.listed b (get_or xs k e) in' in
    λ same. absurd (omega (arith, is.within, same))

pub wait_none : (ts : List Term) (lists : List (List ℕ)) (keys : List ℕ)
    → ((b : ℕ) → list_at lists b ≡ []) → listed_count lists ≡ 0 → keys ≡ []
    → AreWaiting ts 0 lists 0 keys
unfolding IsDistinct IsStrictlySortedBy
wait_none ts lists keys none count no_keys = record {
  listed = λ b t c. absurd (in-none t (subst (λ (xs : List ℕ). Contains xs t) (none b) c));
  distinct = λ b. subst (IsDistinct (λ x y. x == y)) (sym (none b)) tt;
  keyed = λ k c. absurd (in-none k (subst (λ (xs : List ℕ). Contains xs k) no_keys c));
  ordered = subst (IsStrictlySortedBy nat_cmp) (sym no_keys) tt;
  found = λ t below long. absurd (omega (arith, below));
  few = omega (arith, count, ap length no_keys);
}

pub wait_more : (ts : List Term) (t : ℕ) (lists lists' : List (List ℕ)) (b : ℕ)
    → AreWaiting ts t lists 0 [] → b ≡ code_at (term_at ts t) 0 → is_long (term_at ts t) ≡ true
    → b < length lists → lists' ≡ set lists b (t ∷ list_at lists b)
    → AreWaiting ts (t + 1) lists' 0 []
wait_more ts t lists lists' b wait first long within new =
    subst (λ ls. AreWaiting ts (t + 1) ls 0 []) (sym new)
    (record {
      listed = λ c x in'.
          let put = in-put lists b t c x within in' in
          let old = wait.listed c x in
          grind (arith, nat_tests);
      distinct =
          put-distinct lists b t within
          (λ x c same. absurd (omega (arith, (wait.listed b x c).within, same)))
          wait.distinct;
      keyed = λ k c. absurd (in-none k c);
      ordered = wait.ordered;
      found = λ x below high.
          let old = wait.found x in
          let here = put-here lists b t within in
          let there = put-in lists b t (code_at (term_at ts x) 0) x within in
          grind (arith, nat_tests, in-none);
      few = let old = wait.few in omega (arith, old, put-count lists b t within);
    })

-- ---- no term waits

pub wait_end : (ts : List Term) (lists : List (List ℕ)) (cursor : ℕ)
    → AreWaiting ts (length ts) lists cursor [] → length lists ≤ cursor
    → (t : ℕ) → t < length ts → is_long (term_at ts t) ≡ true → ⊥
wait_end ts lists cursor wait past t within long =
    let found = wait.found t within long in
    let b = code_at (term_at ts t) 0 in
    let listed = wait.listed b t in
    let none = get_or_past lists b [] in
    grind (arith, nat_tests, in-none)

-- ---- keys

nat_less : (a b : ℕ) → nat_cmp a b ≡ Less → a < b
nat_less a b e = ranked a b Less (sym e)

-- the term of a key
pub key-term : (c t : ℕ) → t < 2 ^ 32 → (c * 2 ^ 32 + t) % 2 ^ 32 ≡ t
key-term c t narrow = omega (arith, narrow)

same-term : (c t d u : ℕ) → t < 2 ^ 32 → u < 2 ^ 32 → c * 2 ^ 32 + t ≡ d * 2 ^ 32 + u → t ≡ u
same-term c t d u one two e = sym (key-term c t one) ∙ ap (λ k. k % 2 ^ 32) e ∙ key-term d u two

-- the first key is that of its term
pub keyed_first : (ts : List Term) (upto : ℕ) (lists : List (List ℕ)) (cursor k : ℕ) (keys : List ℕ)
    → AreWaiting ts upto lists cursor (k ∷ keys) → length ts ≤ 2 ^ 32
    → (k ≡ key_of ts (k % 2 ^ 32)) × (k % 2 ^ 32 < length ts)
    × (is_long (term_at ts (k % 2 ^ 32)) ≡ true)
    × (code_at (term_at ts (k % 2 ^ 32)) 0 + 1 ≡ cursor)
keyed_first ts upto lists cursor k keys wait narrow =
    grind (arith, nat_tests, wait.keyed k (in-first k keys), in-first k keys)

-- the others come after it
pub keys_after : (ts : List Term) (upto : ℕ) (lists : List (List ℕ)) (cursor k : ℕ) (keys : List ℕ)
    → AreWaiting ts upto lists cursor (k ∷ keys) → (j : ℕ) → Contains keys j → k < j
keys_after ts upto lists cursor k keys wait j in' =
    nat_less k j
    (All-contains (λ y. nat_cmp k y ≡ Less) keys j
    (All-from_recursion (λ y. nat_cmp k y ≡ Less) keys (sorted_head nat_cmp k keys wait.ordered)) in')

-- ---- the first term is replaced

pub record IsFirst (ts : List Term) (lists : List (List ℕ)) (cursor k t : ℕ) (keys : List ℕ)
    : Type 0 where
  pub wait : AreWaiting ts (length ts) lists cursor (k ∷ keys)
  pub narrow : length ts ≤ 2 ^ 32
  pub term : t < length ts
  pub key : k ≡ key_of ts t
  pub first : code_at (term_at ts t) 0 + 1 ≡ cursor

at-set : (ts : List Term) (t x : ℕ) (u : Term) → x ≢ t → term_at (set ts t u) x ≡ term_at ts x
at-set ts t x u other = get_or-set_other ts t x u _ other

-- a listed term is another one
listed-other : (ts : List Term) (lists : List (List ℕ)) (cursor k t : ℕ) (keys : List ℕ)
    → IsFirst ts lists cursor k t keys → (b x : ℕ) → Contains (list_at lists b) x → x ≢ t
listed-other ts lists cursor k t keys is b x in' same =
    grind (arith, nat_tests, is.wait.listed b x in')

-- .. and so is a term with another key
keyed-other : (ts : List Term) (lists : List (List ℕ)) (cursor k t : ℕ) (keys : List ℕ)
    → IsFirst ts lists cursor k t keys → (x : ℕ) → Contains keys (key_of ts x) → x ≢ t
keyed-other ts lists cursor k t keys is x in' same =
    grind (arith, nat_tests, keys_after ts (length ts) lists cursor k keys is.wait (key_of ts x) in')

pub apart_first : (ts : List Term) (lists : List (List ℕ)) (cursor k t : ℕ) (keys : List ℕ)
    → IsFirst ts lists cursor k t keys → IsApart lists t
apart_first ts lists cursor k t keys is b d within j e inside =
    let xs = get_or lists b d in
    let here : xs ≡ list_at lists b = get_or_default lists b d [] within in
    let in' = subst (λ (ys : List ℕ). Contains ys (get_or xs j e)) here (Contains-get_or xs j e inside) in
    listed-other ts lists cursor k t keys is b (get_or xs j e) in'

kept-listed : (ts : List Term) (lists : List (List ℕ)) (cursor k t : ℕ) (keys : List ℕ) (u : Term)
    → IsFirst ts lists cursor k t keys → (b x : ℕ) → Contains (list_at lists b) x
    → IsListed (set ts t u) (length (set ts t u)) cursor b x
kept-listed ts lists cursor k t keys u is b x in' =
    let one = is.wait.listed b x in
    grind (arith, nat_tests, elements, at-set, listed-other, length-set)

kept-keyed : (ts : List Term) (lists : List (List ℕ)) (cursor k t : ℕ) (keys : List ℕ) (u : Term)
    → IsFirst ts lists cursor k t keys → (j : ℕ) → Contains keys j → IsKeyed (set ts t u) cursor j
kept-keyed ts lists cursor k t keys u is j in' =
    let one = is.wait.keyed j (in-rest k keys j in') in
    let other = keyed-other ts lists cursor k t keys is one.term (rw (← one.key) in') in
    let same = at-set ts t one.term u other in
    record {
      term = one.term;
      within = rw length-set one.within;
      key = rw same one.key;
      long = rw same one.long;
      first = rw same one.first;
    }

kept-found : (ts : List Term) (lists : List (List ℕ)) (cursor k t : ℕ) (keys : List ℕ) (u : Term)
    → IsFirst ts lists cursor k t keys → (x : ℕ) → x < length ts → x ≢ t
    → is_long (term_at (set ts t u) x) ≡ true → IsFound (set ts t u) lists cursor keys x
kept-found ts lists cursor k t keys u is x below other high = grind (arith, nat_tests, elements)

-- what waits when the first term has become one of lower degree
pub wait_less : (ts : List Term) (lists : List (List ℕ)) (cursor k t : ℕ) (keys : List ℕ) (u : Term)
    → IsFirst ts lists cursor k t keys → is_long u ≡ false
    → AreWaiting (set ts t u) (length (set ts t u)) lists cursor keys
wait_less ts lists cursor k t keys u is short = record {
  listed = kept-listed ts lists cursor k t keys u is;
  distinct = is.wait.distinct;
  keyed = kept-keyed ts lists cursor k t keys u is;
  ordered = sorted_tail nat_cmp k keys is.wait.ordered;
  found = λ x below high. grind (arith, nat_tests, elements, kept-found ts lists cursor k t keys u is x);
  few = let old = is.wait.few in omega (arith, old, length-set ts t u);
}

-- .. or another one, which is put into the list of its first literal
pub wait_put : (ts : List Term) (lists lists' : List (List ℕ)) (cursor k t b : ℕ) (keys : List ℕ)
    (u : Term) → IsFirst ts lists cursor k t keys → is_long u ≡ true → code_at u 0 ≡ b → cursor ≤ b
    → b < length lists → lists' ≡ set lists b (t ∷ list_at lists b)
    → AreWaiting (set ts t u) (length (set ts t u)) lists' cursor keys
wait_put ts lists lists' cursor k t b keys u is long first later within new =
    let ts' = set ts t u in
    let inside = is.term in
    let here = get_or-set_same ts t u ([], pos 0) inside in
    let count = length-set ts t u in
    subst (λ ls. AreWaiting ts' (length ts') ls cursor keys) (sym new)
    (record {
      listed = λ c x in'.
          let put = in-put lists b t c x within in' in
          let old = kept-listed ts lists cursor k t keys u is c x in
          grind (arith, nat_tests);
      distinct =
          put-distinct lists b t within
          (λ x c same. listed-other ts lists cursor k t keys is b x c (sym same))
          is.wait.distinct;
      keyed = kept-keyed ts lists cursor k t keys u is;
      ordered = sorted_tail nat_cmp k keys is.wait.ordered;
      found = λ x below high.
          let old = kept-found ts lists cursor k t keys u is x in
          let this = put-here lists b t within in
          let there = put-in lists b t (code_at (term_at ts' x) 0) x within in
          grind (arith, nat_tests);
      few = let old = is.wait.few in omega (arith, old, count, put-count lists b t within);
    })

-- ---- a list is taken

-- keys of different terms differ
distinct-keys : (ts : List Term) (xs : List ℕ) → ((x : ℕ) → Contains xs x → x < 2 ^ 32)
    → IsDistinct (λ x y. x == y) xs → IsDistinct eqb (map (key_of ts) xs)
unfolding IsDistinct
distinct-keys ts [] narrow distinct = tt
distinct-keys ts (x ∷ xs) narrow distinct = (
  all-members (λ j. eqb (key_of ts x) j ≡ false) (map (key_of ts) xs) (λ j in'.
      let one = from-map (key_of ts) xs j in' in
      let y = one.0 in
      let small = narrow x (in-first x xs) in
      let less = narrow y (in-rest x xs y one.1) in
      let other =
      All-contains (λ z. (x == z) ≡ false) xs y
      (All-from_recursion (λ z. (x == z) ≡ false) xs distinct.0) one.1 in
      let same = same-term (code_at (term_at ts x) 1) x (code_at (term_at ts y) 1) y small less in
      grind (arith, nat_tests)),
  distinct-keys ts xs (λ y c. narrow y (in-rest x xs y c)) distinct.1,
)

in-taken : (lists : List (List ℕ)) (b c x : ℕ) → b < length lists
    → Contains (list_at (set lists b []) c) x → (c ≢ b) × Contains (list_at lists c) x
in-taken lists b c x within in' = grind (arith, nat_tests, elements)

pub wait_collected : (ts : List Term) (lists lists' : List (List ℕ)) (cursor : ℕ)
    (raw keys : List ℕ) → AreWaiting ts (length ts) lists cursor [] → length ts ≤ 2 ^ 32
    → cursor < length lists → raw ≡ map (key_of ts) (list_at lists cursor) → IsPermutation raw keys
    → IsNonDecreasing keys → lists' ≡ set lists cursor []
    → AreWaiting ts (length ts) lists' (cursor + 1) keys
unfolding IsDistinct
wait_collected ts lists lists' cursor raw keys wait narrow within is moved sorted new =
    let own = list_at lists cursor in
    let after = set lists cursor [] in
    let below : (x : ℕ) → Contains own x → x < 2 ^ 32 =
    λ x in'. let h = (wait.listed cursor x in').within in omega (arith, h, narrow) in
    subst (λ ls. AreWaiting ts (length ts) ls (cursor + 1) keys) (sym new)
    (record {
      listed = λ b t in'.
          let one = wait.listed b t in
          let both = in-taken lists cursor b t within in' in
          grind (arith, nat_tests);
      distinct = λ b. let old = wait.distinct b in grind (arith, nat_tests, elements);
      keyed = λ k in'.
          let raw_in = Contains-permutation keys raw k (IsPermutation-sym raw keys moved) in' in
          let one = from-map (key_of ts) own k (subst (λ (xs : List ℕ). Contains xs k) is raw_in) in
          let old = wait.listed cursor one.0 one.1 in
          record {
            term = one.0;
            within = old.within;
            key = one.2;
            long = old.long;
            first = ap (λ n. n + 1) old.first;
          };
      ordered =
          sorted_from_strictly_increasing keys
          (IsStrictlyIncreasing-from_distinct keys sorted
          (IsDistinct-IsPermutation eqb eqb-flips raw keys moved
          (subst (IsDistinct eqb) (sym is) (distinct-keys ts own below (wait.distinct cursor)))));
      found = λ t inside high.
          let old = wait.found t inside high in
          let in' = in-map (key_of ts) own t in
          let there = Contains-permutation raw keys (key_of ts t) moved in
          let kept = get_or-set_other lists cursor (code_at (term_at ts t) 0) [] [] in
          grind (arith, nat_tests, in-none);
      few =
          let old = wait.few in
          omega (
            arith,
            old,
            sum_by-set (λ (xs : List ℕ). length xs) lists cursor [] [] within,
            length_permutation raw keys moved,
            ap length is,
            length-map own (key_of ts),
          );
    })

-- .. where it has no terms
pub wait_skipped : (ts : List Term) (lists : List (List ℕ)) (cursor : ℕ) (keys : List ℕ) → keys ≡ []
    → AreWaiting ts (length ts) lists cursor keys → length ts ≤ 2 ^ 32 → cursor < length lists
    → list_at lists cursor ≡ [] → AreWaiting ts (length ts) lists (cursor + 1) keys
wait_skipped ts lists cursor keys none wait narrow within empty =
    let same : lists ≡ set lists cursor [] =
    sym (set-get_or lists cursor []) ∙ ap (λ xs. set lists cursor xs) empty in
    rw none
    (wait_collected ts lists lists cursor [] [] (rw none at wait) narrow within
    (ap (map (key_of ts)) (sym empty)) (IsPermutation-refl [])
    (λ i j d up within. absurd (omega arith)) same)

-- ---- lists without terms

pub none-at : (n b : ℕ) → list_at (replicate n []) b ≡ []
none-at zero b = refl
none-at (suc n) zero = refl
none-at (suc n) (suc b) = none-at n b

pub none-count : (n : ℕ) → listed_count (replicate n []) ≡ 0
none-count zero = refl
none-count (suc n) = omega (arith, none-count n, sum_by-cons)

-- the terms of a list are there
pub listed_within : (ts : List Term) (lists : List (List ℕ)) (cursor : ℕ) (keys xs : List ℕ) (b : ℕ)
    → AreWaiting ts (length ts) lists cursor keys → xs ≡ list_at lists b
    → All (λ t. t < length ts) xs
listed_within ts lists cursor keys xs b wait is =
    All-from_recursion (λ t. t < length ts) xs
    (all-members (λ t. t < length ts) xs
    (λ t in'. (wait.listed b t (subst (λ (ys : List ℕ). Contains ys t) is in')).within))

-- ---- one list more

list_at-more : (lists : List (List ℕ)) (b : ℕ) → list_at (lists ++ [] ∷ []) b ≡ list_at lists b
list_at-more [] zero = refl
list_at-more [] (suc b) = refl
list_at-more (xs ∷ lists) zero = refl
list_at-more (xs ∷ lists) (suc b) = list_at-more lists b

count-more : (lists : List (List ℕ)) → listed_count (lists ++ [] ∷ []) ≡ listed_count lists
count-more [] = refl
count-more (xs ∷ lists) = omega (arith, count-more lists, sum_by-cons)

pub wait_wider : (ts : List Term) (upto : ℕ) (lists lists' : List (List ℕ)) (cursor : ℕ)
    (keys : List ℕ) → AreWaiting ts upto lists cursor keys → lists' ≡ lists ++ [] ∷ []
    → AreWaiting ts upto lists' cursor keys
wait_wider ts upto lists lists' cursor keys wait new =
    subst (λ ls. AreWaiting ts upto ls cursor keys) (sym new)
    (record {
      listed = λ b t. rw list_at-more (wait.listed b t);
      distinct = λ b. rw list_at-more (wait.distinct b);
      keyed = wait.keyed;
      ordered = wait.ordered;
      found = λ t below long. rw list_at-more (wait.found t below long);
      few = let old = wait.few in omega (arith, old, count-more lists);
    })
