-- What the tables of elimination hold.
use Rattle.basic_solve.proofs.Common.{nat_tests, ◌≡◌, ℕ, zero, suc, ◌+◌, ◌*◌, ◌^◌, ◌<◌, ℤ, pos, ◌+ℤ◌, Bool, true, false, cond, List, [], ◌∷◌, ◌++◌, length, map, get_or, set, ◌-◌, refl, arith, ap, ◌∙◌, ints, pow-succ', length-append, length-map, get_or_append_left, get_or-map, get_or-append_right, get_or-append_seam, if_so, bit_at, index_of, doubled, stepped, sum_where, places, is_part, All}

-- ---- tables by doubling

-- the index of a digit and of those after it
index_more : (p s t i : ℕ) → (p + s * t) + (s + s) * i ≡ p + s * (t + 2 * i)
index_more p s t i = omega arith

digit-le : (p s : ℕ) (b : Bool) → p < s → p + s * cond b 1 0 < s + s
digit-le p s true h = omega (arith, h)
digit-le p s false h = omega (arith, h)

module _ {A : Type 0} (plus : A → A → A) where
  length-one_doubled : (values : List A) (step : A) (s : ℕ) → length values ≡ s
      → length (values ++ map (λ v. plus v step) values) ≡ s + s
  length-one_doubled values step s w =
      omega (arith, w, length-append values (map (λ v. plus v step) values), length-map values (λ v. plus v step))

  -- the place of a digit in a table that was doubled once
  one_doubled : (values : List A) (step d : A) (p s : ℕ) (b : Bool) → length values ≡ s → p < s
      → get_or (values ++ map (λ v. plus v step) values) (p + s * cond b 1 0) d
      ≡ cond b (plus (get_or values p d) step) (get_or values p d)
  one_doubled values step d p s false w h =
      ap (λ i. get_or (values ++ map (λ v. plus v step) values) i d) (omega arith)
      ∙ get_or_append_left values _ d p (omega (arith, w, h))
  one_doubled values step d p s true w h =
      let more = map (λ v. plus v step) values in
      get_or-append_right values more (p + s * 1) d (omega (arith, w))
      ∙ ap (λ i. get_or more i d) (omega (arith, w))
      ∙ get_or-map (λ v. plus v step) values p d d (omega (arith, w, h))

  -- each place of a table that was doubled by the steps of some nodes
  pub doubled_at : (y : List Bool) (nodes : List ℕ) (values steps : List A) (d : A) (p s : ℕ)
      → length values ≡ s → p < s → length steps ≡ length nodes
      → get_or (doubled plus values steps) (p + s * index_of y nodes) d
      ≡ stepped plus y (get_or values p d) nodes steps
  doubled_at y [] values [] d p s w h l = ap (λ i. get_or values i d) (omega arith)
  doubled_at y [] values (step ∷ steps) d p s w h l = absurd (omega arith)
  doubled_at y (u ∷ us) values [] d p s w h l = absurd (omega arith)
  doubled_at y (u ∷ us) values (step ∷ steps) d p s w h l =
      let twice = values ++ map (λ v. plus v step) values in
      let b = bit_at y u in
      let more = index_more p s (cond b 1 0) (index_of y us) in
      let rest = doubled_at y us twice steps d (p + s * cond b 1 0) (s + s)
      (length-one_doubled values step s w) (digit-le p s b h) (omega arith) in
      cc (one_doubled values step d p s b w h)

  pub length-doubled : (values steps : List A)
      → length (doubled plus values steps) ≡ length values * 2 ^ length steps
  length-doubled values [] = omega arith
  length-doubled values (step ∷ steps) =
      let rest = length-doubled (values ++ map (λ v. plus v step) values) steps in
      let one = ap (λ n. n * 2 ^ length steps) (length-one_doubled values step (length values) refl) in
      omega (arith, ap (λ n. length values * n) (pow-succ' 2 (length steps)))

-- ---- sums of steps

one_more : (b : Bool) (v step : ℤ) → cond b (v +ℤ step) v ≡ v +ℤ if_so b step
one_more true v step = refl
one_more false v step = omega (arith, ints)

if_so-more : (b : Bool) (v by : ℤ) → if_so b (v +ℤ by) ≡ if_so b v +ℤ if_so b by
if_so-more true v by = refl
if_so-more false v by = refl

pub stepped-sum : (y : List Bool) (v : ℤ) (nodes : List ℕ) (steps : List ℤ)
    → length steps ≡ length nodes → stepped ◌+ℤ◌ y v nodes steps ≡ v +ℤ sum_where y nodes steps
stepped-sum y v [] steps l = omega (arith, ints)
stepped-sum y v (u ∷ us) [] l = absurd (omega arith)
stepped-sum y v (u ∷ us) (step ∷ steps) l =
    let rest = stepped-sum y (cond (bit_at y u) (v +ℤ step) v) us steps (omega (arith, l)) in
    omega (arith, ints, rest, one_more (bit_at y u) v step)

-- one step that grows
pub sum_where-set : (y : List Bool) (nodes : List ℕ) (steps : List ℤ) (at : ℕ) (by : ℤ)
    → at < length nodes → length steps ≡ length nodes
    → sum_where y nodes (set steps at (get_or steps at (pos 0) +ℤ by))
    ≡ sum_where y nodes steps +ℤ if_so (bit_at y (get_or nodes at 0)) by
sum_where-set y [] steps at by h l = absurd (omega arith)
sum_where-set y (u ∷ us) [] at by h l = absurd (omega arith)
sum_where-set y (u ∷ us) (step ∷ steps) zero by h l =
    omega (arith, ints, if_so-more (bit_at y u) step by)
sum_where-set y (u ∷ us) (step ∷ steps) (suc at) by h l =
    omega (arith, ints, sum_where-set y us steps at by (omega arith) (omega arith))

-- ---- indices

pub index_of-lt : (y : List Bool) (nodes : List ℕ) → index_of y nodes < 2 ^ length nodes
index_of-lt y [] = omega arith
index_of-lt y (u ∷ us) = grind (arith, nat_tests, index_of-lt y us, pow-succ' 2 (length us))

-- the highest digit is the bit of the last node
pub index_of-last : (y : List Bool) (nodes : List ℕ) (v : ℕ) → index_of y (nodes ++ v ∷ [])
    ≡ index_of y nodes + 2 ^ length nodes * cond (bit_at y v) 1 0
index_of-last y [] v = omega arith
index_of-last y (u ∷ us) v =
    omega (arith, index_of-last y us v, ap (λ n. n * cond (bit_at y v) 1 0) (pow-succ' 2 (length us)))

pub bit_at-front : (y z : List Bool) (u : ℕ) → u < length y → bit_at (y ++ z) u ≡ bit_at y u
bit_at-front y z u h = get_or_append_left y z false u h

pub bit_at-next : (y z : List Bool) (b : Bool) → bit_at (y ++ b ∷ z) (length y) ≡ b
bit_at-next y z b = get_or-append_seam y b z false

-- bits past the front do not matter
pub index_of-front : (y z : List Bool) (nodes : List ℕ) → All (λ u. u < length y) nodes
    → index_of (y ++ z) nodes ≡ index_of y nodes
index_of-front y z [] h = refl
index_of-front y z (u ∷ us) h =
    cc (bit_at-front y z u (h 0 u (omega arith)), index_of-front y z us (λ k d l. h (suc k) d (omega arith)))

-- ---- a table over some of the nodes

pub length-places : (p : ℕ) (us ks : List ℕ) → length (places p us ks) ≡ length us
length-places p [] ks = refl
length-places p (u ∷ us) [] = ap suc (length-places p us [])
length-places p (u ∷ us) (k ∷ ks) =
    grind (arith, nat_tests, length-places (p + p) us ks, length-places p us (k ∷ ks))

pub stepped-none : (y : List Bool) (a p : ℕ) (us : List ℕ) → stepped ◌+◌ y a us (places p us []) ≡ a
stepped-none y a p [] = refl
stepped-none y a p (u ∷ us) = grind (arith, nat_tests, stepped-none y a p us)

-- the places of those nodes whose bit is 1 add up to the index in the table
pub stepped-places : (y : List Bool) (a p : ℕ) (us ks : List ℕ) → is_part us ks ≡ true
    → stepped ◌+◌ y a us (places p us ks) ≡ a + p * index_of y ks
stepped-places y a p [] [] h = omega arith
stepped-places y a p [] (k ∷ ks) h = absurd cc
stepped-places y a p (u ∷ us) [] h = stepped-none y a p (u ∷ us) ∙ omega arith
stepped-places y a p (u ∷ us) (k ∷ ks) h =
    let same : a + 0 ≡ a = omega arith in
    let taken = stepped-places y (a + p) (p + p) us ks in
    let left = stepped-places y a (p + p) us ks in
    let other = stepped-places y a p us (k ∷ ks) in
    grind (arith, nat_tests)
