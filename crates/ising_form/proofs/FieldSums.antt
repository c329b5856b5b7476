-- The constant and the fields of an image: how large they are, and what one more coupler makes of them.
use Rattle.ising_form.proofs.Common.{nat_tests, ◌≡◌, ℕ, zero, suc, ◌+◌, ◌*◌, ◌<◌, ◌≤◌, ◌==◌, ℤ, pos, ◌+ℤ◌, ◌*ℤ◌, unsigned_abs, List, [], ◌∷◌, ◌++◌, length, take, drop, get_or, slice_set, refl, sym, ap, ◌∙◌, arith, append_assoc, length-take-le, drop_more, get_or-append_seam, set-append_seam, length-fields, ints, take_more, sum_by-cons, total_by, if_so, total_by_more, size-plus, size-total_by, Entry, weight_total, node_entries, end_weight, coupled, fields_from, spins_fields, spins_constant, raised, cases_eq, cond, leb}

abbrev size : Entry → ℕ
size e = unsigned_abs e.weight

-- the sizes of numbers, as the weights of nodes
abbrev pub node_total : ℕ → List ℤ → ℕ
node_total n ws = weight_total (node_entries n ws)

pub node_total-cons : (n : ℕ) (w : ℤ) (ws : List ℤ)
    → node_total n (w ∷ ws) ≡ unsigned_abs w + node_total (suc n) ws
node_total-cons n w ws =
    sum_by-cons size (record { first = n; second = n; weight = w }) (node_entries (suc n) ws)

-- ---- sizes

-- the sizes of what is added for nodes that are numbered from n on
added_size : (ℕ → ℤ) → ℕ → List ℤ → ℕ
added_size added n [] = 0
added_size added n (w ∷ ws) = unsigned_abs (added n) + added_size added (suc n) ws

size-fields_from : (added : ℕ → ℤ) (n : ℕ) (ws : List ℤ)
    → node_total n (fields_from added n ws) ≤ 2 * node_total n ws + added_size added n ws
unfolding added_size
size-fields_from added n [] = omega arith
size-fields_from added n (w ∷ ws) =
    grind (arith, nat_tests, ints, size-fields_from added (suc n) ws, node_total-cons, size-plus)

added_size-plus : (f g : ℕ → ℤ) (n : ℕ) (ws : List ℤ)
    → added_size (λ i. f i +ℤ g i) n ws ≤ added_size f n ws + added_size g n ws
unfolding added_size
added_size-plus f g n [] = omega arith
added_size-plus f g n (w ∷ ws) = omega (arith, size-plus (f n) (g n), added_size-plus f g (suc n) ws)

size-one : (j n : ℕ) (c : ℤ) (ws : List ℤ)
    → added_size (λ i. if_so (j == i) c) n ws ≤ cond (leb n j) (unsigned_abs c) 0
unfolding added_size
size-one j n c [] = omega arith
size-one j n c (w ∷ ws) =
    let cases = cases_eq j n in
    let rest = size-one j (suc n) c ws in grind (arith, nat_tests, ints)

size-nothing : (n : ℕ) (ws : List ℤ) → added_size (λ i. pos 0) n ws ≡ 0
unfolding added_size
size-nothing n [] = refl
size-nothing n (w ∷ ws) = omega (arith, size-nothing (suc n) ws)

size-coupled : (cs : List Entry) (n : ℕ) (ws : List ℤ)
    → added_size (coupled cs) n ws ≤ 2 * weight_total cs
size-coupled [] n ws = omega (arith, size-nothing n ws)
size-coupled (e ∷ cs) n ws =
    let both = added_size-plus (λ i. end_weight i e) (coupled cs) n ws in
    let ends = added_size-plus (λ i. if_so (e.first == i) e.weight) (λ i. if_so (e.second == i) e.weight) n ws in
    let first = size-one e.first n e.weight ws in
    let second = size-one e.second n e.weight ws in
    let rest = size-coupled cs n ws in
    let whole = sum_by-cons size e cs in grind (arith, nat_tests)

-- the fields are at most twice the weights, in size
pub size-fields : (ws : List ℤ) (cs : List Entry)
    → node_total 0 (spins_fields ws cs) ≤ 2 * node_total 0 ws + 2 * weight_total cs
size-fields ws cs = omega (arith, size-fields_from (coupled cs) 0 ws, size-coupled cs 0 ws)

size-sum : (n : ℕ) (ws : List ℤ) → unsigned_abs (total_by (λ (w : ℤ). w) ws) ≤ node_total n ws
size-sum n [] = omega arith
size-sum n (w ∷ ws) = omega (arith, size-plus, node_total-cons, size-sum (suc n) ws)

pub size-constant : (c : ℤ) (ws : List ℤ) (cs : List Entry) → unsigned_abs (spins_constant c ws cs)
    ≤ 4 * unsigned_abs c + (2 * node_total 0 ws + weight_total cs)
size-constant c ws cs = omega (arith, ints, size-sum 0 ws, size-total_by (λ (e : Entry). e.weight) cs)

-- ---- one more node

fields_from_push : (added : ℕ → ℤ) (n : ℕ) (ws : List ℤ) (w : ℤ)
    → fields_from added n (ws ++ w ∷ [])
    ≡ fields_from added n ws ++ (pos 2 *ℤ w +ℤ added (n + length ws)) ∷ []
fields_from_push added n [] w = grind (arith, nat_tests, ints)
fields_from_push added n (v ∷ ws) w =
    grind (arith, nat_tests, ints, fields_from_push added (suc n) ws w)

-- without couplers, a field is twice the weight
pub fields_more : (ws : List ℤ) (i : ℕ) (d : ℤ) → i < length ws
    → spins_fields (take (i + 1) ws) [] ≡ spins_fields (take i ws) [] ++ (pos 2 *ℤ get_or ws i d) ∷ []
fields_more ws i d h =
    let w = get_or ws i d in
    let none : pos 2 *ℤ w +ℤ pos 0 ≡ pos 2 *ℤ w = omega (arith, ints) in
    ap (λ vs. spins_fields vs []) (take_more ws i d h)
    ∙ fields_from_push (coupled []) 0 (take i ws) w
    ∙ ap (λ z. spins_fields (take i ws) [] ++ z ∷ []) none

pub constant_more : (c : ℤ) (ws : List ℤ) (i : ℕ) (d : ℤ) → i < length ws
    → spins_constant c (take (i + 1) ws) []
    ≡ spins_constant c (take i ws) [] +ℤ pos 2 *ℤ get_or ws i d
constant_more c ws i d h = omega (arith, ints, total_by_more (λ (w : ℤ). w) ws i d h)

-- fields before weights: the weight that is next, and the field in its place
module _ (ws : List ℤ) (i : ℕ) (h : i < length ws) where
  fields_long : length (spins_fields (take i ws) []) ≡ i
  fields_long = length-fields (coupled []) 0 (take i ws) ∙ length-take-le i ws (omega (arith, h))

  pub next_field : (d : ℤ) → get_or (spins_fields (take i ws) [] ++ drop i ws) i d ≡ get_or ws i d
  next_field d =
      let xs = spins_fields (take i ws) [] in
      let w = get_or ws i d in
      let rest = drop (i + 1) ws in
      ap (λ zs. get_or (xs ++ zs) i d) (drop_more ws i d h)
      ∙ ap (λ n. get_or (xs ++ w ∷ rest) n d) (sym fields_long) ∙ get_or-append_seam xs w rest d

  pub field_written : (v : ℤ) → slice_set (spins_fields (take i ws) [] ++ drop i ws) i v
      ≡ (spins_fields (take i ws) [] ++ v ∷ []) ++ drop (i + 1) ws
  field_written v =
      let xs = spins_fields (take i ws) [] in
      let w = get_or ws i (pos 0) in
      let rest = drop (i + 1) ws in
      ap (λ zs. slice_set (xs ++ zs) i v) (drop_more ws i (pos 0) h)
      ∙ ap (λ n. slice_set (xs ++ w ∷ rest) n v) (sym fields_long)
      ∙ set-append_seam xs w rest v ∙ sym (append_assoc xs (v ∷ []) rest)

-- ---- one more coupler

pub constant_coupled : (c : ℤ) (ws : List ℤ) (cs : List Entry) (i : ℕ) (d : Entry) → i < length cs
    → spins_constant c ws (take (i + 1) cs)
    ≡ spins_constant c ws (take i cs) +ℤ (get_or cs i d).weight
constant_coupled c ws cs i d h = omega (arith, ints, total_by_more (λ (e : Entry). e.weight) cs i d h)

-- what is added alike, for all nodes from n on
fields_alike : (f g : ℕ → ℤ) (n : ℕ) (ws : List ℤ) → ((i : ℕ) → n ≤ i → f i ≡ g i)
    → fields_from f n ws ≡ fields_from g n ws
fields_alike f g n [] same = refl
fields_alike f g n (w ∷ ws) same =
    (λ k. (pos 2 *ℤ w +ℤ same n (omega arith) k)
    ∷ fields_alike f g (suc n) ws (λ i low. same i (omega arith)) k)

-- more is added for one node
fields_raised : (f g : ℕ → ℤ) (n k j : ℕ) (c : ℤ) (ws : List ℤ)
    → ((i : ℕ) → g i ≡ f i +ℤ if_so (j == i) c) → n + k ≡ j → k < length ws
    → fields_from g n ws ≡ raised (fields_from f n ws) k c
fields_raised f g n k j c [] more is within = absurd (omega arith)
fields_raised f g n zero j c (w ∷ ws) more is within =
    let added : g n ≡ f n +ℤ c = grind (arith, nat_tests, ints, more n) in
    let head : pos 2 *ℤ w +ℤ g n ≡ (pos 2 *ℤ w +ℤ f n) +ℤ c = omega (arith, ints, added) in
    (λ i. head i ∷ fields_alike g f (suc n) ws (λ m low. grind (arith, nat_tests, ints, more m)) i)
fields_raised f g n (suc k) j c (w ∷ ws) more is within =
    let other : g n ≡ f n = grind (arith, nat_tests, ints, more n) in
    (λ i. (pos 2 *ℤ w +ℤ other i) ∷ fields_raised f g (suc n) k j c ws more (omega arith) (omega arith) i)

-- the fields with one more coupler
pub fields_coupled : (ws : List ℤ) (cs : List Entry) (i : ℕ) (d : Entry) → i < length cs
    → (get_or cs i d).first < length ws → (get_or cs i d).second < length ws
    → spins_fields ws (take (i + 1) cs)
    ≡ raised (raised (spins_fields ws (take i cs)) (get_or cs i d).first (get_or cs i d).weight)
    (get_or cs i d).second (get_or cs i d).weight
fields_coupled ws cs i d h first second =
    let e = get_or cs i d in
    let c = e.weight in
    let less = coupled (take i cs) in
    let one : ℕ → ℤ = λ k. less k +ℤ if_so (e.first == k) c in
    let whole : (k : ℕ) → coupled (take (i + 1) cs) k ≡ one k +ℤ if_so (e.second == k) c =
    λ k. omega (arith, ints, total_by_more (end_weight k) cs i d h) in
    fields_raised one (coupled (take (i + 1) cs)) 0 e.second e.second c ws whole (omega arith) second
    ∙ ap (λ hs. raised hs e.second c)
    (fields_raised less one 0 e.first e.first c ws (λ k. refl) (omega arith) first)

-- ---- raised fields

total-raised_from : (n i : ℕ) (hs : List ℤ) (c : ℤ)
    → node_total n (raised hs i c) ≤ node_total n hs + unsigned_abs c
total-raised_from n i [] c = omega arith
total-raised_from n zero (h ∷ hs) c = grind (arith, nat_tests, ints, node_total-cons, size-plus)
total-raised_from n (suc i) (h ∷ hs) c =
    omega (arith, node_total-cons, total-raised_from (suc n) i hs c)

pub total-raised : (i : ℕ) (hs : List ℤ) (c : ℤ)
    → node_total 0 (raised hs i c) ≤ node_total 0 hs + unsigned_abs c
total-raised i hs c = total-raised_from 0 i hs c
