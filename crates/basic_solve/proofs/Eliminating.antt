-- The elimination of one node.
--
-- Of a front of a state the least energy of all states that begin with it is a constant, what the
-- entries of the nodes in the front add, and what the tables add that are passed to these nodes.
-- The last node of the front is in its own entries and in the tables that are passed to it alone.
-- So the lesser of what these add for its two bits is a function of the other nodes in them, and a
-- table over these nodes takes their place.
use Rattle.basic_solve.proofs.Common.{nat_tests, ◌≡◌, ℕ, zero, suc, ◌+◌, ◌<◌, ℤ, pos, ◌+ℤ◌, int_lt, Bool, true, false, List, [], ◌∷◌, ◌++◌, length, get_or, set, replicate, refl, sym, arith, ap, ◌∙◌, int_min, All, AllByRecursion, All-from_recursion, ints, length-append, length-set, length-replicate, total_by, total_by_push, Entry, Kind, energy, Written, form_of, entry_energy, spins_energy, TableOver, table_energy, value_at, index_of, own_energy, held_energy, waiting_energy, AreOf, AreEntriesOf, IsPassedTo, LeadTo, least_after, chosen, All-push}
use Rattle.basic_solve.proofs.TableValues.{bit_at-front, index_of-front}

-- ---- bits past a front

spins_energy-front : (y z : List Bool) (e : Entry) → e.first < length y → e.second < length y
    → spins_energy (y ++ z) e ≡ spins_energy y e
spins_energy-front y z e f s = cc (bit_at-front y z e.first f, bit_at-front y z e.second s)

entry_energy-front : (kind : Kind) (y z : List Bool) (e : Entry) → e.first < length y
    → e.second < length y → entry_energy kind (y ++ z) e ≡ entry_energy kind y e
entry_energy-front kind y z e f s = grind (arith, nat_tests, bit_at-front, spins_energy-front)

-- ---- lists of lists whose items add the same

items-same : {X : Type 0} (f g : X → ℤ) (xs : List X) → All (λ x. f x ≡ g x) xs
    → total_by f xs ≡ total_by g xs
items-same f g [] e = refl
items-same f g (x ∷ xs) e =
    cc (e 0 x (omega arith), items-same f g xs (λ k d h. e (suc k) d (omega arith)))

lists-same : {X : Type 0} (f g : X → ℤ) (lists : List (List X))
    → ((w : ℕ) → w < length lists → All (λ x. f x ≡ g x) (get_or lists w []))
    → total_by (total_by f) lists ≡ total_by (total_by g) lists
lists-same f g [] e = refl
lists-same f g (xs ∷ lists) e =
    cc (items-same f g xs (e 0 (omega arith)), lists-same f g lists (λ w h. e (suc w) (omega arith)))

-- ---- a table that is passed

pub all_push : {X : Type 0} (P : X → Type 0) (xs : List X) (x : X) → AllByRecursion P xs → P x
    → AllByRecursion P (xs ++ x ∷ [])
all_push P [] x a p = (p, tt)
all_push P (y ∷ ys) x a p = (a.0, all_push P ys x a.1 p)

waiting_energy-push : (y : List Bool) (q : ℕ) (waiting : List (List TableOver)) (t : TableOver)
    → q < length waiting → waiting_energy y (set waiting q (get_or waiting q [] ++ t ∷ []))
    ≡ waiting_energy y waiting +ℤ table_energy y t
waiting_energy-push y q [] t h = absurd (omega arith)
waiting_energy-push y zero (ts ∷ waiting) t h =
    omega (arith, ints, total_by_push (table_energy y) ts t)
waiting_energy-push y (suc q) (ts ∷ waiting) t h =
    omega (arith, ints, waiting_energy-push y q waiting t (omega arith))

-- ---- at first

pub waiting_energy-none : (y : List Bool) (n : ℕ) → waiting_energy y (replicate n []) ≡ pos 0
waiting_energy-none y zero = refl
waiting_energy-none y (suc n) = omega (arith, ints, waiting_energy-none y n)

-- ---- one node

-- so many nodes are eliminated: what is held and what waits tell the least energy of all states
-- that begin with a front of the nodes that are left
pub record LeftAfter (kind : Kind) (n step : ℕ) (g : List Bool → ℤ) (held : List (List Entry))
    (waiting : List (List TableOver)) : Type 0 where
  pub left : length held + step ≡ n
  pub as_many : length waiting ≡ length held
  pub constant : ℤ
  pub least : (y : List Bool) → length y ≡ length held → least_after step g y
      ≡ constant +ℤ (held_energy kind y held +ℤ waiting_energy y waiting)

lt_moved : (r a b : ℤ) → int_lt (r +ℤ b) (r +ℤ a) ≡ int_lt b a
lt_moved r a b = grind (arith, ints)

pub left_at_first : (m : Written) (held : List (List Entry)) → AreEntriesOf m.nodes m.entries held
    → LeftAfter m.kind m.nodes 0 (energy (form_of m)) held (replicate m.nodes [])
left_at_first m held a = record {
  left = let e = a.count in omega arith;
  as_many = length-replicate m.nodes [] ∙ sym a.count;
  constant = pos 0;
  least = λ y w. omega (arith, ints, a.whole m.kind y, waiting_energy-none y m.nodes);
}

min_moved : (r a b : ℤ) → int_min (r +ℤ a) (r +ℤ b) ≡ r +ℤ int_min a b
min_moved r a b = grind (arith, ints)

-- what is added by a node that is left: by its entries, whose couplers lead to its neighbours, and by
-- tables over it and its neighbours
pub record IsLeft (ns : List ℕ) (w : ℕ) (es : List Entry) (ts : List TableOver) : Type 0 where
  pub entries : AreOf w es
  pub leads : LeadTo ns es
  pub passed : All (IsPassedTo w ns) ts

-- the bits past the nodes of a table do not matter
table-front : (y z : List Bool) (w : ℕ) (ns : List ℕ) (t : TableOver) → w < length y
    → IsPassedTo w ns t → table_energy (y ++ z) t ≡ table_energy y t
table-front y z w ns t lt p =
    let one = ap (index_of y) p.parts in
    let two = ap (index_of (y ++ z)) p.parts in
    let below = All-push (λ u. u < length y) p.rest w (λ k d h. omega (arith, p.below k d h, lt)) lt in
    let same = index_of-front y z (p.rest ++ w ∷ []) below in
    ap (λ x. get_or t.values x (pos 0)) (two ∙ same ∙ sym one)

module _ {kind : Kind} {n step : ℕ} {g : List Bool → ℤ} (front : List (List Entry))
    (own : List Entry) (before : List (List TableOver)) (passed : List TableOver)
    (h : LeftAfter kind n step g (front ++ own ∷ []) (before ++ passed ∷ []))
    (sets : ℕ → List ℕ)
    (left : (w : ℕ) → w < length front
    → IsLeft (sets w) w (get_or front w []) (get_or before w [])) where
  -- what the front's nodes add to the energy of a state
  abbrev pub rest : List Bool → ℤ
  rest y = h.constant +ℤ (held_energy kind y front +ℤ waiting_energy y before)

  held_long : length (front ++ own ∷ []) ≡ suc (length front)
  held_long = length-append front (own ∷ []) ∙ omega arith

  same_long : length before ≡ length front
  same_long = omega (arith, h.as_many, held_long, length-append before (passed ∷ []))

  -- the least energy after a front and a bit
  one_bit : (y : List Bool) (b : Bool) → length y ≡ length front
      → least_after step g (y ++ b ∷ []) ≡ rest y +ℤ own_energy kind own passed y b
  one_bit y b w =
      let yb = y ++ b ∷ [] in
      let one = total_by_push (total_by (entry_energy kind yb)) front own in
      let two = total_by_push (total_by (table_energy yb)) before passed in
      let three = lists-same (entry_energy kind yb) (entry_energy kind y) front (λ v l k d i.
      let of = All-from_recursion _ (get_or front v []) (left v l).entries k d i in
      entry_energy-front kind y (b ∷ []) (get_or (get_or front v []) k d) (omega (arith, of.0, of.1)) (omega (arith, of.1))) in
      let four = lists-same (table_energy yb) (table_energy y) before (λ v l k d i.
      let lt : v < length front = omega (arith, same_long) in
      table-front y (b ∷ []) v (sets v) _ (omega arith) ((left v lt).passed k d i)) in
      omega (arith, ints, h.least yb (omega (arith, length-append y (b ∷ []), held_long)), one, two, three, four)

  -- the bit that is chosen after a front is that for which the last node adds less
  pub chosen-is : (y : List Bool) → length y ≡ length front → chosen step g y
      ≡ int_lt (own_energy kind own passed y true) (own_energy kind own passed y false)
  chosen-is y w = rw (one_bit y true w, one_bit y false w) (lt_moved (rest y) _ _)

  -- ---- what takes the place of the last node

  module _ (t : TableOver) (holds : (y : List Bool) → length y ≡ length front → table_energy y t
      ≡ int_min (own_energy kind own passed y false) (own_energy kind own passed y true)) where
    -- the least energy after a front
    next_least : (y : List Bool) → length y ≡ length front
        → least_after (step + 1) g y ≡ rest y +ℤ table_energy y t
    next_least y w =
        let next : step + 1 ≡ suc step = omega arith in
        rw (next, one_bit y false w, one_bit y true w, holds y w) (min_moved (rest y) _ _)

    -- a table that is passed to one of the front's nodes
    pub left_next : (q : ℕ) → q < length front
        → LeftAfter kind n (step + 1) g front (set before q (get_or before q [] ++ t ∷ []))
    left_next q lt = record {
      left = omega (arith, held_long, h.left);
      as_many = length-set before q (get_or before q [] ++ t ∷ []) ∙ same_long;
      constant = h.constant;
      least = λ y w. omega (arith, ints, next_least y w, waiting_energy-push y q before t (omega (arith, lt, same_long)));
    }

    -- or a constant where there is no other node
    pub left_alone : t.nodes ≡ [] → LeftAfter kind n (step + 1) g front before
    left_alone none = record {
      left = omega (arith, held_long, h.left);
      as_many = same_long;
      constant = h.constant +ℤ get_or t.values 0 (pos 0);
      least = λ y w.
          let all = ap (λ ns. value_at ns t.values y) none in
          omega (arith, ints, next_least y w, all);
    }
