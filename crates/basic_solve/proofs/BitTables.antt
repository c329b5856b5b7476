-- The table of a node for one of its bits.
use Rattle.basic_solve.proofs.Common.{nat_tests, ◌≡◌, ◌≢◌, ℕ, ◌+◌, ◌*◌, ◌^◌, ◌<◌, ◌≤◌, ℤ, pos, ◌+ℤ◌, unsigned_abs, Bool, true, false, List, [], ◌∷◌, ◌++◌, length, take, drop, replicate, get_or, zero, suc, refl, sym, arith, ◌∙◌, sum_by, ints, take_at, sum_by-cons, total_by, if_so, Entry, Kind, bit_at, entry_energy, is_node, weight_total, value_at, doubled, sum_where, base_of, step_of, step_at, AreOf, most, sum_by-replicate}
use Rattle.basic_solve.proofs.ListSums.{total_left}
use Rattle.basic_solve.proofs.TableValues.{length-doubled}
use Rattle.basic_solve.proofs.TableSizes.{most-doubled}
use Rattle.basic_solve.proofs.NodeTables.{entries_value}

-- what stands past the end of a list of entries
abbrev pub no_entry : Entry
no_entry = record { first = 0; second = 0; weight = pos 0 }

-- a slice of a whole list that was written
pub written_items : {A : Type 0} (len : ℕ) (news olds : List A) → len ≡ length olds
    → length news ≡ length olds → take len (news ++ drop (length news) olds) ≡ news
written_items len news olds l m = take_at news (drop (length news) olds) len (m ∙ sym l)

-- ---- sizes

pub base-size : (kind : Kind) (bit : Bool) (e : Entry)
    → unsigned_abs (base_of kind bit e) ≤ unsigned_abs e.weight
base-size kind bit e = grind (arith, nat_tests)

pub step-size : (kind : Kind) (bit : Bool) (e : Entry)
    → unsigned_abs (step_of kind bit e) ≤ 2 * unsigned_abs e.weight
step-size kind bit e = grind (arith, nat_tests)

pub base-small : (kind : Kind) (bit : Bool) (es : List Entry)
    → unsigned_abs (total_by (base_of kind bit) es) ≤ weight_total es
base-small kind bit [] = omega arith
base-small kind bit (e ∷ es) =
    let rest0 = base-small kind bit es in simp sum_by-cons (grind (arith, nat_tests, base-size))

-- ---- steps

pub not_node : (e : Entry) → e.first ≢ e.second → is_node e ≡ false
not_node e n = grind (arith, nat_tests)

pub none-sum : (y : List Bool) (nodes : List ℕ) (n : ℕ)
    → sum_where y nodes (replicate n (pos 0)) ≡ pos 0
none-sum y [] n = refl
none-sum y (u ∷ us) zero = refl
none-sum y (u ∷ us) (suc n) = grind (arith, nat_tests, ints, none-sum y us n)

pub none-size : (n : ℕ) → sum_by unsigned_abs (replicate n (pos 0)) ≡ 0
none-size n = sum_by-replicate unsigned_abs n (pos 0) ∙ omega arith

module _ (kind : Kind) (bit : Bool) (entries : List Entry) (at : ℕ) (d : Entry)
    (within : at < length entries) (nodes : List ℕ) (olds news : List ℤ)
    (so_far : (y : List Bool)
    → sum_where y nodes olds +ℤ total_by (step_at kind bit y) (drop at entries)
    ≡ total_by (step_at kind bit y) entries) where
  -- a coupler's step is added
  pub step_added : (number : ℤ) → is_node (get_or entries at d) ≡ false
      → number ≡ step_of kind bit (get_or entries at d) → ((y : List Bool) → sum_where y nodes news
      ≡ sum_where y nodes olds +ℤ if_so (bit_at y (get_or entries at d).first) number)
      → (y : List Bool)
      → sum_where y nodes news +ℤ total_by (step_at kind bit y) (drop (at + 1) entries)
      ≡ total_by (step_at kind bit y) entries
  step_added number other is sums y =
      grind (arith, nat_tests, ints, total_left (step_at kind bit y) entries at d within)

  -- the entry of a node changes nothing
  pub step_kept : is_node (get_or entries at d) ≡ true → news ≡ olds → (y : List Bool)
      → sum_where y nodes news +ℤ total_by (step_at kind bit y) (drop (at + 1) entries)
      ≡ total_by (step_at kind bit y) entries
  step_kept own is y =
      grind (arith, nat_tests, ints, total_left (step_at kind bit y) entries at d within)

-- ---- the table of the entries alone

module _ (kind : Kind) (v : ℕ) (bit : Bool) (nodes : List ℕ) (entries : List Entry)
    (first steps values : List ℤ) (b : ℤ) (long : length steps ≡ length nodes)
    (first_is : first ≡ b ∷ []) (base : b ≡ total_by (base_of kind bit) entries)
    (is : values ≡ doubled ◌+ℤ◌ first steps) where
  pub begun-length : length values ≡ 2 ^ length nodes
  begun-length = grind (arith, nat_tests, length-doubled)

  pub begun_holds : AreOf v entries
      → ((y : List Bool) → sum_where y nodes steps ≡ total_by (step_at kind bit y) entries)
      → (y : List Bool) → length y ≡ v
      → value_at nodes values y ≡ total_by (entry_energy kind (y ++ bit ∷ [])) entries
  begun_holds own sums y w = grind (arith, nat_tests, entries_value)

  pub begun-small : sum_by unsigned_abs steps ≤ 2 * weight_total entries
      → most values ≤ 3 * weight_total entries
  begun-small small = grind (arith, nat_tests, most-doubled, base-small)
