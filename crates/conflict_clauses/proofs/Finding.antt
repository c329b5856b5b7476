-- Whether a constraint is replaced, seen by its parts: those first that take the least to see.
use Rattle.conflict_clauses.proofs.Common.{◌≡◌, ℕ, ◌+◌, ◌<◌, ◌≤◌, Bool, true, false, cond, not, ◌&&◌, arith, Some, None, count_by, list_all, nat_tests, length-filter, Constraint, are_apart, each_two, is_conflict, is_needed, is_replaced, is_single, most_pairs, pair_count, pairs, room, IsFound, may_conflict}

-- no two products of one literal each may miss
abbrev conflicting : ℕ → Constraint → Bool
conflicting r k = list_all is_single k.products && each_two (are_apart r) k.products

conflict-parts : (k : Constraint) → is_conflict k ≡ (may_conflict k && conflicting (room k) k)
conflict-parts k = grind (arith, nat_tests)

-- ---- what is seen

-- a constraint that may be a conflict, with its room and its pairs
pub record IsSeen (k : Constraint) (r n : ℕ) : Type 0 where
  pub may : may_conflict k ≡ true
  pub room : r ≡ room k
  pub pairs : n ≡ pairs k

pub seen : (k : Constraint) (r m n : ℕ) → Some r ≡ cond (may_conflict k) (Some (room k)) None
    → m ≡ count_by (λ t. not (is_needed r t)) k.products → n ≡ pair_count m → IsSeen k r n
seen k r m n some counted paired = grind (arith, nat_tests, length-filter)

-- ---- what stays

pub stays_beyond : (spent : ℕ) (k : Constraint) (r n : ℕ) → IsSeen k r n → most_pairs < spent + n
    → is_replaced spent k ≡ false
stays_beyond spent k r n s over = let same = s.pairs in grind (arith, nat_tests)

-- ---- what is replaced

pub is_found : (spent : ℕ) (k : Constraint) (r n : ℕ) → IsSeen k r n → spent + n ≤ most_pairs
    → conflicting r k ≡ true → IsFound spent k (record { room = r; pairs = n })
is_found spent k r n s within apart = grind (arith, nat_tests, conflict-parts)
