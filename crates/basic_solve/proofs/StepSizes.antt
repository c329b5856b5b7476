-- One step of a list that grows, at the place of a node.
use Rattle.basic_solve.proofs.Common.{nat_tests, elements, ◌≡◌, ◌≢◌, ℕ, zero, suc, ◌+◌, ◌<◌, ◌≤◌, ℤ, pos, ◌+ℤ◌, unsigned_abs, Bool, true, List, [], ◌∷◌, length, get_or, set, arith, sum_by, ints, sum_by-cons, if_so, bit_at, is_in, sum_where, false≢true}
use Rattle.basic_solve.proofs.Ascending.{in_cons}
use Rattle.basic_solve.proofs.TableValues.{sum_where-set}

pub size-at : (steps : List ℤ) (at : ℕ)
    → unsigned_abs (get_or steps at (pos 0)) ≤ sum_by unsigned_abs steps
size-at [] at = omega arith
size-at (s ∷ steps) zero = omega (arith, sum_by-cons unsigned_abs s steps)
size-at (s ∷ steps) (suc at) = omega (arith, sum_by-cons unsigned_abs s steps, size-at steps at)

pub size-grown : (steps : List ℤ) (at : ℕ) (v n : ℤ) → at < length steps
    → v ≡ get_or steps at (pos 0) +ℤ n
    → sum_by unsigned_abs (set steps at v) ≤ sum_by unsigned_abs steps + unsigned_abs n
size-grown [] at v n h e = absurd (omega arith)
size-grown (s ∷ steps) zero v n h e = omega (arith, ints, e, sum_by-cons)
size-grown (s ∷ steps) (suc at) v n h e = omega (arith, sum_by-cons, size-grown steps at v n (omega arith) e)

pub sum-grown : (y : List Bool) (nodes : List ℕ) (steps : List ℤ) (at node : ℕ) (v n : ℤ)
    → at < length nodes → length steps ≡ length nodes → get_or nodes at 0 ≡ node
    → v ≡ get_or steps at (pos 0) +ℤ n
    → sum_where y nodes (set steps at v) ≡ sum_where y nodes steps +ℤ if_so (bit_at y node) n
sum-grown y nodes steps at node v n h l is e =
    grind (arith, nat_tests, ints, elements, sum_where-set)

-- a node that is none of these is not among them
pub none_is : (nodes : List ℕ) (node n : ℕ) → length nodes ≤ n → is_in nodes node ≡ true
    → ((x : ℕ) → x < n → get_or nodes x 0 ≢ node) → ⊥
none_is [] node n h i none = false≢true i
none_is (u ∷ us) node n h i none =
    in_cons u us node i (none 0 (omega arith))
    (λ j. none_is us node (length us) (omega arith) j (λ x lt. none (suc x) (omega arith)))
